use Rattle.bpsec_scope.proofs.Items.{Laws}
use Rattle.bpsec_scope.proofs.Records.{one_sealed_record, is_sealed_is}
use Rattle.bpsec_scope.proofs.laws.equal_aad_means_equal_records.Goals as goal

pub returns : goal.returns
returns c =
    let laws : Laws = record {
      heads_once = c.heads_have_one_spelling.ensures;
      primaries_once = c.primary_blocks_have_one_spelling.ensures;
      primaries_begin = c.primary_blocks_are_arrays.ensures;
    } in
    λ a b s t is is' sealed sealed' e. one_sealed_record laws a b s t is is' (is_sealed_is a.target sealed) (is_sealed_is b.target sealed') e
