use Rattle.std.proofs.Common.{◌∙◌, sym}
use Rattle.bpsec_scope.proofs.Items.{Laws}
use Rattle.bpsec_scope.proofs.Records.{one_record, is_unsealed}
use Rattle.bpsec_scope.proofs.laws.equal_ippt_means_equal_records.Goals as goal

pub returns : goal.returns
returns c =
    let laws : Laws = record {
      heads_once = c.heads_have_one_spelling.ensures;
      primaries_once = c.primary_blocks_have_one_spelling.ensures;
      primaries_begin = c.primary_blocks_are_arrays.ensures;
    } in
    λ a b s t is is' sealed sealed' e. one_record laws a b s t is is' (is_unsealed a.target sealed ∙ sym (is_unsealed b.target sealed')) e
