-- The test whether a block is covered, and the relation.
use Rattle.std.proofs.Common.{◌≡◌, ℕ, ◌==◌, ◌&&◌, Bool, true, false, not, List, refl, ap, subst}
use Rattle.std.specs.Prelude.{All, Contains}
use Rattle.std.specs.List.{list_any}
use Rattle.std.proofs.lemmas.Bool.{and_parts, and_from, eqb-true, eqb-false, eq-eqb, ne_eqb}
use Rattle.std.proofs.lemmas.List.Folds.{Any-from_list_any, list_any-from_Any}
use Rattle.bp_blocks.specs.declared.block.Block.{Block}
use Rattle.bpsec_asb.specs.declared.operation.Service.{Service}
use Rattle.bpsec_asb.specs.declared.operation.Service.TheVariants.{Bib, Bcb}
use Rattle.bpsec_asb.specs.declared.operation.OpId.{OpId}
use Rattle.bpsec_asb.specs.Operations.{IsOperationOf, IsCovered, IsKnown}
use Rattle.bpsec_asb.specs.Known.{known, is_bcb, is_covered}

seals : ℕ → OpId → Bool
seals number op = is_bcb op.service && op.target == number

sealable : ℕ → Block → Bool
sealable number block = block.number == number && not (block.kind == 12)

service_is : (service : Service) → is_bcb service ≡ true → service ≡ Bcb
service_is Bib is = absurd cc
service_is Bcb is = refl

not_true : (b : Bool) → not b ≡ true → b ≡ false
not_true true is = absurd cc
not_true false is = refl

pub covered_means : (blocks : List Block) (number : ℕ) → All (IsKnown blocks) (known blocks) → is_covered blocks (known blocks) number ≡ true → IsCovered blocks number
unfolding seals sealable
covered_means blocks number all is =
    let parts = and_parts (list_any (seals number) (known blocks)) (list_any (sealable number) blocks) is in
    let op = Any-from_list_any (seals number) (known blocks) parts.0 in
    let block = Any-from_list_any (sealable number) blocks parts.1 in
    let service = and_parts (is_bcb op.1.service) (op.1.target == number) op.4 in
    let there = and_parts (block.1.number == number) (not (block.1.kind == 12)) block.4 in
    let is_known : IsKnown blocks op.1 = subst (IsKnown blocks) op.3 (all op.0 op.1 op.2) in (
      op.1,
      is_known.0,
      record {
        service = service_is op.1.service service.0;
        target = eqb-true op.1.target number service.1;
        block = block.1;
        there = (block.0, block.2, block.3);
        number_is = eqb-true block.1.number number there.0;
        not_bcb = eqb-false block.1.kind 12 (not_true (block.1.kind == 12) there.1);
      },
    )

pub covered_found : (blocks : List Block) (number : ℕ) → ((op : OpId) → op.service ≡ Bcb → IsOperationOf blocks op → Contains (known blocks) op) → IsCovered blocks number → is_covered blocks (known blocks) number ≡ true
unfolding seals sealable
covered_found blocks number found covered =
    let op = covered.0 in
    let covers = covered.2 in
    let listed = found op covers.service covered.1 in
    let test : seals number op ≡ true = and_from (is_bcb op.service) (op.target == number) (ap is_bcb covers.service) (eq-eqb op.target number covers.target) in
    let not_twelve : not (covers.block.kind == 12) ≡ true = ap not (ne_eqb covers.block.kind 12 covers.not_bcb) in
    let block_test : sealable number covers.block ≡ true = and_from (covers.block.number == number) (not (covers.block.kind == 12)) (eq-eqb covers.block.number number covers.number_is) not_twelve in
    and_from (list_any (seals number) (known blocks)) (list_any (sealable number) blocks) (list_any-from_Any (seals number) (known blocks) (listed.0, op, listed.1, listed.2, test)) (list_any-from_Any (sealable number) blocks (covers.there.0, covers.block, covers.there.1, covers.there.2, block_test))
