-- What is told of an operation.
use Rattle.std.proofs.Common.{◌≡◌, ℕ, ◌-◌, ◌%◌, true, false, eqb, List, ◌++◌, length, take, Some, None, refl, ◌∙◌, ap, arith}
use Rattle.std.specs.Prelude.{find}
use Rattle.std.proofs.lemmas.List.{take_at, length-append}
use Rattle.bp_blocks.specs.declared.block.Block.{Block}
use Rattle.bp_bundle.specs.Shape.{Contents}
use Rattle.bpsec_asb.specs.declared.asb.Asb.{Asb}
use Rattle.bpsec_asb.specs.declared.operation.Service.{Service}
use Rattle.bpsec_asb.specs.declared.operation.Service.TheVariants.{Bib, Bcb}
use Rattle.bpsec_scope.specs.Target.{Sealed}
use Rattle.bpsec_scope.specs.Covered.{scoped, front}
use Rattle.bpsec_explain.specs.Covers.{scope, may_target, header_of, covers}

pub forbidden : (bundle : Contents) (service : Service) (block : Block) (asb : Asb) (number flags : ℕ) (there : Block) → Some flags ≡ scope service asb → eqb number 0 ≡ false
    → Some there ≡ find (λ b. eqb b.number number) bundle.blocks → may_target service there.kind ≡ false → None ≡ covers bundle service block asb number
unfolding covers
forbidden bundle Bib block asb number flags there s n f m = rw (← s, n, ← f, m) refl
forbidden bundle Bcb block asb number flags there s n f m = rw (← s, n, ← f, m) refl

pub told : (bundle : Contents) (service : Service) (block : Block) (asb : Asb) (number flags : ℕ) (there : Block) → Some flags ≡ scope service asb → eqb number 0 ≡ false
    → Some there ≡ find (λ b. eqb b.number number) bundle.blocks → may_target service there.kind ≡ true
    → Some (flags % 8, front (scoped (record { target = Sealed; primary = bundle.primary; target_header = Some (header_of there); security_header = header_of block }) flags)) ≡ covers bundle service block asb number
unfolding covers
told bundle Bib block asb number flags there s n f m = rw (← s, n, ← f, m) refl
told bundle Bcb block asb number flags there s n f m = rw (← s, n, ← f, m) refl

-- what stands before a piece of known length
pub before_piece : (all front piece : List ℕ) (n : ℕ) → all ≡ front ++ piece → n ≡ length all - length piece → take n all ≡ front
before_piece all front piece n is len =
    let short : n ≡ length front = len ∙ (ap (λ (l : List ℕ). length l - length piece) is ∙ omega (arith, length-append front piece)) in
    ap (λ (m : ℕ). take m all) short ∙ (ap (take (length front)) is ∙ take_at front piece (length front) refl)
