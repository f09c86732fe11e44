use Rattle.std.proofs.Common.{◌≡◌, ℕ, ◌%◌, List, eqb, false, sym, ◌∙◌, ap, Some}
use Rattle.std.specs.Prelude.{find}
use Rattle.std.proofs.lemmas.Bool.{ne_eqb}
use Rattle.bp_blocks.specs.declared.block.Block.{Block}
use Rattle.bpsec_scope.specs.Target.{Sealed}
use Rattle.bpsec_scope.specs.Covered.{scoped, front}
use Rattle.bpsec_explain.specs.Covers.{header_of}
use Rattle.bpsec_explain.proofs.Told.{forbidden, told}
use Rattle.bpsec_explain.proofs.covers.covers.Goals as goal

pub returns-then-not-may_target : goal.returns-then-not-may_target
returns-then-not-may_target c =
    let other : eqb c.args.target 0 ≡ false = ne_eqb _ _ c.if-target-eq0.false in
    let there = c.in-Some-block_with.ensures ∙ ap (λ (bs : List Block). find (λ b. eqb b.number c.args.target) bs) c.blocks-2.ensures.blocks in
    forbidden c.args.bundle.now c.args.service c.args.block.now c.args.asb.now c.args.target c.in-Some.flags c.in-Some-block_with.there.now c.in-Some.ensures other there
    (sym c.may_target.ensures ∙ c.if-not-may_target.true)

pub returns : goal.returns
returns c =
    let other : eqb c.args.target 0 ≡ false = ne_eqb _ _ c.if-target-eq0.false in
    let there = c.in-Some-block_with.ensures ∙ ap (λ (bs : List Block). find (λ b. eqb b.number c.args.target) bs) c.blocks-2.ensures.blocks in
    let bytes : c.in_ok-bytes.bytes ≡ front (scoped (record { target = Sealed; primary = c.args.bundle.now.primary; target_header = Some (header_of c.in-Some-block_with.there.now); security_header = header_of c.args.block.now }) c.in-Some.flags)
    = rw (← c.primary-2.ensures, ← c.header_of-2.ensures, ← c.header_of-3.ensures) c.in_ok-bytes.ensures in
    ap (λ (l : List ℕ). Some (c.in-Some.flags % 8, l)) bytes
    ∙ told c.args.bundle.now c.args.service c.args.block.now c.args.asb.now c.args.target c.in-Some.flags c.in-Some-block_with.there.now c.in-Some.ensures other there
    (sym c.may_target.ensures ∙ c.if-not-may_target.false)
