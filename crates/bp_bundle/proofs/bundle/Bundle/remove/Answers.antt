use Rattle.std.proofs.Common.{◌≡◌, ◌+◌, ◌<◌, ◌≤◌, List, length, remove, sym, ap, subst, ◌∙◌, arith}
use Rattle.bp_blocks.specs.declared.block.Block.{Block}
use Rattle.bp_bundle.specs.Shape.{Contents}
use Rattle.bp_bundle.specs.Spelling.{IsBundle, spelling}
use Rattle.bp_bundle.proofs.EditsLeaveBundles.{removed}
use Rattle.bp_bundle.proofs.bundle.Bundle.remove.Goals as goal

pub invariant_of-self : goal.invariant_of-self
invariant_of-self c =
    let old : Contents = record { primary = c.self.inside.primary; blocks = c.self.inside.blocks } in
    let here : c.args.index + 1 < length c.self.inside.blocks = omega (arith, ap (λ (b : Contents). length b.blocks) c.self.view_is, c.requires) in
    let is : IsBundle (record { primary = c.self.inside.primary; blocks = c.remove-block.new.self }) = rw c.remove-block.ensures.rest (removed old c.args.index here c.self.invariant.0) in
    (is, let within = is.within in omega (arith, rw c.items.ensures at c.spelled_size-self-inside.ensures.size))
