use Rattle.std.proofs.Common.{◌≡◌, ℕ, List, [], ◌∷◌, ◌∙◌, ap, arith}
use Rattle.bp_primary.proofs.Pieces.{length-spelling}
use Rattle.bp_primary.proofs.primary.Primary.check.Goals as goal

pub returns : goal.returns
returns c = λ short.
    let array = rw (length-spelling c.args.self.now, ← c.zeros.ensures.value) at short in
    let kind = c.what_is_fixed_names_the_kind.ensures _ _ c.feed_with.ensures.fixed ∙ c.new-checking.ensures.kind in
    let check = c.finish.ensures _ (c.feed_with.ensures.stands [] c.new-checking.ensures.stands (omega arith)) in
    rw (kind, c.zeros.ensures.value) at check
