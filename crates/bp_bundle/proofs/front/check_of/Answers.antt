use Rattle.std.proofs.Common.{[], ◌∷◌, ◌∙◌, arith}
use Rattle.bp_primary.proofs.Pieces.{length-spelling}
use Rattle.bp_bundle.proofs.front.check_of.Goals as goal

pub returns : goal.returns
returns c =
    let short = rw (length-spelling c.args.primary.now, ← c.zeros.ensures.value) at c.size-size.ensures.size in
    let kind = c.what_is_fixed_names_the_kind.ensures _ _ c.feed_with.ensures.fixed ∙ c.new-checking.ensures.kind in
    let check = c.finish.ensures _ (c.feed_with.ensures.stands [] c.new-checking.ensures.stands (omega (arith, c.size-size.ensures.within))) in
    rw (kind, c.zeros.ensures.value) at check
