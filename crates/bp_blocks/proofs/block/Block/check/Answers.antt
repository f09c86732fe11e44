use Rattle.std.proofs.Common.{◌≡◌, ℕ, List, [], ◌∷◌, ◌∙◌, ap, arith}
use Rattle.bp_crc.specs.Check.{check_bytes}
use Rattle.bp_crc.specs.Checking.{kind_of}
use Rattle.bp_blocks.proofs.Pieces.{short_array}
use Rattle.bp_blocks.proofs.block.Block.check.Goals as goal

pub returns : goal.returns
returns c =
    let short = short_array _ _ c.feed_with.ensures.fits c.zeros.ensures.few in
    let kind = c.what_is_fixed_names_the_kind.ensures _ _ c.feed_with.ensures.fixed ∙ c.new-checking.ensures.kind in
    let check = c.finish.ensures _ (c.feed_with.ensures.stands [] c.new-checking.ensures.stands (omega arith)) in
    rw (kind, c.zeros.ensures.value) at check
