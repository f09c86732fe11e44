use Rattle.std.proofs.Common.{[], ◌∙◌, arith}
use Rattle.bp_primary.specs.Spelling as primary_blocks
use Rattle.bpsec_scope.specs.Covered.{ippt, scoped}
use Rattle.bpsec_explain.proofs.Told.{before_piece}
use Rattle.bpsec_explain.proofs.covers.beside_primary.Goals as goal

pub returns : goal.returns
unfolding ippt scoped
returns c =
    let fed = c.ippt.ensures.stands [] c.new-gather.ensures.empty (omega (arith, c.ippt.ensures.short)) in
    let all = c.in_ok-bytes.ensures.ok _ fed in
    c.truncate.ensures
    ∙ before_piece c.in_ok-bytes.bytes _ (primary_blocks.spelling c.args.primary.now) c.saturating_sub.result all
    (c.saturating_sub.ensures ∙ omega (arith, c.len.ensures, c.size-behind.ensures.size))
