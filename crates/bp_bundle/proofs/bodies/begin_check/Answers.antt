use Rattle.std.proofs.Common.{[], ◌∷◌, ◌∙◌, arith}
use Rattle.bp_bundle.proofs.HeaderText.{header_short}
use Rattle.bp_bundle.proofs.bodies.begin_check.Goals as goal

pub returns-clause-kind : goal.returns-clause-kind
returns-clause-kind c =
    c.what_is_fixed_names_the_kind.ensures _ _ c.feed_header.ensures.fixed ∙ c.new-checking.ensures.kind

pub returns-clause-stands : goal.returns-clause-stands
returns-clause-stands c =
    c.feed_header.ensures.stands [] c.new-checking.ensures.stands (omega (arith, header_short c.args.header))
