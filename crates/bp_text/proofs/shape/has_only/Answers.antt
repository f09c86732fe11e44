use Rattle.std.proofs.Common.{sym, refl}
use Rattle.bp_text.specs.Shape.{has_only}
use Rattle.bp_text.proofs.Lists.{all_listed-members_view}
use Rattle.bp_text.proofs.shape.has_only.Goals as goal

pub returns-in-Some : goal.returns-in-Some
unfolding has_only
returns-in-Some c = rw (sym c.in-Some.ensures, all_listed-members_view, c.all_listed.ensures) refl
