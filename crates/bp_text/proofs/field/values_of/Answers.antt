use Rattle.std.proofs.Common.{sym, refl}
use Rattle.bp_text.proofs.Lists.{list_of-items_view}
use Rattle.bp_text.proofs.field.values_of.Goals as goal

pub returns-in-Some : goal.returns-in-Some
returns-in-Some c = rw (sym c.in-Some.ensures, list_of-items_view, c.as_slice.ensures.value) refl
