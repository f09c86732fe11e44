use Rattle.std.proofs.Common.{sym, refl}
use Rattle.bp_text.specs.Field.{eid_at}
use Rattle.bp_text.proofs.IdTexts.{the_id, no_id}
use Rattle.bp_text.proofs.field.eid_field.Goals as goal

pub returns-in-Ok-Some : goal.returns-in-Ok-Some
unfolding eid_at
returns-in-Ok-Some c =
    let h = rw c.in-Ok-Some.field-0-is at c.in-Ok-Some.ensures.some in
    rw (sym c.in-Some.ensures, the_id c.in-Some.text.now c.in-Ok-Some.eid h.0 h.1) refl

pub returns-in-Ok-None : goal.returns-in-Ok-None
unfolding eid_at
returns-in-Ok-None c =
    let h = rw c.in-Ok-None.field-0-is at c.in-Ok-None.ensures.none in
    rw (sym c.in-Some.ensures, no_id c.in-Some.text.now h) refl
