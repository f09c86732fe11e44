use Rattle.std.proofs.Common.{sym, arith}
use Rattle.bp_fragments.proofs.Covered.{gap_step, none_covers}
use Rattle.bp_fragments.proofs.payload.gap_from.Goals as goal

pub places-smaller : goal.places-smaller
places-smaller c =
    let step = gap_step c.args.covered.now c.args.len c.places.place c.in-Some.span c.requires (sym c.in-Some.ensures) c.places.invariant.covered in
    let further = step.further in
    let within = step.within in
    omega arith

pub places-preserved : goal.places-preserved
places-preserved c =
    let step = gap_step c.args.covered.now c.args.len c.places.place c.in-Some.span c.requires (sym c.in-Some.ensures) c.places.invariant.covered in
    record { within = step.within; covered = step.covered }

pub returns-in-None-clause-gap : goal.returns-in-None-clause-gap
returns-in-None-clause-gap c = λ _. none_covers c.args.covered.now c.places.place (sym c.in-None.ensures)
