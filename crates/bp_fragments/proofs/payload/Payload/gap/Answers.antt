use Rattle.std.proofs.Common.{arith}
use Rattle.bp_fragments.proofs.Covered.{gap_some, gap_none}
use Rattle.bp_fragments.proofs.payload.Payload.gap.Goals as goal

pub returns-then-place-len : goal.returns-then-place-len
returns-then-place-len c =
    let len = c.len-len.ensures in
    rw (← c.self.view_is, ← c.items.ensures) (gap_some c.items.result.now c.self.inside.bytes c.gap_from-place.result (omega arith) (c.gap_from-place.ensures.gap c.if-place-len.true) c.gap_from-place.ensures.covered)

pub returns-else-place-len : goal.returns-else-place-len
returns-else-place-len c =
    let len = c.len-len.ensures in
    rw (← c.self.view_is, ← c.items.ensures) (gap_none c.items.result.now c.self.inside.bytes c.gap_from-place.result (omega arith) c.gap_from-place.ensures.covered)
