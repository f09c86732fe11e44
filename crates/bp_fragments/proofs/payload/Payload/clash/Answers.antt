use Rattle.std.proofs.Common.{arith}
use Rattle.bp_fragments.proofs.Clashes.{Clashing, no_clash, one_clash}
use Rattle.bp_fragments.proofs.payload.Payload.clash.Goals as goal

pub returns-then-place-offset : goal.returns-then-place-offset
returns-then-place-offset c =
    let clashing : Clashing c.as_slice-bytes.result.now c.items.result.now c.args.offset c.args.piece.now c.clash_place-place.result = record {
      within = c.clash_place-place.ensures.within;
      behind = c.clash_place-place.ensures.behind;
      same = c.clash_place-place.ensures.same;
      differs = c.clash_place-place.ensures.differs;
    } in
    rw (← c.self.view_is, ← c.as_slice-bytes.ensures, ← c.items.ensures) (no_clash _ _ _ _ _ clashing (omega arith))

pub returns : goal.returns
returns c =
    let clashing : Clashing c.as_slice-bytes.result.now c.items.result.now c.args.offset c.args.piece.now c.clash_place-place.result = record {
      within = c.clash_place-place.ensures.within;
      behind = c.clash_place-place.ensures.behind;
      same = c.clash_place-place.ensures.same;
      differs = c.clash_place-place.ensures.differs;
    } in
    let less = c.clash_place-place.ensures.within in
    rw (← c.self.view_is, ← c.as_slice-bytes.ensures, ← c.items.ensures) (one_clash _ _ _ _ _ clashing (omega arith))
