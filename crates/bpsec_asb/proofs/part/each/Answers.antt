use Rattle.std.proofs.Common.{arith, ◌≡◌, Ok}
use Rattle.std.proofs.lemmas.Grind.{common_steps}
use Rattle.bpsec_asb.proofs.Each.{each_at-more}
use Rattle.bpsec_asb.proofs.part.each.Goals as goal

pub loop-preserved : goal.loop-preserved
loop-preserved g c =
    let read : g.T.Part.read_at c.loop.items c.loop.rest.now ≡ Ok (c.in_ok-item.item, c.in_ok-item.after.now) = cc (c.in_ok-item.ensures, c.items-in-loop.ensures) in
    let step = each_at-more g.T.Part.read_at c.args.count c.loop.counter c.loop.items c.loop.rest.now (c.in_ok-item.item, c.in_ok-item.after.now) (omega arith) read in
    grind (arith, common_steps, step)
