use Rattle.std.proofs.Common.{◌≡◌, ◌-◌, []}
use Rattle.bpsec_asb.specs.Reading.{each_at}
use Rattle.bpsec_asb.proofs.part.each.Given as goal

abbrev pub invariant-loop : goal.invariant-loop
invariant-loop g l = each_at g.T.Part.read_at (l.count - l.counter) l.items l.rest ≡ each_at g.T.Part.read_at l.count [] l.bytes
