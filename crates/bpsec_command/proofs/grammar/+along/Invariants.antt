use Rattle.std.proofs.Common.{length}
use Rattle.bpsec_command.proofs.grammar.+along.Given as goal

abbrev pub decreases-along : goal.decreases-along
decreases-along l = length l.slots.now
