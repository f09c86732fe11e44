use Rattle.std.proofs.Common.{length}
use Rattle.bpsec_command.proofs.grammar.+row_by_row.Given as goal

abbrev pub decreases-row_by_row : goal.decreases-row_by_row
decreases-row_by_row l = length l.rows.now
