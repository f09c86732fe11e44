use Rattle.std.proofs.Common.{◌-◌, ◌≤◌, length}
use Rattle.std.specs.Io.KnownBytes.{Consumes}
use Rattle.bp_outside.proofs.folder.read_file.Given as goal

-- what is read so far stood at the front, and no more than was asked for is read
abbrev pub invariant-loop-piece : goal.invariant-loop-piece
invariant-loop-piece g l =
    let remaining = g.R.Read.remaining in
    record {
      within : length l.out ≤ l.most;
      read : Consumes (remaining l.fn.file) (remaining l.file) l.out;
    }

abbrev pub decreases-loop-piece : goal.decreases-loop-piece
decreases-loop-piece g l = l.most - length l.out
