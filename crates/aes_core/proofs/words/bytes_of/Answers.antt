use Rattle.aes_core.specs.State.{state_of}
use Rattle.aes_core.specs.Words.{state_in}
use Rattle.aes_core.proofs.words.bytes_of.Goals as goal

pub returns : goal.returns
unfolding state_in state_of
returns c = rw (c.to_le_bytes-a.ensures, c.to_le_bytes-b.ensures, c.to_le_bytes-c.ensures, c.to_le_bytes-d.ensures)
