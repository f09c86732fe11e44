use Rattle.aes_core.specs.State.{shift_rows, state_of}
use Rattle.aes_core.specs.Sliced.{block_in}
use Rattle.aes_core.specs.declared.sliced.steps.TheConstants.{SHIFTED_ROWS}
use Rattle.aes_core.proofs.BlockLemmas.{block_in-shuffled}
use Rattle.aes_core.proofs.sliced.steps.shift_rows.Goals as goal

pub returns : goal.returns
unfolding block_in shift_rows state_of
returns c = block_in-shuffled c.args.r SHIFTED_ROWS tt
