use Rattle.aes_core.specs.State.{state_of}
use Rattle.aes_core.specs.Sliced.{block_in, flipped}
use Rattle.aes_core.specs.declared.sliced.transposition.TheConstants.{FLIPPED}
use Rattle.aes_core.proofs.BlockLemmas.{block_in-shuffled}
use Rattle.aes_core.proofs.sliced.transposition.flipped.Goals as goal

pub returns : goal.returns
unfolding block_in flipped state_of
returns c = block_in-shuffled c.args.r FLIPPED tt
