use Rattle.aes_core.specs.State.{state_of}
use Rattle.aes_core.specs.Sliced.{block_in, turned}
use Rattle.aes_core.specs.declared.sliced.steps.TheConstants.{TURNED_BY_ONE}
use Rattle.aes_core.proofs.BlockLemmas.{block_in-shuffled}
use Rattle.aes_core.proofs.sliced.steps.turn_by_one.Goals as goal

pub returns : goal.returns
unfolding block_in turned state_of
returns c = block_in-shuffled c.args.r TURNED_BY_ONE tt
