use Rattle.gcm_core.proofs.CounterLemmas.{bytes_sum_whole}
use Rattle.gcm_core.proofs.counter.add_whole.Goals as goal

pub returns : goal.returns
returns c = bytes_sum_whole c.args.bytes.now c.args.block.now c.requires c.told-block
