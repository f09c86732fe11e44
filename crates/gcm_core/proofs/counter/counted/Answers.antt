use Rattle.std.proofs.Common.{refl, ◌∙◌, arith}
use Rattle.gcm_core.proofs.CounterLemmas.{counted_is}
use Rattle.gcm_core.proofs.counter.counted.Goals as goal

pub returns : goal.returns
returns c = counted_is c.args.block.now c.copy_from_slice.new.self c.from_be_bytes-last.result _ c.args.count (omega arith)
    c.from_be_bytes-last.ensures refl (c.copy_from_slice.ensures.after ∙ c.to_be_bytes.ensures)
