use Rattle.gcm_core.proofs.HashLemmas.{filled_block_bits}
use Rattle.gcm_core.proofs.hash.filled_block.Goals as goal

pub returns : goal.returns
returns c =
    filled_block_bits c.args.bytes.now c.copy_from_slice.new.self c.from_be_bytes.result c.requires (λ i. (c.type_inv.bytes i).fits)
    c.copy_from_slice.ensures.after c.from_be_bytes.ensures
