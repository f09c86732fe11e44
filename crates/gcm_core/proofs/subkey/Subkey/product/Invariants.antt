use Rattle.std.proofs.Common.{◌≡◌, ◌*◌, slice_index}
use Rattle.gcm_core.specs.Block.{bits, block_product}
use Rattle.gcm_core.proofs.subkey.Subkey.product.Given as goal

abbrev pub invariant-loop-place : goal.invariant-loop-place
invariant-loop-place l = bits 128 l.sum ≡ block_product (bits (4 * l.place) l.block) (bits 128 (slice_index l.entries 8))
