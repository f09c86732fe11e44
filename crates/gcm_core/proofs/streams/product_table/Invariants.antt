use Rattle.std.proofs.Common.{◌≡◌, ◌*◌, length}
use Rattle.gcm_core.specs.Block.{bits}
use Rattle.gcm_core.specs.Tables.{times_power_of_x}
use Rattle.gcm_core.proofs.TableLemmas.{HasRows}
use Rattle.gcm_core.proofs.streams.product_table.Given as goal

abbrev pub invariant-loop-half : goal.invariant-loop-half
invariant-loop-half l = (length l.table ≡ 8192) × (bits 128 l.power ≡ times_power_of_x (4 * l.half) (bits 128 l.block))
    × HasRows (bits 128 l.block) l.table l.half
