use Rattle.std.proofs.Common.{◌≡◌, ◌*◌, length, refl, ◌∙◌, arith}
use Rattle.std.proofs.lemmas.Simd.{length-put_chunk}
use Rattle.gcm_core.specs.Block.{bits}
use Rattle.gcm_core.specs.Tables.{times_power_of_x}
use Rattle.gcm_core.proofs.BitsLemmas.{length-bits}
use Rattle.gcm_core.proofs.TableLemmas.{power_more, rows_more}
use Rattle.gcm_core.proofs.streams.product_table.Goals as goal

pub loop-half-init : goal.loop-half-init
unfolding times_power_of_x
loop-half-init c = (refl, refl, λ q b m l g f. absurd (omega arith))

pub loop-half-preserved : goal.loop-half-preserved
loop-half-preserved c =
    let half = c.loop-half.half in
    let table = c.loop-half.table in
    let turned = c.transposed-products.result in
    let h = bits 128 c.args.block in
    let power = bits 128 c.loop-half.power in
    let entries = c.multiples-entries.result in
    let size : length turned ≡ 256 = omega arith in
    rw c.put_rows.ensures (
      length-put_chunk (256 * half) table turned ∙ c.loop-half.invariant.0,
      power_more h power entries half c.times_x-power.result (length-bits 128 c.loop-half.power) c.loop-half.invariant.1
          c.multiples-entries.ensures c.times_x-power.ensures,
      rows_more h power entries c.rows_of.result turned table half (length-bits 128 c.args.block) c.loop-half-test.true
          c.loop-half.invariant.1 c.multiples-entries.ensures c.rows_of.ensures c.transposed-products.ensures c.loop-half.invariant.0 size
          c.loop-half.invariant.2,
    )

pub returns : goal.returns
returns c = record { product = λ q b m l g f. c.loop-half.invariant.2 q b m (omega arith) g f }
