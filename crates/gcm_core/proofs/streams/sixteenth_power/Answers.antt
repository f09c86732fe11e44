use Rattle.std.proofs.Common.{◌≡◌, ℕ, suc, ◌+◌, length, sym, ap, ◌∙◌, arith}
use Rattle.gcm_core.specs.Block.{block_product}
use Rattle.gcm_core.specs.Hash.{times_power}
use Rattle.gcm_core.proofs.BitsLemmas.{length-bits}
use Rattle.gcm_core.proofs.streams.sixteenth_power.Goals as goal

pub loop-times-init : goal.loop-times-init
unfolding times_power
loop-times-init c = c.block-power.ensures

pub loop-times-preserved : goal.loop-times-preserved
unfolding times_power
loop-times-preserved c =
    let h = c.args.subkey.now in
    let more : suc c.loop-times._times ≡ c.loop-times._times + 1 = omega arith in
    c.product-power.ensures ∙ ap (λ p. block_product p h) c.loop-times.invariant
    ∙ ap (λ (n : ℕ). times_power h n h) more

pub returns-clause-power : goal.returns-clause-power
returns-clause-power c =
    let h = c.args.subkey.now in
    let all : c.loop-times._times ≡ 15 = omega arith in
    c.loop-times.invariant ∙ ap (λ (n : ℕ). times_power h n h) all

pub returns-clause-length : goal.returns-clause-length
returns-clause-length c = ap length (sym c.block-power.ensures) ∙ length-bits 128 c.block-power.result
