use Rattle.std.proofs.Common.{◌≢◌, ap, ◌∙◌, arith, get_or-set_other, get_or-set_same, below_more, length-set}
use Rattle.aes_core.specs.Sliced.{block_of, no_registers}
use Rattle.aes_core.proofs.sliced.rounds.round_keys.Goals as goal

pub loop-n-preserved : goal.loop-n-preserved
loop-n-preserved c =
    let n = c.loop-n.n in
    let keys = c.loop-n.keys in
    let key = c.round_key.result in (
      length-set keys n key ∙ c.loop-n.invariant.0,
      below_more _ _
          (λ i h j lt.
          let ne : i ≢ n = omega arith in
          ap (λ r. block_of r j) (get_or-set_other keys n i key no_registers ne) ∙ c.loop-n.invariant.1 i h j lt)
          (λ j lt.
          ap (λ r. block_of r j) (get_or-set_same keys n key no_registers (omega (arith, c.loop-n.invariant.0))) ∙ c.round_key.ensures j lt),
    )

pub returns : goal.returns
returns c = λ i h. c.loop-n.invariant.1 i (omega arith)
