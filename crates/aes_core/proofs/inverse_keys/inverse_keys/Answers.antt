use Rattle.std.proofs.Common.{[], ◌≢◌, ap, ◌∙◌, arith, get_or-set_other, get_or-set_same, below_more, length-set}
use Rattle.aes_core.specs.Words.{state_in}
use Rattle.aes_core.proofs.inverse_keys.inverse_keys.Goals as goal

pub loop-n-preserved : goal.loop-n-preserved
loop-n-preserved c =
    let n = c.loop-n.n in
    let keys = c.loop-n.keys in
    let key = c.inverse_key.result in (
      length-set keys n key ∙ c.loop-n.invariant.0,
      below_more _ _
          (λ i h.
          let ne : i ≢ n = omega arith in
          ap state_in (get_or-set_other keys n i key [] ne) ∙ c.loop-n.invariant.1 i h)
          (ap state_in (get_or-set_same keys n key [] (omega (arith, c.loop-n.invariant.0))) ∙ c.inverse_key.ensures),
    )

pub returns : goal.returns
returns c = λ i h. c.loop-n.invariant.1 i (omega arith)
