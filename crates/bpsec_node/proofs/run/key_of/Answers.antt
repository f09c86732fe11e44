use Rattle.std.proofs.Common.{sym, ◌∙◌}
use Rattle.bpsec_node.proofs.RingKeys.{ring_short}
use Rattle.bpsec_node.proofs.run.key_of.Goals as goal

pub returns-in-Some-clause-short : goal.returns-in-Some-clause-short
returns-in-Some-clause-short c = λ key is. ring_short c.args.ring.now c.as_slice.result.now key c.keys-keys.ensures.rule (sym c.key.ensures ∙ is)
