use Rattle.std.proofs.Common.{refl}
use Rattle.bpsec_policy.proofs.entry.read_sources.Goals as goal

pub returns : goal.returns
returns c = rw (c.in_ok-source.ensures, c.in_ok-source_node.ensures) refl
