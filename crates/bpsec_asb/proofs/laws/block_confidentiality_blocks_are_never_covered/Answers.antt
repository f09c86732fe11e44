use Rattle.bpsec_asb.proofs.KnownSet.{never_covered, visible_bcb}
use Rattle.bpsec_asb.proofs.laws.block_confidentiality_blocks_are_never_covered.Goals as goal

pub returns-clause-visible : goal.returns-clause-visible
returns-clause-visible c = λ blocks block distinct there kind. never_covered blocks block distinct there kind

pub returns-clause-known : goal.returns-clause-known
returns-clause-known c = λ blocks op distinct service held. (held, visible_bcb blocks op distinct held service)
