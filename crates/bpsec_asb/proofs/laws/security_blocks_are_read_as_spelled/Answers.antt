use Rattle.bpsec_asb.proofs.Blocks.{asb_again, read_again, read_means}
use Rattle.bpsec_asb.proofs.laws.security_blocks_are_read_as_spelled.Goals as goal

pub returns-clause-again : goal.returns-clause-again
returns-clause-again c = λ asb rest fits. asb_again asb rest fits

pub returns-clause-found : goal.returns-clause-found
returns-clause-found c = λ body asb reads. read_again body asb reads

pub returns-clause-means : goal.returns-clause-means
returns-clause-means c = λ body asb small e. read_means body asb small e
