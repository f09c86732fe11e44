use Rattle.bp_status.proofs.Reports.{report_again, read_again, read_means}
use Rattle.bp_status.proofs.laws.reports_are_read_as_spelled.Goals as goal

pub returns-clause-again : goal.returns-clause-again
returns-clause-again c = λ report rest fits. report_again report rest fits

pub returns-clause-found : goal.returns-clause-found
returns-clause-found c = λ body report reads. read_again body report reads

pub returns-clause-means : goal.returns-clause-means
returns-clause-means c = λ body report small e. read_means body report small e
