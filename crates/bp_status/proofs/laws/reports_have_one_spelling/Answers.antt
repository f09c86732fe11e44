use Rattle.bp_status.proofs.Stays.{one_spelling}
use Rattle.bp_status.proofs.laws.reports_have_one_spelling.Goals as goal

pub returns : goal.returns
returns c = λ a b x y ha hb e. one_spelling a b x y ha hb e
