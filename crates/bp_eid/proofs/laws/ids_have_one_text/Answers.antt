use Rattle.bp_eid.proofs.Texts.{one_text}
use Rattle.bp_eid.proofs.laws.ids_have_one_text.Goals as goal

pub returns : goal.returns
returns c = λ a b ha hb e. one_text a b ha hb e
