use Rattle.bp_eid.proofs.Texts.{is_the_id}
use Rattle.bp_eid.proofs.eid.Eid.parse_text.Goals as goal

pub returns-clause-found : goal.returns-clause-found
returns-clause-found c = λ eid fits e. is_the_id c.args.text.now c.parse.result eid c.parse.ensures.means fits e
