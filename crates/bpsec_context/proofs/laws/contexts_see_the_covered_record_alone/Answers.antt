use Rattle.bpsec_context.proofs.RecordLemmas.{same_judged, same_signed, same_checked, same_opened, same_sealed}
use Rattle.bpsec_context.proofs.laws.contexts_see_the_covered_record_alone.Goals as goal

pub returns-clause-judged : goal.returns-clause-judged
returns-clause-judged c = same_judged

pub returns-clause-signed : goal.returns-clause-signed
returns-clause-signed c = same_signed

pub returns-clause-checked : goal.returns-clause-checked
returns-clause-checked c = same_checked

pub returns-clause-opened : goal.returns-clause-opened
returns-clause-opened c = same_opened

pub returns-clause-sealed : goal.returns-clause-sealed
returns-clause-sealed c = same_sealed
