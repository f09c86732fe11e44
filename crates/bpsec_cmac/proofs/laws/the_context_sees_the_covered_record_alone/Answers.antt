use Rattle.bpsec_cmac.proofs.ContextLemmas.{same_judged, same_signed}
use Rattle.bpsec_cmac.proofs.laws.the_context_sees_the_covered_record_alone.Goals as goal

pub returns : goal.returns
returns c = record { judged = same_judged; signed = same_signed }
