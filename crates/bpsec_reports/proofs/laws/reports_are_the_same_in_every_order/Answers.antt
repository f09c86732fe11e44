use Rattle.std.proofs.Common.{◌≡◌, Option, Some, None, refl}
use Rattle.bpsec_node.specs.declared.begin.BeginFault.{BeginFault}
use Rattle.bpsec_node.specs.Start.{begin_fault}
use Rattle.bpsec_node.specs.View.{end_of}
use Rattle.bpsec_answer.specs.declared.answer.Answer.{Answer}
use Rattle.bpsec_jobs.specs.Noded.{picked_by, unless_begin_fault}
use Rattle.bpsec_reports.proofs.laws.reports_are_the_same_in_every_order.Goals as goal

same_out : (fault : Option BeginFault) (one other : Answer) → one.out ≡ other.out
    → (unless_begin_fault fault one).out ≡ (unless_begin_fault fault other).out
same_out None one other e = e
same_out (Some fault) one other e = refl

pub returns : goal.returns
unfolding picked_by end_of
returns c = λ one other time sequence policy ring bundle. same_out (begin_fault bundle) _ _ refl
