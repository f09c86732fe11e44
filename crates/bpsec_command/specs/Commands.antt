-- The work of each command.
use Rattle.bp_build.specs.BuildText.{build_of}
use Rattle.bpsec_policy.specs.PolicyText.{policy_of}
use Rattle.bpsec_plan.specs.PlanText.{plan_of}
use Rattle.bpsec_answer.specs.declared.status.Status.TheVariants.{PolicyRefused, TextRefused}
use Rattle.bpsec_command.specs.declared.command.Command.{Command}
use Rattle.bpsec_command.specs.declared.command.Command.TheVariants as commands
use Rattle.bpsec_jobs.specs.Work.{Work, of_bundle, of_text, of_text_and_ring, of_text_and_ring_alone}
use Rattle.bpsec_jobs.specs.Work.{of_fragments}
use Rattle.bpsec_jobs.specs.Done.{checked, explained, built, upgraded, secured, fragmented}
use Rattle.bpsec_jobs.specs.Reassembled.{reassembled}
use Rattle.bpsec_command.specs.Said.{help, of_nothing, version}
use Rattle.bpsec_jobs.specs.Noded.{noded}
use Rattle.bpsec_reports.specs.Audited.{plan_audited, policy_audited}
use Rattle.bpsec_reports.specs.Reported.{reported}

abbrev pub work_of : Command → Work
work_of commands.Check = of_bundle checked
work_of commands.Explain = of_bundle explained
work_of commands.Build = of_text build_of TextRefused built
work_of commands.Upgrade = of_text policy_of PolicyRefused upgraded
work_of commands.Secure = of_text_and_ring plan_of TextRefused secured
work_of (commands.Fragment size) = of_bundle (fragmented size)
work_of commands.Reassemble = of_fragments reassembled
work_of (commands.Node order) = of_text_and_ring policy_of PolicyRefused (noded order)
work_of (commands.Status order time sequence) =
    of_text_and_ring policy_of PolicyRefused (reported order time sequence)
work_of commands.AuditPolicy = of_text_and_ring_alone policy_of PolicyRefused policy_audited
work_of commands.AuditPlan = of_text_and_ring_alone plan_of TextRefused plan_audited
work_of commands.Help = of_nothing help
work_of commands.Version = of_nothing version
