use Rattle.std.proofs.Common.{◌≡◌, ◌++◌, take}
use Rattle.std.specs.List.{flat_map}
use Rattle.bpsec_jobs.specs.NodeReport.{event_line}
use Rattle.bpsec_jobs.proofs.node_report.put_events.Given as goal

abbrev pub invariant-loop-event : goal.invariant-loop-event
invariant-loop-event l = l.out ≡ l.fn.out ++ flat_map event_line (take l.event-index l.events)
