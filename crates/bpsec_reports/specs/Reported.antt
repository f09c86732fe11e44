-- `status`: the status report that a node makes of a bundle (RFC 9171, section 6.1.1), after the report of `node`.
use Rattle.std.specs.Prelude.{ℕ, List, [], ◌++◌, length, codes, Option, Some, None, is_none}
use Rattle.std.specs.Fmt.{decimal}
use Rattle.bp_eid.specs.declared.eid.Eid.{Eid}
use Rattle.bp_bundle.specs.Shape.{Contents}
use Rattle.bp_bundle.specs.Spelling.{spelling}
use Rattle.bp_report.specs.declared.subject.Subject.{Subject}
use Rattle.bp_report.specs.Due.{due_report, subject_of}
use Rattle.bp_report.specs.Reason.{code_number, reason_of}
use Rattle.bpsec_node.specs.Start.{begin_fault}
use Rattle.bpsec_node.specs.View.{End}
use Rattle.bpsec_policy.specs.Rules.{Parts}
use Rattle.bpsec_policy.specs.declared.ring.NamedKey.{NamedKey}
use Rattle.bpsec_answer.specs.declared.answer.Answer.{Answer}
use Rattle.bpsec_answer.specs.declared.status.Status.TheVariants.{Done}
use Rattle.bpsec_answer.specs.Lines.{line}
use Rattle.bpsec_jobs.specs.NodeReport as node
use Rattle.bpsec_jobs.specs.Noded.{end_at, unless_begin_fault}

-- ---- the last line: of the report's bundle its bytes and the number of its reason, or that none is due

unfoldable pub sent_line : ℕ → ℕ → List ℕ
sent_line bytes reason =
    line (codes "report bytes=" ++ decimal bytes ++ codes " reason=" ++ decimal reason)

abbrev pub due_line : End → Option Contents → List ℕ
due_line end None = line (codes "no report")
due_line end (Some made) =
    sent_line (length (spelling made))
    (code_number (reason_of end.outcome.events (is_none end.outcome.bundle)))

abbrev pub spelling_of : Option Contents → List ℕ
spelling_of None = []
spelling_of (Some made) = spelling made

-- ---- the answer at the end of a session: here a discarded bundle is no status of its own

abbrev pub sent : End → Option Contents → Answer
sent end due = record {
  status = Done;
  out = spelling_of due;
  report = node.report_of end ++ due_line end due;
}

abbrev pub due_at : Subject → Eid → ℕ → ℕ → End → Option Contents
due_at subject id time sequence end =
    due_report subject id end.outcome.events (is_none end.outcome.bundle) time sequence

abbrev pub reported_end : Subject → Eid → ℕ → ℕ → End → Answer
reported_end subject id time sequence end = sent end (due_at subject id time sequence end)

-- the answer to a bundle, whose refusals are those of `node`
abbrev pub reported : ℕ → ℕ → ℕ → Parts → List NamedKey → Contents → Answer
reported order time sequence policy ring bundle =
    unless_begin_fault (begin_fault bundle)
    (reported_end (subject_of bundle) policy.node time sequence (end_at order policy ring bundle))
