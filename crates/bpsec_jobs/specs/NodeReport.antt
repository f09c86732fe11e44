-- The report of `node`: the operations in the order in which they were done, the events, and the result.
use Rattle.std.specs.Prelude.{ℕ, ◌==◌, if◌then◌else◌, List, [], ◌∷◌, ◌++◌, length, codes}
use Rattle.std.specs.Prelude.{Option, Some, None}
use Rattle.std.specs.Fmt.{decimal}
use Rattle.std.specs.List.{flat_map}
use Rattle.cbor_profile.specs.Reasons.{reason_number}
use Rattle.bp_bundle.specs.Shape.{Contents}
use Rattle.bp_bundle.specs.Spelling.{spelling}
use Rattle.bpsec_asb.specs.declared.operation.OpId.{OpId}
use Rattle.bpsec_context.specs.Reasons as misset
use Rattle.bpsec_policy.specs.Words.{service_word, action_word}
use Rattle.bpsec_node.specs.declared.event.Event.{Event}
use Rattle.bpsec_node.specs.declared.event.Verdict.{Verdict}
use Rattle.bpsec_node.specs.declared.event.Verdict.TheVariants.{NotOurs, Blocked, Passed, Failed}
use Rattle.bpsec_node.specs.declared.event.Verdict.TheVariants.{Misset, Conflict, Missing, Broken}
use Rattle.bpsec_node.specs.View.{End}
use Rattle.bpsec_answer.specs.declared.answer.Answer.{Answer}
use Rattle.bpsec_answer.specs.declared.status.Status.TheVariants.{Done, Discarded}
use Rattle.bpsec_answer.specs.Lines.{line}

abbrev pub verdict_text : Verdict → List ℕ
verdict_text NotOurs = codes "not-ours"
verdict_text Blocked = codes "blocked"
verdict_text Passed = codes "passed"
verdict_text Failed = codes "failed"
verdict_text (Misset reason) = codes "misset-" ++ decimal (misset.reason_number reason)
verdict_text Conflict = codes "conflict"
verdict_text Missing = codes "missing"
verdict_text (Broken reason) = codes "broken-" ++ decimal (reason_number reason)

abbrev pub space : List ℕ
space = 32 ∷ []

-- an operation that was done, with the verdict of its step
unfoldable pub order_line : OpId → Verdict → List ℕ
order_line op verdict =
    line (codes "order " ++ service_word op.service ++ space ++ decimal op.block ++ space
    ++ decimal op.target ++ space ++ verdict_text verdict)

abbrev pub order_lines : List OpId → List Verdict → List ℕ
order_lines [] verdicts = []
order_lines (op ∷ done) [] = []
order_lines (op ∷ done) (verdict ∷ verdicts) = order_line op verdict ++ order_lines done verdicts

-- the number of a block; 0 is none
abbrev pub block_text : ℕ → List ℕ
block_text number = if number == 0 then codes "-" else decimal number

unfoldable pub event_line : Event → List ℕ
event_line event =
    line (codes "event " ++ decimal event.target ++ space ++ service_word event.service ++ space
    ++ block_text event.block ++ space
    ++ verdict_text event.verdict ++ space ++ event.rule ++ space ++ action_word event.action)

unfoldable pub done_line : ℕ → ℕ → List ℕ
done_line bytes blocks =
    line (codes "result done bytes=" ++ decimal bytes ++ codes " blocks=" ++ decimal blocks)

abbrev pub result_line : Option Contents → List ℕ
result_line None = line (codes "result discarded")
result_line (Some bundle) = done_line (length (spelling bundle)) (length bundle.blocks)

abbrev pub report_of : End → List ℕ
report_of end =
    order_lines end.done end.verdicts
    ++ (flat_map event_line end.outcome.events ++ result_line end.outcome.bundle)

abbrev pub with_report : Option Contents → List ℕ → Answer
with_report None report = record { status = Discarded; out = []; report = report }
with_report (Some bundle) report = record { status = Done; out = spelling bundle; report = report }

-- the answer at the end of a session
abbrev pub ended : End → Answer
ended end = with_report end.outcome.bundle (report_of end)
