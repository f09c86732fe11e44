-- The line that the report gets for a status, and the answer that refuses by a status.
use Rattle.std.specs.Prelude.{ℕ, List, [], ◌∷◌, ◌++◌, Option, Some, None, codes}
use Rattle.std.specs.Fmt.{decimal}
use Rattle.cbor_profile.specs.Reasons.{reason_name}
use Rattle.cbor_profile.specs.declared.fault.Fault.{Fault}
use Rattle.bp_text.specs.declared.fault.TextFault.{TextFault}
use Rattle.bpsec_answer.specs.declared.answer.Answer.{Answer}
use Rattle.bpsec_answer.specs.declared.status.Status.{Status}
use Rattle.bpsec_answer.specs.declared.status.Status.TheVariants as statuses
use Rattle.bpsec_answer.specs.declared.status.Refused.{Refused}
use Rattle.bpsec_answer.specs.declared.status.Refused.TheVariants as refusals
use Rattle.bpsec_answer.specs.declared.status.Reading.TheVariants.{Input, Shelf}
use Rattle.bpsec_answer.specs.Reasons.{text_reason_name, plan_reason_name, pieces_reason_name}

abbrev pub line : List ℕ → List ℕ
line text = text ++ 10 ∷ []

-- ---- words that are no line of the grammar

abbrev pub usage_line : ℕ → List ℕ
usage_line word = line (codes "usage word=" ++ decimal word)

-- ---- a refused input

abbrev pub fault_line : Fault → List ℕ
fault_line fault =
    line (codes "refused bundle place=" ++ decimal fault.place
    ++ codes " reason=" ++ reason_name fault.reason)

unfoldable pub broken_line : ℕ → Fault → List ℕ
broken_line number fault =
    line (codes "refused bundle bcb=" ++ decimal number ++ codes " place=" ++ decimal fault.place
    ++ codes " reason=" ++ reason_name fault.reason)

unfoldable pub double_line : ℕ → ℕ → ℕ → List ℕ
double_line target first second =
    line (codes "refused bundle twice target=" ++ decimal target
    ++ codes " blocks=" ++ decimal first ++ codes "," ++ decimal second)

abbrev pub bundle_line : Refused → List ℕ
bundle_line (refusals.Fault fault) = fault_line fault
bundle_line refusals.Fragment = line (codes "refused bundle fragment")
bundle_line (refusals.BrokenBcb number fault) = broken_line number fault
bundle_line (refusals.DoubleCipher target first second) = double_line target first second

-- ---- a refused text, told by the word for texts of its kind

-- an index, a number or a place, or a dash
abbrev pub at_text : Option ℕ → List ℕ
at_text None = codes "-"
at_text (Some n) = decimal n

abbrev pub text_line : List ℕ → TextFault → List ℕ
text_line word fault =
    line (codes "refused " ++ word ++ codes " entry=" ++ at_text fault.entry
    ++ codes " reason=" ++ text_reason_name fault.reason)

-- ---- a reason, and where

abbrev pub reason_line : List ℕ → List ℕ → Option ℕ → List ℕ
reason_line word reason at =
    line (codes "refused " ++ word ++ codes " reason=" ++ reason ++ codes " at=" ++ at_text at)

-- ---- statuses

-- The line of a status. A job that was done says itself what the report gets, and a write that failed is
-- told nowhere.
unfoldable pub line_of : Status → List ℕ
line_of statuses.Done = []
line_of statuses.Discarded = []
line_of statuses.Found = []
line_of (statuses.Usage word) = usage_line word
line_of (statuses.BundleRefused why) = bundle_line why
line_of (statuses.PolicyRefused fault) = text_line (codes "policy") fault
line_of (statuses.RingRefused fault) = text_line (codes "keys") fault
line_of (statuses.TextRefused fault) = text_line (codes "text") fault
line_of (statuses.ReadFault Input) = line (codes "fault read input")
line_of (statuses.ReadFault Shelf) = line (codes "fault read shelf")
line_of (statuses.WriteFault writing) = []
line_of statuses.NoMemory = line (codes "fault memory")
line_of (statuses.PlanRefused reason at) =
    reason_line (codes "plan") (plan_reason_name reason) at
line_of (statuses.PiecesRefused reason at) =
    reason_line (codes "pieces") (pieces_reason_name reason) at

-- a refusal, or a fault: its line goes to the report, and nothing to the output
abbrev pub refused : Status → Answer
refused status = record { status = status; out = []; report = line_of status }

abbrev pub input_fault : Answer
input_fault = refused (statuses.ReadFault Input)

abbrev pub shelf_fault : Answer
shelf_fault = refused (statuses.ReadFault Shelf)

abbrev pub memory_fault : Answer
memory_fault = refused statuses.NoMemory
