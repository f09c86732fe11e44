-- What each command answers to what it has read.
use Rattle.std.specs.Prelude.{ℕ, List, [], ◌++◌, length, Option, Some, None, codes}
use Rattle.std.specs.Fmt.{decimal}
use Rattle.std.specs.List.{flat_map}
use Rattle.bp_bundle.specs.Shape.{Contents}
use Rattle.bp_bundle.specs.Spelling.{spelling}
use Rattle.bp_fragments.specs.Cut.{cut, cut_fault}
use Rattle.bp_fragments.specs.declared.cut.CutFault.{CutFault}
use Rattle.bp_fragments.specs.declared.cut.CutFault.TheVariants as cuts
use Rattle.bpsec_explain.specs.Lines.{explanation}
use Rattle.bpsec_policy.specs.Rules.{Parts}
use Rattle.bpsec_policy.specs.Written.{policy_text}
use Rattle.bpsec_policy.specs.declared.ring.NamedKey.{NamedKey}
use Rattle.bpsec_plan.specs.declared.item.Item.{Item}
use Rattle.bpsec_facts.specs.declared.reason.Refusal.{Refusal}
use Rattle.bpsec_secure.specs.Answer.{refusal, secured_bundle}
use Rattle.bpsec_answer.specs.declared.answer.Answer.{Answer}
use Rattle.bpsec_answer.specs.declared.status.Status.TheVariants.{Done, PlanRefused}
use Rattle.bpsec_answer.specs.declared.status.PiecesReason.{PiecesReason}
use Rattle.bpsec_answer.specs.declared.status.PiecesReason.TheVariants as pieces
use Rattle.bpsec_answer.specs.Lines.{line, refused, memory_fault}
use Rattle.bpsec_jobs.specs.Refusals.{pieces_refused}

-- how many bytes and canonical blocks a bundle has
abbrev pub ok_line : ℕ → ℕ → List ℕ
ok_line bytes blocks =
    line (codes "ok bytes=" ++ decimal bytes ++ codes " blocks=" ++ decimal blocks)

-- `check`: how many bytes and canonical blocks the bundle has
abbrev pub checked : Contents → Answer
checked bundle = record {
  status = Done;
  out = ok_line (length (spelling bundle)) (length bundle.blocks);
  report = [];
}

-- `explain`: the lines of the bundle
abbrev pub explained : Contents → Answer
explained bundle = record { status = Done; out = explanation bundle; report = [] }

-- `build`: the bundle's spelling, and how many bytes and canonical blocks it has
abbrev pub built : Contents → Answer
built bundle = record {
  status = Done;
  out = spelling bundle;
  report = ok_line (length (spelling bundle)) (length bundle.blocks);
}

-- `secure`: the secured bundle, and how many bytes and canonical blocks it has; or the first reason
-- against the plan
abbrev pub unless_refused : Option Refusal → Answer → Answer
unless_refused None answer = answer
unless_refused (Some first) answer = refused (PlanRefused first.reason first.at)

abbrev pub secured : List Item → List NamedKey → Contents → Answer
secured items ring bundle =
    unless_refused (refusal bundle items ring) (built (secured_bundle bundle items ring))

-- `fragment`: the fragments' spellings, how many they are, and how many bytes; or the first reason
-- against the cut
abbrev pub cut_reason : CutFault → Option PiecesReason
cut_reason cuts.IsFragment = Some pieces.IsFragment
cut_reason cuts.MustNotFragment = Some pieces.MustNotFragment
cut_reason cuts.PieceZero = Some pieces.PieceZero
cut_reason cuts.TooMany = Some pieces.TooMany
cut_reason cuts.TooLong = Some pieces.TooLong
cut_reason cuts.NoMemory = None

abbrev pub unless_reason : Option PiecesReason → Answer
unless_reason None = memory_fault
unless_reason (Some reason) = pieces_refused reason None

abbrev pub pieces_line : ℕ → ℕ → List ℕ
pieces_line count bytes =
    line (codes "ok pieces=" ++ decimal count ++ codes " bytes=" ++ decimal bytes)

abbrev pub pieces_answer : List Contents → Answer
pieces_answer all = record {
  status = Done;
  out = flat_map spelling all;
  report = pieces_line (length all) (length (flat_map spelling all));
}

abbrev pub unless_cut_fault : Option CutFault → List Contents → Answer
unless_cut_fault None all = pieces_answer all
unless_cut_fault (Some fault) all = unless_reason (cut_reason fault)

abbrev pub fragmented : ℕ → Contents → Answer
fragmented size bundle = unless_cut_fault (cut_fault bundle size) (cut bundle size)

-- `upgrade`: the policy as a text of version 2, without a newline
abbrev pub upgraded : Parts → Answer
upgraded policy = record { status = Done; out = policy_text policy; report = [] }
