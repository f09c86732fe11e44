-- What a node answers to a bundle, by its policy, its keys and the number by which it picks its operations.
use Rattle.std.specs.Prelude.{ℕ, ℤ, ◌%◌, ◌/◌, pos, negsuc, Bool, if◌then◌else◌, List, [], Option, Some, None}
use Rattle.bp_bundle.specs.Shape.{Contents}
use Rattle.bpsec_context.specs.declared.judgement.Judgement.TheVariants.{Misset}
use Rattle.bpsec_context.specs.declared.judgement.MissetReason.TheVariants.{UnknownContext, OtherService}
use Rattle.bpsec_context.specs.Services.{pair_service, by_service}
use Rattle.bpsec_context.specs.Integrity as integrity
use Rattle.bpsec_context.specs.Confidentiality as confidentiality
use Rattle.bpsec_cmac.specs.Integrity as mac
use Rattle.bpsec_cmac.specs.Also.{is_further}
use Rattle.bpsec_cmac.specs.AlsoLaws.{checked_with, opened_with}
use Rattle.bpsec_policy.specs.Rules.{Parts}
use Rattle.bpsec_policy.specs.declared.ring.NamedKey.{NamedKey}
use Rattle.bpsec_node.specs.declared.begin.BeginFault.{BeginFault}
use Rattle.bpsec_node.specs.declared.begin.BeginFault.TheVariants as begins
use Rattle.bpsec_node.specs.declared.chooser.Digits.{Digits}
use Rattle.bpsec_node.specs.Situation.{Meaning, Situation, meaning}
use Rattle.bpsec_node.specs.Start.{begin_fault}
use Rattle.bpsec_node.specs.Order.{picks}
use Rattle.bpsec_node.specs.Ring.{at_node}
use Rattle.bpsec_node.specs.View.{End, end_of}
use Rattle.bpsec_answer.specs.declared.answer.Answer.{Answer}
use Rattle.bpsec_answer.specs.declared.status.Status.TheVariants.{BundleRefused}
use Rattle.bpsec_answer.specs.declared.status.Refused.TheVariants as refusals
use Rattle.bpsec_answer.specs.Lines.{refused, memory_fault}
use Rattle.bpsec_jobs.specs.NodeReport.{ended}

-- Contexts 1 and 2, of RFC 9173: 1 for integrity, 2 for confidentiality. What an id gives that is neither
-- of them stands last.
abbrev pub by_id : {A : Type 0} → ℤ → A → A → A → A
by_id context integrity' confidentiality' other =
    by_service (pair_service (pos 1) (pos 2) context) integrity' confidentiality' other

-- this program's own context, -1, for integrity by AES-CMAC
abbrev pub is_mac : ℤ → Bool
is_mac context = is_further (negsuc 0) context

unfoldable pub contexts : Meaning
contexts = meaning
    (λ context parameters. if is_mac context then mac.scope_of parameters
    else by_id context (integrity.scope_of parameters) (confidentiality.scope_of parameters) 0)
    (λ context key parameters results parts.
    if is_mac context then mac.judged key parameters results parts
    else by_id context (integrity.judged key parameters results parts)
    (Misset OtherService) (Misset UnknownContext))
    (λ context key parameters results parts body.
    checked_with (is_mac context)
    (by_id context (Misset OtherService) (confidentiality.checked key parameters results parts body)
    (Misset UnknownContext)))
    (λ context key parameters results parts body.
    opened_with (is_mac context)
    (by_id context body (confidentiality.opened key parameters results parts body) body) body)

-- why a node doesn't take the bundle
abbrev pub begin_refused : BeginFault → Answer
begin_refused begins.IsFragment = refused (BundleRefused refusals.Fragment)
begin_refused (begins.BrokenBcb number fault) =
    refused (BundleRefused (refusals.BrokenBcb number fault))
begin_refused (begins.DoubleCipher target first second) =
    refused (BundleRefused (refusals.DoubleCipher target first second))
begin_refused begins.NoMemory = memory_fault

abbrev pub unless_begin_fault : Option BeginFault → Answer → Answer
unless_begin_fault None answer = answer
unless_begin_fault (Some fault) answer = begin_refused fault

-- the number of a chooser picks: of so many the remainder, and from then on the quotient
abbrev pub digit : Digits → ℕ → ℕ
digit digits n = digits.number % n

abbrev pub rest : Digits → ℕ → Digits
rest digits n = record { number = digits.number / n }

-- no bundle has more operations than these
unfoldable pub most_steps : ℕ
most_steps = 4096

-- what becomes of a bundle whose operations are picked by the digits of a number
unfoldable pub picked_by : Situation → ℕ → End
picked_by s order = end_of s (picks digit rest s most_steps [] (record { number = order }))

-- the end of a session over a bundle
abbrev pub end_at : ℕ → Parts → List NamedKey → Contents → End
end_at order policy ring bundle = picked_by (at_node contexts bundle policy ring) order

-- the one outcome, and before it the trace of what was picked
abbrev pub noded : ℕ → Parts → List NamedKey → Contents → Answer
noded order policy ring bundle =
    unless_begin_fault (begin_fault bundle) (ended (end_at order policy ring bundle))
