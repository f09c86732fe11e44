-- What a node makes of a bundle (RFC 9172, sections 5.1.1 and 5.1.2; which action follows is this project's own).
use Rattle.std.specs.Prelude.{ℕ, ◌==◌, ◌&&◌, ◌||◌, Bool, true, false, not, if◌then◌else◌, List, [], ◌∷◌, filter, Option, Some, None, Result, Ok, Err}
use Rattle.std.specs.List.{flat_map, list_any}
use Rattle.cbor_profile.specs.declared.fault.Fault.{Fault}
use Rattle.bp_blocks.specs.declared.block.Block.{Block}
use Rattle.bp_bundle.specs.Shape.{Contents}
use Rattle.bpsec_asb.specs.declared.asb.Asb.{Asb}
use Rattle.bpsec_asb.specs.declared.asb.Pair.{Pair}
use Rattle.bpsec_asb.specs.declared.operation.OpId.{OpId}
use Rattle.bpsec_asb.specs.declared.operation.Service.{Service}
use Rattle.bpsec_asb.specs.declared.operation.Service.TheVariants.{Bib, Bcb}
use Rattle.bpsec_asb.specs.Known.{operation}
use Rattle.bpsec_asb.specs.Reading.{read_body}
use Rattle.bpsec_asb.specs.SecurityBlock.{spelling}
use Rattle.bpsec_policy.specs.declared.rule.Action.{Action}
use Rattle.bpsec_policy.specs.declared.rule.Action.TheVariants.{Keep, Remove, Discard}
use Rattle.bpsec_node.specs.declared.event.Event.{Event}
use Rattle.bpsec_node.specs.declared.event.Verdict.{Verdict}
use Rattle.bpsec_node.specs.declared.event.Verdict.TheVariants.{NotOurs, Blocked, Passed, Failed, Misset, Conflict, Missing, Broken}
use Rattle.bpsec_node.specs.Situation.{Situation}
use Rattle.bpsec_node.specs.Plain.{is_acceptor, plain}
use Rattle.bpsec_node.specs.AllOperations.{is_open}
use Rattle.bpsec_node.specs.Verdict.{role, verdict}
use Rattle.bpsec_node.specs.Events.{is_no_target, operation_event, events}

-- ---- what is removed

abbrev pub is_remove : Action → Bool
is_remove Keep = false
is_remove Remove = true
is_remove Discard = false

abbrev pub is_discard : Action → Bool
is_discard Keep = false
is_discard Remove = false
is_discard Discard = true

-- the target isn't there, or has a forbidden type: reasons 1 and 2
abbrev pub lacks_target : Verdict → Bool
lacks_target (Misset reason) = is_no_target reason
lacks_target NotOurs = false
lacks_target Blocked = false
lacks_target Passed = false
lacks_target Failed = false
lacks_target Conflict = false
lacks_target Missing = false
lacks_target (Broken reason) = false

-- The event removes its target. An operation without a target that it may have is itself dropped instead.
abbrev pub removes : Event → Bool
removes event = is_remove event.action && not (lacks_target event.verdict)

-- the block with this number is removed
unfoldable pub is_removed : List Event → ℕ → Bool
is_removed events number = list_any (λ event. removes event && event.target == number) events

-- An event discards the bundle, or removes the primary block or the payload block.
unfoldable pub is_discarded : List Event → Bool
is_discarded events = list_any (λ event. is_discard event.action) events || (is_removed events 0 || is_removed events 1)

-- ---- which operations are dropped

abbrev pub is_passed : Verdict → Bool
is_passed Passed = true
is_passed NotOurs = false
is_passed Blocked = false
is_passed Failed = false
is_passed (Misset reason) = false
is_passed Conflict = false
is_passed Missing = false
is_passed (Broken reason) = false

-- The node accepted it and it passed; or it has no target that it may have, and is to be removed; or its target is removed.
unfoldable pub is_dropped : Situation → OpId → Bool
is_dropped s op =
    (is_acceptor (role s op) && is_passed (verdict s op))
    || ((lacks_target (verdict s op) && is_remove (operation_event s op).action)
    || is_removed (events s) op.target)

-- ---- what remains

-- the results of the targets that aren't dropped
abbrev pub results_without : (ℕ → Bool) → List ℕ → List (List Pair) → List (List Pair)
results_without dropped [] results = []
results_without dropped (target ∷ targets) [] = []
results_without dropped (target ∷ targets) (result ∷ results) =
    if dropped target then results_without dropped targets results else result ∷ results_without dropped targets results

-- the security block without the targets that are dropped, nor their results
unfoldable pub without : (ℕ → Bool) → Asb → Asb
without dropped asb = record asb {
  targets = filter (λ target. not (dropped target)) asb.targets;
  results = results_without dropped asb.targets asb.results;
}

-- the block with that security block, unless no target is left
abbrev pub with_targets : Block → Asb → List ℕ → List Block
with_targets block asb [] = []
with_targets block asb (target ∷ targets) = record block { body = spelling asb } ∷ []

abbrev pub remaining_asb : Situation → Block → Service → Result Asb Fault → List Block
remaining_asb s block service (Err fault) = block ∷ []
remaining_asb s block service (Ok asb) =
    let left = without (λ target. is_dropped s (operation service block.number target)) asb in
    with_targets block left left.targets

-- what remains of a block that isn't removed: of a security block that is visible or was opened, its operations that aren't
-- dropped
abbrev pub remaining_kind : Situation → Block → List Block
remaining_kind s block =
    if block.kind == 11 && is_open s block.number then remaining_asb s block Bib (read_body block.body)
    else if block.kind == 12 then remaining_asb s block Bcb (read_body block.body)
    else block ∷ []

unfoldable pub remaining : Situation → Block → List Block
remaining s block = if is_removed (events s) block.number then [] else remaining_kind s block

-- the resulting bundle: what remains of the plain bundle's blocks, in their order
unfoldable pub resulting : Situation → Contents
resulting s = record s.bundle { blocks = flat_map (remaining s) (plain s).blocks }

pub record Outcome : Type 0 where
  pub events : List Event
  -- none where the bundle is discarded
  pub bundle : Option Contents

unfoldable pub outcome : Situation → Outcome
outcome s = record { events = events s; bundle = if is_discarded (events s) then None else Some (resulting s) }
