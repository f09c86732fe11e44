-- The end of a session from what it keeps.
use Rattle.std.specs.Prelude.{ℕ, pos, ◌==◌, ◌&&◌, ◌||◌, Bool, true, false, not, if◌then◌else◌, List, [], ◌∷◌, ◌++◌, map, filter, fold, codes, find, is_some, option_map, unwrap_or, option_to_list, slice_get, Option, Some, None, Result, Ok, Err}
use Rattle.std.specs.Result.{result_ok}
use Rattle.std.specs.List.{flat_map, position}
use Rattle.std.specs.BTreeSet.{insert_key}
use Rattle.cbor_profile.specs.declared.fault.Fault.{Fault}
use Rattle.bp_eid.specs.declared.eid.Eid.TheVariants.{Null}
use Rattle.bp_primary.specs.declared.primary.Primary.{Primary}
use Rattle.bp_blocks.specs.declared.block.Block.{Block}
use Rattle.bpsec_asb.specs.declared.asb.Asb.{Asb}
use Rattle.bpsec_asb.specs.declared.asb.Pair.{Pair}
use Rattle.bpsec_asb.specs.declared.operation.OpId.{OpId}
use Rattle.bpsec_asb.specs.declared.operation.Service.{Service}
use Rattle.bpsec_asb.specs.declared.operation.Service.TheVariants.{Bib, Bcb}
use Rattle.bpsec_asb.specs.Known.{operation}
use Rattle.bpsec_policy.specs.declared.rule.Rule.{Rule}
use Rattle.bpsec_policy.specs.declared.rule.Action.{Action}
use Rattle.bpsec_policy.specs.declared.rule.Role.{Role}
use Rattle.bpsec_policy.specs.declared.rule.TargetKind.{TargetKind}
use Rattle.bpsec_policy.specs.declared.rule.Requirement.{Requirement}
use Rattle.bpsec_policy.specs.Rules as policies
use Rattle.bpsec_policy.specs.Rules.{rule_of, role_at}
use Rattle.bpsec_node.specs.declared.event.Verdict.{Verdict}
use Rattle.bpsec_node.specs.declared.event.Verdict.TheVariants.{NotOurs, Conflict, Missing}
use Rattle.bpsec_node.specs.declared.event.Event.{Event}
use Rattle.bpsec_node.specs.declared.place.Place.{Place}
use Rattle.bpsec_node.specs.declared.held.Held.{Held}
use Rattle.bpsec_node.specs.Situation.{is_op, is_among}
use Rattle.bpsec_node.specs.Site.{block_at, kind_at}
use Rattle.bpsec_node.specs.Plain.{is_acceptor}
use Rattle.bpsec_node.specs.Verdict.{is_forbidden, has_no_role, in_conflict}
use Rattle.bpsec_node.specs.Events.{is_floored, action_by, applies, has_operation, place_cmp, place_of, op_at, fault_by, reason_by, name_by, missing_by}
use Rattle.bpsec_node.specs.Outcome.{is_remove, lacks_target, is_removed, is_passed, without, with_targets}
use Rattle.bpsec_node.specs.Session.{has, find_held}

-- What a session keeps, of which its end is made: the primary block, the policy, the canonical blocks with their plain bodies, the
-- security blocks that were read, the numbers of the blocks that weren't opened, the operations, and their steps' verdicts.
pub record Finished : Type 0 where
  pub primary : Primary
  pub policy : policies.Parts
  pub blocks : List Block
  pub held : List Held
  pub stuck : List ℕ
  pub done : List OpId
  pub verdicts : List Verdict

-- ---- operations

abbrev pub read_by : Option Held → Option Asb
read_by None = None
read_by (Some held) = result_ok held.read

-- the rule of an operation of a security block; one that couldn't be read has none
abbrev pub rule_or : policies.Parts → Service → Option TargetKind → Option Asb → Rule
rule_or policy service target None = rule_of policy service Null (pos 0) target
rule_or policy service target (Some asb) = rule_of policy service asb.source asb.context target

unfoldable pub rule_in : Finished → OpId → Rule
rule_in k op = rule_or k.policy op.service (kind_at op.target (block_at k.blocks op.target)) (read_by (find_held k.held op.block))

unfoldable pub role_in : Finished → OpId → Role
role_in k op = role_at k.policy (rule_in k op) op.service k.primary.destination

-- the verdict of the step of an operation
abbrev pub verdict_of_place : Option ℕ → List Verdict → Verdict
verdict_of_place None verdicts = NotOurs
verdict_of_place (Some place) verdicts = unwrap_or (slice_get verdicts place) NotOurs

abbrev pub step_in : List OpId → List Verdict → OpId → Verdict
step_in done verdicts op = verdict_of_place (position (λ one. is_op one op) done) verdicts

-- The line of conflicts stands behind those of the role and of the target.
abbrev pub unless_conflict : Option TargetKind → Service → Bool → Verdict → Verdict
unless_conflict None service conflict step = step
unless_conflict (Some kind) service conflict step = if is_forbidden service kind then step else if conflict then Conflict else step

abbrev pub with_conflict : Role → Option TargetKind → Service → Bool → Verdict → Verdict
with_conflict role kind service conflict step = if has_no_role role then step else unless_conflict kind service conflict step

unfoldable pub verdict_in : Finished → OpId → Verdict
verdict_in k op =
    with_conflict (role_in k op) (kind_at op.target (block_at k.blocks op.target)) op.service (in_conflict k.done op) (step_in k.done k.verdicts op)

-- ---- requirements

unfoldable pub requirement_in : Finished → ℕ → Service → Option Requirement
requirement_in k number service = find (applies (kind_at number (block_at k.blocks number)) service k.primary.source) k.policy.required

unfoldable pub is_missing_in : Finished → ℕ → Service → Bool
is_missing_in k number service = is_some (requirement_in k number service) && not (has_operation k.done number service)

-- ---- places

abbrev pub fault_by_held : Option Held → Option Fault
fault_by_held None = None
fault_by_held (Some held) = fault_by held.read

-- the fault of the integrity block with a number, if it was read and has one
abbrev pub fault_of : Finished → Block → Option Fault
fault_of k block = if block.kind == 11 && not (has k.stuck block.number) then fault_by_held (find_held k.held block.number) else None

abbrev pub broken_place : Block → Place
broken_place block = record { target = block.number; service = Bib; block = block.number }

abbrev pub missing_place : Finished → ℕ → Service → List Place
missing_place k number service = if is_missing_in k number service then record { target = number; service = service; block = 0 } ∷ [] else []

abbrev pub all_places : Finished → List Place
all_places k =
    map place_of k.done
    ++ (map broken_place (filter (λ block. is_some (fault_of k block)) k.blocks)
    ++ flat_map (λ number. missing_place k number Bib ++ missing_place k number Bcb) (0 ∷ map (λ block. block.number) k.blocks))

unfoldable pub places_in : Finished → List Place
places_in k = fold (insert_key place_cmp) [] (all_places k)

-- ---- events

unfoldable pub action_in : Finished → OpId → Verdict → Action
action_in k op verdict = action_by (rule_in k op) (is_floored (role_in k op) op.service) op.target verdict

unfoldable pub operation_event_in : Finished → OpId → Event
operation_event_in k op = record {
  target = op.target;
  service = op.service;
  block = op.block;
  verdict = verdict_in k op;
  rule = (rule_in k op).name;
  action = action_in k op (verdict_in k op);
}

abbrev pub fault_at_in : Finished → Option Block → Option Fault
fault_at_in k None = None
fault_at_in k (Some block) = fault_of k block

unfoldable pub broken_event_in : Finished → Place → Event
broken_event_in k place = record {
  target = place.target;
  service = place.service;
  block = place.block;
  verdict = reason_by (fault_at_in k (block_at k.blocks place.block));
  rule = codes "broken";
  action = k.policy.broken;
}

unfoldable pub missing_event_in : Finished → Place → Event
missing_event_in k place = record {
  target = place.target;
  service = place.service;
  block = place.block;
  verdict = Missing;
  rule = name_by (requirement_in k place.target place.service);
  action = missing_by (requirement_in k place.target place.service);
}

unfoldable pub event_in : Finished → Place → Event
event_in k place =
    if place.block == 0 then missing_event_in k place
    else if is_among k.done (op_at place) then operation_event_in k (op_at place)
    else broken_event_in k place

unfoldable pub events_in : Finished → List Event
events_in k = map (event_in k) (places_in k)

-- ---- what remains

-- the results of one target, unless its operation is dropped
abbrev pub kept_one : Bool → Option (List Pair) → List (List Pair)
kept_one dropped results = if dropped then [] else option_to_list results

unfoldable pub is_dropped_in : Finished → List Event → OpId → Bool
is_dropped_in k events op =
    (is_acceptor (role_in k op) && is_passed (verdict_in k op))
    || ((lacks_target (verdict_in k op) && is_remove (action_in k op (verdict_in k op)))
    || is_removed events op.target)

abbrev pub remaining_read : Finished → List Event → Block → Service → Result Asb Fault → List Block
remaining_read k events block service (Err fault) = block ∷ []
remaining_read k events block service (Ok asb) =
    let left = without (λ target. is_dropped_in k events (operation service block.number target)) asb in
    with_targets block left left.targets

abbrev pub remaining_held : Finished → List Event → Block → Service → Option Held → List Block
remaining_held k events block service None = block ∷ []
remaining_held k events block service (Some held) = remaining_read k events block service held.read

unfoldable pub remaining_in : Finished → List Event → Block → List Block
remaining_in k events block =
    if is_removed events block.number then []
    else if block.kind == 11 && not (has k.stuck block.number) then remaining_held k events block Bib (find_held k.held block.number)
    else if block.kind == 12 then remaining_held k events block Bcb (find_held k.held block.number)
    else block ∷ []

unfoldable pub blocks_in : Finished → List Event → List Block
blocks_in k events = flat_map (remaining_in k events) k.blocks
