-- What became of the operations, of security blocks that can't be read, and of requirements. Actions and requirements are
-- this project's own; RFC 9172, section 7, leaves them to the policy.
use Rattle.std.specs.Prelude.{ℕ, ◌==◌, ◌&&◌, ◌||◌, Bool, true, false, not, if◌then◌else◌, List, [], ◌∷◌, ◌++◌, map, filter, fold, find, codes, Option, Some, None, is_some, unwrap_or, option_map, Result, Ok, Err}
use Rattle.std.specs.List.{flat_map, list_any}
use Rattle.std.specs.BTreeSet.{insert_key}
use Rattle.std.specs.declared.cmp.Ordering.{Ordering}
use Rattle.std.specs.Ordering.{nat_cmp, on, then_cmp}
use Rattle.cbor_profile.specs.declared.fault.Fault.{Fault}
use Rattle.cbor_profile.specs.declared.fault.Reason.TheVariants.{NotBundle}
use Rattle.bp_eid.specs.declared.eid.Eid.{Eid}
use Rattle.bp_blocks.specs.declared.block.Block.{Block}
use Rattle.bpsec_asb.specs.declared.asb.Asb.{Asb}
use Rattle.bpsec_asb.specs.declared.operation.OpId.{OpId}
use Rattle.bpsec_asb.specs.declared.operation.Service.{Service}
use Rattle.bpsec_asb.specs.declared.operation.Service.TheVariants.{Bib, Bcb}
use Rattle.bpsec_asb.specs.Order.{rank}
use Rattle.bpsec_asb.specs.Reading.{read_body}
use Rattle.bpsec_context.specs.declared.judgement.MissetReason.{MissetReason}
use Rattle.bpsec_context.specs.declared.judgement.MissetReason.TheVariants.{NoTarget, TargetForbidden, UnknownContext, OtherService, BadParameter, BadResult, NoKey, KeyLength, UnwrapRefused, NarrowScope}
use Rattle.bpsec_policy.specs.declared.rule.Action.{Action}
use Rattle.bpsec_policy.specs.declared.rule.Action.TheVariants.{Keep, Remove, Discard}
use Rattle.bpsec_policy.specs.declared.rule.Requirement.{Requirement}
use Rattle.bpsec_policy.specs.declared.rule.Role.{Role}
use Rattle.bpsec_policy.specs.declared.rule.Rule.{Rule}
use Rattle.bpsec_policy.specs.declared.rule.TargetKind.{TargetKind}
use Rattle.bpsec_policy.specs.Rules as policies
use Rattle.bpsec_policy.specs.Rules.{same_service, same_id, same_kind, allows}
use Rattle.bpsec_node.specs.declared.event.Event.{Event}
use Rattle.bpsec_node.specs.declared.event.Verdict.{Verdict}
use Rattle.bpsec_node.specs.declared.event.Verdict.TheVariants.{NotOurs, Blocked, Passed, Failed, Misset, Conflict, Missing, Broken}
use Rattle.bpsec_node.specs.declared.place.Place.{Place}
use Rattle.bpsec_node.specs.Situation.{Situation, is_among}
use Rattle.bpsec_node.specs.Site.{block_at, kind_at}
use Rattle.bpsec_node.specs.Plain.{is_acceptor, plain}
use Rattle.bpsec_node.specs.AllOperations.{all_operations, is_open}
use Rattle.bpsec_node.specs.Verdict.{rule, role, verdict}

-- ---- actions

-- the greater in the order keep, remove, discard
abbrev pub join : Action → Action → Action
join Keep other = other
join Remove Keep = Remove
join Remove Remove = Remove
join Remove Discard = Discard
join Discard other = Discard

-- What a node that accepts a confidentiality operation does at least with a target that it can't open: the payload's bundle
-- is discarded, another block removed.
abbrev pub least_action : ℕ → Action
least_action target = if target == 1 then Discard else Remove

abbrev pub is_floored : Role → Service → Bool
is_floored role Bib = false
is_floored role Bcb = is_acceptor role

abbrev pub with_floor : Bool → ℕ → Action → Action
with_floor floored target action = if floored then join (least_action target) action else action

-- the target isn't there, or has a forbidden type
abbrev pub is_no_target : MissetReason → Bool
is_no_target NoTarget = true
is_no_target TargetForbidden = true
is_no_target UnknownContext = false
is_no_target OtherService = false
is_no_target BadParameter = false
is_no_target BadResult = false
is_no_target NoKey = false
is_no_target KeyLength = false
is_no_target UnwrapRefused = false
is_no_target NarrowScope = false

-- the action of an operation's verdict, under its rule
abbrev pub action_by : Rule → Bool → ℕ → Verdict → Action
action_by rule floored target NotOurs = Keep
action_by rule floored target Blocked = Keep
action_by rule floored target Passed = Keep
action_by rule floored target Failed = with_floor floored target rule.failed
action_by rule floored target (Misset reason) = if is_no_target reason then rule.misset else with_floor floored target rule.misset
action_by rule floored target Conflict = rule.misset
action_by rule floored target Missing = Keep
action_by rule floored target (Broken reason) = Keep

-- ---- requirements

-- The requirement is for blocks of this kind, this service, and bundles of this source.
abbrev pub applies : Option TargetKind → Service → Eid → Requirement → Bool
applies None service source r = false
applies (Some kind) service source r = same_kind r.target kind && (same_service r.service service && allows r.from (same_id source))

-- the first requirement that applies to the block with a number and a service
unfoldable pub requirement : Situation → ℕ → Service → Option Requirement
requirement s number service =
    find (applies (kind_at number (block_at s.bundle.blocks number)) service s.bundle.primary.source) s.policy.required

-- an operation of the service stands on the block
abbrev pub has_operation : List OpId → ℕ → Service → Bool
has_operation ops number service = list_any (λ op. op.target == number && same_service op.service service) ops

-- a requirement applies, and no operation of that service stands on the block
unfoldable pub is_missing : Situation → ℕ → Service → Bool
is_missing s number service = is_some (requirement s number service) && not (has_operation (all_operations s) number service)

-- ---- places

-- places in the order of target, service (bib before bcb), block
abbrev pub place_cmp : Place → Place → Ordering
place_cmp = then_cmp (on (λ p. p.target) nat_cmp) (then_cmp (on (λ p. rank p.service) nat_cmp) (on (λ p. p.block) nat_cmp))

abbrev pub place_of : OpId → Place
place_of op = record { target = op.target; service = op.service; block = op.block }

abbrev pub op_at : Place → OpId
op_at place = record { service = place.service; block = place.block; target = place.target }

-- the fault of an integrity block that is visible or was opened and isn't readable
abbrev pub fault_by : Result Asb Fault → Option Fault
fault_by (Ok asb) = None
fault_by (Err fault) = Some fault

abbrev pub fault_in : Situation → Block → Option Fault
fault_in s block = if block.kind == 11 && is_open s block.number then fault_by (read_body block.body) else None

-- such a block is its own target
abbrev pub broken_places : Situation → List Block → List Place
broken_places s blocks = map (λ block. record { target = block.number; service = Bib; block = block.number }) (filter (λ block. is_some (fault_in s block)) blocks)

-- a missing operation has the block 0
abbrev pub missing_at : Situation → ℕ → Service → List Place
missing_at s number service = if is_missing s number service then record { target = number; service = service; block = 0 } ∷ [] else []

abbrev pub missing_places : Situation → List Place
missing_places s = flat_map (λ number. missing_at s number Bib ++ missing_at s number Bcb) (0 ∷ map (λ block. block.number) s.bundle.blocks)

-- Where there is an event: at each operation, at each integrity block that isn't readable, and at each block of the received
-- bundle (the primary block included) and service that lacks an operation.
unfoldable pub places : Situation → List Place
places s = fold (insert_key place_cmp) [] (map place_of (all_operations s) ++ (broken_places s (plain s).blocks ++ missing_places s))

-- ---- events

unfoldable pub operation_event : Situation → OpId → Event
operation_event s op = record {
  target = op.target;
  service = op.service;
  block = op.block;
  verdict = verdict s op;
  rule = (rule s op).name;
  action = action_by (rule s op) (is_floored (role s op) op.service) op.target (verdict s op);
}

abbrev pub reason_by : Option Fault → Verdict
reason_by None = Broken NotBundle
reason_by (Some fault) = Broken fault.reason

abbrev pub fault_at : Situation → Option Block → Option Fault
fault_at s None = None
fault_at s (Some block) = fault_in s block

unfoldable pub broken_event : Situation → Place → Event
broken_event s place = record {
  target = place.target;
  service = place.service;
  block = place.block;
  verdict = reason_by (fault_at s (block_at (plain s).blocks place.block));
  rule = codes "broken";
  action = s.policy.broken;
}

abbrev pub name_by : Option Requirement → List ℕ
name_by None = []
name_by (Some r) = r.name

abbrev pub missing_by : Option Requirement → Action
missing_by None = Keep
missing_by (Some r) = r.missing

unfoldable pub missing_event : Situation → Place → Event
missing_event s place = record {
  target = place.target;
  service = place.service;
  block = place.block;
  verdict = Missing;
  rule = name_by (requirement s place.target place.service);
  action = missing_by (requirement s place.target place.service);
}

-- the event at a place
unfoldable pub event_at : Situation → Place → Event
event_at s place =
    if place.block == 0 then missing_event s place
    else if is_among (all_operations s) (op_at place) then operation_event s (op_at place)
    else broken_event s place

-- all events, in the order of target, service, block
unfoldable pub events : Situation → List Event
events s = map (event_at s) (places s)
