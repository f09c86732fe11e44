-- What a session keeps at its end gives the events and the blocks of the outcome.
use Rattle.std.proofs.Common.{◌≡◌, ℕ, ◌+◌, inl, inr, Bool, true, false, ◌&&◌, ◌||◌, not, cond, eqb, List, [], ◌∷◌, ◌++◌, length, map, Option, Some, None, Result, Ok, Err, refl, sym, ◌∙◌, ap, subst, arith, rules, append_assoc, length-append}
use Rattle.std.specs.Prelude.{filter, find, fold, is_some, option_map, unwrap_or, slice_get}
use Rattle.std.specs.Result.{result_ok}
use Rattle.std.specs.List.{flat_map, list_any, position_from}
use Rattle.std.specs.BTreeSet.{insert_key}
use Rattle.std.specs.declared.cmp.Ordering.{Ordering}
use Rattle.std.specs.declared.cmp.Ordering.TheVariants.{Less, Equal, Greater}
use Rattle.std.specs.Ordering.{nat_cmp, ordering_then}
use Rattle.bpsec_asb.specs.Order.{rank}
use Rattle.std.specs.Cmp.{IsTotalOrder}
use Rattle.std.specs.Cmp.Rules.{comparing}
use Rattle.std.proofs.lemmas.Option.{slice_get-map}
use Rattle.std.proofs.lemmas.Iterator.Adapters.{position_from-zero}
use Rattle.std.proofs.lemmas.Map.Lookups.{CmpEqualImpliesEq, exact_unsigned}
use Rattle.cbor_profile.specs.declared.fault.Fault.{Fault}
use Rattle.bp_primary.specs.declared.primary.Primary.{Primary}
use Rattle.bp_blocks.specs.declared.block.Block.{Block}
use Rattle.bp_bundle.specs.Spelling.{IsBundle}
use Rattle.bpsec_asb.specs.declared.asb.Asb.{Asb}
use Rattle.bpsec_asb.specs.declared.operation.OpId.{OpId}
use Rattle.bpsec_asb.specs.declared.operation.Service.{Service}
use Rattle.bpsec_asb.specs.declared.operation.Service.TheVariants.{Bib, Bcb}
use Rattle.bpsec_asb.specs.Operations.{NumbersAreDistinct}
use Rattle.bpsec_asb.specs.Reading.{read_body}
use Rattle.bpsec_asb.specs.Known.{operation, targets_of, held_by, ciphers}
use Rattle.bpsec_asb.proofs.Members.{Among, among-left, among-right, among-append, among-map, from-map, from-flat_map, from-any, any-from, from-set, among-set}
use Rattle.bpsec_asb.proofs.Ordered.{sorted_set, sorted_none, same_sorted}
use Rattle.bpsec_policy.specs.declared.rule.Rule.{Rule}
use Rattle.bpsec_policy.specs.declared.rule.Role.{Role}
use Rattle.bpsec_policy.specs.declared.rule.TargetKind.{TargetKind}
use Rattle.bpsec_policy.specs.Rules as policies
use Rattle.bpsec_policy.specs.Rules.{same_service, role_at}
use Rattle.bpsec_node.specs.declared.event.Verdict.{Verdict}
use Rattle.bpsec_node.specs.declared.event.Event.{Event}
use Rattle.bpsec_node.specs.declared.place.Place.{Place}
use Rattle.bpsec_node.specs.declared.held.Held.{Held}
use Rattle.bpsec_node.specs.Situation.{Situation, is_op, is_among}
use Rattle.bpsec_node.specs.Site.{block_at, site, kind_at, asb_in, rule_by, rule_over, role_over}
use Rattle.bpsec_node.specs.Plain.{cover, is_opened, is_acceptor, plain_block, plain}
use Rattle.bpsec_node.specs.AllOperations.{all_operations, is_open}
use Rattle.bpsec_node.specs.Verdict.{is_bib, is_forbidden, has_no_role, site_by, site_of, rule, role, judgement, verdict_at, table, in_conflict, is_blocked, verdict_with, step_verdict, verdict}
use Rattle.bpsec_node.specs.Session.{has, applies_to, is_operation_by, is_operation, holds_operations, held_of, find_held}
use Rattle.bpsec_node.specs.Closing.{plain_held_by, plain_held}
use Rattle.bpsec_node.specs.Events.{is_floored, action_by, applies, requirement, has_operation, is_missing, place_cmp, place_of, op_at, fault_by, fault_in, broken_places, missing_at, missing_places, places, operation_event, reason_by, fault_at, broken_event, name_by, missing_by, missing_event, event_at, events}
use Rattle.bpsec_node.specs.Outcome.{is_remove, lacks_target, is_removed, is_passed, is_dropped, with_targets, remaining_asb, remaining, resulting}
use Rattle.bpsec_node.specs.declared.event.Verdict.TheVariants.{NotOurs, Missing}
use Rattle.bpsec_policy.specs.declared.rule.Action.{Action}
use Rattle.std.specs.Prelude.{codes}
use Rattle.bpsec_node.specs.Finished.{Finished, read_by, rule_or, rule_in, role_in, verdict_of_place, step_in, unless_conflict, with_conflict, verdict_in, requirement_in, is_missing_in, fault_by_held, fault_of, broken_place, missing_place, places_in, action_in, operation_event_in, fault_at_in, broken_event_in, missing_event_in, event_in, events_in, is_dropped_in, remaining_read, remaining_held, remaining_in, blocks_in}
use Rattle.bpsec_node.proofs.Members.{both, same_truth, is_op_same, is_op_itself, from_is_among, is_among_from, held_parts}
use Rattle.bpsec_node.proofs.Agree.{plain_number, plain_kind, plain_at, block_at_number}
use Rattle.bpsec_node.proofs.Operations.{at_itself, plain_at_itself, plain_uncovered, from_has, operation_if_among}
use Rattle.bpsec_node.proofs.OutcomeKeys.{map_agree}
use Rattle.bpsec_node.proofs.OutcomeSame.{bcb_uncovered, plain_is_at, from_plain, filter_members, flat_agrees, without_same, open_bib_among, bcb_among}

-- what is kept at the end, in the situation
abbrev pub finished : Situation → List OpId → List Held → List ℕ → List Verdict → Finished
finished s done held stuck verdicts = record {
  primary = s.bundle.primary;
  policy = s.policy;
  blocks = (plain s).blocks;
  held = held;
  stuck = stuck;
  done = done;
  verdicts = verdicts;
}

-- ---- tables

at_conflict : (kind : Option TargetKind) (service : Service) (conflict blocked : Bool) (judged : _) → unless_conflict kind service conflict (verdict_at kind service false blocked judged) ≡ verdict_at kind service conflict blocked judged
at_conflict None service conflict blocked judged = refl
at_conflict (Some kind) service conflict blocked judged = cases (is_forbidden service kind) refl conflict
  where
    cases : (b : Bool) → is_forbidden service kind ≡ b → (c : Bool) → unless_conflict (Some kind) service c (verdict_at (Some kind) service false blocked judged) ≡ verdict_at (Some kind) service c blocked judged
    cases true is c = rw is refl
    cases false is true = rw is refl
    cases false is false = rw is refl

with_conflict_is : (role : Role) (kind : Option TargetKind) (service : Service) (conflict blocked : Bool) (judged : _) → with_conflict role kind service conflict (table role kind service false blocked judged) ≡ table role kind service conflict blocked judged
with_conflict_is role kind service conflict blocked judged = cases (has_no_role role) refl
  where
    cases : (b : Bool) → has_no_role role ≡ b → with_conflict role kind service conflict (table role kind service false blocked judged) ≡ table role kind service conflict blocked judged
    cases true is = rw is refl
    cases false is = rw is (at_conflict kind service conflict blocked judged)

-- the verdict of an operation from that of its step
pub verdict_from_step : (s : Situation) (op : OpId) → verdict s op ≡ with_conflict (role s op) (kind_at op.target (site_of s op).target) op.service (in_conflict (all_operations s) op) (step_verdict s op)
unfolding verdict step_verdict verdict_with
verdict_from_step s op = sym (with_conflict_is (role s op) (kind_at op.target (site_of s op).target) op.service (in_conflict (all_operations s) op) (is_blocked s op) (judgement s op))

-- ---- lists with the same members

same_any : {A : Type 0} (p : A → Bool) (xs ys : List A) → ((x : A) → Among x xs → Among x ys) → ((x : A) → Among x ys → Among x xs) → list_any p xs ≡ list_any p ys
same_any p xs ys to from =
    same_truth (list_any p xs) (list_any p ys)
    (λ e. let f = from-any p xs e in any-from p ys f.0 (to f.0 f.1) f.2)
    (λ e. let f = from-any p ys e in any-from p xs f.0 (from f.0 f.1) f.2)

pub done_to_all : (s : Situation) (done : List OpId) (op : OpId) → is_among done op ≡ is_among (all_operations s) op → Among op done → Among op (all_operations s)
done_to_all s done op same there = from_is_among (all_operations s) op (sym same ∙ is_among_from done op there)

pub all_to_done : (s : Situation) (done : List OpId) (op : OpId) → is_among done op ≡ is_among (all_operations s) op → Among op (all_operations s) → Among op done
all_to_done s done op same there = from_is_among done op (same ∙ is_among_from (all_operations s) op there)

-- ---- steps

at_seam : {A : Type 0} (before : List A) (x : A) (more : List A) → slice_get (before ++ x ∷ more) (length before) ≡ Some x
at_seam [] x more = refl
at_seam (y ∷ before) x more = at_seam before x more

step_found_if : (s : Situation) (before : List OpId) (one : OpId) (done : List OpId) (op : OpId) (b : Bool) → is_op one op ≡ b
    → (Among op done → verdict_of_place (position_from (λ (o : OpId). is_op o op) (length before + 1) done) (map (step_verdict s) (before ++ one ∷ done)) ≡ step_verdict s op)
    → Among op (one ∷ done) → verdict_of_place (cond b (Some (length before)) (position_from (λ (o : OpId). is_op o op) (length before + 1) done)) (map (step_verdict s) (before ++ one ∷ done)) ≡ step_verdict s op
step_found_if s before one done op true is more there =
    ap (λ v. unwrap_or v NotOurs) (slice_get-map (step_verdict s) (before ++ one ∷ done) (length before) ∙ ap (option_map (step_verdict s)) (at_seam before one done)) ∙ ap (step_verdict s) (is_op_same one op is)
step_found_if s before one done op false is more (inl e) = let t : false ≡ true = sym is ∙ (ap (λ o. is_op o op) e ∙ is_op_itself op) in absurd cc
step_found_if s before one done op false is more (inr there) = more there

step_found_from : (s : Situation) (before done : List OpId) (op : OpId) → Among op done → verdict_of_place (position_from (λ (o : OpId). is_op o op) (length before) done) (map (step_verdict s) (before ++ done)) ≡ step_verdict s op
step_found_from s before [] op there = absurd there
step_found_from s before (one ∷ done) op there =
    step_found_if s before one done op (is_op one op) refl
    (λ more.
    let length_is : length (before ++ one ∷ []) ≡ length before + 1 = omega (arith, length-append before (one ∷ [])) in
    let rest = step_found_from s (before ++ one ∷ []) done op more in
    let At : ℕ → List OpId → Type 0 = λ n ops. verdict_of_place (position_from (λ (o : OpId). is_op o op) n done) (map (step_verdict s) ops) ≡ step_verdict s op in
    subst (λ n. At n (before ++ one ∷ done)) length_is (subst (At (length (before ++ one ∷ []))) (append_assoc before (one ∷ []) done) rest))
    there

step_found : (s : Situation) (done : List OpId) (op : OpId) → Among op done → step_in done (map (step_verdict s) done) op ≡ step_verdict s op
step_found s done op there =
    ap (λ at. verdict_of_place at (map (step_verdict s) done)) (position_from-zero (λ (o : OpId). is_op o op) done) ∙ step_found_from s [] done op there

-- ---- kinds

kind_of_plain : (s : Situation) (number : ℕ) (at : Option Block) → kind_at number (option_map (plain_block s) at) ≡ kind_at number at
kind_of_plain s number None = refl
kind_of_plain s number (Some block) = ap (λ (n : ℕ). kind_at number (Some (record block { kind = n }))) (plain_kind s block)

pub kind_at_plain : (s : Situation) (number : ℕ) → kind_at number (block_at (plain s).blocks number) ≡ kind_at number (block_at s.bundle.blocks number)
kind_at_plain s number = ap (kind_at number) (plain_at s number) ∙ kind_of_plain s number (block_at s.bundle.blocks number)

-- ---- security blocks that were read

-- the security block of an operation, as it was read
read_if_held : (s : Situation) (number : ℕ) (at : Option Block) → block_at (plain s).blocks number ≡ at → (block : Block) → at ≡ Some block → holds_operations block ≡ true → is_open s block.number ≡ true → plain_held_by s at ≡ Some (held_of block)
read_if_held s number None is block e holds open_here = absurd cc
read_if_held s number (Some b) is block e holds open_here =
    let same : b ≡ block = cc in
    ap (λ (x : Block). plain_held_by s (Some x)) same
    ∙ ap (λ t. cond t (cond (is_open s block.number) (Some (held_of block)) None) None) holds
    ∙ ap (λ t. cond t (Some (held_of block)) None) open_here

pub held_block : (s : Situation) (number : ℕ) (block : Block) → block_at (plain s).blocks number ≡ Some block → holds_operations block ≡ true → is_open s block.number ≡ true → plain_held s number ≡ Some (held_of block)
unfolding plain_held
held_block s number block at holds open_here = read_if_held s number (block_at (plain s).blocks number) refl block at holds open_here

or_left : (a b : Bool) → a ≡ true → (a || b) ≡ true
or_left true b e = refl
or_left false b e = absurd cc

or_right : (a b : Bool) → b ≡ true → (a || b) ≡ true
or_right true b e = refl
or_right false b e = e

-- what an operation is over: its block is there, was read, and is the one that the operation is judged with
pub record OverBlock (s : Situation) (op : OpId) : Type 0 where
  block : Block
  plain_at : block_at (plain s).blocks op.block ≡ Some block
  judged_at : (site_of s op).security ≡ Some block
  holds : holds_operations block ≡ true
  open_here : is_open s block.number ≡ true
  asb : Asb
  is_read : read_body block.body ≡ Ok asb

target_read : (r : Result Asb Fault) (target : ℕ) → Among target (targets_of r) → (asb : Asb) × (r ≡ Ok asb)
target_read (Ok asb) target there = (asb, refl)
target_read (Err fault) target there = absurd there

bib_over_at : (s : Situation) (op : OpId) (at : Option Block) → NumbersAreDistinct s.bundle.blocks → op.service ≡ Bib → block_at (plain s).blocks op.block ≡ at → is_open s op.block ≡ true → applies_to at op.target ≡ true → OverBlock s op
unfolding site_of site
bib_over_at s op None distinct service is open_here e = absurd cc
bib_over_at s op (Some block) distinct service is open_here e =
    let parts = both (eqb block.kind 11) (has (targets_of (read_body block.body)) op.target) e in
    let kind = parts.0 in
    let read = target_read (read_body block.body) op.target (from_has (targets_of (read_body block.body)) op.target parts.1) in
    let number : block.number ≡ op.block = (block_at_number (plain s).blocks op.block block is).1 in
    record {
      block = block;
      plain_at = is;
      judged_at = ap (λ (x : Service). (site_by s op x).security) service ∙ is;
      holds = or_left (eqb block.kind 11) (eqb block.kind 12) kind;
      open_here = subst (λ n. is_open s n ≡ true) (sym number) open_here;
      asb = read.0;
      is_read = read.1;
    }

bib_over : (s : Situation) (op : OpId) (service : Service) → NumbersAreDistinct s.bundle.blocks → op.service ≡ service → service ≡ Bib → is_operation_by s op service ≡ true → OverBlock s op
bib_over s op Bib distinct is bib e =
    let h = both (is_open s op.block) (applies_to (block_at (plain s).blocks op.block) op.target) e in
    bib_over_at s op (block_at (plain s).blocks op.block) distinct is refl h.0 h.1
bib_over s op Bcb distinct is bib e = absurd cc

cipher_kind : (block : Block) (op : OpId) (b : Bool) → eqb block.kind 12 ≡ b → Among op (cond b (map (operation Bcb block.number) (targets_of (read_body block.body))) []) → (eqb block.kind 12 ≡ true) × ((target : ℕ) × Among target (targets_of (read_body block.body)))
cipher_kind block op true is there = let t = from-map (operation Bcb block.number) (targets_of (read_body block.body)) op there in (is, (t.0, t.1))
cipher_kind block op false is there = absurd there

bcb_over : (s : Situation) (op : OpId) → NumbersAreDistinct s.bundle.blocks → op.service ≡ Bcb → Among op (ciphers s.bundle.blocks) → OverBlock s op
unfolding site_of site is_open
bcb_over s op distinct service there =
    let b = from-flat_map (held_by Bcb) s.bundle.blocks op there in
    let number : op.block ≡ b.0.number = (held_parts Bcb b.0 op b.2).1 in
    let parts = cipher_kind b.0 op (eqb b.0.kind 12) refl b.2 in
    let kind : eqb b.0.kind 12 ≡ true = parts.0 in
    let read = target_read (read_body b.0.body) parts.1.0 parts.1.1 in
    let at : block_at s.bundle.blocks b.0.number ≡ Some b.0 = at_itself s.bundle.blocks b.0 distinct b.1 in
    let free : cover s.bundle.blocks b.0.number ≡ None = bcb_uncovered s.bundle.blocks b.0 at kind in
    let plain_here : block_at (plain s).blocks b.0.number ≡ Some b.0 = plain_at_itself s b.0 distinct b.1 ∙ ap Some (plain_uncovered s b.0 free) in
    record {
      block = b.0;
      plain_at = subst (λ n. block_at (plain s).blocks n ≡ Some b.0) (sym number) plain_here;
      judged_at = ap (λ (x : Service). (site_by s op x).security) service ∙ subst (λ n. block_at s.bundle.blocks n ≡ Some b.0) (sym number) at;
      holds = or_right (eqb b.0.kind 11) (eqb b.0.kind 12) kind;
      open_here = ap (λ (c : Option OpId). not (is_some c) || is_opened s b.0.number) free;
      asb = read.0;
      is_read = read.1;
    }

over_by : (s : Situation) (op : OpId) (service : Service) → NumbersAreDistinct s.bundle.blocks → op.service ≡ service → is_operation_by s op service ≡ true → OverBlock s op
over_by s op Bib distinct is e = bib_over s op Bib distinct is refl e
over_by s op Bcb distinct is e = bcb_over s op distinct is (from_is_among (ciphers s.bundle.blocks) op e)

pub over_block : (s : Situation) (op : OpId) → NumbersAreDistinct s.bundle.blocks → Among op (all_operations s) → OverBlock s op
unfolding is_operation
over_block s op distinct there = over_by s op op.service distinct refl (operation_if_among s op distinct there)

-- ---- rule and role

site_primary : (s : Situation) (op : OpId) (service : Service) → (site_by s op service).primary ≡ s.bundle.primary
unfolding site plain
site_primary s op Bib = refl
site_primary s op Bcb = refl

site_kind : (s : Situation) (op : OpId) (service : Service) → kind_at op.target (site_by s op service).target ≡ kind_at op.target (block_at (plain s).blocks op.target)
unfolding site
site_kind s op Bib = refl
site_kind s op Bcb = sym (kind_at_plain s op.target)

site_of_kind : (s : Situation) (op : OpId) → kind_at op.target (site_of s op).target ≡ kind_at op.target (block_at (plain s).blocks op.target)
unfolding site_of
site_of_kind s op = site_kind s op op.service

record Judged (s : Situation) (held : List Held) (op : OpId) : Type 0 where
  asb : Asb
  kept : read_by (find_held held op.block) ≡ Some asb
  judged : asb_in (site_of s op).security ≡ Some asb

read_is_judged : (s : Situation) (held : List Held) (op : OpId) → NumbersAreDistinct s.bundle.blocks → (find_held held op.block ≡ plain_held s op.block) → Among op (all_operations s) → Judged s held op
read_is_judged s held op distinct is there =
    let over = over_block s op distinct there in
    record {
      asb = over.asb;
      kept = ap read_by (is ∙ held_block s op.block over.block over.plain_at over.holds over.open_here) ∙ ap result_ok over.is_read;
      judged = ap asb_in over.judged_at ∙ ap result_ok over.is_read;
    }

pub rule_in_is : (s : Situation) (done : List OpId) (held : List Held) (stuck : List ℕ) (verdicts : List Verdict) (op : OpId) → NumbersAreDistinct s.bundle.blocks → (find_held held op.block ≡ plain_held s op.block) → Among op (all_operations s)
    → rule_in (finished s done held stuck verdicts) op ≡ rule s op
unfolding rule_in rule rule_over
rule_in_is s done held stuck verdicts op distinct is there =
    let j = read_is_judged s held op distinct is there in
    ap (λ asb. rule_or s.policy op.service (kind_at op.target (block_at (plain s).blocks op.target)) asb) j.kept
    ∙ ap (λ kind. rule_by s.policy op.service kind (Some j.asb)) (sym (site_of_kind s op))
    ∙ ap (λ asb. rule_by s.policy op.service (kind_at op.target (site_of s op).target) asb) (sym j.judged)

site_of_primary : (s : Situation) (op : OpId) → (site_of s op).primary ≡ s.bundle.primary
unfolding site_of
site_of_primary s op = site_primary s op op.service

pub role_in_is : (s : Situation) (done : List OpId) (held : List Held) (stuck : List ℕ) (verdicts : List Verdict) (op : OpId) → NumbersAreDistinct s.bundle.blocks → (find_held held op.block ≡ plain_held s op.block) → Among op (all_operations s)
    → role_in (finished s done held stuck verdicts) op ≡ role s op
unfolding role_in role role_over rule
role_in_is s done held stuck verdicts op distinct is there =
    ap (λ r. role_at s.policy r op.service s.bundle.primary.destination) (rule_in_is s done held stuck verdicts op distinct is there)
    ∙ ap (λ (p : Primary). role_at s.policy (rule_over s.policy (site_of s op) op) op.service p.destination) (sym (site_of_primary s op))

-- ---- what is known at the end

-- what the facts of the end say of what is kept
pub record Ends (s : Situation) (done : List OpId) (held : List Held) (stuck : List ℕ) : Type 0 where
  pub shape : IsBundle s.bundle
  pub all : (op : OpId) → is_among done op ≡ is_among (all_operations s) op
  pub held_is : (number : ℕ) → find_held held number ≡ plain_held s number
  pub stuck_is : (number : ℕ) → has stuck number ≡ not (is_open s number)

-- what is kept, with the verdicts of the steps
abbrev pub ended : Situation → List OpId → List Held → List ℕ → Finished
ended s done held stuck = finished s done held stuck (map (step_verdict s) done)

-- ---- verdicts

conflict_same : (s : Situation) (done : List OpId) (op : OpId) → ((o : OpId) → is_among done o ≡ is_among (all_operations s) o) → in_conflict done op ≡ in_conflict (all_operations s) op
unfolding in_conflict
conflict_same s done op all =
    ap (λ b. is_bib op.service && b)
    (same_any (λ (other : OpId). is_bib other.service && (eqb other.target op.target && not (eqb other.block op.block))) done (all_operations s)
    (λ o there. done_to_all s done o (all o) there) (λ o there. all_to_done s done o (all o) there))

pub verdict_in_is : (s : Situation) (done : List OpId) (held : List Held) (stuck : List ℕ) (op : OpId) → Ends s done held stuck → Among op (all_operations s) → verdict_in (ended s done held stuck) op ≡ verdict s op
unfolding verdict_in
verdict_in_is s done held stuck op ends there =
    let distinct = ends.shape.distinct in
    let Made : Role → Option TargetKind → Bool → Verdict → Verdict = λ r kind c v. with_conflict r kind op.service c v in
    ap (λ r. Made r (kind_at op.target (block_at (plain s).blocks op.target)) (in_conflict done op) (step_in done (map (step_verdict s) done) op)) (role_in_is s done held stuck (map (step_verdict s) done) op distinct (ends.held_is op.block) there)
    ∙ ap (λ kind. Made (role s op) kind (in_conflict done op) (step_in done (map (step_verdict s) done) op)) (sym (site_of_kind s op))
    ∙ ap (λ c. Made (role s op) (kind_at op.target (site_of s op).target) c (step_in done (map (step_verdict s) done) op)) (conflict_same s done op ends.all)
    ∙ ap (λ v. Made (role s op) (kind_at op.target (site_of s op).target) (in_conflict (all_operations s) op) v) (step_found s done op (all_to_done s done op (ends.all op) there))
    ∙ sym (verdict_from_step s op)

-- ---- requirements

pub requirement_in_is : (s : Situation) (k : Finished) (number : ℕ) (service : Service) → k.blocks ≡ (plain s).blocks → k.primary ≡ s.bundle.primary → k.policy ≡ s.policy → requirement_in k number service ≡ requirement s number service
unfolding requirement_in requirement
requirement_in_is s k number service blocks primary policy =
    ap (λ (p : policies.Parts). find (applies (kind_at number (block_at k.blocks number)) service k.primary.source) p.required) policy
    ∙ ap (λ (p : Primary). find (applies (kind_at number (block_at k.blocks number)) service p.source) s.policy.required) primary
    ∙ ap (λ bs. find (applies (kind_at number (block_at bs number)) service s.bundle.primary.source) s.policy.required) blocks
    ∙ ap (λ kind. find (applies kind service s.bundle.primary.source) s.policy.required) (kind_at_plain s number)

operations_same : (s : Situation) (done : List OpId) (number : ℕ) (service : Service) → ((o : OpId) → is_among done o ≡ is_among (all_operations s) o) → has_operation done number service ≡ has_operation (all_operations s) number service
operations_same s done number service all =
    same_any (λ (op : OpId). eqb op.target number && same_service op.service service) done (all_operations s)
    (λ o there. done_to_all s done o (all o) there) (λ o there. all_to_done s done o (all o) there)

missing_in_is : (s : Situation) (done : List OpId) (held : List Held) (stuck : List ℕ) (number : ℕ) (service : Service) → Ends s done held stuck → is_missing_in (ended s done held stuck) number service ≡ is_missing s number service
unfolding is_missing_in is_missing
missing_in_is s done held stuck number service ends =
    ap (λ r. is_some r && not (has_operation done number service)) (requirement_in_is s (ended s done held stuck) number service refl refl refl)
    ∙ ap (λ b. is_some (requirement s number service) && not b) (operations_same s done number service ends.all)

-- ---- integrity blocks that can't be read

not_not : (b : Bool) → not (not b) ≡ b
not_not true = refl
not_not false = refl

open_is : (s : Situation) (done : List OpId) (held : List Held) (stuck : List ℕ) (number : ℕ) → Ends s done held stuck → not (has stuck number) ≡ is_open s number
open_is s done held stuck number ends = ap not (ends.stuck_is number) ∙ not_not (is_open s number)

fault_if : (s : Situation) (held : List Held) (block : Block) (b : Bool) → (eqb block.kind 11 && is_open s block.number) ≡ b → block_at (plain s).blocks block.number ≡ Some block → find_held held block.number ≡ plain_held s block.number
    → cond b (fault_by_held (find_held held block.number)) None ≡ cond b (fault_by (read_body block.body)) None
fault_if s held block true is at same =
    let h = both (eqb block.kind 11) (is_open s block.number) is in
    ap fault_by_held (same ∙ held_block s block.number block at (or_left (eqb block.kind 11) (eqb block.kind 12) h.0) h.1)
fault_if s held block false is at same = refl

pub fault_of_is : (s : Situation) (done : List OpId) (held : List Held) (stuck : List ℕ) (block : Block) → Ends s done held stuck → Among block (plain s).blocks → fault_of (ended s done held stuck) block ≡ fault_in s block
fault_of_is s done held stuck block ends there =
    ap (λ b. cond (eqb block.kind 11 && b) (fault_by_held (find_held held block.number)) None) (open_is s done held stuck block.number ends)
    ∙ fault_if s held block (eqb block.kind 11 && is_open s block.number) refl (plain_is_at s block ends.shape.distinct there) (ends.held_is block.number)

-- ---- places

both_equal : (o p : Ordering) → ordering_then o p ≡ Equal → (o ≡ Equal) × (p ≡ Equal)
both_equal Less p e = absurd cc
both_equal Equal p e = (refl, e)
both_equal Greater p e = absurd cc

same_rank : (a b : Service) → rank a ≡ rank b → a ≡ b
same_rank Bib Bib e = refl
same_rank Bib Bcb e = absurd cc
same_rank Bcb Bib e = absurd cc
same_rank Bcb Bcb e = refl

pub place_cmp_exact : CmpEqualImpliesEq place_cmp
place_cmp_exact a b e =
    let first = both_equal (nat_cmp a.target b.target) (ordering_then (nat_cmp (rank a.service) (rank b.service)) (nat_cmp a.block b.block)) e in
    let second = both_equal (nat_cmp (rank a.service) (rank b.service)) (nat_cmp a.block b.block) first.1 in
    let target : a.target ≡ b.target = exact_unsigned _ _ first.0 in
    let service : a.service ≡ b.service = same_rank a.service b.service (exact_unsigned _ _ second.0) in
    let block : a.block ≡ b.block = exact_unsigned _ _ second.1 in
    ap (λ (n : ℕ). record { target = n; service = a.service; block = a.block }) target
    ∙ ap (λ (x : Service). record { target = b.target; service = x; block = a.block }) service
    ∙ ap (λ (n : ℕ). record { target = b.target; service = b.service; block = n }) block

pub place_cmp_total : IsTotalOrder place_cmp
place_cmp_total = search (comparing, rules)

-- the set of a list in order depends on its members alone
pub same_set : (xs ys : List Place) → ((p : Place) → Among p xs → Among p ys) → ((p : Place) → Among p ys → Among p xs) → fold (insert_key place_cmp) [] xs ≡ fold (insert_key place_cmp) [] ys
same_set xs ys to from =
    same_sorted place_cmp place_cmp_total (fold (insert_key place_cmp) [] xs) (fold (insert_key place_cmp) [] ys)
    (sorted_set place_cmp place_cmp_total xs [] (sorted_none place_cmp)) (sorted_set place_cmp place_cmp_total ys [] (sorted_none place_cmp))
    (λ p there. elim (from-set place_cmp xs [] p there) [ inl none ↦ absurd none | inr h ↦ among-set place_cmp place_cmp_exact ys [] p (to p h) ])
    (λ p there. elim (from-set place_cmp ys [] p there) [ inl none ↦ absurd none | inr h ↦ among-set place_cmp place_cmp_exact xs [] p (from p h) ])

map_within : {A B : Type 0} (f : A → B) (xs ys : List A) → ((x : A) → Among x xs → Among x ys) → (y : B) → Among y (map f xs) → Among y (map f ys)
map_within f xs ys within y there = let m = from-map f xs y there in among-map f ys m.0 y (within m.0 m.1) m.2

broken_list : (s : Situation) (done : List OpId) (held : List Held) (stuck : List ℕ) → Ends s done held stuck
    → map broken_place (filter (λ (block : Block). is_some (fault_of (ended s done held stuck) block)) (plain s).blocks) ≡ broken_places s (plain s).blocks
broken_list s done held stuck ends =
    ap (map broken_place) (filter_members (λ (block : Block). is_some (fault_of (ended s done held stuck) block)) (λ (block : Block). is_some (fault_in s block)) (plain s).blocks (λ block there. ap is_some (fault_of_is s done held stuck block ends there)))

missing_list_at : (s : Situation) (done : List OpId) (held : List Held) (stuck : List ℕ) (number : ℕ) (service : Service) → Ends s done held stuck → missing_place (ended s done held stuck) number service ≡ missing_at s number service
missing_list_at s done held stuck number service ends = ap (λ b. cond b (record { target = number; service = service; block = 0 } ∷ []) []) (missing_in_is s done held stuck number service ends)

numbers_plain : (s : Situation) (blocks : List Block) → map (λ (block : Block). block.number) (map (plain_block s) blocks) ≡ map (λ (block : Block). block.number) blocks
numbers_plain s [] = refl
numbers_plain s (block ∷ blocks) = ap (λ (n : ℕ). n ∷ map (λ (b : Block). b.number) (map (plain_block s) blocks)) (plain_number s block) ∙ ap (λ (ns : List ℕ). block.number ∷ ns) (numbers_plain s blocks)

plain_numbers : (s : Situation) → map (λ (block : Block). block.number) (plain s).blocks ≡ map (λ (block : Block). block.number) s.bundle.blocks
unfolding plain
plain_numbers s = numbers_plain s s.bundle.blocks

missing_list : (s : Situation) (done : List OpId) (held : List Held) (stuck : List ℕ) → Ends s done held stuck
    → flat_map (λ number. missing_place (ended s done held stuck) number Bib ++ missing_place (ended s done held stuck) number Bcb) (0 ∷ map (λ (block : Block). block.number) (plain s).blocks) ≡ missing_places s
missing_list s done held stuck ends =
    let k = ended s done held stuck in
    flat_agrees (λ number. missing_place k number Bib ++ missing_place k number Bcb) (λ number. missing_at s number Bib ++ missing_at s number Bcb) (0 ∷ map (λ (block : Block). block.number) (plain s).blocks)
    (λ number there. ap (λ ps. ps ++ missing_place k number Bcb) (missing_list_at s done held stuck number Bib ends) ∙ ap (λ ps. missing_at s number Bib ++ ps) (missing_list_at s done held stuck number Bcb ends))
    ∙ ap (λ ns. flat_map (λ number. missing_at s number Bib ++ missing_at s number Bcb) (0 ∷ ns)) (plain_numbers s)

front_within : {A : Type 0} (xs ys zs : List A) → ((x : A) → Among x xs → Among x ys) → (x : A) → Among x (xs ++ zs) → Among x (ys ++ zs)
front_within xs ys zs within x there = elim (among-append xs zs x there) [ inl h ↦ among-left ys zs x (within x h) | inr h ↦ among-right ys zs x h ]

pub places_in_is : (s : Situation) (done : List OpId) (held : List Held) (stuck : List ℕ) → Ends s done held stuck → places_in (ended s done held stuck) ≡ places s
unfolding places_in places
places_in_is s done held stuck ends =
    let k = ended s done held stuck in
    let rest = broken_places s (plain s).blocks ++ missing_places s in
    ap (λ broken. fold (insert_key place_cmp) [] (map place_of done ++ (broken ++ flat_map (λ number. missing_place k number Bib ++ missing_place k number Bcb) (0 ∷ map (λ (block : Block). block.number) (plain s).blocks)))) (broken_list s done held stuck ends)
    ∙ ap (λ missing. fold (insert_key place_cmp) [] (map place_of done ++ (broken_places s (plain s).blocks ++ missing))) (missing_list s done held stuck ends)
    ∙ same_set (map place_of done ++ rest) (map place_of (all_operations s) ++ rest)
    (front_within (map place_of done) (map place_of (all_operations s)) rest (map_within place_of done (all_operations s) (λ o there. done_to_all s done o (ends.all o) there)))
    (front_within (map place_of (all_operations s)) (map place_of done) rest (map_within place_of (all_operations s) done (λ o there. all_to_done s done o (ends.all o) there)))

-- ---- events

pub action_in_is : (s : Situation) (done : List OpId) (held : List Held) (stuck : List ℕ) (op : OpId) → Ends s done held stuck → Among op (all_operations s)
    → action_in (ended s done held stuck) op (verdict_in (ended s done held stuck) op) ≡ action_by (rule s op) (is_floored (role s op) op.service) op.target (verdict s op)
unfolding action_in
action_in_is s done held stuck op ends there =
    let k = ended s done held stuck in
    let verdicts = map (step_verdict s) done in
    ap (λ r. action_by r (is_floored (role_in k op) op.service) op.target (verdict_in k op)) (rule_in_is s done held stuck verdicts op ends.shape.distinct (ends.held_is op.block) there)
    ∙ ap (λ r. action_by (rule s op) (is_floored r op.service) op.target (verdict_in k op)) (role_in_is s done held stuck verdicts op ends.shape.distinct (ends.held_is op.block) there)
    ∙ ap (λ v. action_by (rule s op) (is_floored (role s op) op.service) op.target v) (verdict_in_is s done held stuck op ends there)

pub operation_event_in_is : (s : Situation) (done : List OpId) (held : List Held) (stuck : List ℕ) (op : OpId) → Ends s done held stuck → Among op (all_operations s) → operation_event_in (ended s done held stuck) op ≡ operation_event s op
unfolding operation_event_in operation_event
operation_event_in_is s done held stuck op ends there =
    let k = ended s done held stuck in
    let Made : Verdict → List ℕ → Action → Event = λ v name action. record { target = op.target; service = op.service; block = op.block; verdict = v; rule = name; action = action } in
    ap (λ v. Made v (rule_in k op).name (action_in k op (verdict_in k op))) (verdict_in_is s done held stuck op ends there)
    ∙ ap (λ (r : Rule). Made (verdict s op) r.name (action_in k op (verdict_in k op))) (rule_in_is s done held stuck (map (step_verdict s) done) op ends.shape.distinct (ends.held_is op.block) there)
    ∙ ap (λ action. Made (verdict s op) (rule s op).name action) (action_in_is s done held stuck op ends there)

fault_at_is : (s : Situation) (done : List OpId) (held : List Held) (stuck : List ℕ) (number : ℕ) (at : Option Block) → Ends s done held stuck → block_at (plain s).blocks number ≡ at → fault_at_in (ended s done held stuck) at ≡ fault_at s at
fault_at_is s done held stuck number None ends is = refl
fault_at_is s done held stuck number (Some block) ends is = fault_of_is s done held stuck block ends (block_at_number (plain s).blocks number block is).0

broken_event_in_is : (s : Situation) (done : List OpId) (held : List Held) (stuck : List ℕ) (place : Place) → Ends s done held stuck → broken_event_in (ended s done held stuck) place ≡ broken_event s place
unfolding broken_event_in broken_event
broken_event_in_is s done held stuck place ends =
    ap (λ fault. record { target = place.target; service = place.service; block = place.block; verdict = reason_by fault; rule = codes "broken"; action = s.policy.broken })
    (fault_at_is s done held stuck place.block (block_at (plain s).blocks place.block) ends refl)

missing_event_in_is : (s : Situation) (done : List OpId) (held : List Held) (stuck : List ℕ) (place : Place) → missing_event_in (ended s done held stuck) place ≡ missing_event s place
unfolding missing_event_in missing_event
missing_event_in_is s done held stuck place =
    ap (λ r. record { target = place.target; service = place.service; block = place.block; verdict = Missing; rule = name_by r; action = missing_by r })
    (requirement_in_is s (ended s done held stuck) place.target place.service refl refl refl)

event_in_if : (s : Situation) (done : List OpId) (held : List Held) (stuck : List ℕ) (place : Place) (b : Bool) → Ends s done held stuck → is_among (all_operations s) (op_at place) ≡ b
    → cond b (operation_event_in (ended s done held stuck) (op_at place)) (broken_event_in (ended s done held stuck) place) ≡ cond b (operation_event s (op_at place)) (broken_event s place)
event_in_if s done held stuck place true ends there = operation_event_in_is s done held stuck (op_at place) ends (from_is_among (all_operations s) (op_at place) there)
event_in_if s done held stuck place false ends there = broken_event_in_is s done held stuck place ends

pub event_in_is : (s : Situation) (done : List OpId) (held : List Held) (stuck : List ℕ) (place : Place) → Ends s done held stuck → event_in (ended s done held stuck) place ≡ event_at s place
unfolding event_in event_at
event_in_is s done held stuck place ends =
    let k = ended s done held stuck in
    ap (λ e. cond (eqb place.block 0) e (cond (is_among done (op_at place)) (operation_event_in k (op_at place)) (broken_event_in k place))) (missing_event_in_is s done held stuck place)
    ∙ ap (λ b. cond (eqb place.block 0) (missing_event s place) (cond b (operation_event_in k (op_at place)) (broken_event_in k place))) (ends.all (op_at place))
    ∙ ap (λ e. cond (eqb place.block 0) (missing_event s place) e) (event_in_if s done held stuck place (is_among (all_operations s) (op_at place)) ends refl)

pub events_in_are : (s : Situation) (done : List OpId) (held : List Held) (stuck : List ℕ) → Ends s done held stuck → events_in (ended s done held stuck) ≡ events s
unfolding events_in events
events_in_are s done held stuck ends =
    ap (map (event_in (ended s done held stuck))) (places_in_is s done held stuck ends)
    ∙ map_agree (event_in (ended s done held stuck)) (event_at s) (λ place. event_in_is s done held stuck place ends) (places s)

-- ---- what remains

dropped_in_is : (s : Situation) (done : List OpId) (held : List Held) (stuck : List ℕ) (op : OpId) → Ends s done held stuck → Among op (all_operations s) → is_dropped_in (ended s done held stuck) (events s) op ≡ is_dropped s op
unfolding is_dropped_in is_dropped operation_event
dropped_in_is s done held stuck op ends there =
    let k = ended s done held stuck in
    let Made : Role → Verdict → Action → Bool = λ r v a. (is_acceptor r && is_passed v) || ((lacks_target v && is_remove a) || is_removed (events s) op.target) in
    ap (λ r. Made r (verdict_in k op) (action_in k op (verdict_in k op))) (role_in_is s done held stuck (map (step_verdict s) done) op ends.shape.distinct (ends.held_is op.block) there)
    ∙ ap (λ a. Made (role s op) (verdict_in k op) a) (action_in_is s done held stuck op ends there)
    ∙ ap (λ v. Made (role s op) v (action_by (rule s op) (is_floored (role s op) op.service) op.target (verdict s op))) (verdict_in_is s done held stuck op ends there)

remaining_read_is : (s : Situation) (done : List OpId) (held : List Held) (stuck : List ℕ) (block : Block) (service : Service) (read : Result Asb Fault) → Ends s done held stuck
    → ((target : ℕ) → Among target (targets_of read) → Among (operation service block.number target) (all_operations s)) → remaining_read (ended s done held stuck) (events s) block service read ≡ remaining_asb s block service read
remaining_read_is s done held stuck block service (Err fault) ends within = refl
remaining_read_is s done held stuck block service (Ok asb) ends within =
    ap (λ (left : Asb). with_targets block left left.targets)
    (without_same (λ target. is_dropped_in (ended s done held stuck) (events s) (operation service block.number target)) (λ target. is_dropped s (operation service block.number target)) asb
    (λ target there. dropped_in_is s done held stuck (operation service block.number target) ends (within target there)))

remaining_if : (s : Situation) (done : List OpId) (held : List Held) (stuck : List ℕ) (block : Block) (bib bcb : Bool) → Ends s done held stuck → Among block (plain s).blocks
    → (eqb block.kind 11 && is_open s block.number) ≡ bib → eqb block.kind 12 ≡ bcb
    → cond bib (remaining_held (ended s done held stuck) (events s) block Bib (find_held held block.number)) (cond bcb (remaining_held (ended s done held stuck) (events s) block Bcb (find_held held block.number)) (block ∷ []))
    ≡ cond bib (remaining_asb s block Bib (read_body block.body)) (cond bcb (remaining_asb s block Bcb (read_body block.body)) (block ∷ []))
unfolding is_open
remaining_if s done held stuck block true bcb ends there is12 is11 =
    let h = both (eqb block.kind 11) (is_open s block.number) is12 in
    let at = plain_is_at s block ends.shape.distinct there in
    ap (remaining_held (ended s done held stuck) (events s) block Bib) (ends.held_is block.number ∙ held_block s block.number block at (or_left (eqb block.kind 11) (eqb block.kind 12) h.0) h.1)
    ∙ remaining_read_is s done held stuck block Bib (read_body block.body) ends (λ target listed. open_bib_among s block target ends.shape.distinct there h.0 h.1 listed)
remaining_if s done held stuck block false true ends there bib kind =
    let at = plain_is_at s block ends.shape.distinct there in
    let from = from_plain s block there in
    let kind' : eqb from.0.kind 12 ≡ true = ap (λ n. eqb n 12) (sym (plain_kind s from.0) ∙ ap (λ (b : Block). b.kind) from.2) ∙ kind in
    let number : from.0.number ≡ block.number = sym (plain_number s from.0) ∙ ap (λ (b : Block). b.number) from.2 in
    let free : cover s.bundle.blocks block.number ≡ None = subst (λ n. cover s.bundle.blocks n ≡ None) number (bcb_uncovered s.bundle.blocks from.0 (at_itself s.bundle.blocks from.0 ends.shape.distinct from.1) kind') in
    let open_here : is_open s block.number ≡ true = ap (λ (c : Option OpId). not (is_some c) || is_opened s block.number) free in
    ap (remaining_held (ended s done held stuck) (events s) block Bcb) (ends.held_is block.number ∙ held_block s block.number block at (or_right (eqb block.kind 11) (eqb block.kind 12) kind) open_here)
    ∙ remaining_read_is s done held stuck block Bcb (read_body block.body) ends (λ target listed. bcb_among s block target ends.shape.distinct there kind listed)
remaining_if s done held stuck block false false ends there bib bcb = refl

pub remaining_in_is : (s : Situation) (done : List OpId) (held : List Held) (stuck : List ℕ) (block : Block) → Ends s done held stuck → Among block (plain s).blocks → remaining_in (ended s done held stuck) (events s) block ≡ remaining s block
unfolding remaining_in remaining
remaining_in_is s done held stuck block ends there =
    let k = ended s done held stuck in
    ap (λ b. cond (is_removed (events s) block.number) [] (cond (eqb block.kind 11 && b) (remaining_held k (events s) block Bib (find_held held block.number)) (cond (eqb block.kind 12) (remaining_held k (events s) block Bcb (find_held held block.number)) (block ∷ [])))) (open_is s done held stuck block.number ends)
    ∙ ap (λ bs. cond (is_removed (events s) block.number) [] bs) (remaining_if s done held stuck block (eqb block.kind 11 && is_open s block.number) (eqb block.kind 12) ends there refl refl)

pub blocks_in_are : (s : Situation) (done : List OpId) (held : List Held) (stuck : List ℕ) → Ends s done held stuck → blocks_in (ended s done held stuck) (events s) ≡ (resulting s).blocks
unfolding blocks_in resulting
blocks_in_are s done held stuck ends =
    flat_agrees (remaining_in (ended s done held stuck) (events s)) (remaining s) (plain s).blocks (λ block there. remaining_in_is s done held stuck block ends there)
