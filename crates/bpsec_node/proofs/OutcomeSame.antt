-- Events and outcome where the keys of all operations agree.
use Rattle.std.proofs.Common.{◌≡◌, ℕ, inl, inr, Bool, true, false, ◌&&◌, ◌||◌, not, cond, eqb, List, [], ◌∷◌, ◌++◌, map, Option, Some, None, Result, Ok, Err, refl, sym, ◌∙◌, ap, subst}
use Rattle.std.specs.Prelude.{filter, is_some, fold, codes}
use Rattle.std.specs.List.{flat_map}
use Rattle.std.specs.BTreeSet.{insert_key}
use Rattle.std.proofs.lemmas.Bool.{eqb-true}
use Rattle.cbor_profile.specs.declared.fault.Fault.{Fault}
use Rattle.bp_blocks.specs.declared.block.Block.{Block}
use Rattle.bp_bundle.specs.Shape.{Contents}
use Rattle.bpsec_asb.specs.declared.asb.Asb.{Asb}
use Rattle.bpsec_asb.specs.declared.asb.Pair.{Pair}
use Rattle.bpsec_asb.specs.declared.operation.Service.{Service}
use Rattle.bpsec_asb.specs.declared.operation.Service.TheVariants.{Bib, Bcb}
use Rattle.bpsec_asb.specs.declared.operation.OpId.{OpId}
use Rattle.bpsec_asb.specs.Operations.{NumbersAreDistinct}
use Rattle.bpsec_asb.specs.Reading.{read_body}
use Rattle.bpsec_asb.specs.Known.{operation, held_by, ciphers, targets_of}
use Rattle.bpsec_asb.proofs.Members.{Among, among-map, from-map, from-filter, among-flat_map}
use Rattle.bpsec_policy.specs.declared.rule.Rule.{Rule}
use Rattle.bpsec_policy.specs.declared.rule.Role.{Role}
use Rattle.bpsec_node.specs.declared.event.Event.{Event}
use Rattle.bpsec_node.specs.declared.event.Verdict.{Verdict}
use Rattle.bpsec_node.specs.declared.place.Place.{Place}
use Rattle.bpsec_node.specs.Situation.{Situation, is_among}
use Rattle.bpsec_node.specs.Agree.{with_keys, Agree}
use Rattle.bpsec_node.specs.Site.{block_at}
use Rattle.bpsec_node.specs.Plain.{may_be_covered, covers, cover, is_acceptor, plain_block, plain}
use Rattle.bpsec_node.specs.AllOperations.{all_operations, is_open}
use Rattle.bpsec_node.specs.Verdict.{verdict, rule, role}
use Rattle.bpsec_node.specs.Events.{is_floored, action_by, requirement, has_operation, is_missing, place_cmp, place_of, op_at, fault_by, fault_in, broken_places, missing_at, missing_places, places, operation_event, reason_by, fault_at, broken_event, missing_event, event_at, events}
use Rattle.bpsec_node.specs.Outcome.{is_remove, lacks_target, is_removed, is_discarded, is_passed, is_dropped, results_without, without, with_targets, remaining_asb, remaining_kind, remaining, resulting, outcome}
use Rattle.bpsec_node.specs.Session.{has, applies_to, is_operation}
use Rattle.bpsec_node.proofs.Members.{both, both_true, from_is_among, all_known, known_cipher}
use Rattle.bpsec_node.proofs.Agree.{plain_number, plain_kind, rule_same, role_same}
use Rattle.bpsec_node.proofs.OutcomeKeys.{all_settled, map_agree, filter_agrees, plain_same, open_same, all_same, all_verdict_same}
use Rattle.bpsec_node.proofs.Operations.{at_itself, none_finds, plain_at_itself, plain_uncovered, has_from, among_if_operation}

-- ---- places

fault_in_same : (s : Situation) (key : OpId → Option (List ℕ)) (block : Block) → Agree s key (all_operations s) → fault_in s block ≡ fault_in (with_keys s key) block
fault_in_same s key block agree = ap (λ b. cond (eqb block.kind 11 && b) (fault_by (read_body block.body)) None) (open_same s key block.number agree)

broken_same : (s : Situation) (key : OpId → Option (List ℕ)) (blocks : List Block) → Agree s key (all_operations s) → broken_places s blocks ≡ broken_places (with_keys s key) blocks
broken_same s key blocks agree =
    ap (map (λ (block : Block). record { target = block.number; service = Bib; block = block.number }))
    (filter_agrees (λ (block : Block). is_some (fault_in s block)) (λ (block : Block). is_some (fault_in (with_keys s key) block)) (λ block. ap is_some (fault_in_same s key block agree)) blocks)

missing_same : (s : Situation) (key : OpId → Option (List ℕ)) (number : ℕ) (service : Service) → Agree s key (all_operations s) → is_missing s number service ≡ is_missing (with_keys s key) number service
unfolding is_missing requirement
missing_same s key number service agree = ap (λ ops. is_some (requirement s number service) && not (has_operation ops number service)) (all_same s key agree)

missing_at_same : (s : Situation) (key : OpId → Option (List ℕ)) (number : ℕ) (service : Service) → Agree s key (all_operations s) → missing_at s number service ≡ missing_at (with_keys s key) number service
missing_at_same s key number service agree = ap (λ b. cond b (record { target = number; service = service; block = 0 } ∷ []) []) (missing_same s key number service agree)

pub flat_agrees : {A B : Type 0} (f g : A → List B) (xs : List A) → ((x : A) → Among x xs → f x ≡ g x) → flat_map f xs ≡ flat_map g xs
flat_agrees f g [] same = refl
flat_agrees f g (x ∷ xs) same = ap (λ ys. ys ++ flat_map f xs) (same x (inl refl)) ∙ ap (λ ys. g x ++ ys) (flat_agrees f g xs (λ y there. same y (inr there)))

missing_places_same : (s : Situation) (key : OpId → Option (List ℕ)) → Agree s key (all_operations s) → missing_places s ≡ missing_places (with_keys s key)
missing_places_same s key agree =
    flat_agrees (λ number. missing_at s number Bib ++ missing_at s number Bcb) (λ number. missing_at (with_keys s key) number Bib ++ missing_at (with_keys s key) number Bcb)
    (0 ∷ map (λ (block : Block). block.number) s.bundle.blocks)
    (λ number there. ap (λ places. places ++ missing_at s number Bcb) (missing_at_same s key number Bib agree) ∙ ap (λ places. missing_at (with_keys s key) number Bib ++ places) (missing_at_same s key number Bcb agree))

pub places_same : (s : Situation) (key : OpId → Option (List ℕ)) → Agree s key (all_operations s) → places s ≡ places (with_keys s key)
unfolding places
places_same s key agree =
    let s' = with_keys s key in
    ap (λ ops. fold (insert_key place_cmp) [] (map place_of ops ++ (broken_places s (plain s).blocks ++ missing_places s))) (all_same s key agree)
    ∙ ap (λ (b : Contents). fold (insert_key place_cmp) [] (map place_of (all_operations s') ++ (broken_places s b.blocks ++ missing_places s))) (plain_same s key agree)
    ∙ ap (λ broken. fold (insert_key place_cmp) [] (map place_of (all_operations s') ++ (broken ++ missing_places s))) (broken_same s key (plain s').blocks agree)
    ∙ ap (λ missing. fold (insert_key place_cmp) [] (map place_of (all_operations s') ++ (broken_places s' (plain s').blocks ++ missing))) (missing_places_same s key agree)

-- ---- events

pub operation_event_same : (s : Situation) (key : OpId → Option (List ℕ)) (op : OpId) → Agree s key (all_operations s) → Among op (all_operations s) → operation_event s op ≡ operation_event (with_keys s key) op
unfolding operation_event
operation_event_same s key op agree there =
    let s' = with_keys s key in
    let Made : Rule → Role → Verdict → Event = λ r o v. record { target = op.target; service = op.service; block = op.block; verdict = v; rule = r.name; action = action_by r (is_floored o op.service) op.target v } in
    ap (λ r. Made r (role s op) (verdict s op)) (rule_same s key op (all_settled s key op agree))
    ∙ ap (λ o. Made (rule s' op) o (verdict s op)) (role_same s key op (all_settled s key op agree))
    ∙ ap (λ v. Made (rule s' op) (role s' op) v) (all_verdict_same s key op agree there)

fault_at_same : (s : Situation) (key : OpId → Option (List ℕ)) (block : Option Block) → Agree s key (all_operations s) → fault_at s block ≡ fault_at (with_keys s key) block
fault_at_same s key None agree = refl
fault_at_same s key (Some block) agree = fault_in_same s key block agree

broken_event_same : (s : Situation) (key : OpId → Option (List ℕ)) (place : Place) → Agree s key (all_operations s) → broken_event s place ≡ broken_event (with_keys s key) place
unfolding broken_event
broken_event_same s key place agree =
    let Made : Option Fault → Event = λ fault. record { target = place.target; service = place.service; block = place.block; verdict = reason_by fault; rule = codes "broken"; action = s.policy.broken } in
    ap (λ (b : Contents). Made (fault_at s (block_at b.blocks place.block))) (plain_same s key agree)
    ∙ ap Made (fault_at_same s key (block_at (plain (with_keys s key)).blocks place.block) agree)

missing_event_same : (s : Situation) (key : OpId → Option (List ℕ)) (place : Place) → missing_event s place ≡ missing_event (with_keys s key) place
unfolding missing_event requirement
missing_event_same s key place = refl

event_if : (s : Situation) (key : OpId → Option (List ℕ)) (place : Place) (b : Bool) → Agree s key (all_operations s) → is_among (all_operations s) (op_at place) ≡ b
    → cond b (operation_event s (op_at place)) (broken_event s place) ≡ cond b (operation_event (with_keys s key) (op_at place)) (broken_event (with_keys s key) place)
event_if s key place true agree there = operation_event_same s key (op_at place) agree (from_is_among (all_operations s) (op_at place) there)
event_if s key place false agree there = broken_event_same s key place agree

pub event_at_same : (s : Situation) (key : OpId → Option (List ℕ)) (place : Place) → Agree s key (all_operations s) → event_at s place ≡ event_at (with_keys s key) place
unfolding event_at
event_at_same s key place agree =
    let s' = with_keys s key in
    ap (λ e. cond (eqb place.block 0) e (cond (is_among (all_operations s) (op_at place)) (operation_event s (op_at place)) (broken_event s place))) (missing_event_same s key place)
    ∙ ap (λ e. cond (eqb place.block 0) (missing_event s' place) e) (event_if s key place (is_among (all_operations s) (op_at place)) agree refl)
    ∙ ap (λ ops. cond (eqb place.block 0) (missing_event s' place) (cond (is_among ops (op_at place)) (operation_event s' (op_at place)) (broken_event s' place))) (all_same s key agree)

-- the events depend on the keys of all operations alone
pub events_same : (s : Situation) (key : OpId → Option (List ℕ)) → Agree s key (all_operations s) → events s ≡ events (with_keys s key)
unfolding events
events_same s key agree =
    ap (map (event_at s)) (places_same s key agree) ∙ map_agree (event_at s) (event_at (with_keys s key)) (λ place. event_at_same s key place agree) (places (with_keys s key))

-- ---- what is dropped

pub dropped_same : (s : Situation) (key : OpId → Option (List ℕ)) (op : OpId) → Agree s key (all_operations s) → Among op (all_operations s) → is_dropped s op ≡ is_dropped (with_keys s key) op
unfolding is_dropped
dropped_same s key op agree there =
    let s' = with_keys s key in
    let Made : Role → Verdict → Event → List Event → Bool = λ o v e es. (is_acceptor o && is_passed v) || ((lacks_target v && is_remove e.action) || is_removed es op.target) in
    ap (λ o. Made o (verdict s op) (operation_event s op) (events s)) (role_same s key op (all_settled s key op agree))
    ∙ ap (λ v. Made (role s' op) v (operation_event s op) (events s)) (all_verdict_same s key op agree there)
    ∙ ap (λ e. Made (role s' op) (verdict s' op) e (events s)) (operation_event_same s key op agree there)
    ∙ ap (λ es. Made (role s' op) (verdict s' op) (operation_event s' op) es) (events_same s key agree)

-- ---- what remains

pub filter_members : {A : Type 0} (p q : A → Bool) (xs : List A) → ((x : A) → Among x xs → p x ≡ q x) → filter p xs ≡ filter q xs
filter_members p q [] same = refl
filter_members p q (x ∷ xs) same = ap (λ b. cond b (x ∷ filter p xs) (filter p xs)) (same x (inl refl)) ∙ ap (λ ys. cond (q x) (x ∷ ys) ys) (filter_members p q xs (λ y there. same y (inr there)))

pub results_members : (p q : ℕ → Bool) (targets : List ℕ) (results : List (List Pair)) → ((n : ℕ) → Among n targets → p n ≡ q n) → results_without p targets results ≡ results_without q targets results
results_members p q [] results same = refl
results_members p q (target ∷ targets) [] same = refl
results_members p q (target ∷ targets) (result ∷ results) same =
    ap (λ b. cond b (results_without p targets results) (result ∷ results_without p targets results)) (same target (inl refl))
    ∙ ap (λ rest. cond (q target) rest (result ∷ rest)) (results_members p q targets results (λ n there. same n (inr there)))

pub without_same : (p q : ℕ → Bool) (asb : Asb) → ((n : ℕ) → Among n asb.targets → p n ≡ q n) → without p asb ≡ without q asb
unfolding without
without_same p q asb same =
    ap (λ targets. record asb { targets = targets; results = results_without p asb.targets asb.results }) (filter_members (λ n. not (p n)) (λ n. not (q n)) asb.targets (λ n there. ap not (same n there)))
    ∙ ap (λ results. record asb { targets = filter (λ n. not (q n)) asb.targets; results = results }) (results_members p q asb.targets asb.results same)

remaining_asb_same : (s : Situation) (key : OpId → Option (List ℕ)) (block : Block) (service : Service) (read : Result Asb Fault) → Agree s key (all_operations s)
    → ((target : ℕ) → Among target (targets_of read) → Among (operation service block.number target) (all_operations s)) → remaining_asb s block service read ≡ remaining_asb (with_keys s key) block service read
remaining_asb_same s key block service (Err fault) agree within = refl
remaining_asb_same s key block service (Ok asb) agree within =
    ap (λ (left : Asb). with_targets block left left.targets)
    (without_same (λ target. is_dropped s (operation service block.number target)) (λ target. is_dropped (with_keys s key) (operation service block.number target)) asb
    (λ target there. dropped_same s key (operation service block.number target) agree (within target there)))

-- ---- the operations of the blocks of the plain bundle

pub from_plain : (s : Situation) (block : Block) → Among block (plain s).blocks → (received : Block) × Among received s.bundle.blocks × (plain_block s received ≡ block)
unfolding plain
from_plain s block there = from-map (plain_block s) s.bundle.blocks block there

pub plain_is_at : (s : Situation) (block : Block) → NumbersAreDistinct s.bundle.blocks → Among block (plain s).blocks → block_at (plain s).blocks block.number ≡ Some block
plain_is_at s block distinct there =
    let from = from_plain s block there in
    let number : from.0.number ≡ block.number = sym (plain_number s from.0) ∙ ap (λ (b : Block). b.number) from.2 in
    subst (λ n. block_at (plain s).blocks n ≡ Some block) number (plain_at_itself s from.0 distinct from.1 ∙ ap Some from.2)

open_bib_is : (s : Situation) (block : Block) (target : ℕ) → NumbersAreDistinct s.bundle.blocks → Among block (plain s).blocks → eqb block.kind 11 ≡ true → is_open s block.number ≡ true
    → Among target (targets_of (read_body block.body)) → is_operation s (operation Bib block.number target) ≡ true
unfolding is_operation
open_bib_is s block target distinct there kind open_here listed =
    both_true (is_open s block.number) (applies_to (block_at (plain s).blocks block.number) target) open_here
    (ap (λ (at : Option Block). applies_to at target) (plain_is_at s block distinct there)
    ∙ both_true (eqb block.kind 11) (has (targets_of (read_body block.body)) target) kind (has_from (targets_of (read_body block.body)) target listed))

pub open_bib_among : (s : Situation) (block : Block) (target : ℕ) → NumbersAreDistinct s.bundle.blocks → Among block (plain s).blocks → eqb block.kind 11 ≡ true → is_open s block.number ≡ true
    → Among target (targets_of (read_body block.body)) → Among (operation Bib block.number target) (all_operations s)
open_bib_among s block target distinct there kind open_here listed =
    among_if_operation s (operation Bib block.number target) distinct (open_bib_is s block target distinct there kind open_here listed)

not_covered_at : (blocks : List Block) (block : Block) (op : OpId) (b : Bool) → eqb op.target block.number ≡ b → block_at blocks block.number ≡ Some block → eqb block.kind 12 ≡ true → may_be_covered (block_at blocks op.target) ≡ true → b ≡ false
not_covered_at blocks block op false is at kind may = refl
not_covered_at blocks block op true is at kind may =
    let target : op.target ≡ block.number = eqb-true _ _ is in
    let t : false ≡ true = sym (ap (λ n. may_be_covered (block_at blocks n)) target ∙ (ap may_be_covered at ∙ ap not kind)) ∙ may in
    absurd cc

-- a block confidentiality block isn't covered
pub bcb_uncovered : (blocks : List Block) (block : Block) → block_at blocks block.number ≡ Some block → eqb block.kind 12 ≡ true → cover blocks block.number ≡ None
unfolding cover covers
bcb_uncovered blocks block at kind =
    none_finds (λ (o : OpId). eqb o.target block.number) (filter (λ (o : OpId). may_be_covered (block_at blocks o.target)) (ciphers blocks))
    (λ op there. not_covered_at blocks block op (eqb op.target block.number) refl at kind (from-filter (λ (o : OpId). may_be_covered (block_at blocks o.target)) (ciphers blocks) op there).1)

bcb_held : (block : Block) (target : ℕ) → eqb block.kind 12 ≡ true → Among target (targets_of (read_body block.body)) → Among (operation Bcb block.number target) (held_by Bcb block)
bcb_held block target kind there =
    subst (λ b. Among (operation Bcb block.number target) (cond b (map (operation Bcb block.number) (targets_of (read_body block.body))) [])) (sym kind)
    (among-map (operation Bcb block.number) (targets_of (read_body block.body)) target (operation Bcb block.number target) there refl)

pub bcb_among : (s : Situation) (block : Block) (target : ℕ) → NumbersAreDistinct s.bundle.blocks → Among block (plain s).blocks → eqb block.kind 12 ≡ true
    → Among target (targets_of (read_body block.body)) → Among (operation Bcb block.number target) (all_operations s)
bcb_among s block target distinct there kind listed =
    let from = from_plain s block there in
    let kind' : eqb from.0.kind 12 ≡ true = ap (λ n. eqb n 12) (sym (plain_kind s from.0) ∙ ap (λ (b : Block). b.kind) from.2) ∙ kind in
    let same : from.0 ≡ block = sym (plain_uncovered s from.0 (bcb_uncovered s.bundle.blocks from.0 (at_itself s.bundle.blocks from.0 distinct from.1) kind')) ∙ from.2 in
    let there' : Among block s.bundle.blocks = subst (λ (b : Block). Among b s.bundle.blocks) same from.1 in
    all_known s (operation Bcb block.number target) (known_cipher s.bundle.blocks (operation Bcb block.number target)
    (among-flat_map (held_by Bcb) s.bundle.blocks block (operation Bcb block.number target) there' (bcb_held block target kind listed)))

-- ---- what remains of each block, and the outcome

remaining_kind_if : (s : Situation) (key : OpId → Option (List ℕ)) (block : Block) (bib bcb : Bool) → Agree s key (all_operations s)
    → (bib ≡ true → remaining_asb s block Bib (read_body block.body) ≡ remaining_asb (with_keys s key) block Bib (read_body block.body))
    → (bcb ≡ true → remaining_asb s block Bcb (read_body block.body) ≡ remaining_asb (with_keys s key) block Bcb (read_body block.body))
    → cond bib (remaining_asb s block Bib (read_body block.body)) (cond bcb (remaining_asb s block Bcb (read_body block.body)) (block ∷ []))
    ≡ cond bib (remaining_asb (with_keys s key) block Bib (read_body block.body)) (cond bcb (remaining_asb (with_keys s key) block Bcb (read_body block.body)) (block ∷ []))
remaining_kind_if s key block true bcb agree first second = first refl
remaining_kind_if s key block false true agree first second = second refl
remaining_kind_if s key block false false agree first second = refl

remaining_kind_same : (s : Situation) (key : OpId → Option (List ℕ)) (block : Block) → NumbersAreDistinct s.bundle.blocks → Among block (plain s).blocks → Agree s key (all_operations s) → remaining_kind s block ≡ remaining_kind (with_keys s key) block
remaining_kind_same s key block distinct there agree =
    remaining_kind_if s key block (eqb block.kind 11 && is_open s block.number) (eqb block.kind 12) agree
    (λ is. let parts = both (eqb block.kind 11) (is_open s block.number) is in
    remaining_asb_same s key block Bib (read_body block.body) agree (λ target listed. open_bib_among s block target distinct there parts.0 parts.1 listed))
    (λ is. remaining_asb_same s key block Bcb (read_body block.body) agree (λ target listed. bcb_among s block target distinct there is listed))
    ∙ ap (λ b. cond (eqb block.kind 11 && b) (remaining_asb (with_keys s key) block Bib (read_body block.body)) (cond (eqb block.kind 12) (remaining_asb (with_keys s key) block Bcb (read_body block.body)) (block ∷ []))) (open_same s key block.number agree)

remaining_same : (s : Situation) (key : OpId → Option (List ℕ)) (block : Block) → NumbersAreDistinct s.bundle.blocks → Among block (plain s).blocks → Agree s key (all_operations s) → remaining s block ≡ remaining (with_keys s key) block
unfolding remaining
remaining_same s key block distinct there agree =
    ap (λ es. cond (is_removed es block.number) [] (remaining_kind s block)) (events_same s key agree)
    ∙ ap (λ blocks. cond (is_removed (events (with_keys s key)) block.number) [] blocks) (remaining_kind_same s key block distinct there agree)

pub resulting_same : (s : Situation) (key : OpId → Option (List ℕ)) → NumbersAreDistinct s.bundle.blocks → Agree s key (all_operations s) → resulting s ≡ resulting (with_keys s key)
unfolding resulting
resulting_same s key distinct agree =
    let Made : List Block → Contents = λ blocks. record { primary = s.bundle.primary; blocks = blocks } in
    ap Made (flat_agrees (remaining s) (remaining (with_keys s key)) (plain s).blocks (λ block there. remaining_same s key block distinct there agree))
    ∙ ap (λ (b : Contents). Made (flat_map (remaining (with_keys s key)) b.blocks)) (plain_same s key agree)

-- events and bundle depend on the keys of all operations alone
pub outcome_same : (s : Situation) (key : OpId → Option (List ℕ)) → NumbersAreDistinct s.bundle.blocks → Agree s key (all_operations s) → outcome s ≡ outcome (with_keys s key)
unfolding outcome
outcome_same s key distinct agree =
    ap (λ es. record { events = es; bundle = cond (is_discarded es) None (Some (resulting s)) }) (events_same s key agree)
    ∙ ap (λ (b : Contents). record { events = events (with_keys s key); bundle = cond (is_discarded (events (with_keys s key))) None (Some b) }) (resulting_same s key distinct agree)
