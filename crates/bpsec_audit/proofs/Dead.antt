-- A rule of which `dead` is told never decides.
use Rattle.std.proofs.Common.{◌≡◌, ◌≢◌, ℕ, zero, suc, ℤ, Bool, true, false, not, ◌||◌, cond, eqb, inl, inr, ◌⊎◌, List, [], ◌∷◌, take, Option, Some, None, refl, sym, ◌∙◌, ap, subst}
use Rattle.std.specs.Prelude.{find, slice_get, is_some, remove, option_map, unwrap_or}
use Rattle.std.specs.Ordering.{int_eq}
use Rattle.std.specs.List.{list_any}
use Rattle.std.specs.Option.{option_or}
use Rattle.std.specs.Str.{bytes_eq}
use Rattle.std.proofs.lemmas.Bool.{false≢true, and_parts, and_from, not-true}
use Rattle.std.proofs.lemmas.Bool.Decides.{Decides-eqb, Decides-int_eq}
use Rattle.std.proofs.lemmas.Slice.Eq.{bytes_eq-Decides}
use Rattle.bp_eid.specs.declared.eid.Eid.{Eid}
use Rattle.bp_eid.specs.declared.eid.Eid.TheVariants.{Null, Dtn, Ipn}
use Rattle.bp_eid.specs.DtnText.{node_name}
use Rattle.bpsec_asb.specs.declared.operation.Service.{Service}
use Rattle.bpsec_asb.specs.declared.operation.Service.TheVariants.{Bib, Bcb}
use Rattle.bpsec_policy.specs.declared.rule.TargetKind.{TargetKind}
use Rattle.bpsec_policy.specs.declared.rule.TargetKind.TheVariants.{Primary, Kind}
use Rattle.bpsec_policy.specs.declared.rule.Patterns.{Patterns}
use Rattle.bpsec_policy.specs.declared.rule.RuleAt.{RuleAt}
use Rattle.bpsec_policy.specs.Rules.{Parts, same_service, same_id, same_node, same_kind, is_of_kinds, allows, matches, rule_of}
use Rattle.bpsec_audit.specs.Reach.{is_within, are_among, is_wider, match_nothing, wider_before, without}
use Rattle.bpsec_audit.specs.Rules.{dead_by, dead_lines}

-- ---- equal services, ids, nodes and kinds

services_same : (a b : Service) → same_service a b ≡ true → a ≡ b
services_same Bib Bib e = refl
services_same Bib Bcb e = absurd (false≢true e)
services_same Bcb Bib e = absurd (false≢true e)
services_same Bcb Bcb e = refl

ids_same : (a b : Eid) → same_id a b ≡ true → a ≡ b
ids_same Null Null e = refl
ids_same Null (Dtn u) e = absurd (false≢true e)
ids_same Null (Ipn n s) e = absurd (false≢true e)
ids_same (Dtn t) Null e = absurd (false≢true e)
ids_same (Dtn t) (Dtn u) e = ap Dtn ((bytes_eq-Decides t u).0 e)
ids_same (Dtn t) (Ipn n s) e = absurd (false≢true e)
ids_same (Ipn m r) Null e = absurd (false≢true e)
ids_same (Ipn m r) (Dtn u) e = absurd (false≢true e)
ids_same (Ipn m r) (Ipn n s) e =
    let w = and_parts (eqb m n) (eqb r s) e in
    let a : m ≡ n = (Decides-eqb m n).0 w.0 in
    let b : r ≡ s = (Decides-eqb r s).0 w.1 in
    cc

kinds_same : (a b : TargetKind) → same_kind a b ≡ true → a ≡ b
kinds_same Primary Primary e = refl
kinds_same Primary (Kind n) e = absurd (false≢true e)
kinds_same (Kind n) Primary e = absurd (false≢true e)
kinds_same (Kind n) (Kind m) e = ap Kind ((Decides-eqb n m).0 e)

nodes_same : (a b c : Eid) → same_node a b ≡ true → same_node b c ≡ true → same_node a c ≡ true
nodes_same Null Null c h k = absurd (false≢true h)
nodes_same Null (Dtn u) c h k = absurd (false≢true h)
nodes_same Null (Ipn n s) c h k = absurd (false≢true h)
nodes_same (Dtn t) Null c h k = absurd (false≢true h)
nodes_same (Dtn t) (Ipn n s) c h k = absurd (false≢true h)
nodes_same (Dtn t) (Dtn u) Null h k = absurd (false≢true k)
nodes_same (Dtn t) (Dtn u) (Ipn n s) h k = absurd (false≢true k)
nodes_same (Dtn t) (Dtn u) (Dtn v) h k =
    let a = and_parts (not (bytes_eq (node_name t) [])) (bytes_eq (node_name t) (node_name u)) h in
    let b = and_parts (not (bytes_eq (node_name u) [])) (bytes_eq (node_name u) (node_name v)) k in
    let one = (bytes_eq-Decides (node_name t) (node_name u)).0 a.1 in
    let other = (bytes_eq-Decides (node_name u) (node_name v)).0 b.1 in
    and_from (not (bytes_eq (node_name t) [])) (bytes_eq (node_name t) (node_name v)) a.0 ((bytes_eq-Decides (node_name t) (node_name v)).1 (one ∙ other))
nodes_same (Ipn m r) Null c h k = absurd (false≢true h)
nodes_same (Ipn m r) (Dtn u) c h k = absurd (false≢true h)
nodes_same (Ipn m r) (Ipn n s) Null h k = absurd (false≢true k)
nodes_same (Ipn m r) (Ipn n s) (Dtn u) h k = absurd (false≢true k)
nodes_same (Ipn m r) (Ipn n s) (Ipn o q) h k =
    (Decides-eqb m o).1 ((Decides-eqb m n).0 h ∙ (Decides-eqb n o).0 k)

-- the first node is one
node_itself : (a b : Eid) → same_node a b ≡ true → same_node b b ≡ true
node_itself Null Null h = absurd (false≢true h)
node_itself Null (Dtn u) h = absurd (false≢true h)
node_itself Null (Ipn n s) h = absurd (false≢true h)
node_itself (Dtn t) Null h = absurd (false≢true h)
node_itself (Dtn t) (Ipn n s) h = absurd (false≢true h)
node_itself (Dtn t) (Dtn u) h =
    let a = and_parts (not (bytes_eq (node_name t) [])) (bytes_eq (node_name t) (node_name u)) h in
    let same = (bytes_eq-Decides (node_name t) (node_name u)).0 a.1 in
    and_from (not (bytes_eq (node_name u) [])) (bytes_eq (node_name u) (node_name u)) (subst (λ (n : List ℕ). not (bytes_eq n []) ≡ true) same a.0) ((bytes_eq-Decides (node_name u) (node_name u)).1 refl)
node_itself (Ipn m r) Null h = absurd (false≢true h)
node_itself (Ipn m r) (Dtn u) h = absurd (false≢true h)
node_itself (Ipn m r) (Ipn n s) h = (Decides-eqb n n).1 refl

-- ---- patterns

within : {A : Type 0} (same : A → A → Bool) (test : A → Bool) (wide own : Option A) → is_within same wide own ≡ true
    → ((o w : A) → same o w ≡ true → test o ≡ true → test w ≡ true) → allows own test ≡ true → allows wide test ≡ true
within same test None own h k p = refl
within same test (Some w) None h k p = absurd (false≢true h)
within same test (Some w) (Some o) h k p = k o w h p

among : (kind : TargetKind) (own wide : List TargetKind) → are_among own wide ≡ true → list_any (same_kind kind) own ≡ true → list_any (same_kind kind) wide ≡ true
among kind [] wide h p = absurd (false≢true p)
among kind (k ∷ own) wide h p =
    let parts = and_parts (list_any (same_kind k) wide) (are_among own wide) h in
    go (same_kind kind k) refl parts.0 (among kind own wide parts.1)
  where
    go : (b : Bool) → same_kind kind k ≡ b → list_any (same_kind k) wide ≡ true → (list_any (same_kind kind) own ≡ true → list_any (same_kind kind) wide ≡ true)
        → list_any (same_kind kind) wide ≡ true
    go true e first later = subst (λ (one : TargetKind). list_any (same_kind one) wide ≡ true) (sym (kinds_same kind k e)) first
    go false e first later = later (subst (λ (b : Bool). (b || list_any (same_kind kind) own) ≡ true) e p)

targets_within : (target : Option TargetKind) (own wide : List TargetKind) → are_among own wide ≡ true → is_of_kinds target own ≡ true → is_of_kinds target wide ≡ true
targets_within None own wide h p = absurd (false≢true p)
targets_within (Some kind) own wide h p = among kind own wide h p

-- of a source and of its node together, the one that is there
source_or_node : (x : Eid) (source node : Option Eid) (wide : Option Eid) → is_within same_node wide (option_or source node) ≡ true
    → allows source (same_id x) ≡ true → allows node (same_node x) ≡ true → allows wide (same_node x) ≡ true
source_or_node x first second None h p q = refl
source_or_node x None None (Some w) h p q = absurd (false≢true h)
source_or_node x None (Some n) (Some w) h p q = nodes_same x n w q h
source_or_node x (Some s) second (Some w) h p q = subst (λ (one : Eid). same_node one w ≡ true) (sym (ids_same x s p)) h

wider_matches : (wide own : Patterns) (service : Service) (source : Eid) (context : ℤ) (target : Option TargetKind) → is_wider wide own ≡ true
    → matches own service source context target ≡ true → matches wide service source context target ≡ true
unfolding is_wider matches
wider_matches wide own service source context target h p =
    let a = and_parts _ _ h in
    let b = and_parts _ _ a.1 in
    let c = and_parts _ _ b.1 in
    let d = and_parts _ _ c.1 in
    let q = and_parts _ _ p in
    let r = and_parts _ _ q.1 in
    let s = and_parts _ _ r.1 in
    let t = and_parts _ _ s.1 in
    and_from _ _ (within same_service (same_service service) wide.service own.service a.0 (λ o w e f. subst (λ (one : Service). same_service service one ≡ true) (services_same o w e) f) q.0)
    (and_from _ _ (within same_id (same_id source) wide.source own.source b.0 (λ o w e f. subst (λ (one : Eid). same_id source one ≡ true) (ids_same o w e) f) r.0)
    (and_from _ _ (source_or_node source own.source own.source_node wide.source_node c.0 r.0 s.0)
    (and_from _ _ (within int_eq (int_eq context) wide.context own.context d.0 (λ o w e f. subst (λ (one : ℤ). int_eq context one ≡ true) ((Decides-int_eq o w).0 e) f) t.0)
    (within are_among (is_of_kinds target) wide.targets own.targets d.1 (λ o w e f. targets_within target o w e f) t.1))))

-- an endpoint of the node that the pattern asks for is there
node_there : (x : Eid) (node : Option Eid) → allows node (same_node x) ≡ true → allows node (λ n. same_node n n) ≡ true
node_there x None p = refl
node_there x (Some n) p = node_itself x n p

nothing_matches : (own : Patterns) (service : Service) (source : Eid) (context : ℤ) (target : Option TargetKind) → match_nothing own ≡ true
    → matches own service source context target ≡ true → ⊥
unfolding matches
nothing_matches own service source context target h p =
    let q = and_parts _ _ p in
    let r = and_parts _ _ q.1 in
    let s = and_parts _ _ r.1 in
    let there : allows own.source_node (λ n. same_node n n) ≡ true = node_there source own.source_node s.0 in
    false≢true (sym (not-true _ h) ∙ there)

-- ---- rules

-- what passes one test passes the other: where one finds a rule, the other does
found_too : (p q : RuleAt → Bool) (xs : List RuleAt) → ((x : RuleAt) → q x ≡ true → p x ≡ true) → is_some (find q xs) ≡ true → is_some (find p xs) ≡ true
found_too p q [] h e = e
found_too p q (x ∷ xs) h e = go (p x) (q x) refl refl (found_too p q xs h)
  where
    go : (b c : Bool) → p x ≡ b → q x ≡ c → (is_some (find q xs) ≡ true → is_some (find p xs) ≡ true) → is_some (find p (x ∷ xs)) ≡ true
    go true c is other later = rw is refl
    go false true is other later = absurd (false≢true (sym is ∙ h x other))
    go false false is other later = rw is (later (subst (λ (b : Bool). is_some (cond b (Some x) (find q xs)) ≡ true) other e))

-- a rule that doesn't match, or before which one does
never : (p : RuleAt → Bool) (xs : List RuleAt) (i : ℕ) (r : RuleAt) → slice_get xs i ≡ Some r → (p r ≡ false) ⊎ (is_some (find p (take i xs)) ≡ true)
    → find p (remove xs i) ≡ find p xs
never p [] i r e h = absurd cc
never p (x ∷ xs) zero r e (inl fails) =
    let same : x ≡ r = cc in
    rw (same, fails) refl
never p (x ∷ xs) zero r e (inr found) = absurd (false≢true found)
never p (x ∷ xs) (suc i) r e h = go (p x) refl h (never p xs i r e)
  where
    go : (b : Bool) → p x ≡ b → (p r ≡ false) ⊎ (is_some (find p (x ∷ take i xs)) ≡ true)
        → ((p r ≡ false) ⊎ (is_some (find p (take i xs)) ≡ true) → find p (remove xs i) ≡ find p xs) → find p (x ∷ remove xs i) ≡ find p (x ∷ xs)
    go true is h later = rw is refl
    go false is (inl fails) later = rw is (later (inl fails))
    go false is (inr found) later =
        rw is (later (inr (subst (λ (b : Bool). is_some (cond b (Some x) (find p (take i xs))) ≡ true) is found)))

told : (before : List RuleAt) (r : RuleAt) → dead_lines before r ≢ [] → (match_nothing r.patterns ≡ true) ⊎ (is_some (wider_before before r) ≡ true)
unfolding dead_lines dead_by
told before r nonempty = go (match_nothing r.patterns) (wider_before before r) refl refl
  where
    go : (b : Bool) (o : Option RuleAt) → match_nothing r.patterns ≡ b → wider_before before r ≡ o → (match_nothing r.patterns ≡ true) ⊎ (is_some (wider_before before r) ≡ true)
    go true o m w = inl m
    go false (Some x) m w = inr (rw w refl)
    go false None m w = absurd (nonempty (rw (m, w) refl))

pub dead_never : (policy : Parts) (i : ℕ) (r : RuleAt) → slice_get policy.rules i ≡ Some r → dead_lines (take i policy.rules) r ≢ []
    → (service : Service) (source : Eid) (context : ℤ) (target : Option TargetKind)
    → rule_of (without i policy) service source context target ≡ rule_of policy service source context target
dead_never policy i r at nonempty service source context target =
    ap (λ (o : Option RuleAt). unwrap_or (option_map (λ (one : RuleAt). one.rule) o) policy.default_rule) (same (p r) refl)
  where
    p : RuleAt → Bool
    p x = matches x.patterns service source context target

    same : (b : Bool) → p r ≡ b → find p (remove policy.rules i) ≡ find p policy.rules
    same false fails = never p policy.rules i r at (inl fails)
    same true passes = by (told (take i policy.rules) r nonempty)
      where
        by : (match_nothing r.patterns ≡ true) ⊎ (is_some (wider_before (take i policy.rules) r) ≡ true) → find p (remove policy.rules i) ≡ find p policy.rules
        by (inl nothing) = absurd (nothing_matches r.patterns service source context target nothing passes)
        by (inr found) = never p policy.rules i r at (inr (found_too p (λ x. is_wider x.patterns r.patterns) (take i policy.rules) (λ x wide. wider_matches x.patterns r.patterns service source context target wide passes) found))
