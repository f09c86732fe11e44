-- What the tests of patterns say, and which rule is found.
use Rattle.std.proofs.Common.{◌≡◌, ◌≢◌, ℕ, zero, suc, ◌<◌, Bool, true, false, not, ◌||◌, ◌&&◌, cond, eqb, inl, inr, ◌⊎◌, List, [], ◌∷◌, Option, Some, None, Decides, refl, sym, ◌∙◌, ap, subst, arith}
use Rattle.std.specs.Prelude.{IfSome, find, slice_get, option_map, unwrap_or}
use Rattle.std.specs.Ordering.{int_eq}
use Rattle.std.specs.List.{list_any}
use Rattle.std.specs.Str.{bytes_eq}
use Rattle.std.proofs.lemmas.Bool.{false≢true}
use Rattle.std.proofs.lemmas.Bool.Decides.{Decides-eqb, Decides-int_eq}
use Rattle.std.proofs.lemmas.Slice.Eq.{bytes_eq-Decides}
use Rattle.bp_eid.specs.declared.eid.Eid.{Eid}
use Rattle.bp_eid.specs.declared.eid.Eid.TheVariants.{Null, Dtn, Ipn}
use Rattle.bp_eid.specs.DtnText.{node_name}
use Rattle.bp_eid.specs.EndpointId.{SameNode}
use Rattle.bpsec_asb.specs.declared.operation.Service.{Service}
use Rattle.bpsec_asb.specs.declared.operation.Service.TheVariants.{Bib, Bcb}
use Rattle.bpsec_policy.specs.declared.rule.TargetKind.{TargetKind}
use Rattle.bpsec_policy.specs.declared.rule.TargetKind.TheVariants.{Primary, Kind}
use Rattle.bpsec_policy.specs.declared.rule.Patterns.{Patterns}
use Rattle.bpsec_policy.specs.declared.rule.Rule.{Rule}
use Rattle.bpsec_policy.specs.declared.rule.RuleAt.{RuleAt}
use Rattle.bpsec_policy.specs.Rules.{same_service, same_id, same_node, same_kind, is_of_kinds, allows, matches}
use Rattle.bpsec_policy.specs.Matching.{Operation, IsOneOf, Matches, IsFirst, NoneMatches}
use Rattle.bpsec_policy.proofs.Steps.{both_true, and_true}

-- ---- tests that decide

both : {P Q : Type 0} (a b : Bool) → Decides a P → Decides b Q → Decides (a && b) (P × Q)
both a b h k = (λ e. let p = both_true a b e in (h.0 p.0, k.0 p.1), λ w. and_true a b (h.1 w.0) (k.1 w.1))

same_service-Decides : (a b : Service) → Decides (same_service a b) (a ≡ b)
same_service-Decides Bib Bib = (λ e. refl, λ e. refl)
same_service-Decides Bib Bcb = (λ e. absurd (false≢true e), λ e. cc)
same_service-Decides Bcb Bib = (λ e. absurd (false≢true e), λ e. cc)
same_service-Decides Bcb Bcb = (λ e. refl, λ e. refl)

same_id-Decides : (a b : Eid) → Decides (same_id a b) (a ≡ b)
same_id-Decides Null Null = (λ e. refl, λ e. refl)
same_id-Decides Null (Dtn t) = (λ e. absurd (false≢true e), λ e. cc)
same_id-Decides Null (Ipn n s) = (λ e. absurd (false≢true e), λ e. cc)
same_id-Decides (Dtn t) Null = (λ e. absurd (false≢true e), λ e. cc)
same_id-Decides (Dtn t) (Dtn u) = (λ e. ap Dtn ((bytes_eq-Decides t u).0 e), λ e. let same : t ≡ u = cc in (bytes_eq-Decides t u).1 same)
same_id-Decides (Dtn t) (Ipn n s) = (λ e. absurd (false≢true e), λ e. cc)
same_id-Decides (Ipn m r) Null = (λ e. absurd (false≢true e), λ e. cc)
same_id-Decides (Ipn m r) (Dtn t) = (λ e. absurd (false≢true e), λ e. cc)
same_id-Decides (Ipn m r) (Ipn n s) = (
  λ e. let w = (both (eqb m n) (eqb r s) (Decides-eqb m n) (Decides-eqb r s)).0 e in let a = w.0 in let b = w.1 in cc,
  λ e. let a : m ≡ n = cc in let b : r ≡ s = cc in (both (eqb m n) (eqb r s) (Decides-eqb m n) (Decides-eqb r s)).1 (a, b),
)

no_name-Decides : (b : Bool) (name : List ℕ) → bytes_eq name [] ≡ b → Decides (not b) (name ≢ [])
no_name-Decides true name e = (λ h. absurd (false≢true h), λ other. absurd (other ((bytes_eq-Decides name []).0 e)))
no_name-Decides false name e = (λ h is. false≢true (sym e ∙ (bytes_eq-Decides name []).1 is), λ other. refl)

same_node-Decides : (a b : Eid) → Decides (same_node a b) (SameNode a b)
same_node-Decides Null Null = (λ e. false≢true e, λ e. absurd e)
same_node-Decides Null (Dtn t) = (λ e. false≢true e, λ e. absurd e)
same_node-Decides Null (Ipn n s) = (λ e. false≢true e, λ e. absurd e)
same_node-Decides (Dtn t) Null = (λ e. false≢true e, λ e. absurd e)
same_node-Decides (Dtn t) (Dtn u) = both (not (bytes_eq (node_name t) [])) (bytes_eq (node_name t) (node_name u)) (no_name-Decides _ (node_name t) refl) (bytes_eq-Decides (node_name t) (node_name u))
same_node-Decides (Dtn t) (Ipn n s) = (λ e. false≢true e, λ e. absurd e)
same_node-Decides (Ipn m r) Null = (λ e. false≢true e, λ e. absurd e)
same_node-Decides (Ipn m r) (Dtn t) = (λ e. false≢true e, λ e. absurd e)
same_node-Decides (Ipn m r) (Ipn n s) = Decides-eqb m n

same_kind-Decides : (a b : TargetKind) → Decides (same_kind a b) (b ≡ a)
same_kind-Decides Primary Primary = (λ e. refl, λ e. refl)
same_kind-Decides Primary (Kind n) = (λ e. absurd (false≢true e), λ e. cc)
same_kind-Decides (Kind n) Primary = (λ e. absurd (false≢true e), λ e. cc)
same_kind-Decides (Kind n) (Kind m) = (λ e. ap Kind (sym ((Decides-eqb n m).0 e)), λ e. let same : n ≡ m = cc in (Decides-eqb n m).1 same)

-- ---- patterns

one_of : (b rest : Bool) (kind : TargetKind) (k : TargetKind) (kinds : List TargetKind) → Decides b (k ≡ kind) → Decides rest ((i : ℕ) × (slice_get kinds i ≡ Some kind))
    → Decides (b || rest) ((i : ℕ) × (slice_get (k ∷ kinds) i ≡ Some kind))
one_of true rest kind k kinds h later = (λ e. (zero, ap Some (h.0 refl)), λ w. refl)
one_of false rest kind k kinds h later = (λ e. let w = later.0 e in (suc w.0, w.1), λ w. go w.0 w.1)
  where
    go : (i : ℕ) → slice_get (k ∷ kinds) i ≡ Some kind → rest ≡ true
    go zero e = let same : k ≡ kind = cc in absurd (false≢true (h.1 same))
    go (suc i) e = later.1 (i, e)

among-Decides : (kind : TargetKind) (kinds : List TargetKind) → Decides (list_any (same_kind kind) kinds) ((i : ℕ) × (slice_get kinds i ≡ Some kind))
among-Decides kind [] = (λ e. absurd (false≢true e), λ w. absurd cc)
among-Decides kind (k ∷ kinds) = one_of (same_kind kind k) _ kind k kinds (same_kind-Decides kind k) (among-Decides kind kinds)

is_of_kinds-Decides : (target : Option TargetKind) (kinds : List TargetKind) → Decides (is_of_kinds target kinds) (IsOneOf target kinds)
is_of_kinds-Decides None kinds = (λ e. false≢true e, λ e. absurd e)
is_of_kinds-Decides (Some kind) kinds = among-Decides kind kinds

allows-Decides : {A : Type 0} (o : Option A) (test : A → Bool) (P : A → Type 0) → ((x : A) → Decides (test x) (P x)) → Decides (allows o test) (IfSome o P)
allows-Decides None test P h = (λ e. tt, λ e. refl)
allows-Decides (Some x) test P h = h x

pub matches-Decides : (p : Patterns) (op : Operation) → Decides (matches p op.service op.source op.context op.target) (Matches p op)
unfolding matches
matches-Decides p op =
    let a = allows-Decides p.service (same_service op.service) (λ s. op.service ≡ s) (same_service-Decides op.service) in
    let b = allows-Decides p.source (same_id op.source) (λ s. op.source ≡ s) (same_id-Decides op.source) in
    let c = allows-Decides p.source_node (same_node op.source) (λ s. SameNode op.source s) (same_node-Decides op.source) in
    let d = allows-Decides p.context (int_eq op.context) (λ n. op.context ≡ n) (Decides-int_eq op.context) in
    let e = allows-Decides p.targets (is_of_kinds op.target) (λ kinds. IsOneOf op.target kinds) (is_of_kinds-Decides op.target) in
    let all = both _ _ a (both _ _ b (both _ _ c (both _ _ d e))) in (
      λ h. let w = all.0 h in record { service = w.0; source = w.1.0; source_node = w.1.1.0; context = w.1.1.1.0; targets = w.1.1.1.1 },
      λ m. all.1 (m.service, (m.source, (m.source_node, (m.context, m.targets)))),
    )

-- ---- the first that matches

abbrev Found : List RuleAt → Operation → Rule → Rule → Type 0
Found rules op rest found = ((i : ℕ) × (r : RuleAt) × IsFirst rules op i r × (found ≡ r.rule)) ⊎ (NoneMatches rules op × (found ≡ rest))

later_first : (r : RuleAt) (rules : List RuleAt) (op : Operation) (i : ℕ) (s : RuleAt) → (Matches r.patterns op → ⊥) → IsFirst rules op i s → IsFirst (r ∷ rules) op (suc i) s
later_first r rules op i s not_here h = record { at = h.at; here = h.here; before = before }
  where
    before : (j : ℕ) (t : RuleAt) → j < suc i → slice_get (r ∷ rules) j ≡ Some t → Matches t.patterns op → ⊥
    before zero t lt e m = let same : r ≡ t = cc in not_here (subst (λ (x : RuleAt). Matches x.patterns op) (sym same) m)
    before (suc j) t lt e m = h.before j t (omega arith) e m

none_later : (r : RuleAt) (rules : List RuleAt) (op : Operation) → (Matches r.patterns op → ⊥) → NoneMatches rules op → NoneMatches (r ∷ rules) op
none_later r rules op not_here h zero t e m = let same : r ≡ t = cc in not_here (subst (λ (x : RuleAt). Matches x.patterns op) (sym same) m)
none_later r rules op not_here h (suc j) t e m = h j t e m

pub first_rule : (rules : List RuleAt) (op : Operation) (rest : Rule)
    → Found rules op rest (unwrap_or (option_map (λ r. r.rule) (find (λ r. matches r.patterns op.service op.source op.context op.target) rules)) rest)
first_rule [] op rest = inr (λ j s e m. absurd cc, refl)
first_rule (r ∷ rules) op rest = go (matches r.patterns op.service op.source op.context op.target) refl (first_rule rules op rest)
  where
    go : (b : Bool) → matches r.patterns op.service op.source op.context op.target ≡ b → Found rules op rest (unwrap_or (option_map (λ r. r.rule) (find (λ r. matches r.patterns op.service op.source op.context op.target) rules)) rest)
        → Found (r ∷ rules) op rest (unwrap_or (option_map (λ r. r.rule) (cond b (Some r) (find (λ r. matches r.patterns op.service op.source op.context op.target) rules))) rest)
    go true e h = inl (zero, r, record { at = refl; here = (matches-Decides r.patterns op).0 e; before = λ j s lt at m. absurd (omega arith) }, refl)
    go false e (inl w) = inl (suc w.0, w.1, later_first r rules op w.0 w.1 (λ m. false≢true (sym e ∙ (matches-Decides r.patterns op).1 m)) w.2, w.3)
    go false e (inr w) = inr (none_later r rules op (λ m. false≢true (sym e ∙ (matches-Decides r.patterns op).1 m)) w.0, w.1)
