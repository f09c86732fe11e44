-- What is read as a policy is one.
use Rattle.std.proofs.Common.{◌≡◌, ℕ, suc, Bool, true, false, not, ◌||◌, ◌&&◌, cond, eqb, List, [], ◌∷◌, ◌++◌, length, Option, Some, None, Result, Ok, Err, refl, sym, ◌∙◌, ap, subst}
use Rattle.std.specs.Prelude.{nat_le, codes, is_some, unwrap_or, option_map, option_and_then}
use Rattle.std.specs.List.{list_all}
use Rattle.std.specs.Str.{bytes_eq}
use Rattle.std.proofs.lemmas.Slice.Eq.{bytes_eq-Decides}
use Rattle.cbor_profile.specs.Step.{◌>>=◌}
use Rattle.serde_json.specs.Data.{Data}
use Rattle.serde_json.specs.Find.{get, as_str, as_number, as_u64}
use Rattle.bp_eid.specs.declared.eid.Eid.{Eid}
use Rattle.bp_text.specs.declared.fault.TextReason.{TextReason}
use Rattle.bp_text.specs.declared.fault.TextReason.TheVariants.{WrongShape, UnknownWord}
use Rattle.bp_text.specs.declared.fault.TextFault.{TextFault}
use Rattle.bp_text.specs.declared.shape.Kind.TheVariants.{Text, Name, Number, Signed}
use Rattle.bp_text.specs.Fault.{unless, wanted, top}
use Rattle.bp_text.specs.Tree.{text_at, list_at, values_of, number_at}
use Rattle.bp_text.specs.Shape.{has, has_only, may_have, is_of, passes, whole, is_name}
use Rattle.bp_text.specs.Field.{bytes_at, eid_at, word_at, optional}
use Rattle.bp_text.specs.Top.{is_short}
use Rattle.bp_text.specs.Entries.{entries_at, name_of, taken_by}
use Rattle.bpsec_policy.specs.declared.rule.TargetKind.{TargetKind}
use Rattle.bpsec_policy.specs.declared.rule.TargetKind.TheVariants.{Primary, Kind}
use Rattle.bpsec_policy.specs.declared.rule.Action.{Action}
use Rattle.bpsec_policy.specs.declared.rule.Rule.{Rule}
use Rattle.bpsec_policy.specs.declared.rule.Patterns.{Patterns}
use Rattle.bpsec_policy.specs.declared.rule.RuleAt.{RuleAt}
use Rattle.bpsec_policy.specs.declared.rule.Requirement.{Requirement}
use Rattle.bpsec_policy.specs.Words.{role_of, action_of, service_of}
use Rattle.bpsec_policy.specs.Names.{all_differ}
use Rattle.bpsec_policy.specs.Rules.{allows}
use Rattle.bpsec_policy.specs.Policy.{reserved, names_of as names_of_all, is_security, are_patterns, is_rule, is_default, is_requirement, is_policy}
use Rattle.bpsec_policy.specs.RuleText.{is_target, is_plain_target, kind_of, target_of, target_at, are_targets, targets_of, targets_at, either_at, may_pass, are_sources, may_have_targets, sources_at, is_acting_shape, acting_at, is_default_shape, default_at, rule_keys, are_patterns_shape, is_rule_shape, patterns_at, rule_at, is_requirement_shape, requirement_at}
use Rattle.bpsec_policy.specs.PolicyText.{head_at, lists_at, parts_of}
use Rattle.bpsec_policy.proofs.EntryLaws.{EntryLaws}
use Rattle.bpsec_policy.proofs.Differing.{all_differ-both}
use Rattle.bpsec_policy.proofs.Steps.{bind_ok, at_entry_ok, unless_ok, wanted_ok, ok_is, both_true, and_true, name_at}

-- ---- optional fields

-- a name, where one is there
optional_name : (key : List ℕ) (d : Data) (k : Option (List ℕ)) → may_have Name key d ≡ true → optional bytes_at key d ≡ Ok k → allows k is_name ≡ true
unfolding may_have is_of optional
optional_name key d k = go (get key d)
  where
    inner : (text : Option (List ℕ)) → passes is_name text ≡ true → (wanted WrongShape text >>= λ x. Ok (Some x)) ≡ Ok k → allows k is_name ≡ true
    inner (Some t) h e = subst (λ (o : Option (List ℕ)). allows o is_name ≡ true) (ok_is {E = TextReason} (Some t) k e) h
    inner None h e = absurd cc

    go : (o : Option Data) → unwrap_or (option_map (is_of Name) o) true ≡ true → (cond (is_some o) (wanted WrongShape (option_and_then as_str o) >>= λ x. Ok (Some x)) (Ok None)) ≡ Ok k → allows k is_name ≡ true
    go (Some v) h e = inner (as_str v) h e
    go None h e = subst (λ (o : Option (List ℕ)). allows o is_name ≡ true) (ok_is {E = TextReason} None k e) refl

-- a number up to this, where one is there
optional_number : (most : ℕ) (key : List ℕ) (d : Data) → may_have (Number most) key d ≡ true → allows (number_at key d) (λ n. nat_le n most) ≡ true
unfolding may_have is_of
optional_number most key d = go (get key d)
  where
    inner : (n : Option ℕ) → passes (λ m. nat_le m most) n ≡ true → allows n (λ m. nat_le m most) ≡ true
    inner (Some n) h = h
    inner None h = refl

    go : (o : Option Data) → unwrap_or (option_map (is_of (Number most)) o) true ≡ true → allows (option_and_then as_u64 (option_and_then as_number o)) (λ m. nat_le m most) ≡ true
    go (Some v) h = inner (whole v) h
    go None h = refl

-- an optional field is there where its key is
optional_is_there : {A : Type 0} (read : List ℕ → Data → Result A TextReason) (key : List ℕ) (d : Data) (x : Option A) → optional read key d ≡ Ok x → is_some x ≡ is_some (get key d)
unfolding optional
optional_is_there {A} read key d x = go (is_some (get key d)) (read key d)
  where
    go : (there : Bool) (r : Result A TextReason) → (cond there (r >>= λ y. Ok (Some y)) (Ok None)) ≡ Ok x → is_some x ≡ there
    go true (Ok y) e = ap is_some (sym (ok_is {E = TextReason} (Some y) x e))
    go true (Err reason) e = absurd cc
    go false r e = ap is_some (sym (ok_is {E = TextReason} None x e))

-- ---- rules

targets_len : (ds : List Data) (kinds : List TargetKind) → targets_of ds ≡ Ok kinds → length kinds ≡ length ds
targets_len [] kinds e = ap length (sym (ok_is {E = TextReason} [] kinds e))
targets_len (d ∷ ds) kinds e =
    let a = bind_ok (target_of d) _ kinds e in
    let b = bind_ok (targets_of ds) (λ ks. Ok (a.0 ∷ ks)) kinds a.2 in
    ap length (sym (ok_is {E = TextReason} (a.0 ∷ b.0) kinds b.2)) ∙ ap suc (targets_len ds b.0 b.1)

abbrev IsCount : Option (List TargetKind) → Type 0
IsCount kinds = allows kinds (λ ks. nat_le 1 (length ks) && nat_le (length ks) 16) ≡ true

counted : (ds : List Data) (ks : List TargetKind) → length ks ≡ length ds → nat_le 1 (length ds) ≡ true → nat_le (length ds) 16 ≡ true → IsCount (Some ks)
counted ds ks len low high = rw (len, low, high) refl

targets_count : (key : List ℕ) (d : Data) (kinds : Option (List TargetKind)) → may_pass are_targets key d ≡ true → optional targets_at key d ≡ Ok kinds → IsCount kinds
unfolding optional
targets_count key d kinds = go (get key d)
  where
    inner : (ds : Option (List Data)) → passes (λ xs. nat_le 1 (length xs) && (nat_le (length xs) 16 && list_all is_target xs)) ds ≡ true
        → ((wanted WrongShape ds >>= targets_of) >>= λ ks. Ok (Some ks)) ≡ Ok kinds → IsCount kinds
    inner None h e = absurd cc
    inner (Some ds) h e =
        let a = bind_ok (targets_of ds) (λ ks. Ok (Some ks)) kinds e in
        let low = both_true (nat_le 1 (length ds)) _ h in
        let high = both_true (nat_le (length ds) 16) _ low.1 in
        subst IsCount (ok_is {E = TextReason} (Some a.0) kinds a.2) (counted ds a.0 (targets_len ds a.0 a.1) low.0 high.0)

    go : (o : Option Data) → unwrap_or (option_map are_targets o) true ≡ true
        → (cond (is_some o) ((wanted WrongShape (option_and_then values_of o) >>= targets_of) >>= λ ks. Ok (Some ks)) (Ok None)) ≡ Ok kinds → IsCount kinds
    go None h e = subst IsCount (ok_is {E = TextReason} None kinds e) refl
    go (Some v) h e = inner (values_of v) h e

either_count : (d : Data) (kinds : Option (List TargetKind)) → may_pass are_targets (codes "targets") d ≡ true → either_at d ≡ Ok kinds → IsCount kinds
either_count d kinds h = go (is_some (get (codes "target") d)) (target_at (codes "target") d)
  where
    go : (there : Bool) (r : Result TargetKind TextReason) → (cond there (r >>= λ kind. Ok (Some (kind ∷ []))) (optional targets_at (codes "targets") d)) ≡ Ok kinds → IsCount kinds
    go true (Ok kind) e = subst IsCount (ok_is {E = TextReason} (Some (kind ∷ [])) kinds e) refl
    go true (Err reason) e = absurd cc
    go false r e = targets_count (codes "targets") d kinds h e

patterns_means : (d : Data) (p : Patterns) → are_patterns_shape d ≡ true → patterns_at d ≡ Ok p → are_patterns p ≡ true
unfolding patterns_at are_patterns_shape
patterns_means d p shape e =
    let service = bind_ok (optional (word_at service_of) (codes "service") d) _ p e in
    let sources = bind_ok (sources_at d) _ p service.2 in
    let source = bind_ok (optional eid_at (codes "source") d) _ sources.0 sources.1 in
    let node = bind_ok (optional eid_at (codes "source_node") d) _ sources.0 source.2 in
    let same : (source.0, node.0) ≡ sources.0 = ok_is {E = TextReason} (source.0, node.0) sources.0 node.2 in
    let kinds = bind_ok (either_at d) _ p sources.2 in
    let a = both_true (may_have Text (codes "service") d) _ shape in
    let b = both_true (are_sources d) _ a.1 in
    let c = both_true (may_have Text (codes "source") d) _ b.0 in
    let f = both_true (may_have Text (codes "source_node") d) _ c.1 in
    let g = both_true (may_have Signed (codes "context") d) (may_have_targets d) b.1 in
    let h = both_true (may_pass is_target (codes "target") d) _ g.1 in
    let one : not (is_some source.0 && is_some node.0) ≡ true = rw (optional_is_there eid_at (codes "source") d source.0 source.1, optional_is_there eid_at (codes "source_node") d node.0 node.1) f.1 in
    let alone : not (is_some sources.0.0 && is_some sources.0.1) ≡ true = subst (λ (w : Option Eid × Option Eid). not (is_some w.0 && is_some w.1) ≡ true) same one in
    subst (λ (q : Patterns). are_patterns q ≡ true) (ok_is {E = TextReason} _ p kinds.2) (and_true _ _ (either_count d kinds.0 h.1 kinds.1) alone)

-- a rule's parts by the common fields
record Acts (rule : Rule) (name : List ℕ) (least : Option ℕ) : Type 0 where
  pub named : rule.name ≡ name
  pub least_scope : rule.least_scope ≡ least
  pub key : allows rule.key is_name ≡ true

acting_means : (name : List ℕ) (least : Option ℕ) (d : Data) (rule : Rule) → is_acting_shape d ≡ true → acting_at name least d ≡ Ok rule → Acts rule name least
unfolding acting_at is_acting_shape
acting_means name least d rule shape e =
    let role = bind_ok (word_at role_of (codes "role") d) _ rule e in
    let failed = bind_ok (word_at action_of (codes "failed") d) _ rule role.2 in
    let misset = bind_ok (word_at action_of (codes "misset") d) _ rule failed.2 in
    let key = bind_ok (optional bytes_at (codes "key") d) _ rule misset.2 in
    let a = both_true (has Text (codes "role") d) _ shape in
    let b = both_true (has Text (codes "failed") d) _ a.1 in
    let c = both_true (has Text (codes "misset") d) (may_have Name (codes "key") d) b.1 in
    subst (λ (r : Rule). Acts r name least) (ok_is {E = TextReason} _ rule key.2) (record { named = refl; least_scope = refl; key = optional_name (codes "key") d key.0 c.1 key.1 })

rule_parts : (version : ℕ) (d : Data) (x : RuleAt) → rule_at version d ≡ Ok x → (is_rule x ≡ true) × (name_of d ≡ Some x.rule.name)
unfolding rule_at is_rule_shape
rule_parts version d x e =
    let s = bind_ok (unless (is_rule_shape version d) WrongShape) _ x e in
    let n = bind_ok (bytes_at (codes "name") d) _ x s.2 in
    let r = bind_ok (acting_at n.0 (number_at (codes "least_scope") d) d) _ x n.2 in
    let p = bind_ok (patterns_at d) _ x r.2 in
    let a = both_true (has_only (rule_keys version) d) _ (unless_ok _ WrongShape s.0 s.1) in
    let b = both_true (has Name (codes "name") d) _ a.1 in
    let c = both_true (is_acting_shape d) _ b.1 in
    let f = both_true (are_patterns_shape d) (may_have (Number 7) (codes "least_scope") d) c.1 in
    let text : text_at (codes "name") d ≡ Some n.0 = wanted_ok WrongShape _ n.0 n.1 in
    let acts = acting_means n.0 (number_at (codes "least_scope") d) d r.0 c.0 r.1 in
    let name : is_name r.0.name ≡ true = ap is_name acts.named ∙ name_at (codes "name") d n.0 b.0 text in
    let least : allows r.0.least_scope (λ bits. nat_le bits 7) ≡ true = ap (λ (o : Option ℕ). allows o (λ bits. nat_le bits 7)) acts.least_scope ∙ optional_number 7 (codes "least_scope") d f.1 in
    let whole_rule = and_true (is_name r.0.name) _ name (and_true (allows r.0.key is_name) _ acts.key (and_true (allows r.0.least_scope (λ bits. nat_le bits 7)) _ least (patterns_means d p.0 f.0 p.1))) in
    subst (λ (y : RuleAt). (is_rule y ≡ true) × (name_of d ≡ Some y.rule.name)) (ok_is {E = TextReason} _ x p.2) (whole_rule, text ∙ ap Some (sym acts.named))

default_means : (d : Data) (rule : Rule) → default_at d ≡ Ok rule → is_default rule ≡ true
unfolding default_at is_default_shape
default_means d rule e =
    let s = bind_ok (unless (is_default_shape d) WrongShape) _ rule e in
    let a = both_true (has_only (codes "role" ∷ codes "failed" ∷ codes "misset" ∷ codes "key" ∷ []) d) (is_acting_shape d) (unless_ok _ WrongShape s.0 s.1) in
    let acts = acting_means (codes "default") None d rule a.1 s.2 in
    let name : bytes_eq rule.name (codes "default") ≡ true = (bytes_eq-Decides rule.name (codes "default")).1 acts.named in
    let least : not (is_some rule.least_scope) ≡ true = ap (λ (o : Option ℕ). not (is_some o)) acts.least_scope in
    and_true _ _ name (and_true _ _ acts.key least)

-- ---- requirements

-- a target of a requirement
plain_target : (d : Data) (kind : TargetKind) → passes is_plain_target (get (codes "target") d) ≡ true → target_at (codes "target") d ≡ Ok kind → not (is_security kind) ≡ true
plain_target d kind = go (get (codes "target") d)
  where
    number : (n : ℕ) (word : Option (List ℕ)) → not (eqb n 11 || eqb n 12) ≡ true → kind_of (Some n) word ≡ Ok kind → not (is_security kind) ≡ true
    number n word h e = subst (λ (k : TargetKind). not (is_security k) ≡ true) (ok_is {E = TextReason} (Kind n) kind e) h

    text : (w : Option (List ℕ)) → kind_of None w ≡ Ok kind → not (is_security kind) ≡ true
    text None e = absurd cc
    text (Some w) e = word (bytes_eq w (codes "primary")) e
      where
        word : (b : Bool) → cond b (Ok Primary) (Err UnknownWord) ≡ Ok kind → not (is_security kind) ≡ true
        word true e = subst (λ (k : TargetKind). not (is_security k) ≡ true) (ok_is {E = TextReason} Primary kind e) refl
        word false e = absurd cc

    inner : (n : Option ℕ) (w : Option (List ℕ)) → ((is_some n || is_some w) && not (unwrap_or (option_map (λ m. eqb m 11 || eqb m 12) n) false)) ≡ true → kind_of n w ≡ Ok kind → not (is_security kind) ≡ true
    inner (Some n) w h e = number n w (both_true (is_some (Some n) || is_some w) _ h).1 e
    inner None w h e = text w e

    go : (o : Option Data) → passes is_plain_target o ≡ true → (wanted WrongShape o >>= target_of) ≡ Ok kind → not (is_security kind) ≡ true
    go (Some v) h e = inner (whole v) (as_str v) h e
    go None h e = absurd cc

requirement_parts : (d : Data) (x : Requirement) → requirement_at d ≡ Ok x → (is_requirement x ≡ true) × (name_of d ≡ Some x.name)
unfolding requirement_at is_requirement_shape
requirement_parts d x e =
    let s = bind_ok (unless (is_requirement_shape d) WrongShape) _ x e in
    let n = bind_ok (bytes_at (codes "name") d) _ x s.2 in
    let t = bind_ok (target_at (codes "target") d) _ x n.2 in
    let v = bind_ok (word_at service_of (codes "service") d) _ x t.2 in
    let f = bind_ok (optional eid_at (codes "from") d) _ x v.2 in
    let m = bind_ok (word_at action_of (codes "missing") d) _ x f.2 in
    let a = both_true (has_only (codes "name" ∷ codes "target" ∷ codes "service" ∷ codes "missing" ∷ codes "from" ∷ []) d) _ (unless_ok _ WrongShape s.0 s.1) in
    let b = both_true (has Name (codes "name") d) _ a.1 in
    let c = both_true (passes is_plain_target (get (codes "target") d)) _ b.1 in
    let text : text_at (codes "name") d ≡ Some n.0 = wanted_ok WrongShape _ n.0 n.1 in
    let both = and_true (is_name n.0) (not (is_security t.0)) (name_at (codes "name") d n.0 b.0 text) (plain_target d t.0 c.0 t.1) in
    subst (λ (y : Requirement). (is_requirement y ≡ true) × (name_of d ≡ Some y.name)) (ok_is {E = TextReason} _ x m.2) (both, text)

-- ---- policies

-- as many as the list that is short
few : {A : Type 0} (most : ℕ) (key : List ℕ) (d : Data) (ds : List Data) (xs : List A) → is_short most key d ≡ true → list_at key d ≡ Some ds → length xs ≡ length ds → nat_le (length xs) most ≡ true
few most key d ds xs short list len =
    ap (λ (n : ℕ). nat_le n most) len ∙ (sym (ap (λ (o : Option (List Data)). nat_le (length (unwrap_or o [])) most) list) ∙ short)

-- two lists of entries that keep their rules
record AreLists (lists : List RuleAt × List Requirement) : Type 0 where
  pub rules_few : nat_le (length lists.0) 256 ≡ true
  pub required_few : nat_le (length lists.1) 64 ≡ true
  pub rules : list_all is_rule lists.0 ≡ true
  pub required : list_all is_requirement lists.1 ≡ true
  pub names : all_differ (reserved ++ names_of_all lists.0 lists.1) ≡ true

lists_mean : ((version : ℕ) → EntryLaws (rule_at version)) → EntryLaws requirement_at → (version : ℕ) (d : Data) (lists : List RuleAt × List Requirement)
    → is_short 256 (codes "rules") d ≡ true → is_short 64 (codes "required") d ≡ true → lists_at version d ≡ Ok lists → AreLists lists
unfolding lists_at
lists_mean rule_laws required_laws version d lists short short' e =
    let r = bind_ok (top (wanted WrongShape (list_at (codes "rules") d))) _ lists e in
    let q = bind_ok (top (wanted WrongShape (list_at (codes "required") d))) _ lists r.2 in
    let xs = bind_ok (entries_at (rule_at version) 0 reserved r.0) _ lists q.2 in
    let ys = bind_ok (entries_at requirement_at (length r.0) (taken_by reserved r.0) q.0) _ lists xs.2 in
    let rule_list : list_at (codes "rules") d ≡ Some r.0 = wanted_ok WrongShape _ r.0 (at_entry_ok _ _ r.0 r.1) in
    let required_list : list_at (codes "required") d ≡ Some q.0 = wanted_ok WrongShape _ q.0 (at_entry_ok _ _ q.0 q.1) in
    let laws = rule_laws version in
    let names = laws.names 0 reserved r.0 xs.0 (λ x. x.rule.name) (λ c x h. (rule_parts version c x h).1) xs.1 in
    let names' = required_laws.names (length r.0) (taken_by reserved r.0) q.0 ys.0 (λ x. x.name) (λ c x h. (requirement_parts c x h).1) ys.1 in
    let differ = all_differ-both reserved r.0 q.0 refl (laws.once 0 reserved r.0 xs.0 xs.1) (required_laws.once (length r.0) (taken_by reserved r.0) q.0 ys.0 ys.1)
    (laws.free 0 reserved r.0 xs.0 xs.1) (required_laws.free (length r.0) (taken_by reserved r.0) q.0 ys.0 ys.1) in
    subst AreLists (ok_is {E = TextFault} (xs.0, ys.0) lists ys.2) (record {
      rules_few = few 256 (codes "rules") d r.0 xs.0 short rule_list (laws.all 0 reserved r.0 xs.0 xs.1);
      required_few = few 64 (codes "required") d q.0 ys.0 short' required_list (required_laws.all (length r.0) (taken_by reserved r.0) q.0 ys.0 ys.1);
      rules = laws.pass 0 reserved r.0 xs.0 is_rule (λ c x h. (rule_parts version c x h).0) xs.1;
      required = required_laws.pass (length r.0) (taken_by reserved r.0) q.0 ys.0 is_requirement (λ c x h. (requirement_parts c x h).0) ys.1;
      names = rw (← names, ← names') differ;
    })

-- the default rule among the top's own fields
head_means : (d : Data) (head : Eid × Action × Rule) → head_at d ≡ Ok head → is_default head.2 ≡ true
unfolding head_at
head_means d head e =
    let n = bind_ok (eid_at (codes "node") d) _ head e in
    let b = bind_ok (word_at action_of (codes "broken") d) _ head n.2 in
    let r = bind_ok (wanted WrongShape (get (codes "default") d) >>= default_at) _ head b.2 in
    let t = bind_ok (wanted WrongShape (get (codes "default") d)) default_at r.0 r.1 in
    subst (λ (h : Eid × Action × Rule). is_default h.2 ≡ true) (ok_is {E = TextReason} (n.0, b.0, r.0) head r.2) (default_means t.0 r.0 t.2)

-- the parts that a text gives are those of a policy
pub parts_mean : ((version : ℕ) → EntryLaws (rule_at version)) → EntryLaws requirement_at → (version : ℕ) (d : Data) (head : Eid × Action × Rule) (lists : List RuleAt × List Requirement)
    → (is_short 256 (codes "rules") d && is_short 64 (codes "required") d) ≡ true → head_at d ≡ Ok head → lists_at version d ≡ Ok lists → is_policy (parts_of head lists) ≡ true
unfolding is_policy
parts_mean rule_laws required_laws version d head lists short h l =
    let shorts = both_true (is_short 256 (codes "rules") d) (is_short 64 (codes "required") d) short in
    let are = lists_mean rule_laws required_laws version d lists shorts.0 shorts.1 l in
    let rest = head_means d head h in
    and_true _ _ are.rules_few (and_true _ _ are.required_few (and_true _ _ rest (and_true _ _ are.rules (and_true _ _ are.required are.names))))
