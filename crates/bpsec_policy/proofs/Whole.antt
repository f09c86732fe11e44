-- What was written is read back: lists, the top, and the text.
use Rattle.std.proofs.Common.{◌≡◌, ℕ, ◌+◌, Bool, true, false, not, ◌||◌, List, [], ◌∷◌, ◌++◌, map, length, Option, Some, None, Result, Ok, refl, sym, ◌∙◌, ap, arith}
use Rattle.std.specs.Prelude.{nat_le, codes, is_some, IfSome}
use Rattle.std.specs.List.{list_all, AllByRecursion}
use Rattle.std.specs.Str.{bytes_eq}
use Rattle.std.proofs.lemmas.List.{length-map}
use Rattle.std.proofs.lemmas.Bool.{le-leb}
use Rattle.std.proofs.lemmas.Slice.Eq.{bytes_eq-Decides}
use Rattle.serde_json.specs.Data.{Data, string, number, array, unsigned, no_members}
use Rattle.serde_json.specs.Find.{get, as_object}
use Rattle.serde_json.specs.View.{items_of}
use Rattle.bp_eid.specs.EndpointId.{Fits}
use Rattle.bp_text.specs.declared.fault.TextReason.{TextReason}
use Rattle.bp_text.specs.declared.shape.Kind.TheVariants as kinds
use Rattle.bp_text.specs.Tree.{list_of, list_at}
use Rattle.bp_text.specs.Shape.{is_of, has, has_only, is_listed}
use Rattle.bp_text.specs.Top.{version_at, is_short}
use Rattle.bp_text.specs.Entries.{entries_at, name_of, is_taken, taking, taken_by}
use Rattle.bpsec_policy.specs.declared.rule.RuleAt.{RuleAt}
use Rattle.bpsec_policy.specs.declared.rule.Requirement.{Requirement}
use Rattle.bpsec_policy.specs.Names.{all_differ}
use Rattle.bpsec_policy.specs.Words.{action_word, action_of}
use Rattle.bpsec_policy.specs.Rules.{Parts}
use Rattle.bpsec_policy.specs.Policy.{reserved, names_of as names_of_all, is_rule, is_default, is_requirement, is_policy}
use Rattle.bpsec_policy.specs.Ranges.{PatternsFit, PartsFit, RequirementFits}
use Rattle.bpsec_policy.specs.RuleText.{rule_at, requirement_at}
use Rattle.bpsec_policy.specs.PolicyText.{has_head, has_lists, has_policy_keys, is_policy_shape, head_at, lists_at, policy_at}
use Rattle.bpsec_policy.specs.Written.{entered, id_tree, rule_tree, requirement_tree, default_tree, policy_entries, policy_tree}
use Rattle.bpsec_policy.proofs.Steps.{both_true, and_true}
use Rattle.bpsec_policy.proofs.Entered.{found, get-entered, every-entered, all_listed-every, list_of-items_of}
use Rattle.bpsec_policy.proofs.Again.{IdLaw, action_again, has_by, text_is, word_by, eid_by, default_again, rule_again, requirement_again, rule_name, requirement_name}

-- ---- lists of entries

-- the names are not taken, and differ
abbrev pub AreNew : List (List ℕ) → List (List ℕ) → Type 0
AreNew taken names = (all_differ names ≡ true) × AllByRecursion (λ name. is_listed taken name ≡ false) names

-- each entry is read back, under its name
pub record IsRead {A : Type 0} (read : Data → Result A TextReason) (tree : A → Data) (name : A → List ℕ) (x : A) : Type 0 where
  pub read_back : read (tree x) ≡ Ok x
  pub named : name_of (tree x) ≡ Some (name x)

not_true : (b : Bool) → not b ≡ true → b ≡ false
not_true true e = absurd cc
not_true false e = refl

not_false : (b : Bool) → b ≡ false → not b ≡ true
not_false b h = rw h refl

neither : (a b : Bool) → (a || b) ≡ false → (a ≡ false) × (b ≡ false)
neither true b e = absurd cc
neither false b e = (refl, e)

or_false : (a b : Bool) → a ≡ false → b ≡ false → (a || b) ≡ false
or_false a b h k = rw (h, k) refl

turned_by : (x y : List ℕ) (b : Bool) → bytes_eq x y ≡ b → bytes_eq y x ≡ false → b ≡ false
turned_by x y true e other =
    let same : x ≡ y = (bytes_eq-Decides x y).0 e in
    let back : bytes_eq y x ≡ true = (bytes_eq-Decides y x).1 (sym same) in
    absurd cc
turned_by x y false e other = refl

turned : (x y : List ℕ) → bytes_eq y x ≡ false → bytes_eq x y ≡ false
turned x y other = turned_by x y (bytes_eq x y) refl other

listed_split : (xs ys : List (List ℕ)) (n : List ℕ) → is_listed (xs ++ ys) n ≡ false → (is_listed xs n ≡ false) × (is_listed ys n ≡ false)
listed_split [] ys n h = (refl, h)
listed_split (x ∷ xs) ys n h =
    let a = neither (bytes_eq x n) (is_listed (xs ++ ys) n) h in
    let b = listed_split xs ys n a.1 in
    (or_false (bytes_eq x n) (is_listed xs n) a.0 b.0, b.1)

-- names that differ from the first stay new when it is taken
still_new : (name : List ℕ) (taken names : List (List ℕ)) → is_listed names name ≡ false → AllByRecursion (λ n. is_listed taken n ≡ false) names
    → AllByRecursion (λ n. is_listed (name ∷ taken) n ≡ false) names
still_new name taken [] h free = tt
still_new name taken (n ∷ names) h free =
    let parts = neither (bytes_eq n name) (is_listed names name) h in
    (or_false (bytes_eq name n) (is_listed taken n) (turned name n parts.0) free.0, still_new name taken names parts.1 free.1)

both_free : (x : List ℕ) (xs ys : List (List ℕ)) → is_listed ys x ≡ false → AllByRecursion (λ n. is_listed xs n ≡ false) ys → AllByRecursion (λ n. is_listed (x ∷ xs) n ≡ false) ys
both_free x xs ys h free = still_new x xs ys h free

module _ {A : Type 0} (read : Data → Result A TextReason) (tree : A → Data) (name : A → List ℕ) where
  pub entries_again : (index : ℕ) (taken : List (List ℕ)) (xs : List A) → AllByRecursion (IsRead read tree name) xs → AreNew taken (map name xs) → entries_at read index taken (map tree xs) ≡ Ok xs
  entries_again index taken [] each new = refl
  entries_again index taken (x ∷ xs) each new =
      let parts = both_true (not (is_listed (map name xs) (name x))) (all_differ (map name xs)) new.0 in
      let here : is_taken taken (name_of (tree x)) ≡ false = ap (is_taken taken) each.0.named ∙ new.1.0 in
      let later : entries_at read (index + 1) (name x ∷ taken) (map tree xs) ≡ Ok xs = entries_again (index + 1) (name x ∷ taken) xs each.1 (parts.1, still_new (name x) taken (map name xs) (not_true _ parts.0) new.1.1) in
      rw (each.0.read_back, here, each.0.named, later) refl

  -- the names that are taken after them
  pub taken_again : (taken : List (List ℕ)) (xs : List A) (n : List ℕ) → AllByRecursion (IsRead read tree name) xs → is_listed taken n ≡ false → is_listed (map name xs) n ≡ false
      → is_listed (taken_by taken (map tree xs)) n ≡ false
  taken_again taken [] n each h k = h
  taken_again taken (x ∷ xs) n each h k =
      let parts = neither (bytes_eq (name x) n) (is_listed (map name xs) n) k in
      let step : taken_by taken (map tree (x ∷ xs)) ≡ taken_by (name x ∷ taken) (map tree xs) = ap (λ (o : Option (List ℕ)). taken_by (taking o taken) (map tree xs)) each.0.named in
      ap (λ (t : List (List ℕ)). is_listed t n) step ∙ taken_again (name x ∷ taken) xs n each.1 (or_false (bytes_eq (name x) n) (is_listed taken n) parts.0 h) parts.1

  pub all_free : (taken : List (List ℕ)) (xs : List A) (names : List (List ℕ)) → AllByRecursion (IsRead read tree name) xs → AllByRecursion (λ n. is_listed taken n ≡ false) names
      → AllByRecursion (λ n. is_listed (map name xs) n ≡ false) names → AllByRecursion (λ n. is_listed (taken_by taken (map tree xs)) n ≡ false) names
  all_free taken xs [] each h k = tt
  all_free taken xs (n ∷ names) each h k = (taken_again taken xs n each h.0 k.0, all_free taken xs names each h.1 k.1)

-- ---- names that differ, in two lists after those that are reserved

differ_split : (xs ys : List (List ℕ)) → all_differ (xs ++ ys) ≡ true → (all_differ xs ≡ true) × (all_differ ys ≡ true) × AllByRecursion (λ n. is_listed xs n ≡ false) ys
differ_split [] ys h = (refl, h, none ys)
  where
    none : (ns : List (List ℕ)) → AllByRecursion (λ n. false ≡ false) ns
    none [] = tt
    none (n ∷ ns) = (refl, none ns)
differ_split (x ∷ xs) ys h =
    let parts = both_true (not (is_listed (xs ++ ys) x)) (all_differ (xs ++ ys)) h in
    let rest = differ_split xs ys parts.1 in
    let unlisted = listed_split xs ys x (not_true _ parts.0) in
    (and_true _ _ (not_false _ unlisted.0) rest.0, rest.1, both_free x xs ys unlisted.1 rest.2)

-- names that are free of these, in two lists
free_split : (taken xs ys : List (List ℕ)) → AllByRecursion (λ n. is_listed taken n ≡ false) (xs ++ ys) → AllByRecursion (λ n. is_listed taken n ≡ false) xs × AllByRecursion (λ n. is_listed taken n ≡ false) ys
free_split taken [] ys h = (tt, h)
free_split taken (x ∷ xs) ys h = let rest = free_split taken xs ys h.1 in ((h.0, rest.0), rest.1)

-- ---- the two lists

rules_read : IdLaw → (xs : List RuleAt) → list_all is_rule xs ≡ true → AllByRecursion (λ r. PatternsFit r.patterns) xs → AllByRecursion (IsRead (rule_at 2) rule_tree (λ r. r.rule.name)) xs
rules_read law [] h fits = tt
rules_read law (r ∷ rs) h fits =
    let p = both_true (is_rule r) (list_all is_rule rs) h in
    (record { read_back = rule_again law r p.0 fits.0; named = rule_name r }, rules_read law rs p.1 fits.1)

required_read : IdLaw → (xs : List Requirement) → list_all is_requirement xs ≡ true → AllByRecursion RequirementFits xs → AllByRecursion (IsRead requirement_at requirement_tree (λ r. r.name)) xs
required_read law [] h fits = tt
required_read law (r ∷ rs) h fits =
    let p = both_true (is_requirement r) (list_all is_requirement rs) h in
    (record { read_back = requirement_again law r p.0 fits.0.from; named = requirement_name r }, required_read law rs p.1 fits.1)

policy_field : (p : Parts) (key : List ℕ) → get key (policy_tree p) ≡ found key (policy_entries p) None
unfolding policy_tree
policy_field p key = get-entered key (policy_entries p) no_members

list_is : (key : List ℕ) (d : Data) (ds : List Data) → get key d ≡ Some (array (items_of ds)) → list_at key d ≡ Some ds
list_is key d ds e = rw e (ap Some (list_of-items_of ds))

least : (xs : List Data) → is_of (kinds.Array 0) (array (items_of xs)) ≡ true
unfolding is_of
least xs = le-leb 0 (length (list_of (items_of xs))) (omega arith)

array_is : (d : Data) (key : List ℕ) (ds : List Data) → get key d ≡ Some (array (items_of ds)) → has (kinds.Array 0) key d ≡ true
array_is d key ds e = has_by (kinds.Array 0) key d (array (items_of ds)) e (least ds)

short_is : (most : ℕ) (key : List ℕ) (d : Data) (ds : List Data) → get key d ≡ Some (array (items_of ds)) → nat_le (length ds) most ≡ true → is_short most key d ≡ true
short_is most key d ds e h = rw (list_is key d ds e) h

only_keys : (p : Parts) → has_policy_keys (policy_tree p) ≡ true
unfolding policy_tree has_only has_policy_keys
only_keys p =
    let keys : List (List ℕ) = codes "version" ∷ codes "node" ∷ codes "broken" ∷ codes "default" ∷ codes "rules" ∷ codes "required" ∷ [] in
    all_listed-every keys (entered no_members (policy_entries p)) (every-entered (λ k d. is_listed keys k) (policy_entries p) no_members refl refl)

object_is : (d : Data) → is_some (as_object d) ≡ true → is_of kinds.Object d ≡ true
unfolding is_of
object_is d h = h

default_object : (p : Parts) → is_some (as_object (default_tree p.default_rule)) ≡ true
unfolding default_tree
default_object p = refl

-- the tree of a policy gives it back
pub tree_again : IdLaw → (p : Parts) → is_policy p ≡ true → PartsFit p → policy_at (policy_tree p) ≡ Ok p
unfolding is_policy policy_at is_policy_shape has_head has_lists head_at lists_at version_at
tree_again law p keeps fits =
    let d = policy_tree p in
    let a = both_true (nat_le (length p.rules) 256) _ keeps in
    let b = both_true (nat_le (length p.required) 64) _ a.1 in
    let c = both_true (is_default p.default_rule) _ b.1 in
    let f = both_true (list_all is_rule p.rules) _ c.1 in
    let g = both_true (list_all is_requirement p.required) (all_differ (reserved ++ names_of_all p.rules p.required)) f.1 in
    let version : get (codes "version") d ≡ Some (number (unsigned 2)) = policy_field p (codes "version") in
    let node : get (codes "node") d ≡ Some (id_tree p.node) = policy_field p (codes "node") in
    let broken : get (codes "broken") d ≡ Some (string (action_word p.broken)) = policy_field p (codes "broken") in
    let rest : get (codes "default") d ≡ Some (default_tree p.default_rule) = policy_field p (codes "default") in
    let rules : get (codes "rules") d ≡ Some (array (items_of (map rule_tree p.rules))) = policy_field p (codes "rules") in
    let required : get (codes "required") d ≡ Some (array (items_of (map requirement_tree p.required))) = policy_field p (codes "required") in
    let head_shape = and_true _ _ (has_by kinds.Text (codes "node") d _ node (text_is _)) (and_true _ _ (has_by kinds.Text (codes "broken") d _ broken (text_is _)) (has_by kinds.Object (codes "default") d _ rest (object_is _ (default_object p)))) in
    let lists_shape = and_true _ _ (array_is d (codes "rules") (map rule_tree p.rules) rules) (array_is d (codes "required") (map requirement_tree p.required) required) in
    let shape = and_true _ _ (only_keys p) (and_true _ _ head_shape lists_shape) in
    let rules_len : nat_le (length (map rule_tree p.rules)) 256 ≡ true = ap (λ (n : ℕ). nat_le n 256) (length-map p.rules rule_tree) ∙ a.0 in
    let required_len : nat_le (length (map requirement_tree p.required)) 64 ≡ true = ap (λ (n : ℕ). nat_le n 64) (length-map p.required requirement_tree) ∙ b.0 in
    let short = and_true _ _ (short_is 256 (codes "rules") d (map rule_tree p.rules) rules rules_len) (short_is 64 (codes "required") d (map requirement_tree p.required) required required_len) in
    let node_read = eid_by law (codes "node") d p.node fits.node node in
    let broken_read = word_by action_of (codes "broken") d (action_word p.broken) p.broken broken (action_again p.broken) in
    let rules_list = list_is (codes "rules") d (map rule_tree p.rules) rules in
    let required_list = list_is (codes "required") d (map requirement_tree p.required) required in
    let outer = differ_split reserved (names_of_all p.rules p.required) g.1 in
    let inner = differ_split (map (λ (r : RuleAt). r.rule.name) p.rules) (map (λ (r : Requirement). r.name) p.required) outer.1 in
    let free = free_split reserved (map (λ (r : RuleAt). r.rule.name) p.rules) (map (λ (r : Requirement). r.name) p.required) outer.2 in
    let each_rule = rules_read law p.rules f.0 fits.rules in
    let each_required = required_read law p.required g.0 fits.required in
    let rules_read_back = entries_again (rule_at 2) rule_tree (λ r. r.rule.name) 0 reserved p.rules each_rule (inner.0, free.0) in
    let required_read_back = entries_again requirement_at requirement_tree (λ r. r.name) (length (map rule_tree p.rules)) (taken_by reserved (map rule_tree p.rules)) p.required each_required
    (inner.1, all_free (rule_at 2) rule_tree (λ r. r.rule.name) reserved p.rules (map (λ (r : Requirement). r.name) p.required) each_rule free.1 inner.2) in
    rw (version, shape, short, node_read, broken_read, rest, default_again p.default_rule c.0, rules_list, required_list, rules_read_back, required_read_back) refl
