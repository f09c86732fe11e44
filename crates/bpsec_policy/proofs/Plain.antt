-- The tree of a policy has no floats and is not deep, so its text is the compact one and is read as it.
use Rattle.std.proofs.Common.{◌≡◌, ℕ, suc, ◌≤◌, Bool, true, false, not, List, [], ◌∷◌, map, Option, Some, None, Ok, ℤ, pos, negsuc, refl, arith}
use Rattle.std.specs.Prelude.{nat_le, codes, option_map, length}
use Rattle.std.specs.List.{list_all}
use Rattle.std.specs.Str.{IsUtf8}
use Rattle.std.proofs.lemmas.Bool.{le-leb, leb-true, le-ltb}
use Rattle.std.proofs.lemmas.Str.{is_utf8-from_IsUtf8}
use Rattle.serde_json.specs.Data.{Data, string, number, array, object, unsigned, no_members, depth, items_depth, members_depth}
use Rattle.serde_json.specs.Find.{of_integer}
use Rattle.serde_json.specs.Read.{read}
use Rattle.serde_json.specs.View.{items_of}
use Rattle.serde_json.specs.Written.{has_float}
use Rattle.bp_text.specs.Tree.{tree_of, text_limit}
use Rattle.bpsec_policy.specs.declared.rule.TargetKind.{TargetKind}
use Rattle.bpsec_policy.specs.declared.rule.TargetKind.TheVariants.{Primary, Kind}
use Rattle.bpsec_policy.specs.declared.rule.Rule.{Rule}
use Rattle.bpsec_policy.specs.declared.rule.RuleAt.{RuleAt}
use Rattle.bpsec_policy.specs.declared.rule.Requirement.{Requirement}
use Rattle.bpsec_policy.specs.Words.{service_word}
use Rattle.bpsec_policy.specs.Rules.{Parts}
use Rattle.bpsec_policy.specs.Policy.{is_policy}
use Rattle.bpsec_policy.specs.Ranges.{PartsFit}
use Rattle.bpsec_policy.specs.PolicyText.{policy_of}
use Rattle.bpsec_policy.specs.Written.{entered, id_tree, target_tree, acting_entries, rule_entries, rule_tree, requirement_entries, requirement_tree, default_tree, policy_entries, policy_tree}
use Rattle.bpsec_policy.proofs.Steps.{and_true}
use Rattle.bpsec_policy.proofs.Entered.{passes_if, every-entered, float-every, float-all, depth-every, depth-all}
use Rattle.bpsec_policy.proofs.Again.{IdLaw}
use Rattle.bpsec_policy.proofs.Whole.{tree_again}

-- no float in it, and at most n deep
abbrev no_float : List ℕ → Data → Bool
no_float k d = not (has_float d)

abbrev shallow : ℕ → List ℕ → Data → Bool
shallow n k d = nat_le (depth d) n

passes_map : {A : Type 0} (test : List ℕ → Data → Bool) (k : List ℕ) (f : A → Data) (o : Option A) → ((x : A) → test k (f x) ≡ true) → passes_if test k (option_map f o) ≡ true
passes_map test k f None h = refl
passes_map test k f (Some x) h = h x

not_by : (b : Bool) → b ≡ false → not b ≡ true
not_by b h = rw h refl

all_of : {A : Type 0} (test : Data → Bool) (f : A → Data) (xs : List A) → ((x : A) → test (f x) ≡ true) → list_all test (map f xs) ≡ true
all_of test f [] h = refl
all_of test f (x ∷ xs) h = and_true _ _ (h x) (all_of test f xs h)

-- ---- floats

integer_plain : (z : ℤ) → not (has_float (number (of_integer z))) ≡ true
integer_plain (pos n) = refl
integer_plain (negsuc n) = refl

target_plain : (k : TargetKind) → not (has_float (target_tree k)) ≡ true
target_plain Primary = refl
target_plain (Kind n) = refl

array_plain : {A : Type 0} (f : A → Data) (xs : List A) → ((x : A) → not (has_float (f x)) ≡ true) → not (has_float (array (items_of (map f xs)))) ≡ true
array_plain f xs h = not_by _ (float-all (map f xs) (all_of (λ d. not (has_float d)) f xs h))

default_plain : (rule : Rule) → not (has_float (default_tree rule)) ≡ true
unfolding default_tree
default_plain rule =
    not_by _ (float-every (entered no_members (acting_entries rule)) (every-entered no_float (acting_entries rule) no_members refl
    (and_true _ true (passes_map no_float (codes "key") string rule.key (λ x. refl)) refl)))

rule_plain : (r : RuleAt) → not (has_float (rule_tree r)) ≡ true
unfolding rule_tree
rule_plain r =
    let p = r.patterns in
    not_by _ (float-every (entered no_members (rule_entries r)) (every-entered no_float (rule_entries r) no_members refl
    (and_true _ _ (passes_map no_float (codes "least_scope") (λ n. number (unsigned n)) r.rule.least_scope (λ x. refl))
    (and_true _ _ (passes_map no_float (codes "key") string r.rule.key (λ x. refl))
    (and_true _ _ (passes_map no_float (codes "service") (λ s. string (service_word s)) p.service (λ x. refl))
    (and_true _ _ (passes_map no_float (codes "source") id_tree p.source (λ x. refl))
    (and_true _ _ (passes_map no_float (codes "source_node") id_tree p.source_node (λ x. refl))
    (and_true _ _ (passes_map no_float (codes "context") (λ z. number (of_integer z)) p.context integer_plain)
    (and_true _ true (passes_map no_float (codes "targets") (λ ks. array (items_of (map target_tree ks))) p.targets (λ ks. array_plain target_tree ks target_plain)) refl)))))))))

requirement_plain : (r : Requirement) → not (has_float (requirement_tree r)) ≡ true
unfolding requirement_tree
requirement_plain r =
    not_by _ (float-every (entered no_members (requirement_entries r)) (every-entered no_float (requirement_entries r) no_members refl
    (and_true _ _ (target_plain r.target) (and_true _ true (passes_map no_float (codes "from") id_tree r.from (λ x. refl)) refl))))

not_float : (b : Bool) → not b ≡ true → b ≡ false
not_float true e = absurd cc
not_float false e = refl

pub policy_plain : (p : Parts) → has_float (policy_tree p) ≡ false
unfolding policy_tree
policy_plain p =
    float-every (entered no_members (policy_entries p)) (every-entered no_float (policy_entries p) no_members refl
    (and_true _ _ (default_plain p.default_rule) (and_true _ _ (array_plain rule_tree p.rules rule_plain) (and_true _ true (array_plain requirement_tree p.required requirement_plain) refl))))

-- ---- depth

deep : (n : ℕ) (d : Data) → depth d ≤ n → nat_le (depth d) n ≡ true
deep n d h = le-leb (depth d) n h

target_depth : (k : TargetKind) → nat_le (depth (target_tree k)) 0 ≡ true
target_depth Primary = refl
target_depth (Kind n) = refl

array_depth : {A : Type 0} (n : ℕ) (f : A → Data) (xs : List A) → ((x : A) → nat_le (depth (f x)) n ≡ true) → depth (array (items_of (map f xs))) ≤ suc n
array_depth n f xs h = let inner : items_depth (items_of (map f xs)) ≤ n = depth-all n (map f xs) (all_of (λ d. nat_le (depth d) n) f xs h) in omega arith

targets_depth : (ks : List TargetKind) → nat_le (depth (array (items_of (map target_tree ks)))) 1 ≡ true
targets_depth ks = let h = array_depth 0 target_tree ks target_depth in deep 1 (array (items_of (map target_tree ks))) (omega arith)

default_depth : (rule : Rule) → nat_le (depth (default_tree rule)) 2 ≡ true
unfolding default_tree
default_depth rule =
    let inner : members_depth (entered no_members (acting_entries rule)) ≤ 1 = depth-every 1 (entered no_members (acting_entries rule)) (every-entered (shallow 1) (acting_entries rule) no_members refl
    (and_true _ true (passes_map (shallow 1) (codes "key") string rule.key (λ x. refl)) refl)) in
    deep 2 (object (entered no_members (acting_entries rule))) (omega arith)

rule_depth : (r : RuleAt) → nat_le (depth (rule_tree r)) 2 ≡ true
unfolding rule_tree
rule_depth r =
    let p = r.patterns in
    let inner : members_depth (entered no_members (rule_entries r)) ≤ 1 = depth-every 1 (entered no_members (rule_entries r)) (every-entered (shallow 1) (rule_entries r) no_members refl
    (and_true _ _ (passes_map (shallow 1) (codes "least_scope") (λ n. number (unsigned n)) r.rule.least_scope (λ x. refl))
    (and_true _ _ (passes_map (shallow 1) (codes "key") string r.rule.key (λ x. refl))
    (and_true _ _ (passes_map (shallow 1) (codes "service") (λ s. string (service_word s)) p.service (λ x. refl))
    (and_true _ _ (passes_map (shallow 1) (codes "source") id_tree p.source (λ x. refl))
    (and_true _ _ (passes_map (shallow 1) (codes "source_node") id_tree p.source_node (λ x. refl))
    (and_true _ _ (passes_map (shallow 1) (codes "context") (λ z. number (of_integer z)) p.context (λ x. refl))
    (and_true _ true (passes_map (shallow 1) (codes "targets") (λ ks. array (items_of (map target_tree ks))) p.targets targets_depth) refl)))))))) in
    deep 2 (object (entered no_members (rule_entries r))) (omega arith)

target_depth_1 : (k : TargetKind) → nat_le (depth (target_tree k)) 1 ≡ true
target_depth_1 Primary = refl
target_depth_1 (Kind n) = refl

requirement_depth : (r : Requirement) → nat_le (depth (requirement_tree r)) 2 ≡ true
unfolding requirement_tree
requirement_depth r =
    let inner : members_depth (entered no_members (requirement_entries r)) ≤ 1 = depth-every 1 (entered no_members (requirement_entries r)) (every-entered (shallow 1) (requirement_entries r) no_members refl
    (and_true _ _ (target_depth_1 r.target) (and_true _ true (passes_map (shallow 1) (codes "from") id_tree r.from (λ x. refl)) refl))) in
    deep 2 (object (entered no_members (requirement_entries r))) (omega arith)

deeper : (n m : ℕ) (d : Data) → nat_le (depth d) n ≡ true → n ≤ m → nat_le (depth d) m ≡ true
deeper n m d h le = let low : depth d ≤ n = leb-true (depth d) n h in le-leb (depth d) m (omega arith)

pub policy_depth : (p : Parts) → depth (policy_tree p) ≤ 127
unfolding policy_tree
policy_depth p =
    let rules = array_depth 2 rule_tree p.rules rule_depth in
    let required = array_depth 2 requirement_tree p.required requirement_depth in
    let inner : members_depth (entered no_members (policy_entries p)) ≤ 3 = depth-every 3 (entered no_members (policy_entries p)) (every-entered (shallow 3) (policy_entries p) no_members refl
    (and_true _ _ (deeper 2 3 (default_tree p.default_rule) (default_depth p.default_rule) (omega arith))
    (and_true _ _ (deep 3 (array (items_of (map rule_tree p.rules))) rules) (and_true _ true (deep 3 (array (items_of (map requirement_tree p.required))) required) refl)))) in
    omega arith

-- ---- the text

pub text_again : IdLaw → (p : Parts) (text : List ℕ) → is_policy p ≡ true → PartsFit p → IsUtf8 text → length text ≤ text_limit → read text ≡ Some (policy_tree p) → policy_of text ≡ Ok p
unfolding tree_of
text_again law p text keeps fits utf8 short is =
    rw (le-ltb text_limit (length text) short, is_utf8-from_IsUtf8 text utf8, is) (tree_again law p keeps fits)
