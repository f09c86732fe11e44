-- What was written is read back: rules, requirements and the default.
use Rattle.std.proofs.Common.{◌≡◌, ℕ, ◌^◌, Bool, true, not, ◌&&◌, List, [], ◌∷◌, map, length, Option, Some, None, Result, Ok, ℤ, pos, negsuc, refl, sym, ◌∙◌, ap, subst}
use Rattle.std.specs.Prelude.{nat_le, codes, is_some, option_map, IfSome, FitsSigned}
use Rattle.std.specs.Int.{w64}
use Rattle.std.specs.List.{list_all}
use Rattle.std.specs.Str.{bytes_eq}
use Rattle.std.proofs.lemmas.Bool.{lt-ltb}
use Rattle.std.proofs.lemmas.List.{length-map}
use Rattle.std.proofs.lemmas.Slice.Eq.{bytes_eq-Decides}
use Rattle.serde_json.specs.Data.{Data, string, number, array, unsigned, no_members}
use Rattle.serde_json.specs.Find.{get, as_i64, of_integer}
use Rattle.serde_json.specs.View.{items_of}
use Rattle.bp_eid.specs.declared.eid.Eid.{Eid}
use Rattle.bp_eid.specs.EndpointId.{text_form, Fits}
use Rattle.bp_text.specs.declared.fault.TextReason.{TextReason}
use Rattle.bp_text.specs.declared.shape.Kind.{Kind}
use Rattle.bp_text.specs.declared.shape.Kind.TheVariants as kinds
use Rattle.bp_text.specs.Tree.{number_at, signed_at, text_at, list_at}
use Rattle.bp_text.specs.Shape.{is_of, has, may_have, has_only, is_name, is_listed, passes}
use Rattle.bp_text.specs.Field.{word_at, eid_at, bytes_at, optional}
use Rattle.bp_text.specs.IdText.{id_of_text}
use Rattle.bpsec_asb.specs.declared.operation.Service.{Service}
use Rattle.bpsec_asb.specs.declared.operation.Service.TheVariants.{Bib, Bcb}
use Rattle.bpsec_policy.specs.declared.rule.Role.{Role}
use Rattle.bpsec_policy.specs.declared.rule.Role.TheVariants as roles
use Rattle.bpsec_policy.specs.declared.rule.Action.{Action}
use Rattle.bpsec_policy.specs.declared.rule.Action.TheVariants.{Keep, Remove, Discard}
use Rattle.bpsec_policy.specs.declared.rule.TargetKind.{TargetKind}
use Rattle.bpsec_policy.specs.declared.rule.TargetKind.TheVariants.{Primary, Kind as Typed}
use Rattle.bpsec_policy.specs.declared.rule.Rule.{Rule}
use Rattle.bpsec_policy.specs.declared.rule.Patterns.{Patterns}
use Rattle.bpsec_policy.specs.declared.rule.RuleAt.{RuleAt}
use Rattle.bpsec_policy.specs.declared.rule.Requirement.{Requirement}
use Rattle.bpsec_policy.specs.Words.{role_word, action_word, service_word, role_of, action_of, service_of}
use Rattle.bpsec_policy.specs.Rules.{allows}
use Rattle.bpsec_policy.specs.Policy.{are_patterns, is_rule, is_default, is_requirement, is_security}
use Rattle.bpsec_policy.specs.Ranges.{PatternsFit}
use Rattle.bpsec_policy.specs.RuleText.{is_target, is_plain_target, target_of, target_at, are_targets, targets_of, targets_at, either_at, may_pass, sources_at, is_acting_shape, acting_at, is_default_shape, default_at, rule_keys, are_patterns_shape, is_rule_shape, patterns_at, rule_at, is_requirement_shape, requirement_at}
use Rattle.bpsec_policy.specs.Written.{entered, id_tree, target_tree, acting_entries, rule_entries, rule_tree, requirement_entries, requirement_tree, default_tree}
use Rattle.bpsec_policy.proofs.Steps.{both_true, and_true}
use Rattle.bpsec_policy.proofs.Entered.{passes_if, found, get-entered, pick-none, every-entered, all_listed-every, list_of-items_of}

-- the text of an id is read as that id
abbrev pub IdLaw : Type 0
IdLaw = (eid : Eid) → Fits eid → id_of_text (text_form eid) ≡ Some eid

-- ---- words

pub role_again : (r : Role) → role_of (role_word r) ≡ Some r
role_again roles.Acceptor = refl
role_again roles.Verifier = refl
role_again roles.None = refl

pub action_again : (a : Action) → action_of (action_word a) ≡ Some a
action_again Keep = refl
action_again Remove = refl
action_again Discard = refl

pub service_again : (s : Service) → service_of (service_word s) ≡ Some s
service_again Bib = refl
service_again Bcb = refl

-- ---- fields of a tree

pub has_by : (kind : Kind) (key : List ℕ) (d v : Data) → get key d ≡ Some v → is_of kind v ≡ true → has kind key d ≡ true
unfolding has
has_by kind key d v e h = rw e h

may_by : (kind : Kind) (key : List ℕ) (d : Data) (o : Option Data) → get key d ≡ o → allows o (is_of kind) ≡ true → may_have kind key d ≡ true
unfolding may_have
may_by kind key d None e h = rw e refl
may_by kind key d (Some v) e h = rw e h

-- an optional value of a kind
may_map : {A : Type 0} (kind : Kind) (key : List ℕ) (d : Data) (tree : A → Data) (o : Option A) → get key d ≡ option_map tree o → ((x : A) → o ≡ Some x → is_of kind (tree x) ≡ true) → may_have kind key d ≡ true
may_map kind key d tree None e h = may_by kind key d None e refl
may_map kind key d tree (Some x) e h = may_by kind key d (Some (tree x)) e (h x refl)

pub text_is : (s : List ℕ) → is_of kinds.Text (string s) ≡ true
unfolding is_of
text_is s = refl

pub name_is : (s : List ℕ) → is_name s ≡ true → is_of kinds.Name (string s) ≡ true
unfolding is_of
name_is s h = h

pub word_by : {A : Type 0} (words : List ℕ → Option A) (key : List ℕ) (d : Data) (text : List ℕ) (x : A) → get key d ≡ Some (string text) → words text ≡ Some x → word_at words key d ≡ Ok x
word_by words key d text x e h = rw (e, h) refl

pub eid_by : IdLaw → (key : List ℕ) (d : Data) (eid : Eid) → Fits eid → get key d ≡ Some (id_tree eid) → eid_at key d ≡ Ok eid
unfolding eid_at
eid_by law key d eid fits e = word_by id_of_text key d (text_form eid) eid e (law eid fits)

bytes_by : (key : List ℕ) (d : Data) (text : List ℕ) → get key d ≡ Some (string text) → bytes_at key d ≡ Ok text
bytes_by key d text e = rw e refl

optional_by : {A : Type 0} (read : List ℕ → Data → Result A TextReason) (key : List ℕ) (d : Data) (tree : A → Data) (o : Option A) → get key d ≡ option_map tree o
    → ((x : A) → o ≡ Some x → get key d ≡ Some (tree x) → read key d ≡ Ok x) → optional read key d ≡ Ok o
unfolding optional
optional_by read key d tree None e h = rw e refl
optional_by read key d tree (Some x) e h = rw (e, h x refl e) refl

-- ---- what a rule and the default share

-- the tree has these fields
pub record HasActing (rule : Rule) (d : Data) : Type 0 where
  pub role : get (codes "role") d ≡ Some (string (role_word rule.role))
  pub failed : get (codes "failed") d ≡ Some (string (action_word rule.failed))
  pub misset : get (codes "misset") d ≡ Some (string (action_word rule.misset))
  pub key : get (codes "key") d ≡ option_map string rule.key

key_is : (rule : Rule) (text : List ℕ) → allows rule.key is_name ≡ true → rule.key ≡ Some text → is_name text ≡ true
key_is rule text h e = sym (ap (λ (o : Option (List ℕ)). allows o is_name) e) ∙ h

acting_shape : (rule : Rule) (d : Data) → HasActing rule d → allows rule.key is_name ≡ true → is_acting_shape d ≡ true
unfolding is_acting_shape
acting_shape rule d h named =
    and_true _ _ (has_by kinds.Text (codes "role") d _ h.role (text_is _)) (and_true _ _ (has_by kinds.Text (codes "failed") d _ h.failed (text_is _))
    (and_true _ _ (has_by kinds.Text (codes "misset") d _ h.misset (text_is _)) (may_map kinds.Name (codes "key") d string rule.key h.key (λ x e. name_is x (key_is rule x named e)))))

acting_again : (rule : Rule) (d : Data) → HasActing rule d → acting_at rule.name rule.least_scope d ≡ Ok rule
unfolding acting_at
acting_again rule d h =
    let role = word_by role_of (codes "role") d (role_word rule.role) rule.role h.role (role_again rule.role) in
    let failed = word_by action_of (codes "failed") d (action_word rule.failed) rule.failed h.failed (action_again rule.failed) in
    let misset = word_by action_of (codes "misset") d (action_word rule.misset) rule.misset h.misset (action_again rule.misset) in
    let key = optional_by bytes_at (codes "key") d string rule.key h.key (λ x e f. bytes_by (codes "key") d x f) in
    rw (role, failed, misset, key) refl

-- ---- the default

default_fields : (rule : Rule) → HasActing rule (default_tree rule)
unfolding default_tree
default_fields rule =
    let es = acting_entries rule in record {
      role = get-entered (codes "role") es no_members;
      failed = get-entered (codes "failed") es no_members;
      misset = get-entered (codes "misset") es no_members;
      key = get-entered (codes "key") es no_members ∙ pick-none (option_map string rule.key);
    }

listed_if : (keys : List (List ℕ)) (k : List ℕ) (o : Option Data) → is_listed keys k ≡ true → passes_if (λ key d. is_listed keys key) k o ≡ true
listed_if keys k None h = refl
listed_if keys k (Some d) h = h

default_only : (rule : Rule) → has_only (codes "role" ∷ codes "failed" ∷ codes "misset" ∷ codes "key" ∷ []) (default_tree rule) ≡ true
unfolding default_tree has_only
default_only rule =
    let keys : List (List ℕ) = codes "role" ∷ codes "failed" ∷ codes "misset" ∷ codes "key" ∷ [] in
    all_listed-every keys (entered no_members (acting_entries rule)) (every-entered (λ k d. is_listed keys k) (acting_entries rule) no_members refl
    (and_true _ true (listed_if keys (codes "key") (option_map string rule.key) refl) refl))

same_default : (rule : Rule) → is_default rule ≡ true → (rule.name ≡ codes "default") × (rule.least_scope ≡ None) × (allows rule.key is_name ≡ true)
same_default rule h =
    let a = both_true (bytes_eq rule.name (codes "default")) _ h in
    let b = both_true (allows rule.key is_name) (not (is_some rule.least_scope)) a.1 in
    ((bytes_eq-Decides rule.name (codes "default")).0 a.0, none_there rule.least_scope b.1, b.0)
  where
    none_there : (o : Option ℕ) → not (is_some o) ≡ true → o ≡ None
    none_there None e = refl
    none_there (Some n) e = absurd cc

pub default_again : (rule : Rule) → is_default rule ≡ true → default_at (default_tree rule) ≡ Ok rule
unfolding default_at is_default_shape
default_again rule h =
    let d = default_tree rule in
    let same = same_default rule h in
    let fields = default_fields rule in
    let shape = and_true _ _ (default_only rule) (acting_shape rule d fields same.2) in
    rw shape (subst (λ (w : List ℕ × Option ℕ). acting_at w.0 w.1 d ≡ Ok rule) (let e = same.0 in let f = same.1 in let both : (rule.name, rule.least_scope) ≡ (codes "default", None) = cc in both) (acting_again rule d fields))

-- ---- targets

targets_again : (ks : List TargetKind) → targets_of (map target_tree ks) ≡ Ok ks
targets_again [] = refl
targets_again (Primary ∷ ks) = rw (targets_again ks) refl
targets_again (Typed n ∷ ks) = rw (targets_again ks) refl

all_targets : (ks : List TargetKind) → list_all is_target (map target_tree ks) ≡ true
all_targets [] = refl
all_targets (Primary ∷ ks) = all_targets ks
all_targets (Typed n ∷ ks) = all_targets ks

list_by : (key : List ℕ) (d : Data) (ds : List Data) → get key d ≡ Some (array (items_of ds)) → list_at key d ≡ Some ds
list_by key d ds e = rw e (ap Some (list_of-items_of ds))

read_targets : (key : List ℕ) (d : Data) (ks : List TargetKind) → get key d ≡ Some (array (items_of (map target_tree ks))) → targets_at key d ≡ Ok ks
read_targets key d ks e = rw (list_by key d (map target_tree ks) e) (targets_again ks)

count_is : (ks : List TargetKind) → (nat_le 1 (length ks) && nat_le (length ks) 16) ≡ true → are_targets (array (items_of (map target_tree ks))) ≡ true
count_is ks h =
    let p = both_true (nat_le 1 (length ks)) (nat_le (length ks) 16) h in
    let len : length (map target_tree ks) ≡ length ks = length-map ks target_tree in
    rw (list_of-items_of (map target_tree ks), len, p.0, p.1) (all_targets ks)

may_pass_by : (test : Data → Bool) (key : List ℕ) (d : Data) (o : Option Data) → get key d ≡ o → allows o test ≡ true → may_pass test key d ≡ true
may_pass_by test key d None e h = rw e refl
may_pass_by test key d (Some v) e h = rw e h

may_targets : (key : List ℕ) (d : Data) (o : Option (List TargetKind)) → get key d ≡ option_map (λ ks. array (items_of (map target_tree ks))) o
    → allows o (λ ks. nat_le 1 (length ks) && nat_le (length ks) 16) ≡ true → may_pass are_targets key d ≡ true
may_targets key d None e h = may_pass_by are_targets key d None e refl
may_targets key d (Some ks) e h = may_pass_by are_targets key d (Some (array (items_of (map target_tree ks)))) e (count_is ks h)

-- ---- contexts

integer_again : (z : ℤ) → FitsSigned w64 z → as_i64 (of_integer z) ≡ Some z
integer_again (pos n) h = rw (lt-ltb n (2 ^ 63) h.sfits) refl
integer_again (negsuc n) h = refl

context_by : (key : List ℕ) (d : Data) (o : Option ℤ) → get key d ≡ option_map (λ z. number (of_integer z)) o → IfSome o (λ z. FitsSigned w64 z) → signed_at key d ≡ o
context_by key d None e fits = rw e refl
context_by key d (Some z) e fits = rw e (integer_again z fits)

context_is : (z : ℤ) → FitsSigned w64 z → is_of kinds.Signed (number (of_integer z)) ≡ true
unfolding is_of
context_is z fits = ap is_some (integer_again z fits)

-- ---- rules

-- the tree has these fields
record HasPatterns (p : Patterns) (d : Data) : Type 0 where
  pub service : get (codes "service") d ≡ option_map (λ s. string (service_word s)) p.service
  pub source : get (codes "source") d ≡ option_map id_tree p.source
  pub source_node : get (codes "source_node") d ≡ option_map id_tree p.source_node
  pub context : get (codes "context") d ≡ option_map (λ z. number (of_integer z)) p.context
  pub target : get (codes "target") d ≡ None
  pub targets : get (codes "targets") d ≡ option_map (λ ks. array (items_of (map target_tree ks))) p.targets

there : {A : Type 0} (tree : A → Data) (o : Option A) → is_some (option_map tree o) ≡ is_some o
there tree None = refl
there tree (Some x) = refl

if_some : {A : Type 0} (o : Option A) (P : A → Type 0) (x : A) → IfSome o P → o ≡ Some x → P x
if_some None P x h e = absurd cc
if_some (Some y) P x h e = let same : y ≡ x = cc in subst P same h

patterns_shape : (p : Patterns) (d : Data) → HasPatterns p d → PatternsFit p → are_patterns p ≡ true → are_patterns_shape d ≡ true
unfolding are_patterns_shape
patterns_shape p d h fits keeps =
    let parts = both_true (allows p.targets (λ ks. nat_le 1 (length ks) && nat_le (length ks) 16)) (not (is_some p.source && is_some p.source_node)) keeps in
    let service = may_map kinds.Text (codes "service") d (λ s. string (service_word s)) p.service h.service (λ x e. text_is _) in
    let source = may_map kinds.Text (codes "source") d id_tree p.source h.source (λ x e. text_is _) in
    let node = may_map kinds.Text (codes "source_node") d id_tree p.source_node h.source_node (λ x e. text_is _) in
    let one : not (is_some (get (codes "source") d) && is_some (get (codes "source_node") d)) ≡ true = rw (h.source, h.source_node, there id_tree p.source, there id_tree p.source_node) parts.1 in
    let context = may_map kinds.Signed (codes "context") d (λ z. number (of_integer z)) p.context h.context (λ x e. context_is x (if_some p.context (λ z. FitsSigned w64 z) x fits.context e)) in
    let target = may_pass_by is_target (codes "target") d None h.target refl in
    let targets = may_targets (codes "targets") d p.targets h.targets parts.0 in
    and_true _ _ service (and_true _ _ (and_true _ _ source (and_true _ _ node one)) (and_true _ _ context (and_true _ _ target targets)))

sources_again : IdLaw → (p : Patterns) (d : Data) → HasPatterns p d → PatternsFit p → sources_at d ≡ Ok (p.source, p.source_node)
sources_again law p d h fits =
    let source = optional_by eid_at (codes "source") d id_tree p.source h.source (λ x e f. eid_by law (codes "source") d x (if_some p.source Fits x fits.source e) f) in
    let node = optional_by eid_at (codes "source_node") d id_tree p.source_node h.source_node (λ x e f. eid_by law (codes "source_node") d x (if_some p.source_node Fits x fits.source_node e) f) in
    rw (source, node) refl

kinds_again : (p : Patterns) (d : Data) → HasPatterns p d → either_at d ≡ Ok p.targets
kinds_again p d h =
    let targets = optional_by targets_at (codes "targets") d (λ ks. array (items_of (map target_tree ks))) p.targets h.targets (λ ks e f. read_targets (codes "targets") d ks f) in
    rw h.target targets

patterns_again : IdLaw → (p : Patterns) (d : Data) → HasPatterns p d → PatternsFit p → patterns_at d ≡ Ok p
unfolding patterns_at
patterns_again law p d h fits =
    let service = optional_by (word_at service_of) (codes "service") d (λ s. string (service_word s)) p.service h.service (λ x e f. word_by service_of (codes "service") d (service_word x) x f (service_again x)) in
    let context = context_by (codes "context") d p.context h.context fits.context in
    rw (service, sources_again law p d h fits, kinds_again p d h, context) refl

rule_field : (r : RuleAt) (key : List ℕ) → get key (rule_tree r) ≡ found key (rule_entries r) None
unfolding rule_tree
rule_field r key = get-entered key (rule_entries r) no_members

rule_acting : (r : RuleAt) → HasActing r.rule (rule_tree r)
rule_acting r = record {
  role = rule_field r (codes "role");
  failed = rule_field r (codes "failed");
  misset = rule_field r (codes "misset");
  key = rule_field r (codes "key") ∙ pick-none (option_map string r.rule.key);
}

rule_patterns : (r : RuleAt) → HasPatterns r.patterns (rule_tree r)
rule_patterns r = record {
  service = rule_field r (codes "service") ∙ pick-none (option_map (λ s. string (service_word s)) r.patterns.service);
  source = rule_field r (codes "source") ∙ pick-none (option_map id_tree r.patterns.source);
  source_node = rule_field r (codes "source_node") ∙ pick-none (option_map id_tree r.patterns.source_node);
  context = rule_field r (codes "context") ∙ pick-none (option_map (λ z. number (of_integer z)) r.patterns.context);
  target = rule_field r (codes "target");
  targets = rule_field r (codes "targets") ∙ pick-none (option_map (λ ks. array (items_of (map target_tree ks))) r.patterns.targets);
}

least_by : (d : Data) (o : Option ℕ) → get (codes "least_scope") d ≡ option_map (λ n. number (unsigned n)) o → number_at (codes "least_scope") d ≡ o
least_by d None e = rw e refl
least_by d (Some n) e = rw e refl

number_is : (most n : ℕ) → nat_le n most ≡ true → is_of (kinds.Number most) (number (unsigned n)) ≡ true
unfolding is_of
number_is most n h = h

least_is : (most : ℕ) (o : Option ℕ) (n : ℕ) → allows o (λ m. nat_le m most) ≡ true → o ≡ Some n → nat_le n most ≡ true
least_is most None n h e = absurd cc
least_is most (Some m) n h e = let same : m ≡ n = cc in subst (λ (k : ℕ). nat_le k most ≡ true) same h

rule_only : (r : RuleAt) → has_only (rule_keys 2) (rule_tree r) ≡ true
unfolding rule_tree has_only
rule_only r =
    let keys = rule_keys 2 in
    let test = λ (k : List ℕ) (d : Data). is_listed keys k in
    let p = r.patterns in
    all_listed-every keys (entered no_members (rule_entries r)) (every-entered test (rule_entries r) no_members refl
    (and_true _ _ (listed_if keys (codes "least_scope") (option_map (λ n. number (unsigned n)) r.rule.least_scope) refl)
    (and_true _ _ (listed_if keys (codes "key") (option_map string r.rule.key) refl)
    (and_true _ _ (listed_if keys (codes "service") (option_map (λ s. string (service_word s)) p.service) refl)
    (and_true _ _ (listed_if keys (codes "source") (option_map id_tree p.source) refl)
    (and_true _ _ (listed_if keys (codes "source_node") (option_map id_tree p.source_node) refl)
    (and_true _ _ (listed_if keys (codes "context") (option_map (λ z. number (of_integer z)) p.context) refl)
    (and_true _ true (listed_if keys (codes "targets") (option_map (λ ks. array (items_of (map target_tree ks))) p.targets) refl) refl))))))))

pub rule_again : IdLaw → (r : RuleAt) → is_rule r ≡ true → PatternsFit r.patterns → rule_at 2 (rule_tree r) ≡ Ok r
unfolding rule_at is_rule_shape
rule_again law r keeps fits =
    let d = rule_tree r in
    let a = both_true (is_name r.rule.name) _ keeps in
    let b = both_true (allows r.rule.key is_name) _ a.1 in
    let c = both_true (allows r.rule.least_scope (λ n. nat_le n 7)) (are_patterns r.patterns) b.1 in
    let named : get (codes "name") d ≡ Some (string r.rule.name) = rule_field r (codes "name") in
    let least : get (codes "least_scope") d ≡ option_map (λ n. number (unsigned n)) r.rule.least_scope = rule_field r (codes "least_scope") ∙ pick-none _ in
    let shape = and_true _ _ (rule_only r) (and_true _ _ (has_by kinds.Name (codes "name") d _ named (name_is r.rule.name a.0)) (and_true _ _ (acting_shape r.rule d (rule_acting r) b.0)
    (and_true _ _ (patterns_shape r.patterns d (rule_patterns r) fits c.1) (may_map (kinds.Number 7) (codes "least_scope") d (λ n. number (unsigned n)) r.rule.least_scope least (λ n e. number_is 7 n (least_is 7 r.rule.least_scope n c.0 e)))))) in
    let acting : acting_at r.rule.name (number_at (codes "least_scope") d) d ≡ Ok r.rule = rw (least_by d r.rule.least_scope least) (acting_again r.rule d (rule_acting r)) in
    rw (shape, bytes_by (codes "name") d r.rule.name named, acting, patterns_again law r.patterns d (rule_patterns r) fits) refl

-- ---- requirements

requirement_field : (r : Requirement) (key : List ℕ) → get key (requirement_tree r) ≡ found key (requirement_entries r) None
unfolding requirement_tree
requirement_field r key = get-entered key (requirement_entries r) no_members

requirement_only : (r : Requirement) → has_only (codes "name" ∷ codes "target" ∷ codes "service" ∷ codes "missing" ∷ codes "from" ∷ []) (requirement_tree r) ≡ true
unfolding requirement_tree has_only
requirement_only r =
    let keys : List (List ℕ) = codes "name" ∷ codes "target" ∷ codes "service" ∷ codes "missing" ∷ codes "from" ∷ [] in
    all_listed-every keys (entered no_members (requirement_entries r)) (every-entered (λ k d. is_listed keys k) (requirement_entries r) no_members refl
    (and_true _ true (listed_if keys (codes "from") (option_map id_tree r.from) refl) refl))

plain : (k : TargetKind) → not (is_security k) ≡ true → is_plain_target (target_tree k) ≡ true
plain Primary h = refl
plain (Typed n) h = h

target_again : (k : TargetKind) → target_of (target_tree k) ≡ Ok k
target_again Primary = refl
target_again (Typed n) = refl

pub requirement_again : IdLaw → (r : Requirement) → is_requirement r ≡ true → IfSome r.from Fits → requirement_at (requirement_tree r) ≡ Ok r
unfolding requirement_at is_requirement_shape
requirement_again law r keeps fits =
    let d = requirement_tree r in
    let a = both_true (is_name r.name) (not (is_security r.target)) keeps in
    let named : get (codes "name") d ≡ Some (string r.name) = requirement_field r (codes "name") in
    let target : get (codes "target") d ≡ Some (target_tree r.target) = requirement_field r (codes "target") in
    let service : get (codes "service") d ≡ Some (string (service_word r.service)) = requirement_field r (codes "service") in
    let missing : get (codes "missing") d ≡ Some (string (action_word r.missing)) = requirement_field r (codes "missing") in
    let from : get (codes "from") d ≡ option_map id_tree r.from = requirement_field r (codes "from") ∙ pick-none _ in
    let plain_there : passes is_plain_target (get (codes "target") d) ≡ true = rw target (plain r.target a.1) in
    let shape = and_true _ _ (requirement_only r) (and_true _ _ (has_by kinds.Name (codes "name") d _ named (name_is r.name a.0)) (and_true _ _ plain_there
    (and_true _ _ (has_by kinds.Text (codes "service") d _ service (text_is _)) (and_true _ _ (has_by kinds.Text (codes "missing") d _ missing (text_is _)) (may_map kinds.Text (codes "from") d id_tree r.from from (λ x e. text_is _)))))) in
    let kind : target_at (codes "target") d ≡ Ok r.target = rw target (target_again r.target) in
    let word = word_by service_of (codes "service") d (service_word r.service) r.service service (service_again r.service) in
    let eid = optional_by eid_at (codes "from") d id_tree r.from from (λ x e f. eid_by law (codes "from") d x (if_some r.from Fits x fits e) f) in
    let act = word_by action_of (codes "missing") d (action_word r.missing) r.missing missing (action_again r.missing) in
    rw (shape, bytes_by (codes "name") d r.name named, kind, word, eid, act) refl

-- ---- names

pub rule_name : (r : RuleAt) → text_at (codes "name") (rule_tree r) ≡ Some r.rule.name
rule_name r = rw (rule_field r (codes "name")) refl

pub requirement_name : (r : Requirement) → text_at (codes "name") (requirement_tree r) ≡ Some r.name
requirement_name r = rw (requirement_field r (codes "name")) refl
