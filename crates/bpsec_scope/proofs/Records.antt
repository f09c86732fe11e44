-- The items of a covered record determine it.
use Rattle.std.proofs.Common.{◌≡◌, ℕ, ◌^◌, ◌<◌, ◌&&◌, Bool, true, false, cond, not, is_some, rules, IsTrue, IsFalse, List, [], ◌∷◌, ◌++◌, length, refl, sym, ap, subst, ◌∙◌, arith, append_assoc, append-nil}
use Rattle.std.proofs.lemmas.Nat.{and_le_l}
use Rattle.std.specs.Prelude.{Option, Some, None}
use Rattle.cbor_profile.specs.Put.{byte_string}
use Rattle.std.specs.Option.{ForSome}
use Rattle.bp_primary.specs.declared.primary.Primary.{Primary}
use Rattle.bp_primary.specs.Spelling.{IsPrimary, spelling}
use Rattle.bpsec_scope.specs.declared.header.Header.{Header}
use Rattle.bpsec_scope.specs.Target.{Target, PrimaryBlock, Body, Sealed, is_primary, is_sealed, body_of}
use Rattle.bpsec_scope.specs.Parts.{Parts, IsParts, IsHeader}
use Rattle.bpsec_scope.specs.Covered.{Scoped, Content, Block, Bytes, Nothing, scoped, assigned, assigned_header, has_flag, scope_flags, selected_primary, selected_target_header, selected_security_header, content_of, header_items, primary_items, content_items, front, ippt, aad}
use Rattle.bpsec_scope.proofs.Items.{Item, Number, spelled, spelled_all, FitAll, Laws, one_list}
use Rattle.bpsec_scope.proofs.Items as items

-- ---- a record as items

header_list : Option Header → List Item
header_list None = []
header_list (Some header) = Number header.kind ∷ Number header.number ∷ Number header.flags ∷ []

primary_list : Option Primary → List Item
primary_list None = []
primary_list (Some primary) = items.Block primary ∷ []

content_list : Content → List Item
content_list (Block primary) = items.Block primary ∷ []
content_list (Bytes body) = items.Bytes body ∷ []
content_list Nothing = []

front_list : Scoped → List Item
front_list covered = Number covered.scope ∷ (primary_list covered.primary ++ (header_list covered.target_header ++ header_list covered.security_header))

pub list_of : Scoped → List Item
list_of covered = Number covered.scope ∷ (primary_list covered.primary ++ (header_list covered.target_header ++ (header_list covered.security_header ++ content_list covered.content)))

spelled_all-append : (xs ys : List Item) → spelled_all (xs ++ ys) ≡ spelled_all xs ++ spelled_all ys
spelled_all-append [] ys = refl
spelled_all-append (x ∷ xs) ys =
    ap (λ bytes. spelled x ++ bytes) (spelled_all-append xs ys) ∙ sym (append_assoc (spelled x) (spelled_all xs) (spelled_all ys))

spelled_header : (header : Option Header) → spelled_all (header_list header) ≡ header_items header
unfolding header_list
spelled_header None = refl
spelled_header (Some header) = simp (append_assoc, append-nil)

spelled_primary : (primary : Option Primary) → spelled_all (primary_list primary) ≡ primary_items primary
unfolding primary_list
spelled_primary None = refl
spelled_primary (Some primary) = append-nil (spelling primary)

spelled_content : (content : Content) → spelled_all (content_list content) ≡ content_items content
unfolding content_list
spelled_content (Block primary) = append-nil (spelling primary)
spelled_content (Bytes body) = append-nil (byte_string body)
spelled_content Nothing = refl

pub spelled_ippt : (covered : Scoped) → spelled_all (list_of covered) ≡ ippt covered
unfolding list_of ippt front
spelled_ippt covered =
    simp (spelled_all-append, spelled_primary, spelled_header, spelled_content, append_assoc)

-- ---- what fits

fit_both : (xs ys : List Item) → FitAll xs → FitAll ys → FitAll (xs ++ ys)
fit_both [] ys fit fit' = fit'
fit_both (x ∷ xs) ys fit fit' = (fit.0, fit_both xs ys fit.1 fit')

fit_header : (test : Bool) (header : Option Header) → ForSome header IsHeader → FitAll (header_list (cond test (assigned_header header) None))
unfolding header_list
fit_header false header fits = tt
fit_header true None fits = tt
fit_header true (Some header) fits =
    let known = fits header refl in (known.0, (known.1, (omega (arith, and_le_l header.flags 23), tt)))

fit_primary : (test : Bool) (primary : Primary) → IsPrimary primary → FitAll (primary_list (cond test (Some primary) None))
unfolding primary_list
fit_primary false primary fits = tt
fit_primary true primary fits = (fits, tt)

fit_content : (primary : Primary) (target : Target) → IsPrimary primary → length (body_of target) < 2 ^ 64 → FitAll (content_list (content_of primary target))
unfolding content_list
fit_content primary PrimaryBlock fits short = (fits, tt)
fit_content primary (Body body) fits short = (short, tt)
fit_content primary Sealed fits short = tt

security_fits : (header : Header) → IsHeader header → ForSome (Some header) IsHeader
security_fits header fits = λ other same.
    let is : header ≡ other = cc in subst IsHeader is fits

pub fit_record : (parts : Parts) (scope : ℕ) → IsParts parts → FitAll (list_of (scoped parts scope))
unfolding list_of scoped
fit_record parts scope is =
    let flags = scope_flags scope in
    let security = fit_header (has_flag flags 4) (Some parts.security_header) (security_fits parts.security_header is.security_header) in
    (omega arith, fit_both _ _ (fit_primary (has_flag flags 1 && not (is_primary parts.target)) parts.primary is.primary) (fit_both _ _ (fit_header (has_flag flags 2 && not (is_primary parts.target)) parts.target_header is.target_header) (fit_both _ _ security (fit_content parts.primary parts.target is.primary is.body))))

-- ---- what the items determine

record_of : ℕ → Option Primary → Option Header → Option Header → Content → Scoped
record_of scope primary target_header security_header content = record {
  scope = scope;
  primary = primary;
  target_header = target_header;
  security_header = security_header;
  content = content;
}

list_parts : ℕ → Option Primary → Option Header → Option Header → Content → List Item
list_parts scope primary target_header security_header content =
    Number scope ∷ (primary_list primary ++ (header_list target_header ++ (header_list security_header ++ content_list content)))

header_of : ℕ → ℕ → ℕ → Header
header_of kind number flags = record { kind = kind; number = number; flags = flags }

header_parts : (header : Header) → header ≡ header_of header.kind header.number header.flags
unfolding header_of
header_parts header = refl

peel_primary : (p q : Option Primary) (x y : List Item) → is_some p ≡ is_some q → primary_list p ++ x ≡ primary_list q ++ y → (p ≡ q) × (x ≡ y)
unfolding primary_list
peel_primary None None x y there e = (refl, e)
peel_primary None (Some q) x y there e = absurd cc
peel_primary (Some p) None x y there e = absurd cc
peel_primary (Some p) (Some q) x y there e = (cc, cc)

peel_header : (h k : Option Header) (x y : List Item) → is_some h ≡ is_some k → header_list h ++ x ≡ header_list k ++ y → (h ≡ k) × (x ≡ y)
unfolding header_list
peel_header None None x y there e = (refl, e)
peel_header None (Some k) x y there e = absurd cc
peel_header (Some h) None x y there e = absurd cc
peel_header (Some h) (Some k) x y there e = (cc (header_parts h, header_parts k), cc)

same_content : (c d : Content) → content_list c ≡ content_list d → c ≡ d
unfolding content_list
same_content (Block p) (Block q) e = cc
same_content (Block p) (Bytes b) e = absurd cc
same_content (Block p) Nothing e = absurd cc
same_content (Bytes a) (Block q) e = absurd cc
same_content (Bytes a) (Bytes b) e = cc
same_content (Bytes a) Nothing e = absurd cc
same_content Nothing (Block q) e = absurd cc
same_content Nothing (Bytes b) e = absurd cc
same_content Nothing Nothing e = refl

same_record : (f : ℕ) (p q : Option Primary) (h k s t : Option Header) (c d : Content) → is_some p ≡ is_some q → is_some h ≡ is_some k → is_some s ≡ is_some t → list_parts f p h s c ≡ list_parts f q k t d → record_of f p h s c ≡ record_of f q k t d
unfolding list_parts
same_record f p q h k s t c d ps hs ss e =
    let rest : primary_list p ++ (header_list h ++ (header_list s ++ content_list c)) ≡ primary_list q ++ (header_list k ++ (header_list t ++ content_list d)) = cc in
    let primary = peel_primary p q _ _ ps rest in
    let target = peel_header h k _ _ hs primary.1 in
    let security = peel_header s t _ _ ss target.1 in
    let content = same_content c d security.1 in
    cc (primary.0, target.0, security.0)

-- a primary block as the target isn't taken for a body
mixed : (f : ℕ) (b1 b2 b4 : Bool) (p q : Primary) (th : Option Header) (h s t : Header) (body : List ℕ) → list_parts f (cond (b1 && false) (Some p) None) (cond (b2 && false) (assigned_header th) None) (cond b4 (Some (assigned s)) None) (Block p) ≡ list_parts f (cond (b1 && true) (Some q) None) (cond (b2 && true) (Some (assigned h)) None) (cond b4 (Some (assigned t)) None) (Bytes body) → ⊥
unfolding list_parts primary_list header_list content_list
mixed f false false false p q th h s t body e = cc
mixed f false false true p q th h s t body e = cc
mixed f false true false p q th h s t body e = cc
mixed f false true true p q th h s t body e = cc
mixed f true false false p q th h s t body e = cc
mixed f true false true p q th h s t body e = cc
mixed f true true false p q th h s t body e = cc
mixed f true true true p q th h s t body e = cc

same_kind : (f : ℕ) (b1 b2 b4 : Bool) (t u : Target) (p q : Primary) (h k : Option Header) (s r : Header) → is_some h ≡ not (is_primary t) → is_some k ≡ not (is_primary u) → is_sealed t ≡ is_sealed u → list_parts f (cond (b1 && not (is_primary t)) (Some p) None) (cond (b2 && not (is_primary t)) (assigned_header h) None) (cond b4 (Some (assigned s)) None) (content_of p t) ≡ list_parts f (cond (b1 && not (is_primary u)) (Some q) None) (cond (b2 && not (is_primary u)) (assigned_header k) None) (cond b4 (Some (assigned r)) None) (content_of q u) → is_primary t ≡ is_primary u
same_kind f b1 b2 b4 PrimaryBlock PrimaryBlock p q h k s r hs ks sealed e = refl
same_kind f b1 b2 b4 PrimaryBlock (Body b) p q h None s r hs ks sealed e = absurd cc
same_kind f b1 b2 b4 PrimaryBlock (Body b) p q h (Some k) s r hs ks sealed e = absurd (mixed f b1 b2 b4 p q h k s r b e)
same_kind f b1 b2 b4 PrimaryBlock Sealed p q h k s r hs ks sealed e = absurd cc
same_kind f b1 b2 b4 (Body a) PrimaryBlock p q None k s r hs ks sealed e = absurd cc
same_kind f b1 b2 b4 (Body a) PrimaryBlock p q (Some h) k s r hs ks sealed e = absurd (mixed f b1 b2 b4 q p k h r s a (sym e))
same_kind f b1 b2 b4 (Body a) (Body b) p q h k s r hs ks sealed e = refl
same_kind f b1 b2 b4 (Body a) Sealed p q h k s r hs ks sealed e = refl
same_kind f b1 b2 b4 Sealed PrimaryBlock p q h k s r hs ks sealed e = absurd cc
same_kind f b1 b2 b4 Sealed (Body b) p q h k s r hs ks sealed e = refl
same_kind f b1 b2 b4 Sealed Sealed p q h k s r hs ks sealed e = refl

primary_there : (b c : Bool) (p q : Primary) → b ≡ c → is_some (cond b (Some p) None) ≡ is_some (cond c (Some q) None)
primary_there false false p q e = refl
primary_there false true p q e = absurd cc
primary_there true false p q e = absurd cc
primary_there true true p q e = refl

assigned_there : (h k : Option Header) → is_some h ≡ is_some k → is_some (assigned_header h) ≡ is_some (assigned_header k)
assigned_there None None e = refl
assigned_there None (Some k) e = absurd cc
assigned_there (Some h) None e = absurd cc
assigned_there (Some h) (Some k) e = refl

header_there : (b c : Bool) (h k : Option Header) → b ≡ c → is_some h ≡ is_some k → is_some (cond b (assigned_header h) None) ≡ is_some (cond c (assigned_header k) None)
header_there false false h k e there = refl
header_there false true h k e there = absurd cc
header_there true false h k e there = absurd cc
header_there true true h k e there = assigned_there h k there

security_there : (b : Bool) (s r : Header) → is_some (cond b (Some (assigned s)) None) ≡ is_some (cond b (Some (assigned r)) None)
security_there false s r = refl
security_there true s r = refl

at_flags : Parts → ℕ → Scoped
at_flags parts flags = record_of flags (selected_primary flags parts) (selected_target_header flags parts) (selected_security_header flags parts) (content_of parts.primary parts.target)

scoped_at : (parts : Parts) (scope : ℕ) → scoped parts scope ≡ at_flags parts (scope_flags scope)
unfolding scoped at_flags record_of
scoped_at parts scope = refl

same_flags : (f g : ℕ) (x y : List Item) → Number f ∷ x ≡ Number g ∷ y → f ≡ g
same_flags f g x y e = cc

at_same_flags : (a b : Parts) (f : ℕ) → IsParts a → IsParts b → is_sealed a.target ≡ is_sealed b.target → list_of (at_flags a f) ≡ list_of (at_flags b f) → at_flags a f ≡ at_flags b f
unfolding at_flags list_of record_of list_parts
at_same_flags a b f is is' sealed e =
    let kind = same_kind f (has_flag f 1) (has_flag f 2) (has_flag f 4) a.target b.target a.primary b.primary a.target_header b.target_header a.security_header b.security_header is.header is'.header sealed e in
    let other : not (is_primary a.target) ≡ not (is_primary b.target) = ap not kind in
    let headers : is_some a.target_header ≡ is_some b.target_header = is.header ∙ (other ∙ sym is'.header) in
    let first : (has_flag f 1 && not (is_primary a.target)) ≡ (has_flag f 1 && not (is_primary b.target)) = ap (λ (test : Bool). has_flag f 1 && test) other in
    let second : (has_flag f 2 && not (is_primary a.target)) ≡ (has_flag f 2 && not (is_primary b.target)) = ap (λ (test : Bool). has_flag f 2 && test) other in
    same_record f (selected_primary f a) (selected_primary f b) (selected_target_header f a) (selected_target_header f b) (selected_security_header f a) (selected_security_header f b) (content_of a.primary a.target) (content_of b.primary b.target) (primary_there _ _ a.primary b.primary first) (header_there _ _ a.target_header b.target_header second headers) (security_there (has_flag f 4) a.security_header b.security_header) e

first_item : (x y : Scoped) → list_of x ≡ list_of y → x.scope ≡ y.scope
unfolding list_of
first_item x y e = same_flags x.scope y.scope _ _ e

scope_of : (parts : Parts) (scope : ℕ) → (scoped parts scope).scope ≡ scope_flags scope
unfolding scoped
scope_of parts scope = refl

pub one_record : Laws → (a b : Parts) (s t : ℕ) → IsParts a → IsParts b → is_sealed a.target ≡ is_sealed b.target → ippt (scoped a s) ≡ ippt (scoped b t) → scoped a s ≡ scoped b t
one_record laws a b s t is is' sealed e =
    let left = scoped a s in
    let right = scoped b t in
    let items = one_list laws (list_of left) (list_of right) (fit_record a s is) (fit_record b t is') (spelled_ippt left ∙ (e ∙ sym (spelled_ippt right))) in
    let flags : scope_flags s ≡ scope_flags t = sym (scope_of a s) ∙ (first_item left right items ∙ scope_of b t) in
    let same : scoped b t ≡ at_flags b (scope_flags s) = scoped_at b t ∙ ap (at_flags b) (sym flags) in
    let lists : list_of (at_flags a (scope_flags s)) ≡ list_of (at_flags b (scope_flags s)) = sym (ap list_of (scoped_at a s)) ∙ (items ∙ ap list_of same) in
    scoped_at a s ∙ (at_same_flags a b (scope_flags s) is is' sealed lists ∙ sym same)

-- nothing but the front is covered of a sealed target
sealed_content : (primary : Primary) (target : Target) → is_sealed target ≡ true → content_items (content_of primary target) ≡ []
sealed_content primary PrimaryBlock e = absurd cc
sealed_content primary (Body body) e = absurd cc
sealed_content primary Sealed e = refl

sealed_ippt : (parts : Parts) (scope : ℕ) → is_sealed parts.target ≡ true → ippt (scoped parts scope) ≡ aad (scoped parts scope) ++ []
unfolding ippt aad scoped
sealed_ippt parts scope e = ap (λ bytes. front (scoped parts scope) ++ bytes) (sealed_content parts.primary parts.target e)

pub one_sealed_record : Laws → (a b : Parts) (s t : ℕ) → IsParts a → IsParts b → is_sealed a.target ≡ true → is_sealed b.target ≡ true → aad (scoped a s) ≡ aad (scoped b t) → scoped a s ≡ scoped b t
one_sealed_record laws a b s t is is' sealed sealed' e =
    one_record laws a b s t is is' (sealed ∙ sym sealed') (sealed_ippt a s sealed ∙ (ap (λ bytes. bytes ++ []) e ∙ sym (sealed_ippt b t sealed')))

pub is_unsealed : (target : Target) → IsFalse (is_sealed target) → is_sealed target ≡ false
is_unsealed PrimaryBlock h = refl
is_unsealed (Body body) h = refl
is_unsealed Sealed h = search rules

pub is_sealed_is : (target : Target) → IsTrue (is_sealed target) → is_sealed target ≡ true
is_sealed_is PrimaryBlock h = search rules
is_sealed_is (Body body) h = search rules
is_sealed_is Sealed h = refl
