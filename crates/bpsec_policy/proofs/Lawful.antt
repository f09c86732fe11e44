-- What the parts of a policy keep, one by one.
use Rattle.std.proofs.Common.{◌≡◌, ℕ, ◌≤◌, Bool, true, ◌&&◌, List, [], ◌∷◌, ◌++◌, length, refl, arith}
use Rattle.std.specs.Prelude.{nat_le, codes, IsTrue}
use Rattle.std.specs.Fmt.{decimal}
use Rattle.std.specs.List.{AllByRecursion, list_all}
use Rattle.std.specs.Str.{IsAscii}
use Rattle.std.proofs.lemmas.Bool.{leb-true}
use Rattle.std.proofs.lemmas.Fmt.{IsAscii-decimal}
use Rattle.std.proofs.lemmas.Str.{IsAscii-append}
use Rattle.std.proofs.lemmas.Str.Ascii.{IsAscii-nil, IsAscii-cons}
use Rattle.bp_eid.specs.declared.eid.Eid.{Eid}
use Rattle.bp_eid.specs.declared.eid.Eid.TheVariants.{Null, Dtn, Ipn}
use Rattle.bp_eid.specs.DtnText.{is_dtn_text}
use Rattle.bp_eid.specs.EndpointId.{text_form, Fits}
use Rattle.bp_text.specs.Shape.{is_name}
use Rattle.bpsec_policy.specs.declared.rule.TargetKind.{TargetKind}
use Rattle.bpsec_policy.specs.Rules.{Parts, allows}
use Rattle.bpsec_policy.specs.Policy.{is_rule, is_default, is_requirement, is_policy}
use Rattle.bpsec_policy.proofs.Steps.{both_true}

all_true : {A : Type 0} (test : A → Bool) (xs : List A) → list_all test xs ≡ true → AllByRecursion (λ x. test x ≡ true) xs
all_true test [] h = tt
all_true test (x ∷ xs) h = let p = both_true (test x) (list_all test xs) h in (p.0, all_true test xs p.1)

pub all_units : (ks : List TargetKind) → AllByRecursion (λ k. Unit {0}) ks
all_units [] = tt
all_units (k ∷ ks) = (tt, all_units ks)

-- ---- visible characters are ASCII

ascii_by : (bs : List ℕ) → list_all (λ b. nat_le b 127) bs ≡ true → IsAscii bs
ascii_by [] h = IsAscii-nil
ascii_by (b ∷ bs) h =
    let p = both_true (nat_le b 127) (list_all (λ x. nat_le x 127) bs) h in
    let low : b ≤ 127 = leb-true b 127 p.0 in
    IsAscii-cons b bs (omega arith) (ascii_by bs p.1)

visible_ascii : (text : List ℕ) → list_all (λ b. nat_le 33 b && nat_le b 126) text ≡ true → IsAscii text
visible_ascii [] h = IsAscii-nil
visible_ascii (b ∷ bs) h =
    let p = both_true (nat_le 33 b && nat_le b 126) (list_all (λ x. nat_le 33 x && nat_le x 126) bs) h in
    let low : b ≤ 126 = leb-true b 126 (both_true (nat_le 33 b) (nat_le b 126) p.0).1 in
    IsAscii-cons b bs (omega arith) (visible_ascii bs p.1)

pub name_ascii : (name : List ℕ) → is_name name ≡ true → IsAscii name
unfolding is_name
name_ascii name h =
    let a = both_true (nat_le 1 (length name)) _ h in
    let b = both_true (nat_le (length name) 64) _ a.1 in
    visible_ascii name b.1

pub id_ascii : (eid : Eid) → Fits eid → IsAscii (text_form eid)
unfolding text_form is_dtn_text
id_ascii Null fits = ascii_by (codes "dtn:none") refl
id_ascii (Dtn text) fits =
    let a = both_true (nat_le (length text) 1024) _ fits in
    let b = both_true _ _ a.1 in
    IsAscii-append (codes "dtn:") text (ascii_by (codes "dtn:") refl) (visible_ascii text b.0)
id_ascii (Ipn node service) fits =
    IsAscii-append (codes "ipn:") (decimal node ++ (46 ∷ decimal service)) (ascii_by (codes "ipn:") refl)
    (IsAscii-append (decimal node) (46 ∷ decimal service) (IsAscii-decimal node fits.0) (IsAscii-append (46 ∷ []) (decimal service) (ascii_by (46 ∷ []) refl) (IsAscii-decimal service fits.1)))

-- ---- policies

pub policy_parts : (p : Parts) → IsTrue (is_policy p) → (allows p.default_rule.key is_name ≡ true) × AllByRecursion (λ r. is_rule r ≡ true) p.rules × AllByRecursion (λ r. is_requirement r ≡ true) p.required
unfolding is_policy
policy_parts p h =
    let a = both_true (nat_le (length p.rules) 256) _ h in
    let b = both_true (nat_le (length p.required) 64) _ a.1 in
    let c = both_true (is_default p.default_rule) _ b.1 in
    let d = both_true _ _ c.0 in
    let e = both_true (allows p.default_rule.key is_name) _ d.1 in
    let f = both_true (list_all is_rule p.rules) _ c.1 in
    let g = both_true (list_all is_requirement p.required) _ f.1 in
    (e.0, all_true is_rule p.rules f.0, all_true is_requirement p.required g.0)
