-- The id that a text is found to be that of is the one that the definition gives.
use Rattle.std.proofs.Math.ListN.{get_or-append}
use Rattle.std.proofs.Math.Seq.{get_or-append_seam}
use Rattle.std.proofs.Common.{append_assoc, ◌≡◌, ◌≢◌, ℕ, ◌+◌, ◌^◌, ◌<◌, Bool, true, false, ◌&&◌, cond, eqb, List, [], ◌∷◌, ◌++◌, length, get_or, take, drop, Option, Some, None, refl, sym, ◌∙◌, ap, subst, arith}
use Rattle.std.specs.Prelude.{codes}
use Rattle.std.specs.Fmt.{decimal}
use Rattle.std.specs.List.{position_or_len, before_first, after_first}
use Rattle.std.specs.Str.{bytes_eq}
use Rattle.std.specs.Str.Parse.{AllDigits, digits_value}
use Rattle.std.proofs.lemmas.Bool.{false≢true, eqb-true, ltb-true, lt-ltb}
use Rattle.std.proofs.lemmas.Fmt.{digits_decimal, digits_value-decimal}
use Rattle.std.proofs.lemmas.List.{length-append, take_at, drop_at}
use Rattle.std.proofs.lemmas.List.Sums.{position_or_len_is}
use Rattle.std.proofs.lemmas.Slice.Eq.{bytes_eq-Decides}
use Rattle.std.proofs.lemmas.Str.Parse.{IsNumeralModel, numerals_by_value, tells_digits, not_in_digits}
use Rattle.bp_eid.specs.declared.eid.Eid.{Eid}
use Rattle.bp_eid.specs.declared.eid.Eid.TheVariants.{Null, Dtn, Ipn}
use Rattle.bp_eid.specs.DtnText.{is_dtn_text, IsDtnText}
use Rattle.bp_eid.specs.EndpointId.{text_form, Fits}
use Rattle.bp_text.specs.IdText.{candidate, is_id, id_of_text}

numerals : IsNumeralModel (AllDigits 10) (digits_value 10)
numerals = numerals_by_value (AllDigits 10) tells_digits

no_dot : (n : ℕ) → n < 2 ^ 64 → (i : ℕ) → i < length (decimal n) → get_or (decimal n) i 0 ≢ 46
no_dot n lt = not_in_digits numerals (decimal n) 46 (digits_decimal numerals n lt) (λ h. omega (arith, h))

-- ---- what stands around the first dot

abbrev is_dot : ℕ → Bool
is_dot b = eqb b 46

apart : (x y : ℕ) (b : Bool) → eqb x y ≡ b → x ≢ y → b ≡ false
apart x y true e other = absurd (other (eqb-true x y e))
apart x y false e other = refl

dot_at : (a b : List ℕ) → ((i : ℕ) → i < length a → get_or a i 0 ≢ 46) → position_or_len is_dot (a ++ 46 ∷ b) ≡ length a
dot_at a b none =
    let long : length (a ++ 46 ∷ b) ≡ length a + length (46 ∷ b) = length-append a (46 ∷ b) in
    position_or_len_is is_dot (a ++ 46 ∷ b) (length a) 0 (omega (arith, long))
    (λ k lt. rw (get_or-append a (46 ∷ b) 0 k lt) (apart _ _ _ refl (none k lt)))
    (λ _. rw (get_or-append_seam a 46 b 0) refl)

before_dot : (a b : List ℕ) → ((i : ℕ) → i < length a → get_or a i 0 ≢ 46) → before_first is_dot (a ++ 46 ∷ b) ≡ a
before_dot a b none = ap (λ (n : ℕ). take n (a ++ 46 ∷ b)) (dot_at a b none) ∙ take_at a (46 ∷ b) (length a) refl

after_dot : (a b : List ℕ) → ((i : ℕ) → i < length a → get_or a i 0 ≢ 46) → after_first is_dot (a ++ 46 ∷ b) ≡ b
after_dot a b none =
    let parts : a ++ 46 ∷ b ≡ (a ++ 46 ∷ []) ++ b = sym (append_assoc a (46 ∷ []) b) in
    let long : length (a ++ 46 ∷ []) ≡ length a + 1 = length-append a (46 ∷ []) in
    ap (λ (n : ℕ). drop (n + 1) (a ++ 46 ∷ b)) (dot_at a b none) ∙ (ap (drop (length a + 1)) parts ∙ drop_at (a ++ 46 ∷ []) b (length a + 1) long)

-- ---- the candidate

none_is_no_text : IsDtnText (codes "none") → ⊥
unfolding is_dtn_text
none_is_no_text e = cc

not_none : (b : Bool) (t : List ℕ) → bytes_eq t (codes "none") ≡ b → IsDtnText t → b ≡ false
not_none true t e rule = absurd (none_is_no_text (subst IsDtnText ((bytes_eq-Decides t (codes "none")).0 e) rule))
not_none false t e rule = refl

pub candidate-text_form : (eid : Eid) → Fits eid → candidate (text_form eid) ≡ eid
unfolding text_form
candidate-text_form Null fits = refl
candidate-text_form (Dtn t) fits = rw (not_none _ t refl fits) refl
candidate-text_form (Ipn node service) fits =
    let none = no_dot node fits.0 in
    let n : digits_value 10 (before_first is_dot (decimal node ++ 46 ∷ decimal service)) ≡ node = ap (digits_value 10) (before_dot (decimal node) (decimal service) none) ∙ digits_value-decimal numerals node fits.0 in
    let s : digits_value 10 (after_first is_dot (decimal node ++ 46 ∷ decimal service)) ≡ service = ap (digits_value 10) (after_dot (decimal node) (decimal service) none) ∙ digits_value-decimal numerals service fits.1 in
    cc

pub is_id-Fits : (eid : Eid) → Fits eid → is_id eid ≡ true
is_id-Fits Null fits = refl
is_id-Fits (Dtn t) fits = fits
is_id-Fits (Ipn node service) fits = rw (lt-ltb node (2 ^ 64) fits.0, lt-ltb service (2 ^ 64) fits.1) refl

pub Fits-is_id : (eid : Eid) → is_id eid ≡ true → Fits eid
Fits-is_id Null e = tt
Fits-is_id (Dtn t) e = e
Fits-is_id (Ipn node service) e = let p = both_true _ _ e in (ltb-true node (2 ^ 64) p.0, ltb-true service (2 ^ 64) p.1)
  where
    both_true : (a b : Bool) → (a && b) ≡ true → (a ≡ true) × (b ≡ true)
    both_true true true e = (refl, refl)
    both_true true false e = absurd (false≢true e)
    both_true false b e = absurd (false≢true e)

-- ---- the id of a text

-- the text of an id is that of this id
pub id_of_text-text_form : (eid : Eid) → Fits eid → id_of_text (text_form eid) ≡ Some eid
unfolding id_of_text
id_of_text-text_form eid fits =
    let same = candidate-text_form eid fits in
    let text : bytes_eq (text_form eid) (text_form eid) ≡ true = (bytes_eq-Decides (text_form eid) (text_form eid)).1 refl in
    rw (same, is_id-Fits eid fits, text) refl

chosen : (a b : Bool) (x y : Eid) → cond (a && b) (Some x) None ≡ Some y → (a ≡ true) × (b ≡ true) × (x ≡ y)
chosen true true x y e = (refl, refl, cc)
chosen true false x y e = absurd cc
chosen false b x y e = absurd cc

-- what is given has this text
pub id_of_text_means : (text : List ℕ) (eid : Eid) → id_of_text text ≡ Some eid → Fits eid × (text ≡ text_form eid)
unfolding id_of_text
id_of_text_means text eid e =
    let h = chosen (is_id (candidate text)) (bytes_eq text (text_form (candidate text))) (candidate text) eid e in
    let fits : Fits (candidate text) = Fits-is_id (candidate text) h.0 in
    let is : text ≡ text_form (candidate text) = (bytes_eq-Decides text (text_form (candidate text))).0 h.1 in
    subst (λ (i : Eid). Fits i × (text ≡ text_form i)) h.2 (fits, is)

none_given : (text : List ℕ) (found : Option Eid) → id_of_text text ≡ found → ((eid : Eid) → Fits eid → text ≡ text_form eid → ⊥) → found ≡ None
none_given text None e none = refl
none_given text (Some eid) e none = let h = id_of_text_means text eid e in absurd (none eid h.0 h.1)

pub no_id : (text : List ℕ) → ((eid : Eid) → Fits eid → text ≡ text_form eid → ⊥) → id_of_text text ≡ None
no_id text none = none_given text (id_of_text text) refl none

pub the_id : (text : List ℕ) (eid : Eid) → Fits eid → text ≡ text_form eid → id_of_text text ≡ Some eid
the_id text eid fits is = ap id_of_text is ∙ id_of_text-text_form eid fits
