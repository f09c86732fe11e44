-- Heads with few arguments are read as they are spelled.
use Rattle.std.proofs.Common.{◌≡◌, ℕ, ◌^◌, ◌<◌, inl, inr, Bool, true, false, cond, eqb, ◌||◌, List, [], ◌∷◌, ◌++◌, Result, Ok, refl, ◌∙◌, ap, subst, arith}
use Rattle.std.specs.List.{list_any}
use Rattle.std.proofs.lemmas.Bool.{eqb-true}
use Rattle.std.proofs.lemmas.Bool.Decides.{nat_tests}
use Rattle.cbor_profile.specs.declared.head.Head.{Head}
use Rattle.cbor_profile.specs.declared.fault.Reason.{Reason}
use Rattle.cbor_profile.specs.declared.fault.Reason.TheVariants as reasons
use Rattle.cbor_profile.specs.Head.{head_spelling, spelling, IsHead}
use Rattle.cbor_profile.specs.Put.{uint, array_head, truth}
use Rattle.cbor_profile.proofs.Tokens.{token_again, token_means, is_among}
use Rattle.bp_eid.specs.Reading.{stops, head_at}
use Rattle.bp_eid.proofs.Steps.{IsBytes, bind_ok, let_through, ok_is, Takes}
use Rattle.bp_eid.proofs.Tokens.{TokenLaws, head_again, head_means, spelled, one_kind, took}
use Rattle.bp_status.specs.Reading.{one_of_at, count_at, simple_at}

pub laws : TokenLaws
laws = record { again = token_again; means = token_means }

-- ---- what is spelled is read

one_again : (kind value : ℕ) (arguments : List ℕ) (reason : Reason) (rest : List ℕ) → IsHead (record { major = kind; value = value }) → is_among (kind ∷ []) kind ≡ true → is_among arguments value ≡ true
    → one_of_at kind arguments reason (head_spelling kind value ++ rest) ≡ Ok (value, rest)
unfolding one_of_at spelling
one_again kind value arguments reason rest fits same among =
    let h = head_again laws (kind ∷ []) (record { major = kind; value = value }) rest fits same in
    rw (h, among) refl

pub count_again : (counts : List ℕ) (count : ℕ) (rest : List ℕ) → count < 2 ^ 64 → is_among counts count ≡ true → count_at counts (array_head count ++ rest) ≡ Ok (count, rest)
unfolding array_head
count_again counts count rest small among = one_again 4 count counts reasons.WrongCount rest (small, inl (omega arith)) refl among

pub kind_again : (rest : List ℕ) → one_of_at 0 (1 ∷ []) reasons.WrongValue (uint 1 ++ rest) ≡ Ok (1, rest)
unfolding uint
kind_again rest = one_again 0 1 (1 ∷ []) reasons.WrongValue rest (omega arith, inl (omega arith)) refl refl

pub false_again : (rest : List ℕ) → simple_at (20 ∷ 21 ∷ []) (truth false ++ rest) ≡ Ok (20, rest)
unfolding truth
false_again rest = one_again 7 20 (20 ∷ 21 ∷ []) reasons.WrongValue rest (omega arith, inr (refl, omega arith)) refl refl

pub true_again : (values rest : List ℕ) → is_among values 21 ≡ true → simple_at values (truth true ++ rest) ≡ Ok (21, rest)
unfolding truth
true_again values rest among = one_again 7 21 values reasons.WrongValue rest (omega arith, inr (refl, omega arith)) refl among

-- ---- what is read is spelled so

-- a head that was read
abbrev pub TakesOne : ℕ → List ℕ → List ℕ → ℕ × List ℕ → Type 0
TakesOne kind arguments bytes x = Takes bytes (head_spelling kind x.0) x.1 × (is_among arguments x.0 ≡ true)

one_means : (kind : ℕ) (arguments : List ℕ) (reason : Reason) (bytes : List ℕ) (x : ℕ × List ℕ) → IsBytes bytes → one_of_at kind arguments reason bytes ≡ Ok x → TakesOne kind arguments bytes x
unfolding one_of_at
one_means kind arguments reason bytes x small e =
    let b = bind_ok (head_at (kind ∷ []) bytes) (λ head. cond (list_any (λ argument. eqb argument head.0.value) arguments) (Ok (head.0.value, head.1)) (stops bytes reason)) x e in
    let g = let_through (list_any (λ argument. eqb argument b.0.0.value) arguments) bytes reason (Ok (b.0.0.value, b.0.1)) x b.2 in
    let h = head_means laws (kind ∷ []) bytes b.0 small b.1 in
    let text = spelled b.0.0 kind b.0.0.value (one_kind kind b.0.0.major h.among) refl in
    subst (TakesOne kind arguments bytes) (ok_is (b.0.0.value, b.0.1) x g.1) (took (kind ∷ []) bytes b.0.0 b.0.1 (head_spelling kind b.0.0.value) text h, g.0)

pub count_means : (counts bytes : List ℕ) (x : ℕ × List ℕ) → IsBytes bytes → count_at counts bytes ≡ Ok x → Takes bytes (array_head x.0) x.1 × (is_among counts x.0 ≡ true)
unfolding array_head
count_means counts bytes x small e = one_means 4 counts reasons.WrongCount bytes x small e

-- where one number alone is let through
pub only_count : (count : ℕ) (bytes : List ℕ) (x : ℕ × List ℕ) → IsBytes bytes → count_at (count ∷ []) bytes ≡ Ok x → Takes bytes (array_head count) x.1
only_count count bytes x small e =
    let m = count_means (count ∷ []) bytes x small e in
    subst (λ (n : ℕ). Takes bytes (array_head n) x.1) (one_kind count x.0 m.1) m.0

pub kind_means : (bytes : List ℕ) (x : ℕ × List ℕ) → IsBytes bytes → one_of_at 0 (1 ∷ []) reasons.WrongValue bytes ≡ Ok x → Takes bytes (uint 1) x.1
unfolding uint
kind_means bytes x small e =
    let m = one_means 0 (1 ∷ []) reasons.WrongValue bytes x small e in
    subst (λ (n : ℕ). Takes bytes (head_spelling 0 n) x.1) (one_kind 1 x.0 m.1) m.0

pub true_means : (bytes : List ℕ) (x : ℕ × List ℕ) → IsBytes bytes → simple_at (21 ∷ []) bytes ≡ Ok x → Takes bytes (truth true) x.1
unfolding truth
true_means bytes x small e =
    let m = one_means 7 (21 ∷ []) reasons.WrongValue bytes x small e in
    subst (λ (n : ℕ). Takes bytes (head_spelling 7 n) x.1) (one_kind 21 x.0 m.1) m.0

-- the other of two
pub other_of_two : (a b n : ℕ) → is_among (a ∷ b ∷ []) n ≡ true → eqb n b ≡ false → n ≡ a
other_of_two a b n among differs = grind (arith, nat_tests)

pub second_of_two : (a b n : ℕ) → is_among (a ∷ b ∷ []) n ≡ true → eqb n a ≡ false → n ≡ b
second_of_two a b n among differs = grind (arith, nat_tests)

-- false or true
pub truth_of : (bytes : List ℕ) (value : ℕ) (b : Bool) (rest : List ℕ) → eqb value 21 ≡ b → TakesOne 7 (20 ∷ 21 ∷ []) bytes (value, rest) → Takes bytes (truth b) rest
unfolding truth
truth_of bytes value true rest e m = subst (λ (n : ℕ). Takes bytes (head_spelling 7 n) rest) (eqb-true _ _ e) m.0
truth_of bytes value false rest e m = subst (λ (n : ℕ). Takes bytes (head_spelling 7 n) rest) (other_of_two 20 21 value m.1 e) m.0

pub simple_means : (bytes : List ℕ) (x : ℕ × List ℕ) → IsBytes bytes → simple_at (20 ∷ 21 ∷ []) bytes ≡ Ok x → TakesOne 7 (20 ∷ 21 ∷ []) bytes x
simple_means bytes x small e = one_means 7 (20 ∷ 21 ∷ []) reasons.WrongValue bytes x small e
