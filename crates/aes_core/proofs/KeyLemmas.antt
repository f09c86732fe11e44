-- The expanded key: its length, its bytes, and its first words.
use Rattle.std.proofs.Common.{◌≡◌, ℕ, zero, suc, ◌+◌, ◌-◌, ◌*◌, ◌/◌, ◌%◌, ◌<◌, ◌≤◌, true, false, cond, List, [], ◌∷◌, ◌++◌, All, length, get_or, take, refl, ap, ◌∙◌, arith, inl, inr, length-append, eqb, ◌&&◌, ◌⊎◌}
use Rattle.std.proofs.lemmas.Bool.{cases_lt}
use Rattle.std.proofs.lemmas.Bool.Decides.{nat_tests}
use Rattle.std.proofs.lemmas.List.{get_or_default, get_or_past, get_or_append_left, get_or-append_right, take-append-le, take_all}
use Rattle.aes_core.specs.Field.{times_x, power}
use Rattle.aes_core.specs.KeyExpansion.{IsKeySize, word_at, add_words, sub_word, rot_word, round_constant, word_term, next_word, extended_key, key_expansion}
use Rattle.aes_core.proofs.BoxTables.{sub_byte-lt}
use Rattle.aes_core.proofs.FieldLemmas.{xor_of_bytes, power-lt}
use Rattle.aes_core.proofs.MixLemmas.{product_by_2}
use Rattle.aes_core.proofs.StateLemmas.{Bytes}

pub Bytes-from_All : (s : List ℕ) → All (λ b. b < 256) s → Bytes s
Bytes-from_All s h = record {
  below = λ k. elim (cases_lt k (length s)) [ inl lt ↦ h k 0 lt | inr ge ↦ rw (get_or_past s k 0 ge) (omega arith) ];
}

pub All-from_Bytes : (s : List ℕ) → Bytes s → All (λ b. b < 256) s
All-from_Bytes s h = λ k d lt. rw (get_or_default s k d 0 lt) (h.below k)

Bytes-append : (s t : List ℕ) → Bytes s → Bytes t → Bytes (s ++ t)
Bytes-append s t p q = record {
  below = λ k. elim (cases_lt k (length s)) [
    | inl lt ↦ rw (get_or_append_left s t 0 k lt) (p.below k)
    | inr ge ↦ rw (get_or-append_right s t (length s) k 0 refl ge) (q.below (k - length s))
  ];
}

-- four bytes
word : (a b c d : ℕ) → a < 256 → b < 256 → c < 256 → d < 256 → Bytes (a ∷ b ∷ c ∷ d ∷ [])
word a b c d p q r s = record { below = four } where
  four : (k : ℕ) → get_or (a ∷ b ∷ c ∷ d ∷ []) k 0 < 256
  four zero = p
  four (suc zero) = q
  four (suc (suc zero)) = r
  four (suc (suc (suc zero))) = s
  four (suc (suc (suc (suc k)))) = omega arith

Bytes-word_at : (w : List ℕ) (i : ℕ) → Bytes w → Bytes (word_at w i)
Bytes-word_at w i b = word _ _ _ _ (b.below (4 * i)) (b.below (4 * i + 1)) (b.below (4 * i + 2)) (b.below (4 * i + 3))

Bytes-add_words : (a b : List ℕ) → Bytes a → Bytes b → Bytes (add_words a b)
Bytes-add_words a b p q =
    word _ _ _ _ (xor_of_bytes _ _ (p.below 0) (q.below 0)) (xor_of_bytes _ _ (p.below 1) (q.below 1)) (xor_of_bytes _ _ (p.below 2) (q.below 2)) (xor_of_bytes _ _ (p.below 3) (q.below 3))

Bytes-sub_word : (a : List ℕ) → Bytes (sub_word a)
Bytes-sub_word a = word _ _ _ _ (sub_byte-lt (get_or a 0 0)) (sub_byte-lt (get_or a 1 0)) (sub_byte-lt (get_or a 2 0)) (sub_byte-lt (get_or a 3 0))

Bytes-round_constant : (j : ℕ) → Bytes (round_constant j)
Bytes-round_constant j = word (power 2 (j - 1)) 0 0 0 (power-lt (j - 1)) (omega arith) (omega arith) (omega arith)

Bytes-word_term : (nk i : ℕ) (previous : List ℕ) → Bytes previous → Bytes (word_term nk i previous)
unfolding word_term
Bytes-word_term nk i previous b =
    elim (eqb (i % nk) 0) as (λ t. Bytes (cond t (add_words (sub_word (rot_word previous)) (round_constant (i / nk))) (cond (eqb nk 8 && eqb (i % nk) 4) (sub_word previous) previous))) [
      | true ↦ Bytes-add_words (sub_word (rot_word previous)) (round_constant (i / nk)) (Bytes-sub_word (rot_word previous)) (Bytes-round_constant (i / nk))
      | false ↦ elim (eqb nk 8 && eqb (i % nk) 4) as (λ t. Bytes (cond t (sub_word previous) previous)) [ true ↦ Bytes-sub_word previous | false ↦ b ]
    ]

Bytes-next_word : (nk i : ℕ) (w : List ℕ) → Bytes w → Bytes (next_word nk i w)
unfolding next_word
Bytes-next_word nk i w b =
    Bytes-add_words (word_at w (i - nk)) (word_term nk i (word_at w (i - 1))) (Bytes-word_at w (i - nk) b) (Bytes-word_term nk i (word_at w (i - 1)) (Bytes-word_at w (i - 1) b))

Bytes-extended_key : (nk : ℕ) (key : List ℕ) (n : ℕ) → Bytes key → Bytes (extended_key nk key n)
unfolding extended_key
Bytes-extended_key nk key zero b = b
Bytes-extended_key nk key (suc n) b =
    let before = Bytes-extended_key nk key n b in
    Bytes-append (extended_key nk key n) (next_word nk (nk + n) (extended_key nk key n)) before (Bytes-next_word nk (nk + n) (extended_key nk key n) before)

pub Bytes-key_expansion : (nk : ℕ) (key : List ℕ) → Bytes key → Bytes (key_expansion nk key)
unfolding key_expansion
Bytes-key_expansion nk key b = Bytes-extended_key nk key (4 * (nk + 7) - nk) b

-- ---- the words in order

pub length-extended_key : (nk : ℕ) (key : List ℕ) (n : ℕ) → length (extended_key nk key n) ≡ length key + 4 * n
unfolding extended_key next_word
length-extended_key nk key zero = omega arith
length-extended_key nk key (suc n) =
    let before = length-extended_key nk key n in
    let both = length-append (extended_key nk key n) (next_word nk (nk + n) (extended_key nk key n)) in
    omega (arith, before, both)

pub length-next_word : (nk i : ℕ) (w : List ℕ) → length (next_word nk i w) ≡ 4
unfolding next_word
length-next_word nk i w = refl

-- the expanded key begins with the key
pub take-extended_key : (nk : ℕ) (key : List ℕ) (n : ℕ) → take (length key) (extended_key nk key n) ≡ key
unfolding extended_key
take-extended_key nk key zero = take_all (length key) key (omega arith)
take-extended_key nk key (suc n) =
    take-append-le (length key) (extended_key nk key n) (next_word nk (nk + n) (extended_key nk key n)) (omega (arith, length-extended_key nk key n))
    ∙ take-extended_key nk key n

-- ---- the loop over the words, in the code's numbers

-- a key has 4 words or 8
pub sizes : (nk : ℕ) → IsKeySize nk → (nk ≡ 4) ⊎ (nk ≡ 8)
sizes nk h = grind (arith, nat_tests)

pub size_bounds : (nk : ℕ) → IsKeySize nk → (4 ≤ nk) × (nk ≤ 8)
size_bounds nk h = elim (sizes nk h) [ inl e ↦ (omega arith, omega arith) | inr e ↦ (omega arith, omega arith) ]

pub extended_key_more : (nk : ℕ) (key : List ℕ) (i : ℕ) → nk ≤ i → extended_key nk key (i + 1 - nk) ≡ extended_key nk key (i - nk) ++ next_word nk i (extended_key nk key (i - nk))
unfolding extended_key
extended_key_more nk key i h =
    let e : i + 1 - nk ≡ suc (i - nk) = omega arith in
    let f : nk + (i - nk) ≡ i = omega arith in
    rw e (ap (λ m. extended_key nk key (i - nk) ++ next_word nk m (extended_key nk key (i - nk))) f)

-- which power of x the round constant is
pub first_constant : (nk : ℕ) → IsKeySize nk → 1 ≡ power 2 ((nk - 1) / nk)
unfolding power
first_constant nk h = elim (sizes nk h) [ inl e ↦ rw e refl | inr e ↦ rw e refl ]

pub same_constant : (nk i c : ℕ) → IsKeySize nk → 1 ≤ i → (i % nk ≡ 0 → ⊥) → c ≡ power 2 ((i - 1) / nk) → c ≡ power 2 ((i + 1 - 1) / nk)
same_constant nk i c h p q k = k ∙ ap (power 2) (elim (sizes nk h) as (λ _. (i - 1) / nk ≡ (i + 1 - 1) / nk) [
  | inl e ↦ let n : i % 4 ≡ 0 → ⊥ = rw e at q in rw e (omega arith)
  | inr e ↦ let n : i % 8 ≡ 0 → ⊥ = rw e at q in rw e (omega arith)
])

pub next_constant : (nk i c : ℕ) → IsKeySize nk → nk ≤ i → i % nk ≡ 0 → c ≡ power 2 ((i - 1) / nk) → times_x c ≡ power 2 ((i + 1 - 1) / nk)
unfolding power
next_constant nk i c h p q k =
    let step : (i + 1 - 1) / nk ≡ suc ((i - 1) / nk) = elim (sizes nk h) as (λ _. (i + 1 - 1) / nk ≡ suc ((i - 1) / nk)) [
      | inl e ↦ let n : i % 4 ≡ 0 = rw e at q in let m : 4 ≤ i = rw e at p in rw e (omega arith)
      | inr e ↦ let n : i % 8 ≡ 0 = rw e at q in let m : 8 ≤ i = rw e at p in rw e (omega arith)
    ] in
    rw (step, k) (product_by_2 (power 2 ((i - 1) / nk)) (power-lt ((i - 1) / nk)))
