-- Bytes are the same exactly where they differ in no bit.
use Rattle.std.proofs.Common.{◌≡◌, ℕ, ◌+◌, ◌<◌, ◌↔◌, List, length, take, get_or, bit_or, bit_xor, refl, sym, ap, ◌∙◌, arith}
use Rattle.std.proofs.lemmas.List.{take_more, take_more_same, same_from_push}
use Rattle.std.proofs.lemmas.Nat.{le_or_l, le_or_r}
use Rattle.std.specs.Int.Bits.{xor_assoc, xor_self, xor_zero_l, xor_zero_r}

same_from_xor : (x y : ℕ) → bit_xor x y ≡ 0 → x ≡ y
same_from_xor x y h =
    sym (xor_zero_r x) ∙ ap (bit_xor x) (sym (xor_self y)) ∙ sym (xor_assoc x y y) ∙ ap (λ (n : ℕ). bit_xor n y) h ∙ xor_zero_l y

pub difference_more : (a b : List ℕ) (d i : ℕ) → i < length a → i < length b → ((d ≡ 0) ↔ (take i a ≡ take i b))
    → (bit_or d (bit_xor (get_or a i 0) (get_or b i 0)) ≡ 0) ↔ (take (i + 1) a ≡ take (i + 1) b)
difference_more a b d i h g held =
    let x : ℕ = bit_xor (get_or a i 0) (get_or b i 0) in (
      λ z.
          let none : d ≡ 0 = omega (arith, le_or_l d x, z) in
          let same : x ≡ 0 = omega (arith, le_or_r d x, z) in
          take_more_same a b i 0 h g (held.0 none) (same_from_xor (get_or a i 0) (get_or b i 0) same),
      λ t.
          let parts = same_from_push (take i a) (take i b) (get_or a i 0) (get_or b i 0)
          (sym (take_more a i 0 h) ∙ (t ∙ take_more b i 0 g)) in
          let none : d ≡ 0 = held.1 parts.0 in
          let same : x ≡ 0 = rw parts.1 (xor_self (get_or b i 0)) in
          rw (none, same) refl,
    )
