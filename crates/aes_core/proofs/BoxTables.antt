-- The two tables against the definitions of the boxes: one equation that computes for each whole table, and what it says of
-- each entry.
use Rattle.std.proofs.Common.{◌≡◌, ℕ, zero, suc, ◌<◌, ◌≤◌, eqb, true, false, cond, get_or, map, refl, sym, ap, ◌∙◌, arith, inl, inr, eq-eqb, ◌/◌}
use Rattle.std.proofs.lemmas.Bool.{cases_eq, ne_eqb}
use Rattle.std.specs.List.{range_with_len}
use Rattle.aes_core.specs.Field.{times_x, product_of_bits, product, power, inverse}
use Rattle.aes_core.specs.Boxes.{sub_byte, byte_with_value, inverse_sub_byte}
use Rattle.aes_core.specs.declared.boxes.TheConstants.{S_BOX, INVERSE_S_BOX}
use Rattle.aes_core.proofs.EachByte.{entry, at_each_byte}

-- the table has the S-box value of each byte
S_BOX_is : S_BOX ≡ map sub_byte (range_with_len 0 256)
unfolding times_x product_of_bits product power inverse sub_byte
S_BOX_is = refl

pub S_BOX_at : (b : ℕ) → b < 256 → get_or S_BOX b 0 ≡ sub_byte b
S_BOX_at b h = entry sub_byte S_BOX b S_BOX_is h

-- the second table undoes the first
undone : (b : ℕ) → b < 256 → get_or INVERSE_S_BOX (get_or S_BOX b 0) 0 ≡ b
undone = at_each_byte (λ b. get_or INVERSE_S_BOX (get_or S_BOX b 0) 0) (λ b. b) refl

-- the first table undoes the second
redone : (s : ℕ) → s < 256 → get_or S_BOX (get_or INVERSE_S_BOX s 0) 0 ≡ s
redone = at_each_byte (λ s. get_or S_BOX (get_or INVERSE_S_BOX s 0) 0) (λ s. s) refl

-- the S-box takes no two bytes to one
apart : (a b : ℕ) → a < 256 → b < 256 → sub_byte a ≡ sub_byte b → a ≡ b
apart a b p q e =
    let t : get_or S_BOX a 0 ≡ get_or S_BOX b 0 = S_BOX_at a p ∙ e ∙ sym (S_BOX_at b q) in
    sym (undone a p) ∙ ap (λ s. get_or INVERSE_S_BOX s 0) t ∙ undone b q

found : (n b : ℕ) → b < n → n ≤ 256 → byte_with_value (sub_byte b) n ≡ b
unfolding byte_with_value
found zero b h k = absurd (omega arith)
found (suc n) b h k = elim (cases_eq n b) [
  | inl e ↦ rw (e, eq-eqb (sub_byte b) (sub_byte b) refl) refl
  | inr ne ↦
      let other : eqb (sub_byte n) (sub_byte b) ≡ false = ne_eqb (sub_byte n) (sub_byte b) (λ s. ne (apart n b (omega arith) (omega arith) s)) in
      rw other (found n b (omega arith) (omega arith))
]

-- the inverse of the S-box undoes it
pub inverse_sub_byte-sub_byte : (b : ℕ) → b < 256 → inverse_sub_byte (sub_byte b) ≡ b
unfolding inverse_sub_byte
inverse_sub_byte-sub_byte b h = found 256 b h (omega arith)

found_below : (s n : ℕ) → n ≤ 256 → byte_with_value s n < 256
unfolding byte_with_value
found_below s zero k = omega arith
found_below s (suc n) k =
    elim (eqb (sub_byte n) s) as (λ t. cond t n (byte_with_value s n) < 256) [ true ↦ omega arith | false ↦ found_below s n (omega arith) ]

pub inverse_sub_byte-lt : (s : ℕ) → inverse_sub_byte s < 256
unfolding inverse_sub_byte
inverse_sub_byte-lt s = found_below s 256 (omega arith)

pub sub_byte-lt : (b : ℕ) → sub_byte b < 256
unfolding sub_byte
sub_byte-lt b = omega arith

-- the entries of the second table are bytes
bytes_in_table : (s : ℕ) → s < 256 → get_or INVERSE_S_BOX s 0 / 256 ≡ 0
bytes_in_table = at_each_byte (λ s. get_or INVERSE_S_BOX s 0 / 256) (λ s. 0) refl

pub INVERSE_S_BOX_at : (s : ℕ) → s < 256 → get_or INVERSE_S_BOX s 0 ≡ inverse_sub_byte s
INVERSE_S_BOX_at s h =
    let b : ℕ = get_or INVERSE_S_BOX s 0 in
    let z = bytes_in_table s h in
    let small : b < 256 = omega (arith, z) in
    sym (inverse_sub_byte-sub_byte b small) ∙ ap inverse_sub_byte (sym (S_BOX_at b small) ∙ redone s h)
