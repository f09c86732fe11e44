-- The circuit is the S-box, at each place of eight bytes.
use Rattle.std.proofs.Common.{◌≡◌, ℕ, ◌+◌, ◌%◌, ◌<◌, List, [], ◌∷◌, Bool, true, false, min, get_or, map, refl, sym, ap, ◌∙◌, bit_xor, bit_and}
use Rattle.std.specs.Int.{bit_at}
use Rattle.std.proofs.Math.ListN.{get_or-map}
use Rattle.std.proofs.lemmas.Nat.Bits.{bit_at_xor, bit_at_and, bit_at-lt, bit_at-zero, bit_at_ones}
use Rattle.std.specs.List.{range_with_len}
use Rattle.aes_core.specs.Field.{times_x, product_of_bits, product, power, inverse}
use Rattle.aes_core.specs.Boxes.{sub_byte}
use Rattle.aes_core.specs.Sliced.{bits_of, byte_of, byte_across}
use Rattle.aes_core.proofs.EachByte.{at_each_byte}
use Rattle.aes_core.proofs.Circuit.{Gate, wire, run, picked, gates, places, circuit}
use Rattle.aes_core.proofs.BitLemmas.{from_bytes}

-- ---- a map that takes sums to sums and products to products goes through a circuit

module _ {A B : Type 0} (h : A → B) (p t : A → A → A) (q u : B → B → B) (d : A) (sums : (x y : A) → h (p x y) ≡ q (h x) (h y))
    (products : (x y : A) → h (t x y) ≡ u (h x) (h y)) where
  wire-map : (wires : List A) (b : Bool) (i j : ℕ) → h (wire p t d wires b i j) ≡ wire q u (h d) (map h wires) b i j
  unfolding wire
  wire-map wires true i j =
      sums (get_or wires i d) (get_or wires j d) ∙ ap (λ x. q x (h (get_or wires j d))) (sym (get_or-map h wires i d))
      ∙ ap (λ y. q (get_or (map h wires) i (h d)) y) (sym (get_or-map h wires j d))
  wire-map wires false i j =
      products (get_or wires i d) (get_or wires j d) ∙ ap (λ x. u x (h (get_or wires j d))) (sym (get_or-map h wires i d))
      ∙ ap (λ y. u (get_or (map h wires) i (h d)) y) (sym (get_or-map h wires j d))

  run-map : (gs : List Gate) (wires : List A) → map h (run p t d gs wires) ≡ run q u (h d) gs (map h wires)
  unfolding run
  run-map [] wires = refl
  run-map (g ∷ gs) wires =
      run-map gs (wire p t d wires g.0 g.1 g.2 ∷ wires)
      ∙ ap (λ x. run q u (h d) gs (x ∷ map h wires)) (wire-map wires g.0 g.1 g.2)

  picked-map : (wires : List A) (is : List ℕ) → map h (picked d wires is) ≡ picked (h d) (map h wires) is
  unfolding picked
  picked-map wires [] = refl
  picked-map wires (i ∷ is) =
      ap (λ x. x ∷ map h (picked d wires is)) (sym (get_or-map h wires i d))
      ∙ ap (λ l. get_or (map h wires) i (h d) ∷ l) (picked-map wires is)

  circuit-map : (inputs : List A) → map h (circuit p t d inputs) ≡ circuit q u (h d) (map h inputs)
  unfolding circuit
  circuit-map inputs =
      picked-map (run p t d gates inputs) places ∙ ap (λ wires. picked (h d) wires places) (run-map gates inputs)

-- ---- over bits

-- the sum of two bits
unfoldable bit_sum : ℕ → ℕ → ℕ
bit_sum a b = (a + b) % 2

sum_at : (x y k : ℕ) → bit_at (bit_xor x y) k ≡ bit_sum (bit_at x k) (bit_at y k)
unfolding bit_sum
sum_at x y k = bit_at_xor x y k

-- the circuit on eight bits
unfoldable of_bits : List ℕ → ℕ
of_bits bits =
    byte_of (circuit bit_sum min 0 (get_or bits 0 0 ∷ get_or bits 1 0 ∷ get_or bits 2 0 ∷ get_or bits 3 0
    ∷ get_or bits 4 0 ∷ get_or bits 5 0 ∷ get_or bits 6 0 ∷ get_or bits 7 0 ∷ 1 ∷ []))

-- one equation that computes, over the 256 bytes
tested : map (λ b. of_bits (bits_of b)) (range_with_len 0 256) ≡ map sub_byte (range_with_len 0 256)
unfolding of_bits bits_of wire run picked circuit byte_of bit_sum times_x product_of_bits product power inverse sub_byte
tested = refl

at_a_byte : (b : ℕ) → b < 256 → of_bits (bits_of b) ≡ sub_byte b
at_a_byte = at_each_byte (λ b. of_bits (bits_of b)) sub_byte tested

at_bits : (a b c d e f g h : ℕ) → a < 2 → b < 2 → c < 2 → d < 2 → e < 2 → f < 2 → g < 2 → h < 2
    → byte_of (circuit bit_sum min 0 (a ∷ b ∷ c ∷ d ∷ e ∷ f ∷ g ∷ h ∷ 1 ∷ [])) ≡ sub_byte (byte_of (a ∷ b ∷ c ∷ d ∷ e ∷ f ∷ g ∷ h ∷ []))
unfolding of_bits
at_bits = from_bytes of_bits sub_byte at_a_byte

-- ---- over bytes, at each place

pub at_a_place : (a b c d e f g h k : ℕ) → k < 8
    → byte_across k (circuit bit_xor bit_and 0 (a ∷ b ∷ c ∷ d ∷ e ∷ f ∷ g ∷ h ∷ 255 ∷ []))
    ≡ sub_byte (byte_across k (a ∷ b ∷ c ∷ d ∷ e ∷ f ∷ g ∷ h ∷ []))
unfolding byte_across
at_a_place a b c d e f g h k lt =
    let t : ℕ → ℕ = λ w. bit_at w k in
    let l : (w : ℕ) → bit_at w k < 2 = λ w. bit_at-lt w k in
    ap byte_of (circuit-map t bit_xor bit_and bit_sum min 0 (λ x y. sum_at x y k) (λ x y. bit_at_and x y k)
    (a ∷ b ∷ c ∷ d ∷ e ∷ f ∷ g ∷ h ∷ 255 ∷ []))
    ∙ ap (λ z. byte_of (circuit bit_sum min z (t a ∷ t b ∷ t c ∷ t d ∷ t e ∷ t f ∷ t g ∷ t h ∷ t 255 ∷ []))) (bit_at-zero k)
    ∙ ap (λ o. byte_of (circuit bit_sum min 0 (t a ∷ t b ∷ t c ∷ t d ∷ t e ∷ t f ∷ t g ∷ t h ∷ o ∷ []))) (bit_at_ones 8 k lt)
    ∙ at_bits (t a) (t b) (t c) (t d) (t e) (t f) (t g) (t h) (l a) (l b) (l c) (l d) (l e) (l f) (l g) (l h)
