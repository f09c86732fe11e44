-- The exchange of bits between registers, three times over, puts rows and columns in each other's place.
use Rattle.std.proofs.Common.{◌≡◌, ℕ, zero, suc, ◌+◌, ◌-◌, ◌*◌, ◌/◌, ◌%◌, ◌^◌, ◌<◌, List, [], ◌∷◌, get_or, map, refl, sym, ap, ◌∙◌, arith}
use Rattle.std.specs.Int.{bit_at}
use Rattle.std.specs.Int.Bits.{bit_xor}
use Rattle.std.proofs.lemmas.Nat.Bits.{bit_at_xor, bit_at_and, bit_at-lt, bit_at_cat_low, bit_at_cat_high, bit_at-zero}
use Rattle.std.proofs.lemmas.Nat.{pow_pos}
use Rattle.std.proofs.Math.Pow.{shr-shr}
use Rattle.std.proofs.lemmas.List.FromFn.{get_or-map-range_with_len}
use Rattle.aes_core.specs.Sliced.{bits_of, difference_of, low_of, high_of, column, columns}

-- ---- one exchange, bit by bit

-- bits of a byte that was turned up by n
low_byte : (x i : ℕ) → i < 8 → bit_at (x % 256) i ≡ bit_at x i
low_byte x i h =
    let e : x / 256 * 2 ^ 8 + x % 256 ≡ x = omega arith in
    sym (bit_at_cat_low (x / 256) 8 (x % 256) i h) ∙ ap (λ y. bit_at y i) e

turned_up : (x n k : ℕ) → k + n < 8 → bit_at (x * 2 ^ n % 256) (k + n) ≡ bit_at x k
turned_up x n k h =
    let e : x * 2 ^ n + 0 ≡ x * 2 ^ n = omega arith in
    let back : k + n - n ≡ k = omega arith in
    low_byte (x * 2 ^ n) (k + n) h ∙ ap (λ y. bit_at y (k + n)) (sym e)
    ∙ bit_at_cat_high x n 0 (k + n) (pow_pos n) (omega arith) ∙ ap (bit_at x) back

turned_in : (x n k : ℕ) → k < n → k < 8 → bit_at (x * 2 ^ n % 256) k ≡ 0
turned_in x n k h below =
    let e : x * 2 ^ n + 0 ≡ x * 2 ^ n = omega arith in
    low_byte (x * 2 ^ n) k below ∙ ap (λ y. bit_at y k) (sym e) ∙ bit_at_cat_low x n 0 k h ∙ bit_at-zero k

turned_down : (x n k : ℕ) → bit_at (x / 2 ^ n) k ≡ bit_at x (k + n)
turned_down x n k =
    let e : n + k ≡ k + n = omega arith in
    ap (λ y. y % 2) (shr-shr x n k ∙ ap (λ i. x / 2 ^ i) e)

module _ (m n a b : ℕ) where
  set : (k : ℕ) → bit_at m k ≡ 1 → bit_at (difference_of m n a b) k ≡ (bit_at a (k + n) + bit_at b k) % 2
  set k e =
      rw (bit_at_and (bit_xor (a / 2 ^ n) b) m k, e, bit_at_xor (a / 2 ^ n) b k, turned_down a n k) (omega arith)

  unset : (k : ℕ) → bit_at m k ≡ 0 → bit_at (difference_of m n a b) k ≡ 0
  unset k e = rw (bit_at_and (bit_xor (a / 2 ^ n) b) m k, e) (omega arith)

  pub low_moved : (k : ℕ) → bit_at m k ≡ 1 → k + n < 8 → bit_at (low_of m n a b) (k + n) ≡ bit_at b k
  unfolding low_of
  low_moved k e h =
      let d : ℕ = difference_of m n a b in
      rw (bit_at_xor a (d * 2 ^ n % 256) (k + n), turned_up d n k h, set k e) (omega (arith, bit_at-lt a (k + n), bit_at-lt b k))

  pub low_first : (k : ℕ) → k < n → k < 8 → bit_at (low_of m n a b) k ≡ bit_at a k
  unfolding low_of
  low_first k h below =
      let d : ℕ = difference_of m n a b in
      rw (bit_at_xor a (d * 2 ^ n % 256) k, turned_in d n k h below) (omega (arith, bit_at-lt a k))

  pub low_kept : (k : ℕ) → bit_at m k ≡ 0 → k + n < 8 → bit_at (low_of m n a b) (k + n) ≡ bit_at a (k + n)
  unfolding low_of
  low_kept k e h =
      let d : ℕ = difference_of m n a b in
      rw (bit_at_xor a (d * 2 ^ n % 256) (k + n), turned_up d n k h, unset k e) (omega (arith, bit_at-lt a (k + n)))

  pub high_moved : (k : ℕ) → bit_at m k ≡ 1 → bit_at (high_of m n a b) k ≡ bit_at a (k + n)
  unfolding high_of
  high_moved k e =
      let d : ℕ = difference_of m n a b in
      rw (bit_at_xor b d k, set k e) (omega (arith, bit_at-lt a (k + n), bit_at-lt b k))

  pub high_kept : (k : ℕ) → bit_at m k ≡ 0 → bit_at (high_of m n a b) k ≡ bit_at b k
  unfolding high_of
  high_kept k e =
      let d : ℕ = difference_of m n a b in
      rw (bit_at_xor b d k, unset k e) (omega (arith, bit_at-lt b k))

-- ---- one exchange, on all bits

-- lists of eight, entry by entry
eight : {a b c d e f g h a' b' c' d' e' f' g' h' : ℕ} → a ≡ a' → b ≡ b' → c ≡ c' → d ≡ d' → e ≡ e' → f ≡ f' → g ≡ g' → h ≡ h'
    → a ∷ b ∷ c ∷ d ∷ e ∷ f ∷ g ∷ h ∷ [] ≡ a' ∷ b' ∷ c' ∷ d' ∷ e' ∷ f' ∷ g' ∷ h' ∷ []
eight p q r s t u v w = cc

abbrev low_ones : List ℕ → List ℕ → List ℕ
low_ones s t = get_or s 0 0 ∷ get_or t 0 0 ∷ get_or s 2 0 ∷ get_or t 2 0 ∷ get_or s 4 0 ∷ get_or t 4 0 ∷ get_or s 6 0 ∷ get_or t 6 0 ∷ []

abbrev high_ones : List ℕ → List ℕ → List ℕ
high_ones s t = get_or s 1 0 ∷ get_or t 1 0 ∷ get_or s 3 0 ∷ get_or t 3 0 ∷ get_or s 5 0 ∷ get_or t 5 0 ∷ get_or s 7 0 ∷ get_or t 7 0 ∷ []

abbrev low_twos : List ℕ → List ℕ → List ℕ
low_twos s t = get_or s 0 0 ∷ get_or s 1 0 ∷ get_or t 0 0 ∷ get_or t 1 0 ∷ get_or s 4 0 ∷ get_or s 5 0 ∷ get_or t 4 0 ∷ get_or t 5 0 ∷ []

abbrev high_twos : List ℕ → List ℕ → List ℕ
high_twos s t = get_or s 2 0 ∷ get_or s 3 0 ∷ get_or t 2 0 ∷ get_or t 3 0 ∷ get_or s 6 0 ∷ get_or s 7 0 ∷ get_or t 6 0 ∷ get_or t 7 0 ∷ []

abbrev low_fours : List ℕ → List ℕ → List ℕ
low_fours s t = get_or s 0 0 ∷ get_or s 1 0 ∷ get_or s 2 0 ∷ get_or s 3 0 ∷ get_or t 0 0 ∷ get_or t 1 0 ∷ get_or t 2 0 ∷ get_or t 3 0 ∷ []

abbrev high_fours : List ℕ → List ℕ → List ℕ
high_fours s t = get_or s 4 0 ∷ get_or s 5 0 ∷ get_or s 6 0 ∷ get_or s 7 0 ∷ get_or t 4 0 ∷ get_or t 5 0 ∷ get_or t 6 0 ∷ get_or t 7 0 ∷ []

bits-low_ones : (a b : ℕ) → bits_of (low_of 85 1 a b) ≡ low_ones (bits_of a) (bits_of b)
unfolding bits_of
bits-low_ones a b =
    eight
    (low_first 85 1 a b 0 (omega arith) (omega arith))
    (low_moved 85 1 a b 0 refl (omega arith))
    (low_kept 85 1 a b 1 refl (omega arith))
    (low_moved 85 1 a b 2 refl (omega arith))
    (low_kept 85 1 a b 3 refl (omega arith))
    (low_moved 85 1 a b 4 refl (omega arith))
    (low_kept 85 1 a b 5 refl (omega arith))
    (low_moved 85 1 a b 6 refl (omega arith))

bits-high_ones : (a b : ℕ) → bits_of (high_of 85 1 a b) ≡ high_ones (bits_of a) (bits_of b)
unfolding bits_of
bits-high_ones a b =
    eight
    (high_moved 85 1 a b 0 refl)
    (high_kept 85 1 a b 1 refl)
    (high_moved 85 1 a b 2 refl)
    (high_kept 85 1 a b 3 refl)
    (high_moved 85 1 a b 4 refl)
    (high_kept 85 1 a b 5 refl)
    (high_moved 85 1 a b 6 refl)
    (high_kept 85 1 a b 7 refl)

bits-low_twos : (a b : ℕ) → bits_of (low_of 51 2 a b) ≡ low_twos (bits_of a) (bits_of b)
unfolding bits_of
bits-low_twos a b =
    eight
    (low_first 51 2 a b 0 (omega arith) (omega arith))
    (low_first 51 2 a b 1 (omega arith) (omega arith))
    (low_moved 51 2 a b 0 refl (omega arith))
    (low_moved 51 2 a b 1 refl (omega arith))
    (low_kept 51 2 a b 2 refl (omega arith))
    (low_kept 51 2 a b 3 refl (omega arith))
    (low_moved 51 2 a b 4 refl (omega arith))
    (low_moved 51 2 a b 5 refl (omega arith))

bits-high_twos : (a b : ℕ) → bits_of (high_of 51 2 a b) ≡ high_twos (bits_of a) (bits_of b)
unfolding bits_of
bits-high_twos a b =
    eight
    (high_moved 51 2 a b 0 refl)
    (high_moved 51 2 a b 1 refl)
    (high_kept 51 2 a b 2 refl)
    (high_kept 51 2 a b 3 refl)
    (high_moved 51 2 a b 4 refl)
    (high_moved 51 2 a b 5 refl)
    (high_kept 51 2 a b 6 refl)
    (high_kept 51 2 a b 7 refl)

bits-low_fours : (a b : ℕ) → bits_of (low_of 15 4 a b) ≡ low_fours (bits_of a) (bits_of b)
unfolding bits_of
bits-low_fours a b =
    eight
    (low_first 15 4 a b 0 (omega arith) (omega arith))
    (low_first 15 4 a b 1 (omega arith) (omega arith))
    (low_first 15 4 a b 2 (omega arith) (omega arith))
    (low_first 15 4 a b 3 (omega arith) (omega arith))
    (low_moved 15 4 a b 0 refl (omega arith))
    (low_moved 15 4 a b 1 refl (omega arith))
    (low_moved 15 4 a b 2 refl (omega arith))
    (low_moved 15 4 a b 3 refl (omega arith))

bits-high_fours : (a b : ℕ) → bits_of (high_of 15 4 a b) ≡ high_fours (bits_of a) (bits_of b)
unfolding bits_of
bits-high_fours a b =
    eight
    (high_moved 15 4 a b 0 refl)
    (high_moved 15 4 a b 1 refl)
    (high_moved 15 4 a b 2 refl)
    (high_moved 15 4 a b 3 refl)
    (high_kept 15 4 a b 4 refl)
    (high_kept 15 4 a b 5 refl)
    (high_kept 15 4 a b 6 refl)
    (high_kept 15 4 a b 7 refl)

-- ---- three exchanges

pub transposed_bytes : (x0 x1 x2 x3 x4 x5 x6 x7 : ℕ) →
    let a0 : ℕ = low_of 85 1 x0 x1 in
    let a1 : ℕ = high_of 85 1 x0 x1 in
    let a2 : ℕ = low_of 85 1 x2 x3 in
    let a3 : ℕ = high_of 85 1 x2 x3 in
    let a4 : ℕ = low_of 85 1 x4 x5 in
    let a5 : ℕ = high_of 85 1 x4 x5 in
    let a6 : ℕ = low_of 85 1 x6 x7 in
    let a7 : ℕ = high_of 85 1 x6 x7 in
    let b0 : ℕ = low_of 51 2 a0 a2 in
    let b2 : ℕ = high_of 51 2 a0 a2 in
    let b1 : ℕ = low_of 51 2 a1 a3 in
    let b3 : ℕ = high_of 51 2 a1 a3 in
    let b4 : ℕ = low_of 51 2 a4 a6 in
    let b6 : ℕ = high_of 51 2 a4 a6 in
    let b5 : ℕ = low_of 51 2 a5 a7 in
    let b7 : ℕ = high_of 51 2 a5 a7 in
    let c0 : ℕ = low_of 15 4 b0 b4 in
    let c4 : ℕ = high_of 15 4 b0 b4 in
    let c1 : ℕ = low_of 15 4 b1 b5 in
    let c5 : ℕ = high_of 15 4 b1 b5 in
    let c2 : ℕ = low_of 15 4 b2 b6 in
    let c6 : ℕ = high_of 15 4 b2 b6 in
    let c3 : ℕ = low_of 15 4 b3 b7 in
    let c7 : ℕ = high_of 15 4 b3 b7 in
    map bits_of (c0 ∷ c1 ∷ c2 ∷ c3 ∷ c4 ∷ c5 ∷ c6 ∷ c7 ∷ []) ≡ columns (map bits_of (x0 ∷ x1 ∷ x2 ∷ x3 ∷ x4 ∷ x5 ∷ x6 ∷ x7 ∷ []))
unfolding columns
transposed_bytes x0 x1 x2 x3 x4 x5 x6 x7 =
    let a0 : ℕ = low_of 85 1 x0 x1 in
    let a1 : ℕ = high_of 85 1 x0 x1 in
    let a2 : ℕ = low_of 85 1 x2 x3 in
    let a3 : ℕ = high_of 85 1 x2 x3 in
    let a4 : ℕ = low_of 85 1 x4 x5 in
    let a5 : ℕ = high_of 85 1 x4 x5 in
    let a6 : ℕ = low_of 85 1 x6 x7 in
    let a7 : ℕ = high_of 85 1 x6 x7 in
    let b0 : ℕ = low_of 51 2 a0 a2 in
    let b2 : ℕ = high_of 51 2 a0 a2 in
    let b1 : ℕ = low_of 51 2 a1 a3 in
    let b3 : ℕ = high_of 51 2 a1 a3 in
    let b4 : ℕ = low_of 51 2 a4 a6 in
    let b6 : ℕ = high_of 51 2 a4 a6 in
    let b5 : ℕ = low_of 51 2 a5 a7 in
    let b7 : ℕ = high_of 51 2 a5 a7 in
    let c0 : ℕ = low_of 15 4 b0 b4 in
    let c4 : ℕ = high_of 15 4 b0 b4 in
    let c1 : ℕ = low_of 15 4 b1 b5 in
    let c5 : ℕ = high_of 15 4 b1 b5 in
    let c2 : ℕ = low_of 15 4 b2 b6 in
    let c6 : ℕ = high_of 15 4 b2 b6 in
    let c3 : ℕ = low_of 15 4 b3 b7 in
    let c7 : ℕ = high_of 15 4 b3 b7 in
    rw (
      bits-low_fours b0 b4,
      bits-high_fours b0 b4,
      bits-low_fours b1 b5,
      bits-high_fours b1 b5,
      bits-low_fours b2 b6,
      bits-high_fours b2 b6,
      bits-low_fours b3 b7,
      bits-high_fours b3 b7,
      bits-low_twos a0 a2,
      bits-high_twos a0 a2,
      bits-low_twos a1 a3,
      bits-high_twos a1 a3,
      bits-low_twos a4 a6,
      bits-high_twos a4 a6,
      bits-low_twos a5 a7,
      bits-high_twos a5 a7,
      bits-low_ones x0 x1,
      bits-high_ones x0 x1,
      bits-low_ones x2 x3,
      bits-high_ones x2 x3,
      bits-low_ones x4 x5,
      bits-high_ones x4 x5,
      bits-low_ones x6 x7,
      bits-high_ones x6 x7,
    )
    refl

-- ---- bits across

bits_of_at : (b j : ℕ) → j < 8 → get_or (bits_of b) j 0 ≡ bit_at b j
unfolding bits_of
bits_of_at b j lt = get_or-map-range_with_len (bit_at b) 0 8 j j 0 lt (omega arith)

-- bit j of each byte
pub bits_across : (bytes : List ℕ) (j : ℕ) → j < 8 → column (map bits_of bytes) j ≡ map (λ b. bit_at b j) bytes
bits_across [] j lt = refl
bits_across (b ∷ bytes) j lt =
    ap (λ x. x ∷ column (map bits_of bytes) j) (bits_of_at b j lt)
    ∙ ap (λ l. bit_at b j ∷ l) (bits_across bytes j lt)

-- column j of the columns is row j
pub column-columns : (a b c d e f g h : ℕ) (j : ℕ) → j < 8
    → column (columns (map bits_of (a ∷ b ∷ c ∷ d ∷ e ∷ f ∷ g ∷ h ∷ []))) j ≡ bits_of (get_or (a ∷ b ∷ c ∷ d ∷ e ∷ f ∷ g ∷ h ∷ []) j 0)
unfolding columns bits_of
column-columns a b c d e f g h zero lt = refl
column-columns a b c d e f g h (suc zero) lt = refl
column-columns a b c d e f g h (suc (suc zero)) lt = refl
column-columns a b c d e f g h (suc (suc (suc zero))) lt = refl
column-columns a b c d e f g h (suc (suc (suc (suc zero)))) lt = refl
column-columns a b c d e f g h (suc (suc (suc (suc (suc zero))))) lt = refl
column-columns a b c d e f g h (suc (suc (suc (suc (suc (suc zero)))))) lt = refl
column-columns a b c d e f g h (suc (suc (suc (suc (suc (suc (suc zero))))))) lt = refl
column-columns a b c d e f g h (suc (suc (suc (suc (suc (suc (suc (suc j)))))))) lt = absurd (omega arith)
