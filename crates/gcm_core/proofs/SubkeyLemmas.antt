-- Products four bits at a time, by tables of 16 entries.
use Rattle.std.proofs.Common.{◌≡◌, ℕ, zero, suc, ◌+◌, ◌*◌, ◌/◌, ◌%◌, ◌^◌, ◌<◌, Bool, true, false, cond, eqb, List, [], ◌∷◌, length, get_or, map, bit_and, bit_xor, refl, sym, ap, ◌∙◌, arith, eqb-true, zero-add}
use Rattle.std.specs.List.{range_with_len}
use Rattle.std.specs.Int.Bits.{xor_zero_r}
use Rattle.std.proofs.lemmas.Bool.{eqb-false}
use Rattle.std.proofs.lemmas.List.FromFn.{get_or-map-range_with_len}
use Rattle.std.proofs.lemmas.Nat.{xor_block, xor_comm, xor_lt, and_mask}
use Rattle.gcm_core.specs.Polynomial.{polynomial_sum}
use Rattle.gcm_core.specs.Block.{bits, block_product}
use Rattle.gcm_core.specs.Tables.{times_power_of_x, HasMultiples}
use Rattle.gcm_core.specs.declared.subkey.TheConstants.{REDUCTION}
use Rattle.gcm_core.proofs.PolynomialLemmas.{sum_comm}
use Rattle.gcm_core.proofs.BitsLemmas.{length-bits, bits-xor, bits_zero, times_x_odd, times_x_even}
use Rattle.gcm_core.proofs.BlockLemmas.{bits-add, bits_low}
use Rattle.gcm_core.proofs.PowerLemmas.{block_product-sum}
use Rattle.gcm_core.proofs.ProductLemmas.{times_x, times_power_of_x-sum, product_nil, product_x, product_zeros, product_one, product-append}

-- a number below a power of two and a multiple of it have no bit in common
pub joined : (d k r : ℕ) → r < 2 ^ k → bit_xor r (d * 2 ^ k) ≡ d * 2 ^ k + r
joined d k r h =
    let left : r ≡ 0 * 2 ^ k + r = omega arith in
    let right : d * 2 ^ k ≡ d * 2 ^ k + 0 = omega arith in
    ap (λ (y : ℕ). bit_xor y (d * 2 ^ k)) left ∙ ap (λ (y : ℕ). bit_xor (0 * 2 ^ k + r) y) right ∙ xor_block k 0 d r 0 h (omega arith)
    ∙ ap (λ (y : ℕ). y * 2 ^ k + bit_xor r 0) (xor_comm 0 d ∙ xor_zero_r d) ∙ ap (λ (y : ℕ). d * 2 ^ k + y) (xor_zero_r r)

-- ---- the reduction

-- the number of x times a block
number_times_x : ℕ → ℕ
number_times_x n = cond (eqb (n % 2) 1) (bit_xor (n / 2) 299076299051606071403356588563077529600) (n / 2)

number_below : (n : ℕ) → n < 2 ^ 128 → number_times_x n < 2 ^ 128
unfolding number_times_x
number_below n h = by_bit (eqb (n % 2) 1)
  where
    by_bit : (b : Bool) → cond b (bit_xor (n / 2) 299076299051606071403356588563077529600) (n / 2) < 2 ^ 128
    by_bit true = xor_lt 128 (n / 2) 299076299051606071403356588563077529600 (omega arith) (omega arith)
    by_bit false = omega arith

bits-number_times_x : (n : ℕ) → n < 2 ^ 128 → bits 128 (number_times_x n) ≡ times_x (bits 128 n)
unfolding number_times_x
bits-number_times_x n h = by_bit (eqb (n % 2) 1) refl
  where
    by_bit : (b : Bool) → eqb (n % 2) 1 ≡ b
        → bits 128 (cond b (bit_xor (n / 2) 299076299051606071403356588563077529600) (n / 2)) ≡ times_x (bits 128 n)
    by_bit true e = times_x_odd n h (and_mask n 1 ∙ eqb-true (n % 2) 1 e)
    by_bit false e = times_x_even n h (λ odd. eqb-false (n % 2) 1 e (sym (and_mask n 1) ∙ odd))

number_times_x_4 : ℕ → ℕ
number_times_x_4 n = number_times_x (number_times_x (number_times_x (number_times_x n)))

-- the whole table
reduction_is : REDUCTION ≡ map number_times_x_4 (range_with_len 0 16)
unfolding number_times_x_4 number_times_x
reduction_is = refl

reduction_entry : (m : ℕ) → m < 16 → bits 128 (get_or REDUCTION m 0) ≡ times_power_of_x 4 (bits 128 m)
unfolding number_times_x_4 times_power_of_x
reduction_entry m h =
    let m1 : ℕ = number_times_x m in
    let m2 : ℕ = number_times_x m1 in
    let m3 : ℕ = number_times_x m2 in
    let l0 : m < 2 ^ 128 = omega arith in
    let l1 : m1 < 2 ^ 128 = number_below m l0 in
    let l2 : m2 < 2 ^ 128 = number_below m1 l1 in
    let l3 : m3 < 2 ^ 128 = number_below m2 l2 in
    ap (λ (t : List ℕ). bits 128 (get_or t m 0)) reduction_is
    ∙ ap (bits 128) (get_or-map-range_with_len number_times_x_4 0 16 m m 0 h (zero-add m))
    ∙ bits-number_times_x m3 l3
    ∙ ap (λ t. times_x t) (bits-number_times_x m2 l2
    ∙ ap (λ t. times_x t) (bits-number_times_x m1 l1 ∙ ap (λ t. times_x t) (bits-number_times_x m l0)))

halved : (n : ℕ) → n < 2 ^ 127 → times_x (bits 128 (2 * n)) ≡ bits 128 n
halved n h =
    sym (times_x_even (2 * n) (omega arith) (λ odd. absurd (omega (arith, and_mask (2 * n) 1, odd))))
    ∙ ap (bits 128) (omega arith)

-- a block whose last four coefficients are zero moves on by four
moved : (n : ℕ) → n < 2 ^ 124 → times_power_of_x 4 (bits 128 (n * 2 ^ 4)) ≡ bits 128 n
unfolding times_power_of_x
moved n h =
    ap (λ (m : ℕ). times_power_of_x 4 (bits 128 m)) (omega arith)
    ∙ ap (λ t. times_x (times_x (times_x t))) (halved (2 * (2 * (2 * n))) (omega arith))
    ∙ ap (λ t. times_x (times_x t)) (halved (2 * (2 * n)) (omega arith))
    ∙ ap (λ t. times_x t) (halved (2 * n) (omega arith))
    ∙ halved n (omega arith)

pub times_x_4_is : (n : ℕ) → n < 2 ^ 128
    → bits 128 (bit_xor (n / 2 ^ 4) (get_or REDUCTION (bit_and n 15) 0)) ≡ times_power_of_x 4 (bits 128 n)
times_x_4_is n h =
    let whole : n ≡ bit_xor (n % 16) (n / 16 * 2 ^ 4) = omega (arith, joined (n / 16) 4 (n % 16) (omega arith)) in
    ap (λ (m : ℕ). bits 128 (bit_xor (n / 16) (get_or REDUCTION m 0))) (and_mask n 4)
    ∙ bits-xor 128 (n / 16) (get_or REDUCTION (n % 16) 0)
    ∙ ap (polynomial_sum (bits 128 (n / 16))) (reduction_entry (n % 16) (omega arith))
    ∙ sum_comm (bits 128 (n / 16)) (times_power_of_x 4 (bits 128 (n % 16)))
    ∙ sym (ap (λ (m : ℕ). times_power_of_x 4 (bits 128 m)) whole
    ∙ ap (times_power_of_x 4) (bits-xor 128 (n % 16) (n / 16 * 2 ^ 4))
    ∙ times_power_of_x-sum 4 (bits 128 (n % 16)) (bits 128 (n / 16 * 2 ^ 4))
    ∙ ap (polynomial_sum (times_power_of_x 4 (bits 128 (n % 16)))) (moved (n / 16) (omega arith)))

-- ---- a product

-- the four lowest bits of a number are those of its remainder
pub bits_four : (n : ℕ) → bits 4 n ≡ bits 4 (n % 16)
bits_four n = ap (bits 4) (omega arith) ∙ bits_low 4 4 (n / 16) (n % 16) (omega arith)

-- four more coefficients of the left factor
pub product_more : (h : List Bool) (entries : List ℕ) (i block sum next : ℕ) → length h ≡ 128 → HasMultiples h entries
    → bits 128 sum ≡ block_product (bits (4 * i) block) h → bits 128 next ≡ times_power_of_x 4 (bits 128 sum)
    → bits 128 (bit_xor next (get_or entries (bit_and (block / 2 ^ (4 * i)) 15) 0)) ≡ block_product (bits (4 * (i + 1)) block) h
product_more h entries i block sum next e has held after =
    let y : ℕ = block / 2 ^ (4 * i) in
    let front : List Bool = block_product (bits 4 y) h in
    let more : 4 * (i + 1) ≡ 4 + 4 * i = omega arith in
    let entry : bits 128 (get_or entries (bit_and y 15) 0) ≡ front =
    ap (λ (m : ℕ). bits 128 (get_or entries m 0)) (and_mask y 4) ∙ has.multiple (y % 16) (omega arith)
    ∙ ap (λ (p : List Bool). block_product p h) (sym (bits_four y)) in
    bits-xor 128 next (get_or entries (bit_and y 15) 0)
    ∙ ap (polynomial_sum (bits 128 next)) entry
    ∙ ap (λ (t : List Bool). polynomial_sum t front) (after ∙ ap (times_power_of_x 4) held)
    ∙ sum_comm (times_power_of_x 4 (block_product (bits (4 * i) block) h)) front
    ∙ sym (ap (λ (n : ℕ). block_product (bits n block) h) more
    ∙ ap (λ (p : List Bool). block_product p h) (bits-add 4 (4 * i) block)
    ∙ product-append (bits 4 y) (bits (4 * i) block) h e
    ∙ ap (λ (n : ℕ). polynomial_sum front (times_power_of_x n (block_product (bits (4 * i) block) h))) (length-bits 4 y))

pub product_none : (h : List Bool) (block : ℕ) → bits 128 0 ≡ block_product (bits (4 * 0) block) h
unfolding bits
product_none h block = bits_zero 128 ∙ sym (product_nil h)

pub product_all : (h : List Bool) (i block sum : ℕ) → i ≡ 32 → bits 128 sum ≡ block_product (bits (4 * i) block) h
    → bits 128 sum ≡ block_product (bits 128 block) h
product_all h i block sum e held = held ∙ ap (λ (n : ℕ). block_product (bits (4 * n) block) h) e

-- ---- the multiples of a block

-- the sums of four blocks: the first for 8, the second for 4, the third for 2, and the last for 1
abbrev pub sums : (a b c d : ℕ) → List ℕ
sums a b c d =
    0 ∷ d ∷ c ∷ bit_xor c d ∷ b ∷ bit_xor b d ∷ bit_xor b c ∷ bit_xor b (bit_xor c d) ∷ a ∷ bit_xor a d ∷ bit_xor a c
    ∷ bit_xor a (bit_xor c d) ∷ bit_xor a b ∷ bit_xor (bit_xor a b) d ∷ bit_xor (bit_xor a b) c ∷ bit_xor (bit_xor a b) (bit_xor c d)
    ∷ []

module _ (a b c d : ℕ) (e : bits 128 b ≡ times_x (bits 128 a)) (f : bits 128 c ≡ times_x (bits 128 b))
    (g : bits 128 d ≡ times_x (bits 128 c)) where
  IsMultiple : ℕ → ℕ → Type 0
  IsMultiple m n = bits 128 n ≡ block_product (bits 4 m) (bits 128 a)

  of_0 : IsMultiple 0 0
  unfolding IsMultiple bits
  of_0 = bits_zero 128 ∙ sym (product_zeros 4 (bits 128 a) (length-bits 128 a))

  of_8 : IsMultiple 8 a
  unfolding IsMultiple bits
  of_8 = sym (product_one 3 (bits 128 a) (length-bits 128 a))

  of_4 : IsMultiple 4 b
  unfolding IsMultiple bits
  of_4 = e ∙ sym (product_x (true ∷ false ∷ false ∷ []) (bits 128 a) (length-bits 128 a)
      ∙ ap (λ t. times_x t) (product_one 2 (bits 128 a) (length-bits 128 a)))

  of_2 : IsMultiple 2 c
  unfolding IsMultiple bits
  of_2 = f ∙ ap (λ t. times_x t) e ∙ sym (product_x (false ∷ true ∷ false ∷ []) (bits 128 a) (length-bits 128 a)
      ∙ ap (λ t. times_x t) (product_x (true ∷ false ∷ []) (bits 128 a) (length-bits 128 a)
      ∙ ap (λ t. times_x t) (product_one 1 (bits 128 a) (length-bits 128 a))))

  of_1 : IsMultiple 1 d
  unfolding IsMultiple bits
  of_1 = g ∙ ap (λ t. times_x t) (f ∙ ap (λ t. times_x t) e)
      ∙ sym (product_x (false ∷ false ∷ true ∷ []) (bits 128 a) (length-bits 128 a)
      ∙ ap (λ t. times_x t) (product_x (false ∷ true ∷ []) (bits 128 a) (length-bits 128 a)
      ∙ ap (λ t. times_x t) (product_x (true ∷ []) (bits 128 a) (length-bits 128 a)
      ∙ ap (λ t. times_x t) (product_one 0 (bits 128 a) (length-bits 128 a)))))

  -- the sum of two multiples
  of_sum : (m n x y : ℕ) → IsMultiple m x → IsMultiple n y → IsMultiple (bit_xor m n) (bit_xor x y)
  unfolding IsMultiple
  of_sum m n x y h k =
      bits-xor 128 x y ∙ ap (λ (t : List Bool). polynomial_sum t (bits 128 y)) h
      ∙ ap (polynomial_sum (block_product (bits 4 m) (bits 128 a))) k
      ∙ sym (ap (λ (p : List Bool). block_product p (bits 128 a)) (bits-xor 4 m n)
      ∙ block_product-sum (bits 4 m) (bits 4 n) (bits 128 a))

  of_3 : IsMultiple 3 (bit_xor c d)
  of_3 = of_sum 2 1 c d of_2 of_1

  of_12 : IsMultiple 12 (bit_xor a b)
  of_12 = of_sum 8 4 a b of_8 of_4

  entry_at : (m : ℕ) → m < 16 → IsMultiple m (get_or (sums a b c d) m 0)
  entry_at zero h = of_0
  entry_at (suc zero) h = of_1
  entry_at (suc (suc zero)) h = of_2
  entry_at (suc (suc (suc zero))) h = of_3
  entry_at (suc (suc (suc (suc zero)))) h = of_4
  entry_at (suc (suc (suc (suc (suc zero))))) h = of_sum 4 1 b d of_4 of_1
  entry_at (suc (suc (suc (suc (suc (suc zero)))))) h = of_sum 4 2 b c of_4 of_2
  entry_at (suc (suc (suc (suc (suc (suc (suc zero))))))) h = of_sum 4 3 b (bit_xor c d) of_4 of_3
  entry_at (suc (suc (suc (suc (suc (suc (suc (suc zero)))))))) h = of_8
  entry_at (suc (suc (suc (suc (suc (suc (suc (suc (suc zero))))))))) h = of_sum 8 1 a d of_8 of_1
  entry_at (suc (suc (suc (suc (suc (suc (suc (suc (suc (suc zero)))))))))) h = of_sum 8 2 a c of_8 of_2
  entry_at (suc (suc (suc (suc (suc (suc (suc (suc (suc (suc (suc zero))))))))))) h = of_sum 8 3 a (bit_xor c d) of_8 of_3
  entry_at (suc (suc (suc (suc (suc (suc (suc (suc (suc (suc (suc (suc zero)))))))))))) h = of_12
  entry_at (suc (suc (suc (suc (suc (suc (suc (suc (suc (suc (suc (suc (suc zero))))))))))))) h = of_sum 12 1 (bit_xor a b) d of_12 of_1
  entry_at (suc (suc (suc (suc (suc (suc (suc (suc (suc (suc (suc (suc (suc (suc zero)))))))))))))) h = of_sum 12 2 (bit_xor a b) c of_12 of_2
  entry_at (suc (suc (suc (suc (suc (suc (suc (suc (suc (suc (suc (suc (suc (suc (suc zero))))))))))))))) h = of_sum 12 3 (bit_xor a b) (bit_xor c d) of_12 of_3
  entry_at (suc (suc (suc (suc (suc (suc (suc (suc (suc (suc (suc (suc (suc (suc (suc (suc n)))))))))))))))) h = absurd (omega arith)

  pub multiples_are : HasMultiples (bits 128 a) (sums a b c d)
  unfolding IsMultiple
  multiples_are = record { multiple = entry_at }

-- the multiple for 8 is the block
pub multiple_of_one : (h : List Bool) (entries : List ℕ) → length h ≡ 128 → HasMultiples h entries → bits 128 (get_or entries 8 0) ≡ h
unfolding bits
multiple_of_one h entries e has = has.multiple 8 (omega arith) ∙ product_one 3 h e
