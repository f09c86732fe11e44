-- The two matrices of MixColumns and its inverse: the products that they take, and that one undoes the other.
use Rattle.std.proofs.Common.{◌≡◌, ℕ, zero, suc, ◌+◌, ◌%◌, ◌<◌, refl, sym, ap, ◌∙◌, arith}
use Rattle.std.specs.Int.Bits.{bit_xor, xor_assoc, xor_comm, xor_zero_r}
use Rattle.aes_core.specs.Field.{times_x, product_of_bits, product}
use Rattle.aes_core.specs.State.{mixed, unmixed}
use Rattle.aes_core.proofs.EachByte.{at_each_byte}
use Rattle.aes_core.proofs.FieldLemmas.{xor_swap, xor_of_bytes, product-lt, product-xor}

-- ---- the products by the constants of the two matrices

pub product_by_1 : (a : ℕ) → a < 256 → a ≡ product 1 a
unfolding times_x product_of_bits product
product_by_1 = at_each_byte (λ a. a) (product 1) refl

pub product_by_2 : (a : ℕ) → a < 256 → times_x a ≡ product 2 a
unfolding times_x product_of_bits product
product_by_2 = at_each_byte times_x (product 2) refl

pub product_by_3 : (a : ℕ) → a < 256 → bit_xor (times_x a) a ≡ product 3 a
unfolding times_x product_of_bits product
product_by_3 = at_each_byte (λ a. bit_xor (times_x a) a) (product 3) refl

-- ---- the sum of four

abbrev pub sum4 : ℕ → ℕ → ℕ → ℕ → ℕ
sum4 w x y z = bit_xor (bit_xor (bit_xor w x) y) z

sum4-xor : (w x y z w' x' y' z' : ℕ) → sum4 (bit_xor w w') (bit_xor x x') (bit_xor y y') (bit_xor z z') ≡ bit_xor (sum4 w x y z) (sum4 w' x' y' z')
sum4-xor w x y z w' x' y' z' =
    rw (xor_swap w w' x x', xor_swap (bit_xor w x) (bit_xor w' x') y y', xor_swap (bit_xor (bit_xor w x) y) (bit_xor (bit_xor w' x') y') z z') refl

-- the last of four comes first
pub sum4_turned : (w x y z : ℕ) → sum4 w x y z ≡ sum4 z w x y
sum4_turned w x y z =
    xor_comm (bit_xor (bit_xor w x) y) z ∙ sym (xor_assoc z (bit_xor w x) y) ∙ ap (λ t. bit_xor t y) (sym (xor_assoc z w x))

-- four sums of four, with rows and columns in each other's place
sum4_flipped : (a b c d a' b' c' d' a'' b'' c'' d'' a''' b''' c''' d''' : ℕ)
    → sum4 (sum4 a a' a'' a''') (sum4 b b' b'' b''') (sum4 c c' c'' c''') (sum4 d d' d'' d''')
    ≡ sum4 (sum4 a b c d) (sum4 a' b' c' d') (sum4 a'' b'' c'' d'') (sum4 a''' b''' c''' d''')
sum4_flipped a b c d a' b' c' d' a'' b'' c'' d'' a''' b''' c''' d''' =
    sum4-xor (bit_xor (bit_xor a a') a'') (bit_xor (bit_xor b b') b'') (bit_xor (bit_xor c c') c'') (bit_xor (bit_xor d d') d'') a''' b''' c''' d'''
    ∙ ap (λ t. bit_xor t (sum4 a''' b''' c''' d'''))
    (sum4-xor (bit_xor a a') (bit_xor b b') (bit_xor c c') (bit_xor d d') a'' b'' c'' d''
    ∙ ap (λ t. bit_xor t (sum4 a'' b'' c'' d'')) (sum4-xor a b c d a' b' c' d'))

product-sum4 : (m w x y z : ℕ) → w < 256 → x < 256 → y < 256 → z < 256 → product m (sum4 w x y z) ≡ sum4 (product m w) (product m x) (product m y) (product m z)
product-sum4 m w x y z p q r s =
    let wx : bit_xor w x < 256 = xor_of_bytes w x p q in
    rw (product-xor m (bit_xor (bit_xor w x) y) z (xor_of_bytes (bit_xor w x) y wx r) s, product-xor m (bit_xor w x) y wx r, product-xor m w x p q) refl

-- ---- one matrix undoes the other

-- what the products of one byte, through the first matrix and row 0 of the second, add up to: the byte itself in row 0, and 0
-- in the others
own_row : (a : ℕ) → a < 256 → sum4 (product 14 (product 2 a)) (product 11 (product 1 a)) (product 13 (product 1 a)) (product 9 (product 3 a)) ≡ a
unfolding times_x product_of_bits product
own_row = at_each_byte (λ a. sum4 (product 14 (product 2 a)) (product 11 (product 1 a)) (product 13 (product 1 a)) (product 9 (product 3 a))) (λ a. a) refl

row_1 : (a : ℕ) → a < 256 → sum4 (product 14 (product 3 a)) (product 11 (product 2 a)) (product 13 (product 1 a)) (product 9 (product 1 a)) ≡ 0
unfolding times_x product_of_bits product
row_1 = at_each_byte (λ a. sum4 (product 14 (product 3 a)) (product 11 (product 2 a)) (product 13 (product 1 a)) (product 9 (product 1 a))) (λ a. 0) refl

row_2 : (a : ℕ) → a < 256 → sum4 (product 14 (product 1 a)) (product 11 (product 3 a)) (product 13 (product 2 a)) (product 9 (product 1 a)) ≡ 0
unfolding times_x product_of_bits product
row_2 = at_each_byte (λ a. sum4 (product 14 (product 1 a)) (product 11 (product 3 a)) (product 13 (product 2 a)) (product 9 (product 1 a))) (λ a. 0) refl

row_3 : (a : ℕ) → a < 256 → sum4 (product 14 (product 1 a)) (product 11 (product 1 a)) (product 13 (product 3 a)) (product 9 (product 2 a)) ≡ 0
unfolding times_x product_of_bits product
row_3 = at_each_byte (λ a. sum4 (product 14 (product 1 a)) (product 11 (product 1 a)) (product 13 (product 3 a)) (product 9 (product 2 a))) (λ a. 0) refl

-- row 0 of the product of the two matrices
abbrev mix4 : ℕ → ℕ → ℕ → ℕ → ℕ
mix4 a b c d = sum4 (product 2 a) (product 3 b) (product 1 c) (product 1 d)

undone : (a b c d : ℕ) → a < 256 → b < 256 → c < 256 → d < 256
    → sum4 (product 14 (mix4 a b c d)) (product 11 (mix4 b c d a)) (product 13 (mix4 c d a b)) (product 9 (mix4 d a b c)) ≡ a
undone a b c d p q r s =
    let P = λ (m : ℕ) (k : ℕ) (x : ℕ). product m (product k x) in
    rw (
      product-sum4 14 (product 2 a) (product 3 b) (product 1 c) (product 1 d) (product-lt 2 a p) (product-lt 3 b q) (product-lt 1 c r) (product-lt 1 d s),
      product-sum4 11 (product 2 b) (product 3 c) (product 1 d) (product 1 a) (product-lt 2 b q) (product-lt 3 c r) (product-lt 1 d s) (product-lt 1 a p),
      product-sum4 13 (product 2 c) (product 3 d) (product 1 a) (product 1 b) (product-lt 2 c r) (product-lt 3 d s) (product-lt 1 a p) (product-lt 1 b q),
      product-sum4 9 (product 2 d) (product 3 a) (product 1 b) (product 1 c) (product-lt 2 d s) (product-lt 3 a p) (product-lt 1 b q) (product-lt 1 c r),
    )
    (let e2 = sum4_turned (P 11 2 b) (P 11 3 c) (P 11 1 d) (P 11 1 a) in
    let e3 = sum4_turned (P 13 2 c) (P 13 3 d) (P 13 1 a) (P 13 1 b) ∙ sum4_turned (P 13 1 b) (P 13 2 c) (P 13 3 d) (P 13 1 a) in
    let e4 = sum4_turned (P 9 2 d) (P 9 3 a) (P 9 1 b) (P 9 1 c) ∙ sum4_turned (P 9 1 c) (P 9 2 d) (P 9 3 a) (P 9 1 b) ∙ sum4_turned (P 9 1 b) (P 9 1 c) (P 9 2 d) (P 9 3 a) in
    rw (e2, e3, e4)
    (sum4_flipped (P 14 2 a) (P 11 1 a) (P 13 1 a) (P 9 3 a) (P 14 3 b) (P 11 2 b) (P 13 1 b) (P 9 1 b) (P 14 1 c) (P 11 3 c) (P 13 2 c) (P 9 1 c) (P 14 1 d) (P 11 1 d) (P 13 3 d) (P 9 2 d)
    ∙ rw (own_row a p, row_1 b q, row_2 c r, row_3 d s, xor_zero_r a, xor_zero_r a, xor_zero_r a) refl))

-- the second matrix undoes the first
pub unmixed-mixed : (a : ℕ → ℕ) → ((i : ℕ) → i < 4 → a i < 256) → (r : ℕ) → r < 4 → unmixed (mixed a) r ≡ a r
unmixed-mixed a h zero k = undone (a 0) (a 1) (a 2) (a 3) (h 0 (omega arith)) (h 1 (omega arith)) (h 2 (omega arith)) (h 3 (omega arith))
unmixed-mixed a h (suc zero) k = undone (a 1) (a 2) (a 3) (a 0) (h 1 (omega arith)) (h 2 (omega arith)) (h 3 (omega arith)) (h 0 (omega arith))
unmixed-mixed a h (suc (suc zero)) k = undone (a 2) (a 3) (a 0) (a 1) (h 2 (omega arith)) (h 3 (omega arith)) (h 0 (omega arith)) (h 1 (omega arith))
unmixed-mixed a h (suc (suc (suc zero))) k = undone (a 3) (a 0) (a 1) (a 2) (h 3 (omega arith)) (h 0 (omega arith)) (h 1 (omega arith)) (h 2 (omega arith))
unmixed-mixed a h (suc (suc (suc (suc r)))) k = absurd (omega arith)

pub mixed-lt : (a : ℕ → ℕ) → ((i : ℕ) → a i < 256) → (r : ℕ) → mixed a r < 256
mixed-lt a h r =
    let w = product-lt 2 (a r) (h r) in
    let x = product-lt 3 (a ((r + 1) % 4)) (h ((r + 1) % 4)) in
    let y = product-lt 1 (a ((r + 2) % 4)) (h ((r + 2) % 4)) in
    let z = product-lt 1 (a ((r + 3) % 4)) (h ((r + 3) % 4)) in
    xor_of_bytes _ _ (xor_of_bytes _ _ (xor_of_bytes _ _ w x) y) z

-- the second matrix is additive
pub unmixed-xor : (f g : ℕ → ℕ) → ((i : ℕ) → f i < 256) → ((i : ℕ) → g i < 256) → (r : ℕ)
    → unmixed (λ i. bit_xor (f i) (g i)) r ≡ bit_xor (unmixed f r) (unmixed g r)
unmixed-xor f g p q r =
    let i : ℕ = (r + 1) % 4 in
    let j : ℕ = (r + 2) % 4 in
    let k : ℕ = (r + 3) % 4 in
    rw (
      product-xor 14 (f r) (g r) (p r) (q r),
      product-xor 11 (f i) (g i) (p i) (q i),
      product-xor 13 (f j) (g j) (p j) (q j),
      product-xor 9 (f k) (g k) (p k) (q k),
    )
    (sum4-xor (product 14 (f r)) (product 11 (f i)) (product 13 (f j)) (product 9 (f k)) (product 14 (g r)) (product 11 (g i)) (product 13 (g j)) (product 9 (g k)))
