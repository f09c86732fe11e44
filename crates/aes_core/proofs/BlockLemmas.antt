-- Blocks in registers: from the lanes of a step to its blocks.
use Rattle.std.proofs.Common.{◌≡◌, ℕ, zero, suc, ◌+◌, ◌*◌, ◌/◌, ◌%◌, ◌<◌, ◌++◌, List, [], ◌∷◌, get_or, map, length, refl, sym, ap, ◌∙◌, arith}
use Rattle.std.specs.List.{range_with_len}
use Rattle.std.proofs.lemmas.List.FromFn.{get_or-map-range_with_len}
use Rattle.std.specs.Int.Bits.{bit_xor, xor_assoc}
use Rattle.std.specs.Simd.Lanes.{zip2, pick_l, all_below}
use Rattle.std.proofs.Math.Dec.{T}
use Rattle.std.proofs.lemmas.Simd.{length-zip2, get_or-zip2, pick_l_left}
use Rattle.aes_core.specs.Field.{times_x, product}
use Rattle.aes_core.specs.State.{at, state_of, mixed, mix_columns}
use Rattle.aes_core.specs.declared.sliced.registers.Registers.{Registers}
use Rattle.aes_core.specs.Sliced.{lane, byte_across, block_in, registers_of, block_of, sum_of, turned, times_x_each}
use Rattle.aes_core.proofs.BitLemmas.{byte_across-xor, byte_across-times_x, byte_across-lt}
use Rattle.aes_core.proofs.FieldLemmas.{times_x-xor}
use Rattle.aes_core.proofs.MixLemmas.{product_by_1, product_by_2, product_by_3}

-- functions that agree below n
mapped : (f g : ℕ → ℕ) (n a m : ℕ) → a + n ≡ m → ((p : ℕ) → p < m → f p ≡ g p)
    → map f (range_with_len a n) ≡ map g (range_with_len a n)
mapped f g zero a m e h = refl
mapped f g (suc n) a m e h =
    ap (λ x. x ∷ map f (range_with_len (a + 1) n)) (h a (omega arith))
    ∙ ap (λ l. g a ∷ l) (mapped f g n (a + 1) m (omega arith) h)

-- functions that agree at the 16 places of a state
pub same_state : (f g : ℕ → ℕ) → ((p : ℕ) → p < 16 → f p ≡ g p)
    → state_of (λ r c. f (r + 4 * c)) ≡ state_of (λ r c. g (r + 4 * c))
unfolding state_of
same_state f g h = mapped f g 16 0 16 refl h

-- functions that agree at the 16 bytes of a register, which stand row by row
same_rows : (f g : ℕ → ℕ) → ((p : ℕ) → p < 16 → f p ≡ g p)
    → state_of (λ r c. f (4 * r + c)) ≡ state_of (λ r c. g (4 * r + c))
unfolding state_of
same_rows f g h =
    same_state (λ p. f (4 * (p % 4) + p / 4)) (λ p. g (4 * (p % 4) + p / 4))
    (λ p lt. h (4 * (p % 4) + p / 4) (omega arith))

-- a step that does f to each byte of block j
pub each_byte : (f : ℕ → ℕ) (xs ys : List (List ℕ)) (j : ℕ)
    → ((p : ℕ) → p < 16 → byte_across j (lane p ys) ≡ f (byte_across j (lane p xs)))
    → block_in ys j ≡ state_of (λ r c. f (at (block_in xs j) r c))
unfolding block_in state_of
each_byte f xs ys j h = same_rows (λ p. byte_across j (lane p ys)) (λ p. f (byte_across j (lane p xs))) h

-- ---- registers of 16 bytes

unfoldable pub Wide : List (List ℕ) → Type 0
Wide [] = Unit {0}
Wide (v ∷ registers) = (length v ≡ 16) × Wide registers

pub registers_wide : (r : Registers) → Wide (registers_of r)
unfolding Wide
registers_wide r = (r.wide.0, (r.wide.1, (r.wide.2, (r.wide.3, (r.wide.4, (r.wide.5, (r.wide.6, (r.wide.7, tt))))))))

-- ---- sums of registers

-- a sum of two registers, at a byte
xor_at : (v w : List ℕ) → length v ≡ 16 → length w ≡ 16 → (p : ℕ) → p < 16
    → get_or (zip2 bit_xor v w) p 0 ≡ bit_xor (get_or v p 0) (get_or w p 0)
xor_at v w lv lw p h = get_or-zip2 bit_xor v w p 0 0 0 (omega arith) (omega arith)

pub xor_wide : (v w : List ℕ) → length v ≡ 16 → length w ≡ 16 → length (zip2 bit_xor v w) ≡ 16
xor_wide v w lv lw = length-zip2 bit_xor v w (omega arith) ∙ lv

lane-sum : (p : ℕ) → p < 16 → (xs ys : List (List ℕ)) → Wide xs → Wide ys
    → lane p (zip2 (zip2 bit_xor) xs ys) ≡ zip2 bit_xor (lane p xs) (lane p ys)
unfolding Wide
lane-sum p h [] ys wx wy = refl
lane-sum p h (x ∷ xs) [] wx wy = refl
lane-sum p h (x ∷ xs) (y ∷ ys) wx wy =
    ap (λ b. b ∷ lane p (zip2 (zip2 bit_xor) xs ys)) (xor_at x y wx.0 wy.0 p h)
    ∙ ap (λ l. bit_xor (get_or x p 0) (get_or y p 0) ∷ l) (lane-sum p h xs ys wx.1 wy.1)

pub block_in-sum : (r s : Registers) (j : ℕ)
    → block_in (zip2 (zip2 bit_xor) (registers_of r) (registers_of s)) j ≡ sum_of (block_of r j) (block_of s j)
unfolding block_in sum_of state_of
block_in-sum r s j =
    let xs : List (List ℕ) = registers_of r in
    let ys : List (List ℕ) = registers_of s in
    same_rows (λ p. byte_across j (lane p (zip2 (zip2 bit_xor) xs ys)))
    (λ p. bit_xor (byte_across j (lane p xs)) (byte_across j (lane p ys)))
    (λ p h.
    ap (byte_across j) (lane-sum p h xs ys (registers_wide r) (registers_wide s))
    ∙ byte_across-xor j (lane p xs) (lane p ys) refl)

pub block_in-times_x : (r : Registers) (j : ℕ)
    → block_in
    (r.bit7 ∷ zip2 bit_xor r.bit0 r.bit7 ∷ r.bit1 ∷ zip2 bit_xor r.bit2 r.bit7 ∷ zip2 bit_xor r.bit3 r.bit7 ∷ r.bit4 ∷ r.bit5 ∷ r.bit6 ∷ [])
    j ≡ times_x_each (block_of r j)
unfolding times_x_each
block_in-times_x r j =
    let top : List ℕ = r.bit7 in
    each_byte times_x (registers_of r)
    (top ∷ zip2 bit_xor r.bit0 top ∷ r.bit1 ∷ zip2 bit_xor r.bit2 top ∷ zip2 bit_xor r.bit3 top ∷ r.bit4 ∷ r.bit5 ∷ r.bit6 ∷ []) j
    (λ p h.
    let b : List ℕ → ℕ = λ v. get_or v p 0 in
    rw (
      xor_at r.bit0 top r.wide.0 r.wide.7 p h,
      xor_at r.bit2 top r.wide.2 r.wide.7 p h,
      xor_at r.bit3 top r.wide.3 r.wide.7 p h,
    )
    (byte_across-times_x j (b r.bit0) (b r.bit1) (b r.bit2) (b r.bit3) (b r.bit4) (b r.bit5) (b r.bit6) (b r.bit7)))

-- ---- a shuffle of each register

shuffled : (places : List ℕ) → T (all_below 16 places) → (xs : List (List ℕ)) → Wide xs
    → map (λ v. pick_l 0 (v ++ v) places) xs ≡ map (λ v. pick_l 0 v places) xs
unfolding Wide
shuffled places t [] w = refl
shuffled places t (x ∷ xs) w =
    ap (λ v. v ∷ map (λ v. pick_l 0 (v ++ v) places) xs) (pick_l_left 0 x x 16 places w.0 t)
    ∙ ap (λ l. pick_l 0 x places ∷ l) (shuffled places t xs w.1)

pub block_in-shuffled : (r : Registers) (places : List ℕ) → T (all_below 16 places) → (j : ℕ)
    → block_in (map (λ v. pick_l 0 (v ++ v) places) (registers_of r)) j
    ≡ block_in (map (λ v. pick_l 0 v places) (registers_of r)) j
block_in-shuffled r places t j = ap (λ xs. block_in xs j) (shuffled places t (registers_of r) (registers_wide r))

-- ---- MixColumns by sums

one_row : (a b c d : ℕ) → a < 256 → b < 256 → c < 256 → d < 256
    → bit_xor (bit_xor (times_x (bit_xor a b)) b) (bit_xor c d) ≡ bit_xor (bit_xor (bit_xor (product 2 a) (product 3 b)) (product 1 c)) (product 1 d)
one_row a b c d pa pb pc pd =
    let x : ℕ = times_x a in
    let y : ℕ = times_x b in
    rw (times_x-xor a b pa pb, ← product_by_2 a pa, ← product_by_3 b pb, ← product_by_1 c pc, ← product_by_1 d pd)
    (sym (xor_assoc (bit_xor (bit_xor x y) b) c d) ∙ ap (λ z. bit_xor (bit_xor z c) d) (xor_assoc x y b))

pub mixed_by_sums : (s : List ℕ) → ((k : ℕ) → k < 16 → get_or s k 0 < 256)
    → sum_of (sum_of (times_x_each (sum_of s (turned 1 s))) (turned 1 s)) (turned 2 (sum_of s (turned 1 s))) ≡ mix_columns s
unfolding sum_of times_x_each turned mix_columns state_of
mixed_by_sums s below =
    let entry : ℕ → ℕ → ℕ = λ p n. get_or s ((p % 4 + n) % 4 + 4 * (p / 4)) 0 in
    let first : ℕ → ℕ = λ p. get_or s (p % 4 + 4 * (p / 4)) 0 in
    same_state
    (λ p. bit_xor (bit_xor (times_x (bit_xor (first p) (entry p 1))) (entry p 1)) (bit_xor (entry p 2) (entry p 3)))
    (λ p. mixed (λ i. get_or s (i + 4 * (p / 4)) 0) (p % 4))
    (λ p h.
    one_row (first p) (entry p 1) (entry p 2) (entry p 3) (below (p % 4 + 4 * (p / 4)) (omega arith))
    (below ((p % 4 + 1) % 4 + 4 * (p / 4)) (omega arith)) (below ((p % 4 + 2) % 4 + 4 * (p / 4)) (omega arith))
    (below ((p % 4 + 3) % 4 + 4 * (p / 4)) (omega arith)))

-- the bytes of a block
pub block_of-lt : (r : Registers) (j k : ℕ) → k < 16 → get_or (block_of r j) k 0 < 256
unfolding block_in state_of
block_of-lt r j k lt =
    let b : List ℕ → ℕ = λ v. get_or v (4 * (k % 4) + k / 4) 0 in
    let at_place : ℕ → ℕ = λ p. byte_across j (lane (4 * (p % 4) + p / 4) (registers_of r)) in
    rw (get_or-map-range_with_len at_place 0 16 k k 0 lt (omega arith))
    (byte_across-lt j (b r.bit0) (b r.bit1) (b r.bit2) (b r.bit3) (b r.bit4) (b r.bit5) (b r.bit6) (b r.bit7))
