-- The tables of the rounds: each entry is the products that it stands for, also turned, and the sum of four is a column
-- times the matrix.
use Rattle.std.proofs.Common.{◌≡◌, ℕ, ◌<◌, [], ◌∷◌, List, get_or, refl, sym, ap, ◌∙◌}
use Rattle.std.specs.Int.{w32, rotate_left, from_le_bytes}
use Rattle.std.specs.Int.Bits.{bit_xor}
use Rattle.aes_core.specs.Field.{times_x, product_of_bits, product}
use Rattle.aes_core.specs.Boxes.{sub_byte, inverse_sub_byte}
use Rattle.aes_core.specs.State.{column_of, circulant, mixed, unmixed}
use Rattle.aes_core.specs.Words.{IsColumn}
use Rattle.aes_core.specs.declared.boxes.TheConstants.{S_BOX, INVERSE_S_BOX}
use Rattle.aes_core.specs.declared.tables.TheConstants.{MIXED, UNMIXED}
use Rattle.aes_core.proofs.EachByte.{at_each_byte}
use Rattle.aes_core.proofs.FieldLemmas.{product-lt}
use Rattle.aes_core.proofs.MixLemmas.{sum4, sum4_turned}
use Rattle.aes_core.proofs.BoxTables.{S_BOX_at, INVERSE_S_BOX_at, sub_byte-lt, inverse_sub_byte-lt}
use Rattle.aes_core.proofs.WordLemmas.{word_from, column_sum}

-- the products of s, with these factors in rows 0 to 3
abbrev products : ℕ → ℕ → ℕ → ℕ → ℕ → ℕ → ℕ
products m0 m1 m2 m3 s r = product (get_or (m0 ∷ m1 ∷ m2 ∷ m3 ∷ []) r 0) s

-- these as a word
abbrev word : ℕ → ℕ → ℕ → ℕ → ℕ → ℕ
word m0 m1 m2 m3 s = from_le_bytes w32 (column_of (products m0 m1 m2 m3 s))

is_word : (m0 m1 m2 m3 s x : ℕ) → s < 256 → x ≡ word m0 m1 m2 m3 s → IsColumn x (products m0 m1 m2 m3 s)
is_word m0 m1 m2 m3 s x h e =
    rw e (word_from (products m0 m1 m2 m3 s) (λ r. product-lt (get_or (m0 ∷ m1 ∷ m2 ∷ m3 ∷ []) r 0) s h))

-- the four columns of a circulant matrix, each times a byte, add up to the matrix times the column of the bytes
circulant_sum : (m0 m1 m2 m3 : ℕ) (a : ℕ → ℕ) (x0 x1 x2 x3 : ℕ)
    → IsColumn x0 (products m0 m3 m2 m1 (a 0)) → IsColumn x1 (products m1 m0 m3 m2 (a 1))
    → IsColumn x2 (products m2 m1 m0 m3 (a 2)) → IsColumn x3 (products m3 m2 m1 m0 (a 3))
    → IsColumn (sum4 x0 x1 x2 x3) (circulant m0 m1 m2 m3 a)
circulant_sum m0 m1 m2 m3 a x0 x1 x2 x3 p0 p1 p2 p3 =
    let f0 : ℕ → ℕ = products m0 m3 m2 m1 (a 0) in
    let f1 : ℕ → ℕ = products m1 m0 m3 m2 (a 1) in
    let f2 : ℕ → ℕ = products m2 m1 m0 m3 (a 2) in
    let f3 : ℕ → ℕ = products m3 m2 m1 m0 (a 3) in
    let two = column_sum x0 x1 f0 f1 p0 p1 in
    let three = column_sum (bit_xor x0 x1) x2 (λ r. bit_xor (f0 r) (f1 r)) f2 two p2 in
    let four = column_sum (bit_xor (bit_xor x0 x1) x2) x3 (λ r. bit_xor (bit_xor (f0 r) (f1 r)) (f2 r)) f3 three p3 in
    let row1 = sum4_turned (product m0 (a 1)) (product m1 (a 2)) (product m2 (a 3)) (product m3 (a 0)) in
    let row2 = sum4_turned (product m0 (a 2)) (product m1 (a 3)) (product m2 (a 0)) (product m3 (a 1))
    ∙ sum4_turned (product m3 (a 1)) (product m0 (a 2)) (product m1 (a 3)) (product m2 (a 0)) in
    let row3 = sum4_turned (product m0 (a 3)) (product m1 (a 0)) (product m2 (a 1)) (product m3 (a 2))
    ∙ sum4_turned (product m3 (a 2)) (product m0 (a 3)) (product m1 (a 0)) (product m2 (a 1))
    ∙ sum4_turned (product m2 (a 1)) (product m3 (a 2)) (product m0 (a 3)) (product m1 (a 0)) in
    let c : ℕ → ℕ = circulant m0 m1 m2 m3 a in
    let s : ℕ → ℕ = λ r. sum4 (f0 r) (f1 r) (f2 r) (f3 r) in
    four
    ∙ sym (ap (λ z. c 0 ∷ z ∷ c 2 ∷ c 3 ∷ []) row1 ∙ ap (λ z. c 0 ∷ s 1 ∷ z ∷ c 3 ∷ []) row2
    ∙ ap (λ z. c 0 ∷ s 1 ∷ s 2 ∷ z ∷ []) row3)

-- a word turned to the left by n bits
abbrev turned : ℕ → ℕ → ℕ
turned n x = rotate_left w32 x n

-- the entries of a table at the bytes of a column, each turned to its place, and added
abbrev pub sum_in : List ℕ → List ℕ → ℕ
sum_in table column =
    let x : ℕ → ℕ = λ i. get_or table (get_or column i 0) 0 in
    sum4 (x 0) (turned 8 (x 1)) (turned 16 (x 2)) (turned 24 (x 3))

-- a table whose entries are the products of the box's values, in each of the four places
table_sum : (m0 m1 m2 m3 : ℕ) (box : ℕ → ℕ) (table : List ℕ) → ((b : ℕ) → box b < 256)
    → ((b : ℕ) → b < 256 → get_or table b 0 ≡ word m0 m3 m2 m1 (box b))
    → ((b : ℕ) → b < 256 → turned 8 (get_or table b 0) ≡ word m1 m0 m3 m2 (box b))
    → ((b : ℕ) → b < 256 → turned 16 (get_or table b 0) ≡ word m2 m1 m0 m3 (box b))
    → ((b : ℕ) → b < 256 → turned 24 (get_or table b 0) ≡ word m3 m2 m1 m0 (box b))
    → (column : List ℕ)
    → get_or column 0 0 < 256 → get_or column 1 0 < 256 → get_or column 2 0 < 256 → get_or column 3 0 < 256
    → IsColumn (sum_in table column) (circulant m0 m1 m2 m3 (λ i. box (get_or column i 0)))
table_sum m0 m1 m2 m3 box table small at0 at1 at2 at3 column h0 h1 h2 h3 =
    let a : ℕ → ℕ = λ i. get_or column i 0 in
    let b : ℕ → ℕ = λ i. box (a i) in
    let x : ℕ → ℕ = λ i. get_or table (a i) 0 in
    circulant_sum m0 m1 m2 m3 b (x 0) (turned 8 (x 1)) (turned 16 (x 2)) (turned 24 (x 3))
    (is_word m0 m3 m2 m1 (b 0) (x 0) (small (a 0)) (at0 (a 0) h0))
    (is_word m1 m0 m3 m2 (b 1) (turned 8 (x 1)) (small (a 1)) (at1 (a 1) h1))
    (is_word m2 m1 m0 m3 (b 2) (turned 16 (x 2)) (small (a 2)) (at2 (a 2) h2))
    (is_word m3 m2 m1 m0 (b 3) (turned 24 (x 3)) (small (a 3)) (at3 (a 3) h3))

-- ---- the table of the rounds

mixed_0 : (b : ℕ) → b < 256 → get_or MIXED b 0 ≡ word 2 1 1 3 (sub_byte b)
unfolding times_x product_of_bits product
mixed_0 b h =
    at_each_byte (λ k. get_or MIXED k 0) (λ k. word 2 1 1 3 (get_or S_BOX k 0)) refl b h
    ∙ ap (word 2 1 1 3) (S_BOX_at b h)

mixed_1 : (b : ℕ) → b < 256 → turned 8 (get_or MIXED b 0) ≡ word 3 2 1 1 (sub_byte b)
unfolding times_x product_of_bits product
mixed_1 b h =
    at_each_byte (λ k. turned 8 (get_or MIXED k 0)) (λ k. word 3 2 1 1 (get_or S_BOX k 0)) refl b h
    ∙ ap (word 3 2 1 1) (S_BOX_at b h)

mixed_2 : (b : ℕ) → b < 256 → turned 16 (get_or MIXED b 0) ≡ word 1 3 2 1 (sub_byte b)
unfolding times_x product_of_bits product
mixed_2 b h =
    at_each_byte (λ k. turned 16 (get_or MIXED k 0)) (λ k. word 1 3 2 1 (get_or S_BOX k 0)) refl b h
    ∙ ap (word 1 3 2 1) (S_BOX_at b h)

mixed_3 : (b : ℕ) → b < 256 → turned 24 (get_or MIXED b 0) ≡ word 1 1 3 2 (sub_byte b)
unfolding times_x product_of_bits product
mixed_3 b h =
    at_each_byte (λ k. turned 24 (get_or MIXED k 0)) (λ k. word 1 1 3 2 (get_or S_BOX k 0)) refl b h
    ∙ ap (word 1 1 3 2) (S_BOX_at b h)

pub mixed_sum : (column : List ℕ)
    → get_or column 0 0 < 256 → get_or column 1 0 < 256 → get_or column 2 0 < 256 → get_or column 3 0 < 256
    → IsColumn (sum_in MIXED column) (mixed (λ i. sub_byte (get_or column i 0)))
mixed_sum = table_sum 2 3 1 1 sub_byte MIXED sub_byte-lt mixed_0 mixed_1 mixed_2 mixed_3

-- ---- the table of the way back

unmixed_0 : (b : ℕ) → b < 256 → get_or UNMIXED b 0 ≡ word 14 9 13 11 (inverse_sub_byte b)
unfolding times_x product_of_bits product
unmixed_0 b h =
    at_each_byte (λ k. get_or UNMIXED k 0) (λ k. word 14 9 13 11 (get_or INVERSE_S_BOX k 0)) refl b h
    ∙ ap (word 14 9 13 11) (INVERSE_S_BOX_at b h)

unmixed_1 : (b : ℕ) → b < 256 → turned 8 (get_or UNMIXED b 0) ≡ word 11 14 9 13 (inverse_sub_byte b)
unfolding times_x product_of_bits product
unmixed_1 b h =
    at_each_byte (λ k. turned 8 (get_or UNMIXED k 0)) (λ k. word 11 14 9 13 (get_or INVERSE_S_BOX k 0)) refl b h
    ∙ ap (word 11 14 9 13) (INVERSE_S_BOX_at b h)

unmixed_2 : (b : ℕ) → b < 256 → turned 16 (get_or UNMIXED b 0) ≡ word 13 11 14 9 (inverse_sub_byte b)
unfolding times_x product_of_bits product
unmixed_2 b h =
    at_each_byte (λ k. turned 16 (get_or UNMIXED k 0)) (λ k. word 13 11 14 9 (get_or INVERSE_S_BOX k 0)) refl b h
    ∙ ap (word 13 11 14 9) (INVERSE_S_BOX_at b h)

unmixed_3 : (b : ℕ) → b < 256 → turned 24 (get_or UNMIXED b 0) ≡ word 9 13 11 14 (inverse_sub_byte b)
unfolding times_x product_of_bits product
unmixed_3 b h =
    at_each_byte (λ k. turned 24 (get_or UNMIXED k 0)) (λ k. word 9 13 11 14 (get_or INVERSE_S_BOX k 0)) refl b h
    ∙ ap (word 9 13 11 14) (INVERSE_S_BOX_at b h)

pub unmixed_sum : (column : List ℕ)
    → get_or column 0 0 < 256 → get_or column 1 0 < 256 → get_or column 2 0 < 256 → get_or column 3 0 < 256
    → IsColumn (sum_in UNMIXED column) (unmixed (λ i. inverse_sub_byte (get_or column i 0)))
unmixed_sum =
    table_sum 14 11 13 9 inverse_sub_byte UNMIXED inverse_sub_byte-lt unmixed_0 unmixed_1 unmixed_2 unmixed_3
