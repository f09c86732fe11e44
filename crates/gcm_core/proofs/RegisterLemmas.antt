-- Registers of 16 bytes, loaded from lists and stored into them.
use Rattle.std.proofs.Common.{◌≡◌, ℕ, zero, suc, ◌+◌, ◌*◌, ◌/◌, ◌%◌, ◌^◌, ◌-◌, ◌<◌, ◌≤◌, List, ◌++◌, length, get_or, get_or-append-add, replicate, bit_and, bit_xor, Bool, true, false, cond, eqb, subst, refl, sym, ap, ◌∙◌, inl, inr, arith, w8}
use Rattle.std.proofs.lemmas.Bool.{cases_lt}
use Rattle.std.proofs.lemmas.List.{get_or_append_left, get_or_past}
use Rattle.std.proofs.lemmas.Nat.{and_mask}
use Rattle.std.proofs.lemmas.Simd.{length-put_chunk, get_or-put_chunk_below, get_or-put_chunk_at, length-chunk, get_or-chunk, length-zip2, get_or-zip2, get_or-replicate, length-replicate, swz_l, SwzOk, SwzOk-from_below, Each1-from_get_or, length-swz_l, get_or-swz_l_below}
use Rattle.gcm_core.specs.Streams.{half_byte, sum_below}
use lib.Lanes.{zip2, chunk, put_chunk}

-- ---- one register stored, and two

module _ (w x : List ℕ) (start : ℕ) (size : length x ≡ 16) (room : start + 16 ≤ length w) where
  pub stored_at : (j k : ℕ) → j < 16 → start + j ≡ k → get_or (put_chunk start w x) k 0 ≡ get_or x j 0
  stored_at j k h e =
      ap (λ (n : ℕ). get_or (put_chunk start w x) n 0) (sym e)
      ∙ get_or-put_chunk_at start w x j 0 (omega arith) (omega arith)

module _ (w x y : List ℕ) (i : ℕ) (first : length x ≡ 16) (second : length y ≡ 16) (room : 32 * i + 32 ≤ length w) where
  both : List ℕ
  both = put_chunk (32 * i + 16) (put_chunk (32 * i) w x) y

  both_below : (k : ℕ) → k < 32 * i → get_or both k 0 ≡ get_or w k 0
  unfolding both
  both_below k h =
      get_or-put_chunk_below (32 * i + 16) (put_chunk (32 * i) w x) y k 0 (omega arith)
      ∙ get_or-put_chunk_below (32 * i) w x k 0 h

  both_first : (j k : ℕ) → j < 16 → 32 * i + j ≡ k → get_or both k 0 ≡ get_or x j 0
  unfolding both
  both_first j k h e =
      get_or-put_chunk_below (32 * i + 16) (put_chunk (32 * i) w x) y k 0 (omega arith)
      ∙ stored_at w x (32 * i) first (omega arith) j k h e

  both_second : (j k : ℕ) → j < 16 → 32 * i + 16 + j ≡ k → get_or both k 0 ≡ get_or y j 0
  unfolding both
  both_second j k h e =
      stored_at (put_chunk (32 * i) w x) y (32 * i + 16) second (omega (arith, length-put_chunk (32 * i) w x)) j k h e

  length-both : length both ≡ length w
  unfolding both
  length-both = length-put_chunk (32 * i + 16) (put_chunk (32 * i) w x) y ∙ length-put_chunk (32 * i) w x

-- ---- the first half's bytes and the second half's in turn

-- of two chunks, the second 128 places on
two_chunks : (bytes : List ℕ) (a i p : ℕ) → a + 144 ≤ length bytes → i < 16 → p < 2
    → get_or (chunk a 16 bytes ++ chunk (128 + a) 16 bytes) (i + 16 * p) 0 ≡ get_or bytes (a + i + 128 * p) 0
two_chunks bytes a i zero room h g =
    let size : length (chunk a 16 bytes) ≡ 16 = length-chunk a 16 bytes (omega arith) in
    ap (λ (n : ℕ). get_or (chunk a 16 bytes ++ chunk (128 + a) 16 bytes) n 0) (add-none i)
    ∙ get_or_append_left (chunk a 16 bytes) (chunk (128 + a) 16 bytes) 0 i (omega arith)
    ∙ get_or-chunk a 16 bytes i 0 h ∙ ap (λ (n : ℕ). get_or bytes n 0) (sym (add-none (a + i)))
  where
    add-none : (n : ℕ) → n + 0 ≡ n
    add-none n = omega arith
two_chunks bytes a i (suc zero) room h g =
    let size : length (chunk a 16 bytes) ≡ 16 = length-chunk a 16 bytes (omega arith) in
    let place : i + 16 ≡ length (chunk a 16 bytes) + i = omega arith in
    let source : 128 + a + i ≡ a + i + 128 = omega arith in
    ap (λ (n : ℕ). get_or (chunk a 16 bytes ++ chunk (128 + a) 16 bytes) n 0) place
    ∙ get_or-append-add (chunk a 16 bytes) (chunk (128 + a) 16 bytes) i 0
    ∙ get_or-chunk (128 + a) 16 bytes i 0 h ∙ ap (λ (n : ℕ). get_or bytes n 0) source
two_chunks bytes a i (suc (suc p)) room h g = absurd (omega arith)

module _ (bytes w x y : List ℕ) (row : ℕ) (within : row < 8) (from : length bytes ≡ 256) (into : length w ≡ 256)
    (first : length x ≡ 16) (second : length y ≡ 16)
    (lanes_x : (j : ℕ) → j < 16
    → get_or x j 0 ≡ get_or (chunk (16 * row) 16 bytes ++ chunk (128 + 16 * row) 16 bytes) (j / 2 + 16 * (j % 2)) 0)
    (lanes_y : (j : ℕ) → j < 16
    → get_or y j 0 ≡ get_or (chunk (16 * row) 16 bytes ++ chunk (128 + 16 * row) 16 bytes) (8 + j / 2 + 16 * (j % 2)) 0)
    (held : (k : ℕ) → k < 32 * row → get_or w k 0 ≡ get_or bytes (k / 2 + 128 * (k % 2)) 0) where
  pub woven_more : (length (put_chunk (32 * row + 16) (put_chunk (32 * row) w x) y) ≡ 256) × ((k : ℕ) → k < 32 * (row + 1)
      → get_or (put_chunk (32 * row + 16) (put_chunk (32 * row) w x) y) k 0 ≡ get_or bytes (k / 2 + 128 * (k % 2)) 0)
  unfolding both
  woven_more = (
    length-both w x y row first second (omega arith) ∙ into,
    λ k h. elim (cases_lt k (32 * row)) [
      | inl below ↦ both_below w x y row first second (omega arith) k below ∙ held k below
      | inr above ↦ elim (cases_lt k (32 * row + 16)) [
        | inl low ↦
            let j : ℕ = k - 32 * row in
            let source : 16 * row + j / 2 + 128 * (j % 2) ≡ k / 2 + 128 * (k % 2) = omega arith in
            both_first w x y row first second (omega arith) j k (omega arith) (omega arith) ∙ lanes_x j (omega arith)
            ∙ two_chunks bytes (16 * row) (j / 2) (j % 2) (omega arith) (omega arith) (omega arith)
            ∙ ap (λ (n : ℕ). get_or bytes n 0) source
        | inr high ↦
            let j : ℕ = k - (32 * row + 16) in
            let source : 16 * row + (8 + j / 2) + 128 * (j % 2) ≡ k / 2 + 128 * (k % 2) = omega arith in
            both_second w x y row first second (omega arith) j k (omega arith) (omega arith) ∙ lanes_y j (omega arith)
            ∙ two_chunks bytes (16 * row) (8 + j / 2) (j % 2) (omega arith) (omega arith) (omega arith)
            ∙ ap (λ (n : ℕ). get_or bytes n 0) source
      ]
    ],
  )

-- ---- half bytes

module _ (streams w : List ℕ) (i : ℕ) (within : i < 16) (from : length streams ≡ 256) (into : length w ≡ 512)
    (held : (q j : ℕ) → q < 2 * i → j < 16 → get_or w (16 * q + j) 0 ≡ half_byte q (get_or streams (16 * (q / 2) + j) 0)) where
  abbrev register : List ℕ
  register = chunk (16 * i) 16 streams

  abbrev uppers : List ℕ
  uppers = zip2 (λ (a b : ℕ). a / 2 ^ b) register (replicate 16 4)

  abbrev lowers : List ℕ
  lowers = zip2 bit_and register (replicate 16 15)

  length-register : length register ≡ 16
  length-register = length-chunk (16 * i) 16 streams (omega arith)

  length-uppers : length uppers ≡ 16
  length-uppers = length-zip2 (λ (a b : ℕ). a / 2 ^ b) register (replicate 16 4) length-register ∙ length-register

  length-lowers : length lowers ≡ 16
  length-lowers = length-zip2 bit_and register (replicate 16 15) length-register ∙ length-register

  upper_at : (j : ℕ) → j < 16 → get_or uppers j 0 ≡ get_or streams (16 * i + j) 0 / 16
  upper_at j h =
      get_or-zip2 (λ (a b : ℕ). a / 2 ^ b) register (replicate 16 4) j 0 0 0 (omega (arith, length-register)) (omega (arith, length-replicate {A = ℕ} 16 4))
      ∙ ap (λ (b : ℕ). get_or register j 0 / 2 ^ b) (get_or-replicate 16 j 4 0 h)
      ∙ ap (λ (a : ℕ). a / 16) (get_or-chunk (16 * i) 16 streams j 0 h)

  lower_at : (j : ℕ) → j < 16 → get_or lowers j 0 ≡ get_or streams (16 * i + j) 0 % 16
  lower_at j h =
      get_or-zip2 bit_and register (replicate 16 15) j 0 0 0 (omega (arith, length-register)) (omega (arith, length-replicate {A = ℕ} 16 15))
      ∙ ap (λ (b : ℕ). bit_and (get_or register j 0) b) (get_or-replicate 16 j 15 0 h)
      ∙ and_mask (get_or register j 0) 4
      ∙ ap (λ (a : ℕ). a % 16) (get_or-chunk (16 * i) 16 streams j 0 h)

  half_even : (q byte : ℕ) → q % 2 ≡ 0 → byte / 16 ≡ half_byte q byte
  half_even q byte e = rw e refl

  half_odd : (q byte : ℕ) → q % 2 ≡ 1 → byte % 16 ≡ half_byte q byte
  half_odd q byte e = rw e refl

  pub half_bytes_more : (length (put_chunk (32 * i + 16) (put_chunk (32 * i) w uppers) lowers) ≡ 512)
      × ((q j : ℕ) → q < 2 * (i + 1) → j < 16
      → get_or (put_chunk (32 * i + 16) (put_chunk (32 * i) w uppers) lowers) (16 * q + j) 0 ≡ half_byte q (get_or streams (16 * (q / 2) + j) 0))
  unfolding both
  half_bytes_more = (
    length-both w uppers lowers i length-uppers length-lowers (omega arith) ∙ into,
    λ q j h g. elim (cases_lt q (2 * i)) [
      | inl below ↦ both_below w uppers lowers i length-uppers length-lowers (omega arith) (16 * q + j) (omega arith) ∙ held q j below g
      | inr above ↦
          let place : 16 * i + j ≡ 16 * (q / 2) + j = omega arith in
          elim (cases_lt q (2 * i + 1)) [
            | inl even ↦ both_first w uppers lowers i length-uppers length-lowers (omega arith) j (16 * q + j) g (omega arith)
                ∙ upper_at j g ∙ ap (λ (n : ℕ). get_or streams n 0 / 16) place
                ∙ half_even q (get_or streams (16 * (q / 2) + j) 0) (omega arith)
            | inr odd ↦ both_second w uppers lowers i length-uppers length-lowers (omega arith) j (16 * q + j) g (omega arith)
                ∙ lower_at j g ∙ ap (λ (n : ℕ). get_or streams n 0 % 16) place
                ∙ half_odd q (get_or streams (16 * (q / 2) + j) 0) (omega arith)
          ]
    ],
  )

-- ---- a look-up

-- places below 16 may be looked up
pub places_ok : (halves : List ℕ) (start : ℕ) → start + 16 ≤ length halves → ((k : ℕ) → get_or halves k 0 < 16)
    → SwzOk w8 16 16 0 (chunk start 16 halves)
places_ok halves start room small =
    SwzOk-from_below w8 16 1 16 0 (chunk start 16 halves) refl (omega (arith, length-chunk start 16 halves room))
    (Each1-from_get_or (λ j. j < 16) (chunk start 16 halves) 0
    (λ i h. let size : length (chunk start 16 halves) ≡ 16 = length-chunk start 16 halves room in
    let lane : get_or (chunk start 16 halves) i 0 ≡ get_or halves (start + i) 0 = get_or-chunk start 16 halves i 0 (omega arith) in
    omega (arith, lane, small (start + i))))

pub looked_up_more : (table halves sum : List ℕ) (half byte : ℕ) → half < 32 → byte < 16 → length table ≡ 8192 → length halves ≡ 512
    → length sum ≡ 16 → ((k : ℕ) → get_or halves k 0 < 16)
    → ((j : ℕ) → j < 16
    → get_or sum j 0 ≡ sum_below half (λ q. get_or table (256 * q + (16 * byte + get_or halves (16 * q + j) 0)) 0))
    → (length (zip2 bit_xor sum (swz_l w8 16 (chunk (256 * half + 16 * byte) 16 table) 0 (chunk (16 * half) 16 halves))) ≡ 16)
    × ((j : ℕ) → j < 16
    → get_or (zip2 bit_xor sum (swz_l w8 16 (chunk (256 * half + 16 * byte) 16 table) 0 (chunk (16 * half) 16 halves))) j 0
    ≡ sum_below (half + 1) (λ q. get_or table (256 * q + (16 * byte + get_or halves (16 * q + j) 0)) 0))
unfolding sum_below
looked_up_more table halves sum half byte h b t s size small held =
    let entries : List ℕ = chunk (256 * half + 16 * byte) 16 table in
    let places : List ℕ = chunk (16 * half) 16 halves in
    let count : length places ≡ 16 = length-chunk (16 * half) 16 halves (omega arith) in
    let found : length (swz_l w8 16 entries 0 places) ≡ 16 = length-swz_l w8 16 entries 0 places ∙ count in (
      length-zip2 bit_xor sum (swz_l w8 16 entries 0 places) (size ∙ sym found) ∙ size,
      λ j g.
          let f : ℕ → ℕ = λ q. get_or table (256 * q + (16 * byte + get_or halves (16 * q + j) 0)) 0 in
          let place : get_or places j 0 ≡ get_or halves (16 * half + j) 0 = get_or-chunk (16 * half) 16 halves j 0 g in
          let below : get_or places j 0 < 16 = omega (arith, place, small (16 * half + j)) in
          let only : 16 * ((0 + j) / 16) + get_or places j 0 ≡ get_or halves (16 * half + j) 0 = omega arith in
          let at : 256 * half + 16 * byte + get_or halves (16 * half + j) 0 ≡ 256 * half + (16 * byte + get_or halves (16 * half + j) 0) =
          omega arith in
          let more : suc half ≡ half + 1 = omega arith in
          get_or-zip2 bit_xor sum (swz_l w8 16 entries 0 places) j 0 0 0 (omega arith) (omega arith)
          ∙ ap (bit_xor (get_or sum j 0)) (get_or-swz_l_below w8 16 entries 0 places j (omega arith) below
          ∙ ap (λ (n : ℕ). get_or entries n 0) only
          ∙ get_or-chunk (256 * half + 16 * byte) 16 table (get_or halves (16 * half + j) 0) 0 (small (16 * half + j))
          ∙ ap (λ (n : ℕ). get_or table n 0) at)
          ∙ ap (λ (n : ℕ). bit_xor n (f half)) (held j g)
          ∙ ap (λ (n : ℕ). sum_below n f) more,
    )

-- ---- sums

pub sums_more : (left right w : List ℕ) (i : ℕ) → i < 16 → length left ≡ 256 → length right ≡ 256 → length w ≡ 256
    → ((k : ℕ) → k < 16 * i → get_or w k 0 ≡ bit_xor (get_or left k 0) (get_or right k 0))
    → (length (put_chunk (16 * i) w (zip2 bit_xor (chunk (16 * i) 16 left) (chunk (16 * i) 16 right))) ≡ 256)
    × ((k : ℕ) → k < 16 * (i + 1)
    → get_or (put_chunk (16 * i) w (zip2 bit_xor (chunk (16 * i) 16 left) (chunk (16 * i) 16 right))) k 0
    ≡ bit_xor (get_or left k 0) (get_or right k 0))
sums_more left right w i h l r size held =
    let a : List ℕ = chunk (16 * i) 16 left in
    let b : List ℕ = chunk (16 * i) 16 right in
    let la : length a ≡ 16 = length-chunk (16 * i) 16 left (omega arith) in
    let lb : length b ≡ 16 = length-chunk (16 * i) 16 right (omega arith) in
    let lz : length (zip2 bit_xor a b) ≡ 16 = length-zip2 bit_xor a b (la ∙ sym lb) ∙ la in (
      length-put_chunk (16 * i) w (zip2 bit_xor a b) ∙ size,
      λ k g. elim (cases_lt k (16 * i)) [
        | inl below ↦ get_or-put_chunk_below (16 * i) w (zip2 bit_xor a b) k 0 below ∙ held k below
        | inr above ↦
            let j : ℕ = k - 16 * i in
            let place : 16 * i + j ≡ k = omega arith in
            stored_at w (zip2 bit_xor a b) (16 * i) lz (omega arith) j k (omega arith) place
            ∙ get_or-zip2 bit_xor a b j 0 0 0 (omega arith) (omega arith)
            ∙ ap (λ (x : ℕ). bit_xor x (get_or b j 0)) (get_or-chunk (16 * i) 16 left j 0 (omega arith) ∙ ap (λ (n : ℕ). get_or left n 0) place)
            ∙ ap (bit_xor (get_or left k 0)) (get_or-chunk (16 * i) 16 right j 0 (omega arith) ∙ ap (λ (n : ℕ). get_or right n 0) place)
      ],
    )

-- ---- half bytes are below 16

half_byte_below : (q byte : ℕ) → byte < 256 → half_byte q byte < 16
half_byte_below q byte h = by_test (eqb (q % 2) 0)
  where
    by_test : (t : Bool) → cond t (byte / 16) (byte % 16) < 16
    by_test true = omega arith
    by_test false = omega arith

pub half_bytes_small : (halves streams : List ℕ) → length halves ≡ 512 → ((i : ℕ) → get_or streams i 0 < 256)
    → ((q j : ℕ) → q < 32 → j < 16 → get_or halves (16 * q + j) 0 ≡ half_byte q (get_or streams (16 * (q / 2) + j) 0))
    → (k : ℕ) → get_or halves k 0 < 16
half_bytes_small halves streams size small are k = elim (cases_lt k 512) [
  | inl within ↦
      let place : 16 * (k / 16) + k % 16 ≡ k = omega arith in
      let byte : ℕ = get_or streams (16 * (k / 16 / 2) + k % 16) 0 in
      let is : get_or halves k 0 ≡ half_byte (k / 16) byte =
      ap (λ (n : ℕ). get_or halves n 0) (sym place) ∙ are (k / 16) (k % 16) (omega arith) (omega arith) in
      subst (λ (n : ℕ). n < 16) (sym is) (half_byte_below (k / 16) byte (small (16 * (k / 16 / 2) + k % 16)))
  | inr past ↦ subst (λ (n : ℕ). n < 16) (sym (get_or_past halves k 0 (omega arith))) (omega arith)
]

-- ---- one register more of an array of 16

-- after the registers before i, register i has these lanes
pub registers_more : (w x : List ℕ) (i : ℕ) (f : ℕ → ℕ → ℕ) → i < 16 → length w ≡ 256 → length x ≡ 16
    → ((b j : ℕ) → b < i → j < 16 → get_or w (16 * b + j) 0 ≡ f b j) → ((j : ℕ) → j < 16 → get_or x j 0 ≡ f i j)
    → (length (put_chunk (16 * i) w x) ≡ 256)
    × ((b j : ℕ) → b < i + 1 → j < 16 → get_or (put_chunk (16 * i) w x) (16 * b + j) 0 ≡ f b j)
registers_more w x i f within size lanes held found = (
  length-put_chunk (16 * i) w x ∙ size,
  λ b j h g. elim (cases_lt b i) [
    | inl below ↦ get_or-put_chunk_below (16 * i) w x (16 * b + j) 0 (omega arith) ∙ held b j below g
    | inr above ↦
        let same : i ≡ b = omega arith in
        stored_at w x (16 * i) lanes (omega arith) j (16 * b + j) g (omega arith) ∙ found j g ∙ ap (λ (n : ℕ). f n j) same
  ],
)
