-- Blocks into registers and back.
use Rattle.std.proofs.Common.{◌≡◌, ℕ, zero, suc, ◌*◌, ◌/◌, ◌%◌, ◌^◌, ◌<◌, List, [], ◌∷◌, All, get_or, map, length, replicate, refl, sym, ap, ◌∙◌, arith}
use Rattle.std.specs.Int.{bit_at}
use Rattle.std.specs.Int.Bits.{bit_and, bit_xor}
use lib.Bits.{and_le_r}
use Rattle.std.specs.Simd.Lanes.{zip2}
use Rattle.std.proofs.lemmas.Simd.{length-zip2, get_or-zip2, get_or-replicate}
use Rattle.std.proofs.lemmas.List.{get_or-map}
use Rattle.std.proofs.lemmas.List.Elements.{All-get_or, All-from_recursion}
use Rattle.std.proofs.lemmas.List.FromFn.{fill_by_all}
use Rattle.std.proofs.Math.ListN as listn
use Rattle.aes_core.specs.State.{state_of}
use Rattle.aes_core.specs.declared.sliced.registers.Registers.{Registers}
use Rattle.aes_core.specs.Sliced.{bits_of, byte_of, byte_across, lane, block_in, registers_of, block_of, difference_of, low_of, high_of, column, columns, flipped}
use Rattle.aes_core.proofs.FieldLemmas.{xor_of_bytes}
use Rattle.aes_core.proofs.StateLemmas.{sixteen}
use Rattle.aes_core.proofs.BitLemmas.{byte_of_bits_of}
use Rattle.aes_core.proofs.BlockLemmas.{Wide, registers_wide}
use Rattle.aes_core.proofs.ExchangeLemmas.{bits_across, column-columns}

-- ---- an exchange of two registers

-- the bits that differ
abbrev pub moved : ℕ → ℕ → List ℕ → List ℕ → List ℕ
moved mask n low high = zip2 bit_and (zip2 bit_xor (zip2 (λ x y. x / 2 ^ y) low (replicate 16 n)) high) (replicate 16 mask)

module _ (mask n : ℕ) (low high : List ℕ) (wl : length low ≡ 16) (wh : length high ≡ 16) where
  wide_down : length (zip2 (λ x y. x / 2 ^ y) low (replicate 16 n)) ≡ 16
  wide_down = length-zip2 (λ x y. x / 2 ^ y) low (replicate 16 n) wl ∙ wl

  wide_sum : length (zip2 bit_xor (zip2 (λ x y. x / 2 ^ y) low (replicate 16 n)) high) ≡ 16
  wide_sum = length-zip2 bit_xor (zip2 (λ x y. x / 2 ^ y) low (replicate 16 n)) high (wide_down ∙ sym wh) ∙ wide_down

  wide_moved : length (moved mask n low high) ≡ 16
  wide_moved = length-zip2 bit_and (zip2 bit_xor (zip2 (λ x y. x / 2 ^ y) low (replicate 16 n)) high) (replicate 16 mask) wide_sum ∙ wide_sum

  wide_up : length (zip2 (λ x y. x * 2 ^ y % 256) (moved mask n low high) (replicate 16 n)) ≡ 16
  wide_up = length-zip2 (λ x y. x * 2 ^ y % 256) (moved mask n low high) (replicate 16 n) wide_moved ∙ wide_moved

  pub wide_low : length (zip2 bit_xor low (zip2 (λ x y. x * 2 ^ y % 256) (moved mask n low high) (replicate 16 n))) ≡ 16
  wide_low = length-zip2 bit_xor low (zip2 (λ x y. x * 2 ^ y % 256) (moved mask n low high) (replicate 16 n)) (wl ∙ sym wide_up) ∙ wl

  pub wide_high : length (zip2 bit_xor high (moved mask n low high)) ≡ 16
  wide_high = length-zip2 bit_xor high (moved mask n low high) (wh ∙ sym wide_moved) ∙ wh

  module _ (p : ℕ) (h : p < 16) where
    moved_at : get_or (moved mask n low high) p 0 ≡ difference_of mask n (get_or low p 0) (get_or high p 0)
    moved_at =
        let down : List ℕ = zip2 (λ x y. x / 2 ^ y) low (replicate 16 n) in
        get_or-zip2 bit_and (zip2 bit_xor down high) (replicate 16 mask) p 0 0 0 (omega (arith, wide_sum)) h
        ∙ ap (bit_and (get_or (zip2 bit_xor down high) p 0)) (get_or-replicate 16 p mask 0 h)
        ∙ ap (λ x. bit_and x mask)
        (get_or-zip2 bit_xor down high p 0 0 0 (omega (arith, wide_down)) (omega (arith, wh))
        ∙ ap (λ x. bit_xor x (get_or high p 0))
        (get_or-zip2 (λ x y. x / 2 ^ y) low (replicate 16 n) p 0 0 0 (omega (arith, wl)) h
        ∙ ap (λ y. get_or low p 0 / 2 ^ y) (get_or-replicate 16 p n 0 h)))

    pub low_at : get_or (zip2 bit_xor low (zip2 (λ x y. x * 2 ^ y % 256) (moved mask n low high) (replicate 16 n))) p 0
        ≡ low_of mask n (get_or low p 0) (get_or high p 0)
    unfolding low_of
    low_at =
        let up : List ℕ = zip2 (λ x y. x * 2 ^ y % 256) (moved mask n low high) (replicate 16 n) in
        get_or-zip2 bit_xor low up p 0 0 0 (omega (arith, wl)) (omega (arith, wide_up))
        ∙ ap (bit_xor (get_or low p 0))
        (get_or-zip2 (λ x y. x * 2 ^ y % 256) (moved mask n low high) (replicate 16 n) p 0 0 0 (omega (arith, wide_moved)) h
        ∙ ap (λ y. get_or (moved mask n low high) p 0 * 2 ^ y % 256) (get_or-replicate 16 p n 0 h)
        ∙ ap (λ x. x * 2 ^ n % 256) moved_at)

    pub high_at : get_or (zip2 bit_xor high (moved mask n low high)) p 0 ≡ high_of mask n (get_or low p 0) (get_or high p 0)
    unfolding high_of
    high_at =
        get_or-zip2 bit_xor high (moved mask n low high) p 0 0 0 (omega (arith, wh)) (omega (arith, wide_moved))
        ∙ ap (bit_xor (get_or high p 0)) moved_at

pub low_of-lt : (mask n a b : ℕ) → a < 256 → low_of mask n a b < 256
unfolding low_of
low_of-lt mask n a b h = xor_of_bytes a (difference_of mask n a b * 2 ^ n % 256) h (omega arith)

pub high_of-lt : (mask n a b : ℕ) → mask < 256 → b < 256 → high_of mask n a b < 256
unfolding high_of
high_of-lt mask n a b m h = xor_of_bytes b (difference_of mask n a b) h (omega (arith, and_le_r (bit_xor (a / 2 ^ n) b) mask))

-- ---- blocks and registers, where the bytes of one have the columns of the bits of the other

-- entry j of a lane is byte p of the j-th register
byte_in_lane : (registers : List (List ℕ)) (p j : ℕ) → get_or (lane p registers) j 0 ≡ get_or (get_or registers j []) p 0
byte_in_lane registers p j = listn.get_or-map (λ v. get_or v p 0) registers j []

-- each register has 16 bytes
wide_at : (registers : List (List ℕ)) → Wide registers → (j : ℕ) → j < length registers → length (get_or registers j []) ≡ 16
unfolding Wide
wide_at [] w j h = absurd (omega arith)
wide_at (v ∷ registers) w zero h = w.0
wide_at (v ∷ registers) w (suc j) h = wide_at registers w.1 j (omega arith)

pub block_gathered : (r s : Registers) (j : ℕ) → j < 8
    → ((p : ℕ) → p < 16 → map bits_of (lane p (registers_of s)) ≡ columns (map bits_of (lane p (registers_of r))))
    → ((p : ℕ) → p < 16 → All (λ b. b < 256) (lane p (registers_of r)))
    → flipped (block_of s j) ≡ get_or (registers_of r) j []
unfolding block_in flipped state_of byte_across
block_gathered r s j lt turned below =
    let blocks : List (List ℕ) = registers_of r in
    let block : List ℕ = get_or blocks j [] in
    sym (sixteen (λ p. byte_across j (lane p (registers_of s))) block (wide_at blocks (registers_wide r) j lt)
    (λ p h.
    let byte : ℕ = get_or (lane p blocks) j 0 in
    let small : byte < 256 = All-get_or (λ b. b < 256) (lane p blocks) j 0 lt (below p h) in
    let b : List ℕ → ℕ = λ v. get_or v p 0 in
    let bits : map (λ b. bit_at b j) (lane p (registers_of s)) ≡ bits_of byte =
    sym (bits_across (lane p (registers_of s)) j lt) ∙ ap (λ m. column m j) (turned p h)
    ∙ column-columns (b r.bit0) (b r.bit1) (b r.bit2) (b r.bit3) (b r.bit4) (b r.bit5) (b r.bit6) (b r.bit7) j lt in
    sym (ap byte_of bits ∙ byte_of_bits_of byte small ∙ byte_in_lane blocks p j)))

-- entry j of the columns
column_at : (rows : List (List ℕ)) (j : ℕ) → j < 8 → get_or (columns rows) j [] ≡ column rows j
unfolding columns
column_at rows zero lt = refl
column_at rows (suc zero) lt = refl
column_at rows (suc (suc zero)) lt = refl
column_at rows (suc (suc (suc zero))) lt = refl
column_at rows (suc (suc (suc (suc zero)))) lt = refl
column_at rows (suc (suc (suc (suc (suc zero))))) lt = refl
column_at rows (suc (suc (suc (suc (suc (suc zero)))))) lt = refl
column_at rows (suc (suc (suc (suc (suc (suc (suc zero))))))) lt = refl
column_at rows (suc (suc (suc (suc (suc (suc (suc (suc j)))))))) lt = absurd (omega arith)

pub block_scattered : (r s : Registers) (j : ℕ) → j < 8
    → ((p : ℕ) → p < 16 → map bits_of (lane p (registers_of s)) ≡ columns (map bits_of (lane p (registers_of r))))
    → ((p : ℕ) → p < 16 → All (λ b. b < 256) (lane p (registers_of s)))
    → get_or (registers_of s) j [] ≡ flipped (block_of r j)
unfolding block_in flipped state_of byte_across
block_scattered r s j lt turned below =
    let blocks : List (List ℕ) = registers_of s in
    let registers : List (List ℕ) = registers_of r in
    let block : List ℕ = get_or blocks j [] in
    sixteen (λ p. byte_across j (lane p registers)) block (wide_at blocks (registers_wide s) j lt)
    (λ p h.
    let byte : ℕ = get_or (lane p blocks) j 0 in
    let small : byte < 256 = All-get_or (λ b. b < 256) (lane p blocks) j 0 lt (below p h) in
    let bits : bits_of byte ≡ map (λ b. bit_at b j) (lane p registers) =
    sym (get_or-map bits_of (lane p blocks) j 0 [] lt) ∙ ap (λ m. get_or m j []) (turned p h)
    ∙ column_at (map bits_of (lane p registers)) j lt ∙ bits_across (lane p registers) j lt in
    sym (byte_in_lane blocks p j) ∙ sym (byte_of_bits_of byte small) ∙ ap byte_of bits)

-- flipped and flipped back
pub flipped_twice : (r : Registers) (j : ℕ) → flipped (flipped (block_of r j)) ≡ block_of r j
unfolding block_in flipped state_of
flipped_twice r j = refl

-- a list of eight, entry by entry
pub eight_entries : (xs : List (List ℕ)) → length xs ≡ 8
    → get_or xs 0 [] ∷ get_or xs 1 [] ∷ get_or xs 2 [] ∷ get_or xs 3 [] ∷ get_or xs 4 [] ∷ get_or xs 5 [] ∷ get_or xs 6 []
    ∷ get_or xs 7 [] ∷ [] ≡ xs
eight_entries xs e = sym (fill_by_all (λ k. get_or xs k []) xs 8 [] e (λ k h. refl))

pub all_of_eight : (P : ℕ → Type 0) (a b c d e f g h : ℕ) → P a → P b → P c → P d → P e → P f → P g → P h
    → All P (a ∷ b ∷ c ∷ d ∷ e ∷ f ∷ g ∷ h ∷ [])
all_of_eight P a b c d e f g h pa pb pc pd pe pf pg ph =
    All-from_recursion P (a ∷ b ∷ c ∷ d ∷ e ∷ f ∷ g ∷ h ∷ []) (pa, (pb, (pc, (pd, (pe, (pf, (pg, (ph, tt))))))))
