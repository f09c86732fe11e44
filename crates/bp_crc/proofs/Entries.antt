-- A computed test of four tables, and what it says of their entries.
use Rattle.std.proofs.Common.{◌≡◌, ℕ, zero, suc, ◌+◌, ◌*◌, ◌<◌, ◌==◌, ◌&&◌, Bool, true, List, [], ◌∷◌, length, get_or, IsTrue, sym, ap, subst, ◌∙◌, arith, add-zero, zero-add}
use Rattle.std.proofs.lemmas.Bool.{and_parts, eqb-true}
use Rattle.bp_crc.specs.Check.{number_of, generator}
use Rattle.bp_crc.specs.Table.{AreTables}
use Rattle.bp_crc.proofs.Numbers.{steps}
use Rattle.bp_crc.proofs.Register.{bits_remainder-steps}

-- the entries, the first of them for `byte`, are n steps from the bytes from there to 255
unfoldable pub is_table : ℕ → ℕ → ℕ → List ℕ → Bool
is_table t n byte [] = byte == 256
is_table t n byte (entry ∷ rest) = (entry == steps t n byte) && is_table t n (byte + 1) rest

-- the first table's entries are n steps from their bytes, and those of each further one eight more
unfoldable pub are_tables : ℕ → ℕ → List (List ℕ) → Bool
are_tables t n [] = true
are_tables t n (table ∷ rest) = is_table t n 0 table && are_tables t (n + 8) rest

entry_is : (t n from : ℕ) (entries : List ℕ) (i : ℕ) → IsTrue (is_table t n from entries) → i < length entries
    → get_or entries i 0 ≡ steps t n (from + i)
unfolding is_table
entry_is t n from [] i h below = absurd (omega arith)
entry_is t n from (entry ∷ rest) zero h below =
    eqb-true entry (steps t n from) (and_parts _ _ h).0 ∙ ap (steps t n) (sym (add-zero from))
entry_is t n from (entry ∷ rest) (suc i) h below =
    let place : from + 1 + i ≡ from + suc i = omega arith in
    entry_is t n (from + 1) rest i (and_parts _ _ h).1 (omega arith) ∙ ap (steps t n) place

-- there is an entry for each byte
length_is : (t n from : ℕ) (entries : List ℕ) → IsTrue (is_table t n from entries) → from + length entries ≡ 256
unfolding is_table
length_is t n from [] h = add-zero from ∙ eqb-true from 256 h
length_is t n from (entry ∷ rest) h = omega (arith, length_is t n (from + 1) rest (and_parts _ _ h).1)

looked_up : (t n : ℕ) (tables : List (List ℕ)) (i byte : ℕ) → IsTrue (are_tables t n tables) → i < length tables → byte < 256
    → get_or (get_or tables i []) byte 0 ≡ steps t (n + 8 * i) byte
unfolding are_tables
looked_up t n [] i byte h within below = absurd (omega arith)
looked_up t n (table ∷ rest) zero byte h within below =
    let test : IsTrue (is_table t n 0 table) = (and_parts _ _ h).0 in
    let count : 0 + length table ≡ 256 = length_is t n 0 table test in
    let same : n ≡ n + 8 * 0 = omega arith in
    entry_is t n 0 table byte test (omega arith) ∙ ap (steps t n) (zero-add byte) ∙ ap (λ k. steps t k byte) same
looked_up t n (table ∷ rest) (suc i) byte h within below =
    let same : n + 8 + 8 * i ≡ n + 8 * suc i = omega arith in
    looked_up t (n + 8) rest i byte (and_parts _ _ h).1 (omega arith) below ∙ ap (λ k. steps t k byte) same

pub AreTables-test : (w words : ℕ) (tables : List (List ℕ)) → length tables ≡ 4
    → IsTrue (are_tables (number_of (generator w)) (8 + 32 * words) tables) → AreTables w words tables
AreTables-test w words tables four test = λ zeros byte within below.
    let t : ℕ = number_of (generator w) in
    let same : 8 + 32 * words + 8 * zeros ≡ 8 + 8 * (4 * words + zeros) = omega arith in
    looked_up t (8 + 32 * words) tables zeros byte test (omega arith) below
    ∙ ap (λ k. steps t k byte) same ∙ sym (bits_remainder-steps w 8 (4 * words + zeros) byte below)

-- the same where the number of words is known by another name
pub AreTables-at : (w words k : ℕ) (tables : List (List ℕ)) → words ≡ k → length tables ≡ 4
    → IsTrue (are_tables (number_of (generator w)) (8 + 32 * k) tables) → AreTables w words tables
AreTables-at w words k tables same four test =
    subst (λ n. AreTables w n tables) (sym same) (AreTables-test w k tables four test)
