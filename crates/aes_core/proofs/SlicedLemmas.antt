-- Round keys in registers, and the rounds with them.
use Rattle.std.proofs.Common.{◌≡◌, ℕ, ◌+◌, ◌*◌, ◌-◌, ◌<◌, ◌≤◌, ◌++◌, List, [], length, get_or, map, take, refl, sym, ap, ◌∙◌, arith}
use Rattle.std.specs.List.{range_with_len}
use Rattle.std.proofs.lemmas.List.{get_or_read, get_or-take, length-take, take-take}
use Rattle.std.proofs.lemmas.List.FromFn.{fill_by_all}
use Rattle.std.proofs.lemmas.Simd.{map-map}
use Rattle.aes_core.specs.declared.sliced.registers.Registers.{Registers}
use Rattle.aes_core.specs.State.{state_of, sub_bytes, shift_rows, add_round_key}
use Rattle.aes_core.specs.KeyExpansion.{IsKey, key_expansion}
use Rattle.aes_core.specs.Sliced.{block_of, sum_of, round_key, no_registers, registers_at, AreRoundKeys, key_in}
use Rattle.aes_core.proofs.KeyLemmas.{size_bounds, length-extended_key, take-extended_key}
use Rattle.aes_core.proofs.StateLemmas.{sixteen}

-- 16 bytes of the expanded key are a round key
pub round_key_is : (w : List ℕ) (n : ℕ) (block : List ℕ) → length block ≡ 16
    → ((p : ℕ) → p < 16 → get_or block p 0 ≡ get_or w (16 * n + p) 0)
    → block ≡ round_key w n
unfolding round_key state_of
round_key_is w n block e h = sixteen (λ p. get_or w (16 * n + p) 0) block e h

-- a state and a round key in registers
pub keyed : (w : List ℕ) (count : ℕ) (keys : List Registers) → AreRoundKeys w count keys
    → (n : ℕ) (key : Registers) → n < count → n < length keys → key ≡ get_or keys n key → (s : List ℕ) (j : ℕ) → j < 8
    → sum_of s (block_of (get_or keys n key) j) ≡ add_round_key w n s
unfolding sum_of add_round_key round_key state_of
keyed w count keys are n key within long is s j lt =
    ap (sum_of s) (ap (λ r. block_of r j) (sym is ∙ get_or_read keys n key long is no_registers) ∙ are n within j lt)

-- a substitution of each byte may come after the rows have turned
pub sub_bytes_shifted : (s : List ℕ) → sub_bytes (shift_rows s) ≡ shift_rows (sub_bytes s)
unfolding sub_bytes shift_rows state_of
sub_bytes_shifted s = refl

-- ---- the key in the round keys

-- the first two round keys are the first 32 bytes of the expanded key
first_round_keys : (w : List ℕ) → 32 ≤ length w → round_key w 0 ++ round_key w 1 ≡ take 32 w
unfolding round_key state_of
first_round_keys w h =
    sym (fill_by_all (λ k. get_or w k 0) (take 32 w) 32 0 (length-take 32 w ∙ omega arith) (λ k lt. get_or-take 32 w k 0 lt))

expanded_length : (nk : ℕ) (key : List ℕ) → IsKey nk key → 32 ≤ length (key_expansion nk key)
unfolding key_expansion
expanded_length nk key k =
    omega (arith, size_bounds nk k.has_size, k.has_length, length-extended_key nk key (4 * (nk + 7) - nk))

begins_with_key : (nk : ℕ) (key : List ℕ) → IsKey nk key → take (4 * nk) (key_expansion nk key) ≡ key
unfolding key_expansion
begins_with_key nk key k = rw k.has_length at (take-extended_key nk key (4 * (nk + 7) - nk))

pub key_in_is : (nk : ℕ) (key : List ℕ) (keys : List Registers) → IsKey nk key
    → AreRoundKeys (key_expansion nk key) (nk + 7) keys → key_in nk keys ≡ key
key_in_is nk key keys k are =
    let w : List ℕ = key_expansion nk key in
    ap (take (4 * nk))
    (ap (λ l. l ++ block_of (registers_at keys 1) 0) (are 0 (omega arith) 0 (omega arith))
    ∙ ap (λ l. round_key w 0 ++ l) (are 1 (omega arith) 0 (omega arith))
    ∙ first_round_keys w (expanded_length nk key k))
    ∙ take-take (4 * nk) 32 w (omega (arith, size_bounds nk k.has_size)) ∙ begins_with_key nk key k

-- ---- eight blocks

-- eight values, each f of the other's
pub eight_mapped : (f : List ℕ → List ℕ) (new old : List (List ℕ)) → length new ≡ 8 → length old ≡ 8
    → ((j : ℕ) → j < 8 → get_or new j [] ≡ f (get_or old j [])) → new ≡ map f old
eight_mapped f new old n o h =
    fill_by_all (λ j. f (get_or old j [])) new 8 [] n h ∙ sym (map-map f (λ j. get_or old j []) (range_with_len 0 8))
    ∙ ap (map f) (sym (fill_by_all (λ j. get_or old j []) old 8 [] o (λ j lt. refl)))
