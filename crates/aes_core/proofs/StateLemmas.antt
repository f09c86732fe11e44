-- What a round does to a state keeps 16 bytes, and its inverses undo it.
use Rattle.std.proofs.Common.{◌≡◌, ℕ, ◌+◌, ◌*◌, ◌/◌, ◌%◌, ◌<◌, List, length, get_or, map, refl, sym, ap, ◌∙◌, arith, inl, inr}
use Rattle.std.proofs.lemmas.List.FromFn.{get_or-map-range_with_len, fill_by_all}
use Rattle.std.proofs.lemmas.Bool.{cases_lt}
use Rattle.std.proofs.lemmas.List.{get_or_past}
use Rattle.std.specs.List.{range_with_len}
use Rattle.std.specs.Int.Bits.{bit_xor}
use Rattle.aes_core.specs.Boxes.{sub_byte, inverse_sub_byte}
use Rattle.aes_core.specs.State.{state_of, mixed, unmixed, sub_bytes, shift_rows, mix_columns, add_round_key, inverse_sub_bytes, inverse_shift_rows, inverse_mix_columns}
use Rattle.aes_core.proofs.BoxTables.{sub_byte-lt, inverse_sub_byte-lt, inverse_sub_byte-sub_byte}
use Rattle.aes_core.proofs.FieldLemmas.{xor_of_bytes, xor_twice}
use Rattle.aes_core.proofs.MixLemmas.{mixed-lt, unmixed-mixed}

-- each byte of a list, and what stands for one past its end, is below 256
pub record Bytes (s : List ℕ) : Type 0 where
  pub below : (k : ℕ) → get_or s k 0 < 256

-- a list of 16 by its entries
pub sixteen : (f : ℕ → ℕ) (s : List ℕ) → length s ≡ 16 → ((k : ℕ) → k < 16 → get_or s k 0 ≡ f k) → s ≡ map f (range_with_len 0 16)
sixteen f s e h = fill_by_all f s 16 0 e h

-- a list of 16 bytes, made by f
made : (f : ℕ → ℕ) → ((k : ℕ) → f k < 256) → Bytes (map f (range_with_len 0 16))
made f h = record {
  below = λ k. elim (cases_lt k 16) [
    | inl lt ↦ rw (get_or-map-range_with_len f 0 16 k k 0 lt (omega arith)) (h k)
    | inr ge ↦ rw (get_or_past (map f (range_with_len 0 16)) k 0 ge) (omega arith)
  ];
}

-- ---- each step undone

pub sub_bytes_undone : (s : List ℕ) → length s ≡ 16 → Bytes s → inverse_sub_bytes (inverse_shift_rows (shift_rows (sub_bytes s))) ≡ s
unfolding sub_bytes shift_rows inverse_shift_rows inverse_sub_bytes state_of
sub_bytes_undone s e b =
    sym (sixteen (λ k. inverse_sub_byte (sub_byte (get_or s k 0))) s e (λ k h. sym (inverse_sub_byte-sub_byte (get_or s k 0) (b.below k))))

pub mix_columns_undone : (s : List ℕ) → length s ≡ 16 → Bytes s → inverse_mix_columns (mix_columns s) ≡ s
unfolding mix_columns inverse_mix_columns state_of
mix_columns_undone s e b =
    sym (sixteen (λ k. unmixed (mixed (λ i. get_or s (i + 4 * (k / 4)) 0)) (k % 4)) s e
    (λ k h.
    let place : k % 4 + 4 * (k / 4) ≡ k = omega arith in
    sym (unmixed-mixed (λ i. get_or s (i + 4 * (k / 4)) 0) (λ i _. b.below (i + 4 * (k / 4))) (k % 4) (omega arith) ∙ ap (λ j. get_or s j 0) place)))

pub add_round_key_undone : (w : List ℕ) (n : ℕ) (s : List ℕ) → length s ≡ 16 → add_round_key w n (add_round_key w n s) ≡ s
unfolding add_round_key state_of
add_round_key_undone w n s e =
    sym (sixteen (λ k. bit_xor (bit_xor (get_or s k 0) (get_or w (16 * n + k) 0)) (get_or w (16 * n + k) 0)) s e
    (λ k h. sym (xor_twice (get_or s k 0) (get_or w (16 * n + k) 0))))

-- ---- 16 bytes

pub length-shift_rows : (s : List ℕ) → length (shift_rows s) ≡ 16
unfolding shift_rows state_of
length-shift_rows s = refl

pub length-mix_columns : (s : List ℕ) → length (mix_columns s) ≡ 16
unfolding mix_columns state_of
length-mix_columns s = refl

pub length-add_round_key : (w : List ℕ) (n : ℕ) (s : List ℕ) → length (add_round_key w n s) ≡ 16
unfolding add_round_key state_of
length-add_round_key w n s = refl

pub Bytes-shift_rows-sub_bytes : (s : List ℕ) → Bytes (shift_rows (sub_bytes s))
unfolding sub_bytes shift_rows state_of
Bytes-shift_rows-sub_bytes s =
    made (λ k. sub_byte (get_or s (k % 4 + 4 * ((k / 4 + k % 4) % 4)) 0)) (λ k. sub_byte-lt (get_or s (k % 4 + 4 * ((k / 4 + k % 4) % 4)) 0))

pub Bytes-inverse_sub_bytes : (s : List ℕ) → Bytes (inverse_sub_bytes s)
unfolding inverse_sub_bytes state_of
Bytes-inverse_sub_bytes s = made (λ k. inverse_sub_byte (get_or s k 0)) (λ k. inverse_sub_byte-lt (get_or s k 0))

pub Bytes-mix_columns : (s : List ℕ) → Bytes s → Bytes (mix_columns s)
unfolding mix_columns state_of
Bytes-mix_columns s b =
    made (λ k. mixed (λ i. get_or s (i + 4 * (k / 4)) 0) (k % 4))
    (λ k. mixed-lt (λ i. get_or s (i + 4 * (k / 4)) 0) (λ i. b.below (i + 4 * (k / 4))) (k % 4))

pub Bytes-add_round_key : (w : List ℕ) (n : ℕ) (s : List ℕ) → Bytes w → Bytes s → Bytes (add_round_key w n s)
unfolding add_round_key state_of
Bytes-add_round_key w n s bw bs =
    made (λ k. bit_xor (get_or s k 0) (get_or w (16 * n + k) 0)) (λ k. xor_of_bytes (get_or s k 0) (get_or w (16 * n + k) 0) (bs.below k) (bw.below (16 * n + k)))
