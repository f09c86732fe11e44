-- The rounds of decryption undo those of encryption.
use Rattle.std.proofs.Common.{◌≡◌, ℕ, zero, suc, ◌+◌, ◌-◌, ◌≤◌, List, length, refl, sym, ap, ◌∙◌, arith}
use Rattle.aes_core.specs.State.{sub_bytes, shift_rows, mix_columns, add_round_key, inverse_sub_bytes, inverse_shift_rows, inverse_mix_columns}
use Rattle.aes_core.specs.Cipher.{rounds, encryption, inverse_rounds, decryption}
use Rattle.aes_core.proofs.StateLemmas.{Bytes, sub_bytes_undone, mix_columns_undone, add_round_key_undone, length-shift_rows, length-mix_columns, length-add_round_key, Bytes-shift_rows-sub_bytes, Bytes-inverse_sub_bytes, Bytes-mix_columns, Bytes-add_round_key}

-- a state of 16 bytes
pub record IsState (s : List ℕ) : Type 0 where
  pub sixteen : length s ≡ 16
  pub bytes : Bytes s

-- a round makes a state
round_state : (w : List ℕ) (n : ℕ) (s : List ℕ) → Bytes w → IsState (add_round_key w n (mix_columns (shift_rows (sub_bytes s))))
round_state w n s b = record {
  sixteen = length-add_round_key w n (mix_columns (shift_rows (sub_bytes s)));
  bytes = Bytes-add_round_key w n (mix_columns (shift_rows (sub_bytes s))) b (Bytes-mix_columns (shift_rows (sub_bytes s)) (Bytes-shift_rows-sub_bytes s));
}

-- the substituted and turned state after n rounds, back to that before them
rounds_undone : (w : List ℕ) (n : ℕ) (s : List ℕ) → Bytes w → IsState s
    → inverse_rounds w n (shift_rows (sub_bytes (rounds w n s))) ≡ shift_rows (sub_bytes s)
unfolding rounds inverse_rounds
rounds_undone w zero s b h = refl
rounds_undone w (suc n) s b h =
    let before : List ℕ = shift_rows (sub_bytes (rounds w n s)) in
    let after = round_state w (suc n) (rounds w n s) b in
    let same = sub_bytes_undone (add_round_key w (suc n) (mix_columns before)) after.sixteen after.bytes in
    let unkeyed = add_round_key_undone w (suc n) (mix_columns before) (length-mix_columns before) in
    let unmixed = mix_columns_undone before (length-shift_rows (sub_bytes (rounds w n s))) (Bytes-shift_rows-sub_bytes (rounds w n s)) in
    rw (same, unkeyed, unmixed) (rounds_undone w n s b h)

pub decryption-encryption : (w : List ℕ) (nr : ℕ) (block : List ℕ) → Bytes w → IsState block → decryption w nr (encryption w nr block) ≡ block
unfolding encryption decryption
decryption-encryption w nr block b h =
    let first : List ℕ = add_round_key w 0 block in
    let state : IsState first = record { sixteen = length-add_round_key w 0 block; bytes = Bytes-add_round_key w 0 block b h.bytes } in
    let last : List ℕ = shift_rows (sub_bytes (rounds w (nr - 1) first)) in
    let unkeyed = add_round_key_undone w nr last (length-shift_rows (sub_bytes (rounds w (nr - 1) first))) in
    rw (unkeyed, rounds_undone w (nr - 1) first b state, sub_bytes_undone first state.sixteen state.bytes)
    (add_round_key_undone w 0 block h.sixteen)

pub length-encryption : (w : List ℕ) (nr : ℕ) (block : List ℕ) → length (encryption w nr block) ≡ 16
unfolding encryption
length-encryption w nr block = length-add_round_key w nr (shift_rows (sub_bytes (rounds w (nr - 1) (add_round_key w 0 block))))

pub Bytes-encryption : (w : List ℕ) (nr : ℕ) (block : List ℕ) → Bytes w → Bytes (encryption w nr block)
unfolding encryption
Bytes-encryption w nr block b = Bytes-add_round_key w nr _ b (Bytes-shift_rows-sub_bytes (rounds w (nr - 1) (add_round_key w 0 block)))

pub length-decryption : (w : List ℕ) (nr : ℕ) (block : List ℕ) → length (decryption w nr block) ≡ 16
unfolding decryption
length-decryption w nr block = length-add_round_key w 0 _

pub Bytes-decryption : (w : List ℕ) (nr : ℕ) (block : List ℕ) → Bytes w → Bytes (decryption w nr block)
unfolding decryption
Bytes-decryption w nr block b = Bytes-add_round_key w 0 _ b (Bytes-inverse_sub_bytes _)

-- ---- one round more, in the code's numbers

pub rounds_more : (w : List ℕ) (n : ℕ) (s : List ℕ) → 1 ≤ n → rounds w (n + 1 - 1) s ≡ add_round_key w n (mix_columns (shift_rows (sub_bytes (rounds w (n - 1) s))))
unfolding rounds
rounds_more w n s h =
    let e : n + 1 - 1 ≡ suc (n - 1) = omega arith in
    let f : suc (n - 1) ≡ n = omega arith in
    rw e (ap (λ m. add_round_key w m (mix_columns (shift_rows (sub_bytes (rounds w (n - 1) s))))) f)

pub inverse_rounds_more : (w : List ℕ) (n : ℕ) (s : List ℕ) → 1 ≤ n
    → inverse_rounds w n s ≡ inverse_rounds w (n - 1) (inverse_mix_columns (add_round_key w n (inverse_sub_bytes (inverse_shift_rows s))))
unfolding inverse_rounds
inverse_rounds_more w n s h =
    let f : suc (n - 1) ≡ n = omega arith in
    sym (ap (λ m. inverse_rounds w m s) f)
    ∙ ap (λ m. inverse_rounds w (n - 1) (inverse_mix_columns (add_round_key w m (inverse_sub_bytes (inverse_shift_rows s))))) f
