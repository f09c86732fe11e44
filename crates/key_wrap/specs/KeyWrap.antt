-- The AES key wrap (RFC 3394), in its form with indices, over the cipher of FIPS 197.
use Rattle.std.specs.Prelude.{◌≡◌, ℕ, zero, suc, ◌+◌, ◌-◌, ◌*◌, ◌/◌, ◌%◌, ◌<◌, ◌≤◌, List, ◌++◌, All, length, take, drop, replicate}
use Rattle.std.specs.Int.{w64, to_be_bytes}
use Rattle.aes_core.specs.Cipher.{cipher, inverse_cipher}
use Rattle.gf2_polynomial.specs.Bytes.{bytes_sum}

-- the default initial value (2.2.3.1)
abbrev pub initial_value : List ℕ
initial_value = replicate 8 0xa6

-- a key that is wrapped: 16 to 64 bytes, in whole groups of 8
pub record IsWrappable (key : List ℕ) : Type 0 where
  pub at_least : 16 ≤ length key
  pub at_most : length key ≤ 64
  pub whole : length key % 8 ≡ 0
  pub has_bytes : All (λ b. b < 256) key

-- the register A of 8 bytes, and the registers R1 to Rn of 8 bytes each, one after another
pub record Registers : Type 0 where
  pub check : List ℕ
  pub groups : List ℕ

abbrev pub registers : List ℕ → List ℕ → Registers
registers a r = record { check = a; groups = r }

-- the number of a step as 8 bytes, the high one first
unfoldable pub step_bytes : ℕ → List ℕ
step_bytes t = to_be_bytes w64 t

-- where register Ri begins, for the i of step t: i is ((t - 1) mod n) + 1, of n registers
abbrev pub place : List ℕ → ℕ → ℕ
place r t = 8 * ((t - 1) % (length r / 8))

-- the 8 bytes from place p on
abbrev pub group : List ℕ → ℕ → List ℕ
group r p = take 8 (drop p r)

-- the same registers but for those 8 bytes
abbrev pub with_group : List ℕ → ℕ → List ℕ → List ℕ
with_group r p x = take p r ++ x ++ drop (p + 8) r

-- step t of wrapping: B = AES(K, A | Ri), then A is the first half of B plus t as 8 bytes, and Ri the last half (2.2.1)
unfoldable pub wrap_step : ℕ → List ℕ → ℕ → Registers → Registers
wrap_step nk kek t s =
    let p = place s.groups t in
    let b = cipher nk kek (s.check ++ group s.groups p) in
    registers (bytes_sum (take 8 b) (step_bytes t)) (with_group s.groups p (drop 8 b))

-- the registers after the steps 1 to t
unfoldable pub wrap_steps : ℕ → List ℕ → ℕ → Registers → Registers
wrap_steps nk kek zero s = s
wrap_steps nk kek (suc t) s = wrap_step nk kek (suc t) (wrap_steps nk kek t s)

-- the number of steps for these registers: six for each
abbrev pub step_count : List ℕ → ℕ
step_count r = 6 * (length r / 8)

-- the key wrapped: A, and then R1 to Rn, after all steps (2.2.1)
unfoldable pub wrap : ℕ → List ℕ → List ℕ → List ℕ
wrap nk kek key =
    let s = wrap_steps nk kek (step_count key) (registers initial_value key) in s.check ++ s.groups

-- step t of unwrapping: B = AES-1(K, (A plus t as 8 bytes) | Ri), then A is the first half of B, and Ri the last (2.2.2)
unfoldable pub unwrap_step : ℕ → List ℕ → ℕ → Registers → Registers
unwrap_step nk kek t s =
    let p = place s.groups t in
    let b = inverse_cipher nk kek (bytes_sum s.check (step_bytes t) ++ group s.groups p) in
    registers (take 8 b) (with_group s.groups p (drop 8 b))

-- the registers after the steps t to 1
unfoldable pub unwrap_steps : ℕ → List ℕ → ℕ → Registers → Registers
unwrap_steps nk kek zero s = s
unwrap_steps nk kek (suc t) s = unwrap_steps nk kek t (unwrap_step nk kek (suc t) s)

-- what unwrapping gives: the key, and the initial value that it was wrapped with (2.2.2)
unfoldable pub unwrap : ℕ → List ℕ → List ℕ → Registers
unwrap nk kek wrapped =
    unwrap_steps nk kek (step_count (drop 8 wrapped)) (registers (take 8 wrapped) (drop 8 wrapped))
