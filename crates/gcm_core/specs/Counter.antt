-- Counter mode over the block cipher e under one key (NIST SP 800-38D, sections 6.2 and 6.5).
use Rattle.std.specs.Prelude.{ℕ, ◌+◌, ◌/◌, ◌%◌, ◌^◌, List, ◌++◌, map, take, drop, bit_xor, slice_index}
use Rattle.std.specs.List.{enumerate_from, range_with_len}
use Rattle.std.specs.Int.{w32, from_be_bytes, to_be_bytes}
pub use Rattle.gf2_polynomial.specs.Bytes.{bytes_sum}

-- the block with k added to its last four bytes modulo 2 ^ 32 (6.2)
unfoldable pub counted : List ℕ → ℕ → List ℕ
counted block k = take 12 block ++ to_be_bytes w32 ((from_be_bytes w32 (drop 12 block) + k) % 2 ^ 32)

-- the n counter blocks after the first `done` of them
unfoldable pub counters_from : List ℕ → ℕ → ℕ → List (List ℕ)
counters_from first done n = map (λ place. counted first (done + place + 1)) (range_with_len 0 n)

-- what is added to byte i of a body: a byte of the encrypted counter of its block, where blocks are numbered from 1
unfoldable pub key_stream : (List ℕ → List ℕ) → List ℕ → ℕ → ℕ
key_stream e first i = slice_index (e (counted first (i / 16 + 1))) (i % 16)

-- bytes in counter mode, of which the foremost stands at place i of the body (6.5)
abbrev pub counter_mode_from : (List ℕ → List ℕ) → List ℕ → ℕ → List ℕ → List ℕ
counter_mode_from e first i bytes = map (λ p. bit_xor p.1 (key_stream e first p.0)) (enumerate_from i bytes)

-- a body in counter mode, with the counters after the block `first` (6.5)
unfoldable pub counter_mode : (List ℕ → List ℕ) → List ℕ → List ℕ → List ℕ
counter_mode e first body = counter_mode_from e first 0 body
