-- The forms in memory, as contracts see them.
use Rattle.std.specs.Prelude.{ℕ, ◌+◌, ◌^◌, ◌-◌, ◌<◌, min, List, All}

-- a count after one more, which stands still at its last value
abbrev pub counted : ℕ → ℕ
counted count = min (count + 1) (2 ^ 64 - 1)

-- no call from this number on is to fail
abbrev pub NoneFails : List ℕ → ℕ → Type 0
NoneFails failing calls = All (λ number. number < calls) failing

-- A source in memory: the bytes that are left, the most bytes that a read gives, the numbers of the reads that fail, the
-- number of reads so far, and how many of them failed.
pub record SourceState : Type 0 where
  pub left : List ℕ
  pub most : ℕ
  pub failing : List ℕ
  pub calls : ℕ
  pub faults : ℕ

-- A source in memory that never fails: the bytes that are left, and the most bytes that a read gives.
pub record SteadyState : Type 0 where
  pub left : List ℕ
  pub most : ℕ

-- A sink in memory: the bytes written so far, for how many more there is room, the numbers of the writes that fail, the
-- number of writes so far, and how many of them failed.
pub record SinkState : Type 0 where
  pub written : List ℕ
  pub room : ℕ
  pub failing : List ℕ
  pub calls : ℕ
  pub faults : ℕ
