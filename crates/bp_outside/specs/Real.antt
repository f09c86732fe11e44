-- The real devices, as contracts see them.
use Rattle.std.specs.Prelude.{ℕ}

-- a device, and how many calls of it failed
pub record Counted (D : Type 0) : Type 0 where
  pub device : D
  pub faults : ℕ
