use Rattle.std.specs.Prelude.{◌≡◌, ℕ, List, Bool, IsTrue, ◌⊎◌}

-- what a gathering feed holds, and whether it lost a piece for want of memory
pub record Gathered : Type 0 where
  pub bytes : List ℕ
  pub lost : Bool

-- Gathered bytes stand for themselves. What lost a piece stands for every list.
abbrev pub Gathers : Gathered → List ℕ → Type 0
Gathers g fed = IsTrue g.lost ⊎ (g.bytes ≡ fed)
