-- What an assembly has gathered.
use Rattle.std.specs.Prelude.{◌≡◌, ◌≤◌, List, length, Contains}
use Rattle.bp_bundle.specs.Shape.{Contents}
use Rattle.bp_bundle.specs.Spelling.{IsBundle}
use Rattle.bp_fragments.specs.Agreement.{Gathered, gathered, Agree}

-- The assembly has taken just these fragments, in this order: each is a bundle, and they agree.
pub record Took (assembly : Gathered) (pieces : List Contents) : Type 0 where
  pub is : assembly ≡ gathered pieces
  pub few : length pieces ≤ 256
  pub bundles : (piece : Contents) → Contains pieces piece → IsBundle piece
  pub agree : Agree pieces
