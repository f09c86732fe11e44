-- What an assembly tells once a fragment is taken to those that it has.
use Rattle.std.specs.Prelude.{◌≡◌, ℕ, ◌+◌, ◌==◌, if◌then◌else◌, List, map, Option, Some, None}
use Rattle.std.specs.Option.{option_or}
use Rattle.bp_primary.specs.declared.primary.Primary.{Primary}
use Rattle.bp_blocks.specs.declared.block.Block.{Block}
use Rattle.bp_fragments.specs.Fragment.{piece_of}
use Rattle.bp_fragments.specs.Cut.{below}
use Rattle.bp_fragments.specs.Overlaid.{Overlaid}
use Rattle.bp_fragments.specs.Agreement.{Gathered}

-- so many bytes are looked for, as the first fragment says
abbrev pub AsLongAs : Option Primary → ℕ → Type 0
AsLongAs None len = len ≡ 0
AsLongAs (Some first) len = len ≡ (piece_of first).total

abbrev pub nothing_known : ℕ → List (Option ℕ)
nothing_known total = map (λ _. None) (below total)

-- the first fragment says how long the whole is
abbrev pub known_before : Option Primary → ℕ → List (Option ℕ) → List (Option ℕ)
known_before None total known = nothing_known total
known_before (Some first) total known = known

abbrev pub frame_after : Option (List Block) → ℕ → List Block → Option (List Block)
frame_after (Some kept) offset blocks = Some kept
frame_after None offset blocks = if offset == 0 then Some blocks else None

-- a fragment with this primary block, these blocks and this payload is taken
pub record TakesIn (before : Gathered) (given : Primary) (blocks : List Block) (body : List ℕ) (after : Gathered) : Type 0 where
  pub primary : after.primary ≡ option_or before.primary (Some given)
  pub frame : after.frame ≡ frame_after before.frame (piece_of given).offset blocks
  pub known : Overlaid (known_before before.primary (piece_of given).total before.known) (piece_of given).offset body after.known
  pub count : after.count ≡ before.count + 1
