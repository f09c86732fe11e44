-- What the tops of all texts have in common.
use Rattle.std.specs.Prelude.{ℕ, ◌==◌, Bool, nat_le, List, [], length, codes, unwrap_or, Result, Ok}
use Rattle.std.specs.List.{list_any}
use Rattle.cbor_profile.specs.Step.{◌>>=◌}
use Rattle.serde_json.specs.Data.{Data}
use Rattle.bp_text.specs.declared.fault.TextReason.{TextReason}
use Rattle.bp_text.specs.declared.fault.TextReason.TheVariants.{WrongShape, Version}
use Rattle.bp_text.specs.Fault.{unless, wanted}
use Rattle.bp_text.specs.Tree.{number_at, list_at}

-- the version: WrongShape where the top isn't an object with a whole number `version`, Version where it is none of these
unfoldable pub version_at : List ℕ → Data → Result ℕ TextReason
version_at versions tree = do
  version ← wanted WrongShape (number_at (codes "version") tree)
  known ← unless (list_any (λ v. v == version) versions) Version
  Ok version

-- the list at the key has at most so many values
abbrev pub is_short : ℕ → List ℕ → Data → Bool
is_short most key tree = nat_le (length (unwrap_or (list_at key tree) [])) most
