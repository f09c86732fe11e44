-- What is told of the keys of a ring.
use Rattle.std.specs.Prelude.{ℕ, Bool, not, List, [], ◌∷◌, ◌++◌, find, Option, Some, None}
use Rattle.std.specs.Str.{bytes_eq}
use Rattle.bpsec_policy.specs.declared.ring.NamedKey.{NamedKey}
use Rattle.bpsec_audit.specs.declared.line.Finding.TheVariants.{UnusedKey, EqualKey}
use Rattle.bpsec_audit.specs.Lines.{line, line_of_two, line_if}

-- the first of the keys before it that has its bytes
abbrev pub equal_before : List NamedKey → NamedKey → Option NamedKey
equal_before before k = find (λ other. bytes_eq other.key k.key) before

unfoldable pub equal_to : List ℕ → Option NamedKey → List (List ℕ)
equal_to name None = []
equal_to name (Some other) = line_of_two EqualKey name other.name ∷ []

-- a key that none of some names names, and one whose bytes a key before it has
abbrev pub key_lines : (List ℕ → Bool) → List NamedKey → NamedKey → List (List ℕ)
key_lines is_used before k =
    line_if (not (is_used k.name)) (line UnusedKey k.name) ++ equal_to k.name (equal_before before k)
