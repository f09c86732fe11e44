-- What a suite keeps of bodies.
use Rattle.std.specs.Prelude.{ℕ, ℤ, ◌≤◌, List, length, Option}
use Rattle.bpsec_asb.specs.declared.asb.Pair.{Pair}
use Rattle.bpsec_scope.specs.Parts.{Parts}
use Rattle.bpsec_node.specs.Situation.{Meaning}

-- what it opens isn't longer
abbrev pub NeverLonger : Meaning → Type 0
NeverLonger suite = (context : ℤ) (key : Option (List ℕ)) (parameters results : List Pair) (parts : Parts) (body : List ℕ)
    → length (suite.opened context key parameters results parts body) ≤ length body
