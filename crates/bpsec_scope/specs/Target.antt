-- What an operation applies to, as far as it may cover it.
use Rattle.std.specs.Prelude.{ℕ, Bool, true, false, List, []}
use Rattle.bpsec_scope.specs.declared.target.TargetOf.{TargetOf}
use Rattle.bpsec_scope.specs.declared.target.TargetOf.TheVariants as given

-- The target of an operation: for integrity the primary block, or a canonical block with this body; for
-- confidentiality a block whose body is sealed, and so isn't covered.
pub data Target : Type 0 where
  PrimaryBlock : Target
  Body : List ℕ → Target
  Sealed : Target

abbrev pub target_of : TargetOf → Target
target_of given.Primary = PrimaryBlock
target_of (given.Body body) = Body body.now
target_of given.Sealed = Sealed

-- the primary block
abbrev pub is_primary : Target → Bool
is_primary PrimaryBlock = true
is_primary (Body body) = false
is_primary Sealed = false

-- a block whose body is sealed
abbrev pub is_sealed : Target → Bool
is_sealed PrimaryBlock = false
is_sealed (Body body) = false
is_sealed Sealed = true

-- the bytes of a body that is covered
abbrev pub body_of : Target → List ℕ
body_of PrimaryBlock = []
body_of (Body body) = body
body_of Sealed = []
