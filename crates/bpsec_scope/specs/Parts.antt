-- The parts of a bundle that an operation may cover, whatever its scope flags.
use Rattle.std.specs.Prelude.{◌≡◌, ◌^◌, ◌<◌, not, is_some, Option}
use Rattle.std.specs.Option.{ForSome}
use Rattle.bp_primary.specs.declared.primary.Primary.{Primary}
use Rattle.bp_primary.specs.Spelling.{IsPrimary}
use Rattle.bpsec_scope.specs.declared.header.Header.{Header}
use Rattle.bpsec_scope.specs.Target.{Target, is_primary, body_of}
use Rattle.std.specs.Prelude.{length}

pub record Parts : Type 0 where
  pub target : Target
  pub primary : Primary
  pub target_header : Option Header
  pub security_header : Header

abbrev pub IsHeader : Header → Type 0
IsHeader header = (header.kind < 2 ^ 64) × (header.number < 2 ^ 64) × (header.flags < 2 ^ 64)

-- What the parts of every bundle keep: numbers of 64 bits, a primary block that has a spelling, a body that memory
-- holds, and a header of each target but the primary block.
pub record IsParts (parts : Parts) : Type 0 where
  pub primary : IsPrimary parts.primary
  pub target_header : ForSome parts.target_header IsHeader
  pub security_header : IsHeader parts.security_header
  pub header : is_some parts.target_header ≡ not (is_primary parts.target)
  pub body : length (body_of parts.target) < 2 ^ 64
