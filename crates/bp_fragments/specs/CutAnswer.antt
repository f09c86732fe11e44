-- What a function of cutting answers.
use Rattle.std.specs.Prelude.{◌≡◌, ℕ, ◌*◌, ◌<◌, ◌==◌, nat_lt, if◌then◌else◌, length, Option, Some, None}
use Rattle.bp_primary.specs.Flags.{is_fragment}
use Rattle.cbor_profile.specs.declared.TheConstants.{BUNDLE_LIMIT}
use Rattle.bp_bundle.specs.Shape.{Contents, payload}
use Rattle.bp_bundle.specs.Spelling.{spelling}
use Rattle.bp_fragments.specs.Cut.{must_not_fragment}
use Rattle.bp_fragments.specs.declared.cut.CutFault.{CutFault}
use Rattle.bp_fragments.specs.declared.cut.CutFault.TheVariants.{IsFragment, MustNotFragment, PieceZero, TooMany, TooLong, NoMemory}

-- it is the fault, or memory ran out
abbrev pub IsCutFault : CutFault → Option CutFault → Type 0
IsCutFault NoMemory refused = Unit {0}
IsCutFault fault refused = refused ≡ Some fault

-- why a fragment isn't made: it would pass the limit, or memory ran out
abbrev pub IsMakeFault : CutFault → Contents → Type 0
IsMakeFault NoMemory fragment = Unit {0}
IsMakeFault fault fragment = (fault ≡ TooLong) × (BUNDLE_LIMIT < length (spelling fragment))

-- the faults that need no fragment
unfoldable pub refused_at_once : Contents → ℕ → Option CutFault
refused_at_once bundle size =
    if is_fragment bundle.primary.flags then Some IsFragment
    else if must_not_fragment bundle.primary.flags then Some MustNotFragment
    else if size == 0 then Some PieceZero
    else if nat_lt (256 * size) (length (payload bundle)) then Some TooMany
    else None
