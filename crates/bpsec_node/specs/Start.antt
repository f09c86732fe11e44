-- What a session keeps at its beginning.
use Rattle.std.specs.Prelude.{◌≡◌, ℕ, if◌then◌else◌, List, ◌++◌, map, filter, Option, Some, None}
use Rattle.cbor_profile.specs.declared.fault.Fault.{Fault}
use Rattle.bp_primary.specs.Flags.{is_fragment}
use Rattle.bp_blocks.specs.declared.block.Block.{Block}
use Rattle.bp_bundle.specs.Shape.{Contents}
use Rattle.bpsec_asb.specs.declared.operation.OpId.{OpId}
use Rattle.bpsec_asb.specs.declared.operation.Service.TheVariants.{Bib, Bcb}
use Rattle.bpsec_node.specs.declared.begin.BeginFault.{BeginFault}
use Rattle.bpsec_node.specs.declared.begin.BeginFault.TheVariants as faults
use Rattle.bpsec_node.specs.Site.{block_at}
use Rattle.bpsec_node.specs.Plain.{may_be_covered}
use Rattle.bpsec_node.specs.Least.{is_cipher, is_visible_bib, read_those, ops_of, least_broken, double_of}

-- the covering operations, their targets, and the operations that are known
abbrev pub first_covers : List Block → List OpId
first_covers blocks = filter (λ op. may_be_covered (block_at blocks op.target)) (ops_of Bcb (read_those is_cipher blocks))

abbrev pub first_sealed : List Block → List ℕ
first_sealed blocks = map (λ op. op.target) (first_covers blocks)

abbrev pub first_ops : List Block → List OpId
first_ops blocks = ops_of Bcb (read_those is_cipher blocks) ++ ops_of Bib (read_those (is_visible_bib (first_sealed blocks)) blocks)

-- what stands in the way of these blocks; want of memory says nothing
abbrev pub IsStartFault : List Block → BeginFault → Type 0
IsStartFault blocks faults.IsFragment = ⊥
IsStartFault blocks (faults.BrokenBcb number fault) = least_broken (read_those is_cipher blocks) ≡ Some (number, fault)
IsStartFault blocks (faults.DoubleCipher target first second) =
    (least_broken (read_those is_cipher blocks) ≡ None) × (double_of (first_covers blocks) ≡ Some (target, first, second))
IsStartFault blocks faults.NoMemory = Unit {0}

-- The first that stands in the way of a bundle, as a function of its contents.
abbrev pub fault_of : Option (ℕ × Fault) → Option (ℕ × ℕ × ℕ) → Option BeginFault
fault_of (Some (number, fault)) double = Some (faults.BrokenBcb number fault)
fault_of None (Some (target, first, second)) = Some (faults.DoubleCipher target first second)
fault_of None None = None

unfoldable pub begin_fault : Contents → Option BeginFault
begin_fault bundle =
    if is_fragment bundle.primary.flags then Some faults.IsFragment
    else fault_of (least_broken (read_those is_cipher bundle.blocks)) (double_of (first_covers bundle.blocks))

-- it is that one; want of memory says nothing
abbrev pub IsFaultOf : Contents → BeginFault → Type 0
IsFaultOf bundle faults.IsFragment = begin_fault bundle ≡ Some faults.IsFragment
IsFaultOf bundle (faults.BrokenBcb number fault) = begin_fault bundle ≡ Some (faults.BrokenBcb number fault)
IsFaultOf bundle (faults.DoubleCipher target first second) = begin_fault bundle ≡ Some (faults.DoubleCipher target first second)
IsFaultOf bundle faults.NoMemory = Unit {0}
