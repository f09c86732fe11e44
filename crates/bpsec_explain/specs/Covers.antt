-- What an operation covers beside its target, as far as it can be told (RFC 9173, sections 3.7 and 4.7.2).
use Rattle.std.specs.Prelude.{ℕ, pos, ◌%◌, Bool, ◌==◌, ◌&&◌, not, if◌then◌else◌, List, [], ◌∷◌, filter, find, Option, Some, None, Result, Ok, Err}
use Rattle.std.specs.Ordering.{int_eq}
use Rattle.bp_eid.specs.declared.stop.Stop.{Stop}
use Rattle.bp_eid.specs.Reading.{number_at}
use Rattle.bp_blocks.specs.declared.block.Block.{Block}
use Rattle.bp_bundle.specs.Shape.{Contents}
use Rattle.bpsec_asb.specs.declared.asb.Pair.{Pair}
use Rattle.bpsec_asb.specs.declared.asb.Asb.{Asb}
use Rattle.bpsec_asb.specs.declared.operation.Service.{Service}
use Rattle.bpsec_asb.specs.declared.operation.Service.TheVariants.{Bib, Bcb}
use Rattle.bpsec_scope.specs.declared.header.Header.{Header}
use Rattle.bpsec_scope.specs.Target.{Target, PrimaryBlock, Sealed}
use Rattle.bpsec_scope.specs.Parts.{Parts}
use Rattle.bpsec_scope.specs.Covered.{scoped, front}

-- ---- the scope

-- The security context of each service (RFC 9173, sections 3.1 and 4.1), and the id of its scope parameter (3.3, 4.3).
abbrev pub context_of : Service → ℕ
context_of Bib = 1
context_of Bcb = 2

abbrev pub scope_id : Service → ℕ
scope_id Bib = 3
scope_id Bcb = 4

abbrev pub whole_number : Result (ℕ × List ℕ) Stop → Option ℕ
whole_number (Ok (n, [])) = Some n
whole_number (Ok (n, byte ∷ bytes)) = None
whole_number (Err stop) = None

-- The scope that these parameters of that id give: 7 where there is none, a number where there is one.
abbrev pub scope_of : List Pair → Option ℕ
scope_of [] = Some 7
scope_of (p ∷ []) = whole_number (number_at p.value)
scope_of (p ∷ q ∷ ps) = None

abbrev pub parameters_of : Option (List Pair) → List Pair
parameters_of None = []
parameters_of (Some parameters) = parameters

abbrev pub scope : Service → Asb → Option ℕ
scope service asb =
    if int_eq asb.context (pos (context_of service)) then scope_of (filter (λ p. p.id == scope_id service) (parameters_of asb.parameters)) else None

-- ---- the target

abbrev pub header_of : Block → Header
header_of block = record { kind = block.kind; number = block.number; flags = block.flags }

-- a block of a type that the service may target (RFC 9172, sections 3.7 and 3.8)
abbrev pub may_target : Service → ℕ → Bool
may_target Bib kind = not (kind == 11) && not (kind == 12)
may_target Bcb kind = not (kind == 12)

-- a canonical block as a target: its header alone is covered beside it
abbrev pub canonical : Service → Option Block → Option (Target × Option Header)
canonical service None = None
canonical service (Some block) = if may_target service block.kind then Some (Sealed, Some (header_of block)) else None

-- the target with its header, where it is there and not forbidden
abbrev pub target : Service → List Block → ℕ → Option (Target × Option Header)
target Bib blocks number = if number == 0 then Some (PrimaryBlock, None) else canonical Bib (find (λ block. block.number == number) blocks)
target Bcb blocks number = if number == 0 then None else canonical Bcb (find (λ block. block.number == number) blocks)

-- ---- both

-- the scope flags, and the bytes that are covered beside the target
abbrev pub covered_by : Contents → Block → ℕ → Target × Option Header → ℕ × List ℕ
covered_by bundle block flags t =
    let parts : Parts = record { target = t.0; primary = bundle.primary; target_header = t.1; security_header = header_of block } in
    (flags % 8, front (scoped parts flags))

abbrev pub covered_where : Contents → Block → Option ℕ → Option (Target × Option Header) → Option (ℕ × List ℕ)
covered_where bundle block None t = None
covered_where bundle block (Some flags) None = None
covered_where bundle block (Some flags) (Some t) = Some (covered_by bundle block flags t)

unfoldable pub covers : Contents → Service → Block → Asb → ℕ → Option (ℕ × List ℕ)
covers bundle service block asb number = covered_where bundle block (scope service asb) (target service bundle.blocks number)
