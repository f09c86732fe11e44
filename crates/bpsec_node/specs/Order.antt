-- In which order the operations of a bundle may be done.
use Rattle.std.specs.Prelude.{ℕ, zero, suc, ◌&&◌, ◌||◌, Bool, true, not, if◌then◌else◌, List, [], ◌∷◌, ◌++◌, map, filter, length, slice_get, Contains, Option, Some, None}
use Rattle.bp_blocks.specs.declared.block.Block.{Block}
use Rattle.bp_bundle.specs.Shape.{Contents}
use Rattle.bpsec_asb.specs.declared.operation.OpId.{OpId}
use Rattle.bpsec_node.specs.Situation.{Situation, is_among}
use Rattle.bpsec_node.specs.Plain.{cover, plain_block}
use Rattle.bpsec_node.specs.AllOperations.{all_operations}
use Rattle.bpsec_node.specs.Verdict.{is_bib}

-- ---- ready

abbrev pub is_done_or_none : List OpId → Option OpId → Bool
is_done_or_none done None = true
is_done_or_none done (Some op) = is_among done op

-- no operation covers the block, or the one that covers it is done
unfoldable pub is_free : List Block → List OpId → ℕ → Bool
is_free blocks done number = is_done_or_none done (cover blocks number)

-- An operation that isn't done is ready where it is a confidentiality operation, or where both its block and its target are
-- free.
unfoldable pub is_ready : List Block → List OpId → OpId → Bool
is_ready blocks done op = not (is_among done op) && (not (is_bib op.service) || (is_free blocks done op.block && is_free blocks done op.target))

-- the ready operations, in the order of service, block, target
unfoldable pub ready : Situation → List OpId → List OpId
ready s done = filter (is_ready s.bundle.blocks done) (all_operations s)

-- ---- legal

-- each of these was ready when those before it were done
abbrev pub LegalFrom : Situation → List OpId → List OpId → Type 0
LegalFrom s before [] = Unit {0}
LegalFrom s before (op ∷ more) = Contains (ready s before) op × LegalFrom s (before ++ op ∷ []) more

unfoldable pub Legal : Situation → List OpId → Type 0
Legal s done = LegalFrom s [] done

-- ---- shown

-- a block whose covering operation is done has its plain body
abbrev pub shown_block : Situation → List OpId → Block → Block
shown_block s done block = if is_free s.bundle.blocks done block.number then plain_block s block else block

-- the received bundle with the plain body of each block whose covering operation is done
unfoldable pub shown : Situation → List OpId → Contents
shown s done = record s.bundle { blocks = map (shown_block s done) s.bundle.blocks }

-- ---- picks

abbrev pub picked : List OpId → Option OpId → List OpId
picked done None = done
picked done (Some op) = done ++ op ∷ []

-- What a chooser picks after `done`, at most so many: as long as operations are ready, the one at the place that it answers
-- of so many. A chooser's meaning is its answer, and the chooser that stands afterwards.
abbrev pub picks : {C : Type 0} → (C → ℕ → ℕ) → (C → ℕ → C) → Situation → ℕ → List OpId → C → List OpId
picks answer after s zero done chooser = done
picks answer after s (suc most) done chooser =
    picks answer after s most (picked done (slice_get (ready s done) (answer chooser (length (ready s done))))) (after chooser (length (ready s done)))
