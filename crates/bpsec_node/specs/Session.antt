-- What a session keeps.
use Rattle.std.specs.Prelude.{◌≡◌, ℕ, ◌==◌, ◌&&◌, ◌||◌, Bool, true, false, not, if◌then◌else◌, List, [], ◌∷◌, ◌++◌, map, find, length, Option, Some, None, is_some}
use Rattle.std.specs.List.{list_any}
use Rattle.bp_blocks.specs.declared.block.Block.{Block}
use Rattle.bp_bundle.specs.Shape.{Contents}
use Rattle.bp_bundle.specs.Spelling.{IsBundle}
use Rattle.bpsec_asb.specs.declared.operation.OpId.{OpId}
use Rattle.bpsec_asb.specs.declared.operation.Service.{Service}
use Rattle.bpsec_asb.specs.declared.operation.Service.TheVariants.{Bib, Bcb}
use Rattle.bpsec_asb.specs.Known.{ciphers, targets_of}
use Rattle.bpsec_asb.specs.Reading.{read_body}
use Rattle.bpsec_node.specs.declared.event.Verdict.{Verdict}
use Rattle.bpsec_node.specs.declared.held.Held.{Held}
use Rattle.bpsec_node.specs.Situation.{Meaning, Situation, is_op, is_among}
use Rattle.bpsec_node.specs.Site.{block_at}
use Rattle.bpsec_node.specs.Plain.{cover, is_opened, plain}
use Rattle.bpsec_node.specs.AllOperations.{all_operations, is_open}
use Rattle.bpsec_node.specs.Verdict.{is_bib, step_verdict}
use Rattle.bpsec_node.specs.Order.{is_free, ready, Legal, shown}
use Rattle.bpsec_node.specs.Begin.{CanBegin}
use Rattle.bpsec_node.specs.View.{Progress, situation}

-- ---- numbers

abbrev pub has : List ℕ → ℕ → Bool
has numbers number = list_any (λ n. n == number) numbers

-- ---- operations, block by block

-- a block integrity block applies its operation to a target
abbrev pub applies_to : Option Block → ℕ → Bool
applies_to None target = false
applies_to (Some block) target = block.kind == 11 && has (targets_of (read_body block.body)) target

abbrev pub is_operation_by : Situation → OpId → Service → Bool
is_operation_by s op Bib = is_open s op.block && applies_to (block_at (plain s).blocks op.block) op.target
is_operation_by s op Bcb = is_among (ciphers s.bundle.blocks) op

-- it is among all operations
unfoldable pub is_operation : Situation → OpId → Bool
is_operation s op = is_operation_by s op op.service

-- its block is shown once these are done
unfoldable pub is_shown : List Block → List OpId → OpId → Bool
is_shown blocks done op = not (is_bib op.service) || is_free blocks done op.block

-- a confidentiality operation that isn't done and covers a block
unfoldable pub is_covering : Situation → List OpId → OpId → Bool
is_covering s done op = not (is_bib op.service) && not (is_free s.bundle.blocks done op.target)

-- ---- blocks that were read

abbrev pub holds_operations : Block → Bool
holds_operations block = block.kind == 11 || block.kind == 12

abbrev pub held_of : Block → Held
held_of block = record { number = block.number; read = read_body block.body }

-- the block was read once these are done
abbrev pub is_read : Situation → List OpId → ℕ → Bool
is_read s done number = is_free s.bundle.blocks done number && is_open s number

abbrev pub held_by_block : Situation → List OpId → Option Block → Option Held
held_by_block s done None = None
held_by_block s done (Some block) = if holds_operations block && is_read s done block.number then Some (held_of block) else None

unfoldable pub held_at : Situation → List OpId → ℕ → Option Held
held_at s done number = held_by_block s done (block_at (shown s done).blocks number)

abbrev pub find_held : List Held → ℕ → Option Held
find_held held number = find (λ h. h.number == number) held

-- ---- the session

-- What is kept beside the session's progress, in its situation: the bundle with the bodies opened so far, the security blocks
-- read so far, the numbers of blocks whose covering operation isn't done, those of blocks whose covering operation is done and
-- didn't open them, the operations that are known so far and not done, those of them that are ready, and the verdicts given.
pub record IsKept (s : Situation) (done : List OpId) (now : Contents) (held : List Held) (sealed stuck : List ℕ) (open_ops ready_ops : List OpId) (verdicts : List Verdict) : Type 0 where
  pub shape : IsBundle s.bundle
  pub shape_now : IsBundle now
  pub begun : CanBegin s.bundle
  pub legal : Legal s done
  pub now_is : now ≡ shown s done
  pub held_is : (number : ℕ) → find_held held number ≡ held_at s done number
  pub sealed_is : (number : ℕ) → has sealed number ≡ not (is_free s.bundle.blocks done number)
  pub stuck_is : (number : ℕ) → has stuck number ≡ (is_free s.bundle.blocks done number && not (is_open s number))
  pub open_is : (op : OpId) → is_among open_ops op ≡ (is_operation s op && (is_shown s.bundle.blocks done op && not (is_among done op)))
  pub ready_is : ready_ops ≡ ready s done
  pub verdicts_are : verdicts ≡ map (step_verdict s) done

pub record IsSession (suite : Meaning) (p : Progress) (now : Contents) (held : List Held) (sealed stuck : List ℕ) (open_ops ready_ops : List OpId) (verdicts : List Verdict) : Type 0 where
  pub keyed : length p.keys ≡ length p.done
  pub kept : IsKept (situation suite p) p.done now held sealed stuck open_ops ready_ops verdicts
