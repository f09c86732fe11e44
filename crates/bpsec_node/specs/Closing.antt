-- What a session keeps once all operations are done.
use Rattle.std.specs.Prelude.{◌≡◌, ℕ, ◌==◌, ◌||◌, not, if◌then◌else◌, List, map, Option, Some, None}
use Rattle.bp_blocks.specs.declared.block.Block.{Block}
use Rattle.bp_bundle.specs.Shape.{Contents}
use Rattle.bp_bundle.specs.Spelling.{IsBundle}
use Rattle.bpsec_asb.specs.declared.operation.OpId.{OpId}
use Rattle.bpsec_node.specs.declared.event.Verdict.{Verdict}
use Rattle.bpsec_node.specs.declared.held.Held.{Held}
use Rattle.bpsec_node.specs.Situation.{Situation, is_among}
use Rattle.bpsec_node.specs.Site.{block_at}
use Rattle.bpsec_node.specs.Plain.{plain}
use Rattle.bpsec_node.specs.AllOperations.{all_operations, is_open}
use Rattle.bpsec_node.specs.Verdict.{step_verdict}
use Rattle.bpsec_node.specs.Session.{has, held_of, holds_operations, find_held}

abbrev pub plain_held_by : Situation → Option Block → Option Held
plain_held_by s None = None
plain_held_by s (Some block) = if holds_operations block then (if is_open s block.number then Some (held_of block) else None) else None

-- the security block with this number, where it is visible or was opened
unfoldable pub plain_held : Situation → ℕ → Option Held
plain_held s number = plain_held_by s (block_at (plain s).blocks number)

pub record IsAllDone (s : Situation) (done : List OpId) (now : Contents) (held : List Held) (stuck : List ℕ) (verdicts : List Verdict) : Type 0 where
  pub shape : IsBundle s.bundle
  -- all operations are done, and no others
  pub all : (op : OpId) → is_among done op ≡ is_among (all_operations s) op
  pub now_is : now ≡ plain s
  pub held_is : (number : ℕ) → find_held held number ≡ plain_held s number
  pub stuck_is : (number : ℕ) → has stuck number ≡ not (is_open s number)
  pub verdicts_are : verdicts ≡ map (step_verdict s) done
