-- Lists that a session keeps.
use Rattle.std.specs.Prelude.{ℕ, ◌==◌, ◌&&◌, ◌||◌, Bool, not, List, [], ◌++◌, map, filter, Option, Some, None}
use Rattle.bpsec_asb.specs.declared.operation.OpId.{OpId}
use Rattle.bpsec_asb.specs.declared.operation.Service.TheVariants.{Bib}
use Rattle.bpsec_asb.specs.Known.{in_order, operation, targets_of}
use Rattle.bpsec_node.specs.declared.held.Held.{Held}
use Rattle.bpsec_node.specs.Situation.{is_op}
use Rattle.bpsec_node.specs.Verdict.{is_bib}
use Rattle.bpsec_node.specs.Session.{has}

abbrev pub without_op : OpId → List OpId → List OpId
without_op op ops = filter (λ other. not (is_op op other)) ops

abbrev pub without_number : ℕ → List ℕ → List ℕ
without_number number numbers = filter (λ n. not (n == number)) numbers

-- the operations of an integrity block that was read
abbrev pub new_ops : Option Held → List OpId
new_ops None = []
new_ops (Some held) = map (operation Bib held.number) (targets_of held.read)

-- none of these numbers is that of the block or of the target of an integrity operation
abbrev pub clear_of : List ℕ → OpId → Bool
clear_of numbers op = not (is_bib op.service) || (not (has numbers op.block) && not (has numbers op.target))

abbrev pub ready_among : List ℕ → List OpId → List OpId
ready_among numbers ops = in_order (filter (clear_of numbers) ops)
