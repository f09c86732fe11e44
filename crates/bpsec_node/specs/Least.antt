-- What is looked for at the beginning of a session.
use Rattle.std.specs.Prelude.{ℕ, ◌==◌, ◌&&◌, ◌||◌, Bool, true, false, not, if◌then◌else◌, nat_le, List, [], map, filter, fold, Option, Some, None, Result, Ok, Err}
use Rattle.std.specs.List.{list_any, flat_map}
use Rattle.cbor_profile.specs.declared.fault.Fault.{Fault}
use Rattle.bp_blocks.specs.declared.block.Block.{Block}
use Rattle.bpsec_asb.specs.declared.asb.Asb.{Asb}
use Rattle.bpsec_asb.specs.declared.operation.Service.{Service}
use Rattle.bpsec_asb.specs.declared.operation.OpId.{OpId}
use Rattle.bpsec_asb.specs.Known.{operation, targets_of}
use Rattle.bpsec_node.specs.declared.held.Held.{Held}
use Rattle.bpsec_node.specs.Site.{block_at}
use Rattle.bpsec_node.specs.Plain.{may_be_covered}
use Rattle.bpsec_node.specs.Session.{has, held_of}

-- ---- the least of some numbers

-- of two, the one of smaller key, and of equal keys the first
abbrev pub smaller_by : {A : Type 0} → (A → ℕ) → Option A → A → Option A
smaller_by key None x = Some x
smaller_by key (Some best) x = if nat_le (key best) (key x) then Some best else Some x

abbrev pub smaller : Option ℕ → ℕ → Option ℕ
smaller best number = smaller_by (λ n. n) best number

abbrev pub least_of : List ℕ → Option ℕ
least_of numbers = fold smaller None numbers

-- ---- security blocks that are read at first

abbrev pub is_cipher : Block → Bool
is_cipher block = block.kind == 12

abbrev pub is_visible_bib : List ℕ → Block → Bool
is_visible_bib sealed block = block.kind == 11 && not (has sealed block.number)

abbrev pub read_those : (Block → Bool) → List Block → List Held
read_those test blocks = map held_of (filter test blocks)

-- the operations of a service that these security blocks hold
abbrev pub ops_of : Service → List Held → List OpId
ops_of service held = flat_map (λ h. map (operation service h.number) (targets_of h.read)) held

-- ---- what stands in the way

-- of two security blocks that can't be read, the one of smaller number
abbrev pub smaller_fault : Option (ℕ × Fault) → ℕ → Result Asb Fault → Option (ℕ × Fault)
smaller_fault best number (Ok asb) = best
smaller_fault best number (Err fault) = smaller_by (λ p. p.0) best (number, fault)

abbrev pub least_broken : List Held → Option (ℕ × Fault)
least_broken held = fold (λ best h. smaller_fault best h.number h.read) None held

-- two blocks cover the operation's target
abbrev pub is_double : List OpId → OpId → Bool
is_double covers op = list_any (λ other. other.target == op.target && not (other.block == op.block)) covers

abbrev pub least_double : List OpId → Option ℕ
least_double covers = least_of (map (λ op. op.target) (filter (is_double covers) covers))

-- the least number of a block that covers the target, other than one
abbrev pub is_other : Option ℕ → ℕ → Bool
is_other None block = true
is_other (Some other) block = not (block == other)

abbrev pub least_block : List OpId → ℕ → Option ℕ → Option ℕ
least_block covers target other = least_of (map (λ op. op.block) (filter (λ op. op.target == target && is_other other op.block) covers))

abbrev pub double_second : ℕ → ℕ → Option ℕ → Option (ℕ × ℕ × ℕ)
double_second target first None = None
double_second target first (Some second) = Some (target, first, second)

abbrev pub double_first : List OpId → ℕ → Option ℕ → Option (ℕ × ℕ × ℕ)
double_first covers target None = None
double_first covers target (Some first) = double_second target first (least_block covers target (Some first))

abbrev pub double_at : List OpId → Option ℕ → Option (ℕ × ℕ × ℕ)
double_at covers None = None
double_at covers (Some target) = double_first covers target (least_block covers target None)

-- the least target that two blocks cover, and the two least numbers of these
abbrev pub double_of : List OpId → Option (ℕ × ℕ × ℕ)
double_of covers = double_at covers (least_double covers)
