-- Block integrity blocks: those that are there, and what splits leave of them.
use Rattle.std.specs.Prelude.{ℕ, pos, if◌then◌else◌, Bool, true, false, not, ◌==◌, ◌&&◌, List, [], ◌∷◌, ◌++◌, map, filter, find, Option, Some, None, Result, Ok, Err}
use Rattle.std.specs.List.{list_any, flat_map}
use Rattle.std.specs.Ordering.{int_eq}
use Rattle.cbor_profile.specs.declared.fault.Fault.{Fault}
use Rattle.bp_blocks.specs.declared.block.Block.{Block}
use Rattle.bpsec_asb.specs.declared.asb.Pair.{Pair}
use Rattle.bpsec_asb.specs.declared.asb.Asb.{Asb}
use Rattle.bpsec_asb.specs.declared.operation.OpId.{OpId}
use Rattle.bpsec_asb.specs.Reading.{read_body}
use Rattle.bpsec_asb.specs.Known.{is_covered}
use Rattle.bpsec_scope.specs.Covered.{has_flag}
use Rattle.bpsec_context.specs.Integrity as integrity
use Rattle.bpsec_plan.specs.declared.item.Item.{Item}
use Rattle.bpsec_plan.specs.declared.item.Item.TheVariants.{Bib, Bcb, Split}
use Rattle.bpsec_facts.specs.declared.bibs.ShownBib.{ShownBib}
use Rattle.bpsec_facts.specs.declared.bibs.ResultBib.{ResultBib}
use Rattle.bpsec_facts.specs.Items.{is_in}

-- ---- those that are there

-- a block integrity block that no operation covers
abbrev pub is_visible_bib : List Block → List OpId → Block → Bool
is_visible_bib blocks ops block = block.kind == 11 && not (is_covered blocks ops block.number)

abbrev pub parameters_of : Option (List Pair) → List Pair
parameters_of None = []
parameters_of (Some parameters) = parameters

unfoldable pub has_bad_parameters : List Pair → Bool
has_bad_parameters parameters = integrity.bad_parameters parameters

-- It can be split: it is of context 1 with well-formed parameters, and its codes don't cover its own header (RFC 9173, section
-- 3.3.3), which is another in the new block.
unfoldable pub is_divisible : Asb → Bool
is_divisible asb =
    int_eq asb.context (pos 1)
    && (not (has_bad_parameters (parameters_of asb.parameters)) && not (has_flag (integrity.scope_of (parameters_of asb.parameters)) 0x4))

abbrev pub shown_as : ℕ → Result Asb Fault → List ShownBib
shown_as number (Ok asb) = record { number = number; asb = asb; divisible = is_divisible asb } ∷ []
shown_as number (Err fault) = []

abbrev pub shown_in : List Block → List OpId → Block → List ShownBib
shown_in blocks ops block = if is_visible_bib blocks ops block then shown_as block.number (read_body block.body) else []

-- the readable block integrity blocks that no operation covers
unfoldable pub shown_bibs : List Block → List OpId → List ShownBib
shown_bibs blocks ops = flat_map (shown_in blocks ops) blocks

-- the one with this number
abbrev pub shown_at : List ShownBib → ℕ → Option ShownBib
shown_at shown number = find (λ bib. bib.number == number) shown

-- ---- what splits leave of them

-- the item moves this target out of the block of this number
abbrev pub moves : ℕ → ℕ → Item → Bool
moves number target (Bib cover) = false
moves number target (Bcb cover iv shared_iv tag_in_body) = false
moves number target (Split split) = split.from == number && is_in split.targets target

abbrev pub is_moved : List Item → ℕ → ℕ → Bool
is_moved items number target = list_any (moves number target) items

-- the targets that these items leave the block of this number
abbrev pub left_of : List Item → ℕ → List ℕ → List ℕ
left_of items number targets = filter (λ target. not (is_moved items number target)) targets

abbrev pub remaining : List Item → ShownBib → ResultBib
remaining items bib = record { number = bib.number; targets = left_of items bib.number bib.asb.targets }

-- the block integrity block that an item makes
abbrev pub planned_bib : Item → List ResultBib
planned_bib (Bib cover) = record { number = cover.block; targets = cover.targets } ∷ []
planned_bib (Bcb cover iv shared_iv tag_in_body) = []
planned_bib (Split split) = record { number = split.block; targets = split.targets } ∷ []

-- The block integrity blocks of the result: those that are there, with the targets that splits leave them, and those that
-- items make.
unfoldable pub result_bibs : List ShownBib → List Item → List ResultBib
result_bibs shown items = map (remaining items) shown ++ flat_map planned_bib items
