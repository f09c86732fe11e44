use Rattle.std.proofs.Common.{◌≡◌, take}
use Rattle.std.specs.Prelude.{All, fold, filter, not}
use Rattle.std.specs.List.{flat_map}
use Rattle.std.specs.Ordering.{nat_cmp}
use Rattle.std.specs.BTreeSet.{insert_key, contains}
use Rattle.bpsec_asb.specs.declared.operation.Service.TheVariants.{Bib}
use Rattle.bpsec_asb.specs.Order.{op_cmp}
use Rattle.bpsec_asb.specs.Known.{ListsHeld, held_by}
use Rattle.bpsec_asb.proofs.known.add_visible.Given as goal

abbrev pub invariant-loop-block : goal.invariant-loop-block
invariant-loop-block l = record {
  keys : l.ops.keys ≡ fold (insert_key op_cmp) l.fn.ops.keys (flat_map (held_by Bib) (filter (λ block. not (contains nat_cmp l.targeted block.number)) (take l.block-index l.blocks)));
  held : All (ListsHeld Bib) (filter (λ block. not (contains nat_cmp l.targeted block.number)) (take l.block-index l.blocks));
}
