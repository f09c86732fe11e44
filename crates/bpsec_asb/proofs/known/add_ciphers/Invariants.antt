use Rattle.std.proofs.Common.{◌≡◌, take}
use Rattle.std.specs.Prelude.{All, fold}
use Rattle.std.specs.BTreeSet.{insert_key}
use Rattle.bpsec_asb.specs.declared.operation.Service.TheVariants.{Bcb}
use Rattle.bpsec_asb.specs.Order.{op_cmp}
use Rattle.bpsec_asb.specs.Known.{ListsHeld, ciphers}
use Rattle.bpsec_asb.proofs.known.add_ciphers.Given as goal

abbrev pub invariant-loop-block : goal.invariant-loop-block
invariant-loop-block l = record {
  keys : l.ops.keys ≡ fold (insert_key op_cmp) l.fn.ops.keys (ciphers (take l.block-index l.blocks));
  held : All (ListsHeld Bcb) (take l.block-index l.blocks);
}
