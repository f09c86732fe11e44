use Rattle.std.proofs.Common.{◌≡◌, ◌++◌, length, take}
use Rattle.std.specs.List.{flat_map}
use Rattle.cbor_profile.specs.Put.{array_head}
use Rattle.bpsec_asb.proofs.part.put_all.Given as goal

abbrev pub invariant-loop-item : goal.invariant-loop-item
invariant-loop-item g l = l.out ≡ l.fn.out ++ (array_head (length l.items) ++ flat_map g.T.Part.spelled (take l.item-index l.items))
