use Rattle.std.proofs.Common.{◌≡◌, ◌++◌, take}
use Rattle.std.specs.List.{flat_map}
use Rattle.bpsec_explain.specs.Lines.{block_lines}
use Rattle.bpsec_explain.proofs.whole.put_blocks.Given as goal

abbrev pub invariant-loop-block : goal.invariant-loop-block
invariant-loop-block l = l.out ≡ l.fn.out ++ flat_map (block_lines l.bundle l.ops) (take l.block-index l.bundle.blocks)
