use Rattle.std.proofs.Common.{◌≡◌, ◌++◌, take}
use Rattle.bpsec_node.specs.Least.{is_visible_bib, read_those}
use Rattle.bpsec_node.proofs.begin.read_bibs.Given as goal

abbrev pub invariant-loop-block : goal.invariant-loop-block
invariant-loop-block l = l.held ≡ l.fn.held ++ read_those (is_visible_bib l.sealed) (take l.block-index l.blocks)
