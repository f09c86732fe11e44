use Rattle.std.proofs.Common.{◌≡◌, take}
use Rattle.bpsec_node.specs.Least.{is_cipher, read_those}
use Rattle.bpsec_node.proofs.begin.read_ciphers.Given as goal

abbrev pub invariant-loop-block : goal.invariant-loop-block
invariant-loop-block l = l.held ≡ read_those is_cipher (take l.block-index l.blocks)
