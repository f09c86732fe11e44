use Rattle.std.proofs.Common.{◌≤◌, ◌^◌, length}
use Rattle.std.specs.Prelude.{◌==◌}
use Rattle.bp_blocks.specs.declared.block.Block.{Block}
use Rattle.bpsec_facts.proofs.Found.{found}
use Rattle.bpsec_facts.proofs.frames.short_block_at.Goals as goal

pub returns-clause-short : goal.returns-clause-short
returns-clause-short c =
    rw c.block_at.ensures (found (λ (block : Block). length block.body ≤ 2 ^ 32) (λ (block : Block). block.number == c.args.number) c.args.blocks.now c.requires)
