use Rattle.std.proofs.Common.{◌≡◌, List, length, take, ap, arith}
use Rattle.std.proofs.lemmas.List.{take_all}
use Rattle.std.proofs.lemmas.List.Elements.{All-more}
use Rattle.bp_blocks.specs.declared.block.Block.{Block}
use Rattle.bp_blocks.specs.Spelling.{IsBlock}
use Rattle.bp_bundle.proofs.Sizes.{spelled, size_step, whole_size}
use Rattle.bp_bundle.proofs.shape.spelled_size.Goals as goal

pub loop-block-preserved : goal.loop-block-preserved
loop-block-preserved c =
    let step = size_step c.args.blocks.now c.loop-block.block-index c.block-item.result (omega arith) c.block-item.is in
    record {
      size = omega (arith, step, c.size.ensures.size, c.loop-block.invariant.size, c.saturating_add-size.ensures);
      primary = c.loop-block.invariant.primary;
      blocks = All-more IsBlock c.args.blocks.now c.loop-block.block-index c.block-item.result (omega arith) c.loop-block.invariant.blocks (rw (← c.block-item.is) c.size.ensures.fits);
    }

pub returns-clause-size : goal.returns-clause-size
returns-clause-size c =
    let all : take c.loop-block.block-index c.args.blocks.now ≡ c.args.blocks.now = take_all c.loop-block.block-index c.args.blocks.now (omega arith) in
    omega (arith, whole_size (record { primary = c.args.primary.now; blocks = c.args.blocks.now }), ap (λ (bs : List Block). length (spelled bs)) all)
