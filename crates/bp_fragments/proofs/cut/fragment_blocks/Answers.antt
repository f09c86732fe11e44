use Rattle.bp_fragments.proofs.KeptBlocks.{blocks_made}
use Rattle.bp_fragments.proofs.cut.fragment_blocks.Goals as goal

pub returns-in-Ok : goal.returns-in-Ok
returns-in-Ok c = blocks_made c.args.bundle.now c.blocks-blocks.result.now _ _ c.args.index c.index-blocks-last.result _ c.args.body c.size-size.ensures.shape c.blocks-blocks.ensures.blocks c.in_ok-copies.ensures c.index-blocks-last.is c.with_body.ensures c.in-Ok.ensures.ok
