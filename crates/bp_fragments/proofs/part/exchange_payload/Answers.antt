use Rattle.bp_fragments.proofs.Frames.{body_written}
use Rattle.bp_fragments.proofs.part.exchange_payload.Goals as goal

pub returns-clause-new : goal.returns-clause-new
returns-clause-new c =
    rw (c.replace.ensures.after, c.items_mut.ensures.value, c.items.ensures) (body_written c.args.blocks.now c.index-items_mut-last.result c.args.body c.requires)
