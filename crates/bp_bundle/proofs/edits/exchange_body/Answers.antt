use Rattle.std.proofs.Common.{◌≡◌}
use Rattle.bp_bundle.proofs.ChangedInPlace.{with_body_of, body_written}
use Rattle.bp_bundle.proofs.edits.exchange_body.Goals as goal

pub returns-clause-new : goal.returns-clause-new
returns-clause-new c =
    rw (c.replace.ensures.after, c.items_mut.ensures.value) (body_written c.args.blocks.now c.args.index c.index-items_mut-index.result c.args.body c.requires)
