use Rattle.gcm_core.proofs.SubkeyLemmas.{multiples_are}
use Rattle.gcm_core.proofs.subkey.multiples.Goals as goal

pub returns : goal.returns
returns c =
    multiples_are c.args.block c.times_x-b.result c.times_x-c.result c.times_x-d.result c.times_x-b.ensures c.times_x-c.ensures
    c.times_x-d.ensures
