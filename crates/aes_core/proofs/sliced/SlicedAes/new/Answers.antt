use Rattle.std.proofs.Common.{◌≡◌}
use Rattle.aes_core.specs.Sliced.{key_in}
use Rattle.aes_core.proofs.SlicedLemmas.{key_in_is}
use Rattle.aes_core.proofs.sliced.SlicedAes.new.Goals as goal

pub returns : goal.returns
returns g c =
    let are = rw c.round_keys.ensures.expanded at c.round_keys-2.ensures in
    key_in_is g.row.NK c.args.key.now c.round_keys-2.result c.round_keys.ensures.key are

pub invariant_of-result : goal.invariant_of-result
invariant_of-result g c =
    let are = rw c.round_keys.ensures.expanded at c.round_keys-2.ensures in
    let same : key_in g.row.NK c.round_keys-2.result ≡ c.args.key.now =
    key_in_is g.row.NK c.args.key.now c.round_keys-2.result c.round_keys.ensures.key are in
    rw same (c.round_keys.ensures.key, are)
