use Rattle.std.proofs.Common.{arith}
use Rattle.gcm_core.specs.State.{GcmState}
use Rattle.gcm_core.proofs.StateLemmas.{tag_from}
use Rattle.gcm_core.proofs.gcm.Gcm.tag.Goals as goal

pub returns : goal.returns
returns g c = λ iv aad first held.
    let s : GcmState = record { key = c.self.inside.aes; hash = c.self.inside.hash; rest = c.self.inside.rest; fed = c.self.inside.fed } in
    tag_from g.row.NK s iv aad c.args.ciphertext.now c.args.first.now c.lengths-lengths.result c.to_be_bytes.result c.encrypted-tag.result
    c.add.new.bytes
    c.self.inside.subkey c.absorb-hash.result c.absorb-hash-2.result c.absorb-hash-3.result c.self.invariant c.absorb-hash.ensures
    c.absorb-hash-2.ensures c.absorb-hash-3.ensures
    c.lengths-lengths.ensures (omega arith) c.encrypted-tag.ensures c.to_be_bytes.ensures c.add.ensures c.args.self.now c.self.view_is held
    first
