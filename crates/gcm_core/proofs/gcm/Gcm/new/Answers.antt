use Rattle.std.proofs.Common.{refl, ◌∙◌, arith}
use Rattle.aes_core.specs.Cipher.{cipher}
use Rattle.gcm_core.proofs.StateLemmas.{subkey_is, HasTaken_none}
use Rattle.gcm_core.proofs.gcm.Gcm.new.Goals as goal

pub invariant_of-result : goal.invariant_of-result
invariant_of-result g c =
    rw c.copy.ensures.same (c.new.ensures ∙ subkey_is (cipher g.row.NK c.args.key.now) c.encrypted.result c.filled_block.result
    c.encrypted.ensures (omega arith) c.filled_block.ensures)

pub returns-clause-none : goal.returns-clause-none
returns-clause-none g c = HasTaken_none g.row.NK _ refl refl
