use Rattle.std.proofs.Common.{ap, ◌∙◌}
use Rattle.aes_core.specs.KeyExpansion.{IsKey}
use Rattle.aes_core.specs.Cipher.{inverse_cipher}
use Rattle.aes_core.proofs.CipherLemmas.{inverse_cipher-cipher}
use Rattle.aes_core.proofs.cipher.Aes.decrypt.Goals as goal

pub returns-clause-decrypted : goal.returns-clause-decrypted
unfolding inverse_cipher
returns-clause-decrypted g c = cc

pub returns-clause-undoes : goal.returns-clause-undoes
returns-clause-undoes g c = λ plain long bytes came.
    let key : IsKey g.row.NK c.args.self.now = rw c.self.view_is at c.self.invariant.0 in
    let undone = inverse_cipher-cipher g.row.NK c.args.self.now plain key long bytes in
    returns-clause-decrypted g c ∙ ap (inverse_cipher g.row.NK c.args.self.now) came ∙ undone
