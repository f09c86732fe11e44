use Rattle.aes_core.specs.Cipher.{cipher}
use Rattle.aes_core.proofs.cipher.Aes.encrypt.Goals as goal

pub returns-clause-encrypted : goal.returns-clause-encrypted
unfolding cipher
returns-clause-encrypted g c = cc
