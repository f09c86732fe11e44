use Rattle.aes_core.proofs.CipherLemmas.{inverse_cipher-cipher}
use Rattle.aes_core.proofs.laws.decryption_undoes_encryption.Goals as goal

pub returns : goal.returns
returns c = inverse_cipher-cipher
