use Rattle.aes_core.proofs.CipherLemmas.{length-cipher, All-cipher, length-inverse_cipher, All-inverse_cipher}
use Rattle.aes_core.proofs.laws.blocks_have_sixteen_bytes.Goals as goal

pub returns-clause-encrypted : goal.returns-clause-encrypted
returns-clause-encrypted c = length-cipher

pub returns-clause-encrypted_bytes : goal.returns-clause-encrypted_bytes
returns-clause-encrypted_bytes c = All-cipher

pub returns-clause-decrypted : goal.returns-clause-decrypted
returns-clause-decrypted c = length-inverse_cipher

pub returns-clause-decrypted_bytes : goal.returns-clause-decrypted_bytes
returns-clause-decrypted_bytes c = All-inverse_cipher
