use Rattle.gcm_core.proofs.SizeLemmas.{length-ciphered, ciphered_bytes}
use Rattle.gcm_core.proofs.laws.ciphertext_is_as_long_as_the_body.Goals as goal

pub returns : goal.returns
returns c = record { length = length-ciphered; bytes = λ e iv body blocks. ciphered_bytes e blocks iv body }
