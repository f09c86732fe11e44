use Rattle.key_wrap.proofs.StepLemmas.{unwrap-wrap}
use Rattle.key_wrap.proofs.laws.unwrapping_undoes_wrapping.Goals as goal

pub returns : goal.returns
returns c = λ nk kek key is_key wrappable.
    unwrap-wrap nk kek
    (λ block. c.blocks_have_sixteen_bytes.ensures.encrypted nk kek block)
    (λ block. c.blocks_have_sixteen_bytes.ensures.encrypted_bytes nk kek block is_key)
    (λ block long bytes. c.decryption_undoes_encryption.ensures nk kek block is_key long bytes)
    key wrappable
