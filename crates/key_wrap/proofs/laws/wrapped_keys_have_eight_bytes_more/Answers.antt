use Rattle.key_wrap.proofs.StepLemmas.{length-wrap, All-wrap}
use Rattle.key_wrap.proofs.laws.wrapped_keys_have_eight_bytes_more.Goals as goal

pub returns-clause-longer : goal.returns-clause-longer
returns-clause-longer c = λ nk kek key is_key wrappable.
    length-wrap nk kek
    (λ block. c.blocks_have_sixteen_bytes.ensures.encrypted nk kek block)
    (λ block. c.blocks_have_sixteen_bytes.ensures.encrypted_bytes nk kek block is_key)
    (λ block long bytes. c.decryption_undoes_encryption.ensures nk kek block is_key long bytes)
    key wrappable

pub returns-clause-bytes : goal.returns-clause-bytes
returns-clause-bytes c = λ nk kek key is_key wrappable.
    All-wrap nk kek
    (λ block. c.blocks_have_sixteen_bytes.ensures.encrypted nk kek block)
    (λ block. c.blocks_have_sixteen_bytes.ensures.encrypted_bytes nk kek block is_key)
    (λ block long bytes. c.decryption_undoes_encryption.ensures nk kek block is_key long bytes)
    key wrappable
