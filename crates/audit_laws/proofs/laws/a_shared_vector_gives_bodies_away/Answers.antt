use Rattle.audit_laws.proofs.SharedVector.{ciphered_twice, sealed_twice, read, secured_twice}
use Rattle.audit_laws.proofs.laws.a_shared_vector_gives_bodies_away.Goals as goal

pub returns : goal.returns
returns c = record { ciphers = ciphered_twice; sealed = sealed_twice; read = read; secured = secured_twice c.ciphertext_is_as_long_as_the_body.ensures.length }
