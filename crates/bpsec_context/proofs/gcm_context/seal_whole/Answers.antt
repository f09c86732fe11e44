use Rattle.std.proofs.Common.{◌≡◌, length, sym, ap, ◌∙◌}
use Rattle.aes_core.specs.Cipher.{cipher}
use Rattle.gcm_core.specs.Gcm.{ciphered, tag_of}
use Rattle.bpsec_context.proofs.BodyLemmas.{overwritten_whole}
use Rattle.bpsec_context.proofs.gcm_context.seal_whole.Goals as goal

pub returns-clause-body : goal.returns-clause-body
returns-clause-body c = λ words key aad ready.
    let old = c.args.body.now in
    let same : length c.seal.new.body ≡ length old = c.seal.auto.body ∙ ap length c.as_mut_slice.ensures.value in
    overwritten_whole old c.seal.new.body same
    ∙ (c.seal.ensures.body words key aad ready ∙ ap (ciphered (cipher words key) c.args.vector.now) c.as_mut_slice.ensures.value)

pub returns-clause-tag : goal.returns-clause-tag
returns-clause-tag c = λ words key aad ready.
    let old = c.args.body.now in
    let same : length c.seal.new.body ≡ length old = c.seal.auto.body ∙ ap length c.as_mut_slice.ensures.value in
    c.seal.ensures.tag words key aad ready
    ∙ ap (tag_of (cipher words key) c.args.vector.now aad) (sym (overwritten_whole old c.seal.new.body same))
