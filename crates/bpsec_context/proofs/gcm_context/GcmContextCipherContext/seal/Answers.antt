use Rattle.std.proofs.Common.{◌≡◌, ap, ◌∙◌, arith}
use Rattle.aes_core.specs.Cipher.{cipher}
use Rattle.gcm_core.specs.Gcm.{ciphered, tag_of}
use Rattle.bpsec_scope.specs.Covered.{scoped, aad}
use Rattle.bpsec_scope.specs.View.{parts_of}
use Rattle.bpsec_context.specs.Keys.{working_key}
use Rattle.bpsec_context.specs.Confidentiality.{variant_of, wrapped_of, flags_of, words_of, enciphered, tag_over}
use Rattle.bpsec_context.proofs.BodyLemmas.{sealed_is}
use Rattle.bpsec_context.proofs.gcm_context.GcmContextCipherContext.seal.Goals as goal

pub returns-in-Ok-sealer_with : goal.returns-in-Ok-sealer_with
unfolding enciphered tag_over
returns-in-Ok-sealer_with c =
    let key = c.args.key.now in
    let parameters = c.args.parameters.now in
    let parts = parts_of c.args.covered.now in
    let body = c.args.body.now in
    let given = c.in-Ok.ensures in
    let free = rw (given.variant, given.wrapped) at c.in-Ok-sealer_with.ensures.ok in
    let ready = rw (given.variant, given.wrapped, given.scope) at c.in-Ok-sealer_with.ensures.ready in
    let words = words_of (variant_of parameters) in
    let working = working_key (wrapped_of parameters) key in
    let associated = aad (scoped parts (flags_of parameters)) in
    let new = c.seal_whole-made.new.body in
    let is_body : new ≡ enciphered key parameters body =
    c.seal_whole-made.ensures.body words working associated ready ∙ ap (λ vector. ciphered (cipher words working) vector body) given.vector
    in
    let is_tag = c.put_tag.ensures ∙ (c.seal_whole-made.ensures.tag words working associated ready ∙ ap (λ vector. tag_of (cipher words working) vector associated new) given.vector) in
    (omega arith, sealed_is key parameters parts body new _ given.ok free is_body is_tag)
