use Rattle.std.proofs.Common.{sym, ◌∙◌}
use Rattle.std.specs.Prelude.{[], unwrap_or}
use Rattle.std.specs.Option.{option_copied}
use Rattle.bpsec_scope.specs.Covered.{scoped, aad}
use Rattle.bpsec_scope.specs.View.{parts_of}
use Rattle.bpsec_context.specs.Keys.{working_key}
use Rattle.bpsec_context.specs.Confidentiality.{variant_of, wrapped_of, flags_of, words_of, enciphered, tag_over}
use Rattle.bpsec_context.proofs.BodyLemmas.{opened_is, under}
use Rattle.bpsec_context.proofs.gcm_context.GcmContextCipherContext.unseal.Goals as goal

pub returns-then-unseal-clause-body : goal.returns-then-unseal-clause-body
unfolding enciphered tag_over
returns-then-unseal-clause-body c =
    let key = option_copied c.args.key in
    let parameters = c.args.parameters.now in
    let results = c.args.results.now in
    let parts = parts_of c.args.covered.now in
    let body = c.args.body.now in
    let opening = c.in-Ok.opening in
    let whole = c.as_slice.ensures in
    let free = rw whole at c.in-Ok.ensures.ok in
    let tag = rw whole at c.in-Ok.ensures.tag in
    let cut = rw whole at c.in-Ok.ensures.ciphertext in
    let words = words_of (variant_of parameters) in
    let working = working_key (wrapped_of parameters) (unwrap_or key []) in
    let associated = aad (scoped parts (flags_of parameters)) in
    let right = rw (tag, c.in-Ok.ensures.vector.0, cut.1) at c.unseal.ensures.right words working associated c.in-Ok.ensures.ready in
    let made = under c.unseal.result _ (c.unseal.ensures.opened words working associated c.in-Ok.ensures.ready) c.if-unseal.true in
    (rw (c.in-Ok.ensures.vector.0, cut.1) at made) ∙ sym (opened_is key parameters results parts body free (sym right ∙ c.if-unseal.true))
