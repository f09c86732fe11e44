use Rattle.std.proofs.Common.{◌≡◌, length, take, ap, ◌∙◌}
use Rattle.aes_core.specs.Cipher.{cipher}
use Rattle.gcm_core.specs.Gcm.{ciphered}
use Rattle.bpsec_context.proofs.BodyLemmas.{overwritten_whole, map_true}
use Rattle.bpsec_context.proofs.opening.Opening.unseal.Goals as goal

pub returns-then-right-clause-opened : goal.returns-then-right-clause-opened
returns-then-right-clause-opened c = λ words key aad ready.
    let old = c.args.body.now in
    let len = c.args.self.len in
    let new = c.unseal_front-right.new.body in
    let same : length new ≡ length old = c.unseal_front-right.auto.body ∙ ap length c.as_mut_slice.ensures.value in
    map_true c.unseal_front-right.result _ _
    (λ is.
    c.truncate.ensures
    ∙ (ap (take len) (overwritten_whole old new same)
    ∙ (is ∙ ap (λ body. ciphered (cipher words key) c.args.self.vector.now (take len body)) c.as_mut_slice.ensures.value)))
    (c.unseal_front-right.ensures.opened words key aad ready)
