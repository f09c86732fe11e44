use Rattle.std.proofs.Common.{◌≡◌, length, drop, ◌∙◌}
use Rattle.std.proofs.lemmas.List.{take_at, length-take-le}
use Rattle.bpsec_context.proofs.BodyLemmas.{map_true}
use Rattle.bpsec_context.proofs.opening.unseal_front.Goals as goal

pub returns-clause-opened : goal.returns-clause-opened
returns-clause-opened c = λ words key aad ready.
    let old = c.args.body.now in
    let len = c.args.len in
    let new = c.unseal.new.body in
    let same : length new ≡ len = c.unseal.auto.body ∙ length-take-le len old c.requires.within in
    map_true c.unseal.result _ _ (λ is. take_at new (drop len old) len same ∙ is) (c.unseal.ensures.opened words key aad ready)
