use Rattle.std.proofs.Common.{◌≤◌, ◌^◌, [], length, ap, ◌∙◌, arith}
use Rattle.hmac_core.specs.Hmac.{hmac, code_under}
use Rattle.bpsec_scope.specs.Covered.{scoped, ippt}
use Rattle.bpsec_scope.specs.View.{parts_of}
use Rattle.bpsec_context.proofs.hmac_code.keyed.Goals as goal

pub returns-clause-code : goal.returns-clause-code
unfolding hmac
returns-clause-code g c =
    let message = ippt (scoped (parts_of c.args.covered.now) c.args.scope) in
    let few : length message ≤ 2 ^ 59 = omega (arith, c.ippt.ensures.short, c.requires.body) in
    let fed = c.ippt.ensures.stands [] c.start-hmac.ensures.empty (omega arith) in
    let key = c.ippt.ensures.fixed ∙ c.start-hmac.ensures.key in
    c.finish.ensures.code message fed ∙ ap (λ block. code_under g.H.Hash.digest block message) key
