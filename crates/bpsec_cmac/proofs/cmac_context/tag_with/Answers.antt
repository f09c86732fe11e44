use Rattle.std.proofs.Common.{◌≤◌, ◌-◌, ◌^◌, [], length, ap, ◌∙◌, arith}
use Rattle.aes_core.specs.Cipher.{cipher}
use Rattle.cmac_core.specs.Cmac.{cmac}
use Rattle.bpsec_scope.specs.Covered.{scoped, ippt}
use Rattle.bpsec_scope.specs.View.{parts_of}
use Rattle.bpsec_cmac.proofs.cmac_context.tag_with.Goals as goal

pub returns-clause-tag : goal.returns-clause-tag
returns-clause-tag c =
    let message = ippt (scoped (parts_of c.args.covered.now) c.args.scope) in
    let few : length message ≤ 2 ^ 64 - 1 = omega (arith, c.ippt.ensures.short, c.requires.body) in
    let fed = c.ippt.ensures.stands [] c.start-cmac.ensures.none (omega arith) in
    let key = c.ippt.ensures.fixed ∙ (c.start-cmac.ensures.key ∙ c.in-Some.ensures.key) in
    c.finish.ensures message fed ∙ ap (λ key. cmac (cipher 4 key) message) key
