use Rattle.std.proofs.Common.{ap, ◌∙◌}
use Rattle.std.proofs.lemmas.Bool.{OnTrue_from}
use Rattle.aes_core.specs.Cipher.{cipher}
use Rattle.gcm_core.specs.Gcm.{ciphered}
use Rattle.gcm_core.proofs.StateLemmas.{ciphered_from}
use Rattle.gcm_core.proofs.LawLemmas.{ciphered_twice}
use Rattle.gcm_core.proofs.gcm.Gcm.unseal.Goals as goal

pub returns-then-right-clause-opened : goal.returns-then-right-clause-opened
returns-then-right-clause-opened g c =
    OnTrue_from c.same_bytes-right.result _
    (λ _. ciphered_from g.row.NK _ c.args.self c.args.iv.now c.first_block-first.result c.args.body.now c.run_counter_mode.new.body
    c.self.view_is c.first_block-first.ensures c.run_counter_mode.ensures)

pub returns-then-right-clause-undoes : goal.returns-then-right-clause-undoes
returns-then-right-clause-undoes g c = λ aad plain held sealed. (
  c.if-right.true,
  ciphered_from g.row.NK _ c.args.self c.args.iv.now c.first_block-first.result c.args.body.now c.run_counter_mode.new.body c.self.view_is
      c.first_block-first.ensures c.run_counter_mode.ensures
      ∙ (ap (ciphered (cipher g.row.NK c.args.self.key) c.args.iv.now) sealed.ciphertext_is
      ∙ ciphered_twice (cipher g.row.NK c.args.self.key) c.args.iv.now plain),
)
