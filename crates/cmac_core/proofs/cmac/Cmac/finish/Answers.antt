use Rattle.std.proofs.Common.{◌≡◌, List, ℕ, sym, ap, ◌∙◌, subst}
use Rattle.aes_core.specs.Cipher.{cipher}
use Rattle.cmac_core.specs.Cmac.{cmac}
use Rattle.cmac_core.specs.State.{CmacState, HasTaken}
use Rattle.cmac_core.proofs.StateLemmas.{tag_is}
use Rattle.cmac_core.proofs.cmac.Cmac.finish.Goals as goal

pub returns : goal.returns
returns g c = λ message.
    let s : CmacState = record { key = c.self.inside.aes; chain = c.self.inside.chain; kept = c.self.inside.kept; used = c.self.inside.used } in
    let tag = c.encrypt.new.block in
    subst (λ (v : CmacState). HasTaken g.row.NK v message → tag ≡ cmac (cipher g.row.NK v.key) message) c.self.view_is
    (λ held. tag_is g.row.NK s message c.last_block-last.result tag held c.last_block-last.ensures
    (c.encrypt.ensures.encrypted ∙ ap (cipher g.row.NK s.key) c.add_bytes.ensures))
