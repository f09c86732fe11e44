use Rattle.std.proofs.Common.{refl, sym, ap, ◌∙◌, subst}
use Rattle.aes_core.specs.Cipher.{cipher}
use Rattle.cmac_core.specs.State.{CmacState, HasTaken}
use Rattle.cmac_core.proofs.StateLemmas.{HasTaken_room, HasTaken_full}
use Rattle.cmac_core.proofs.cmac.Cmac.take.Goals as goal

pub returns-then-self-eq16-clause-taken : goal.returns-then-self-eq16-clause-taken
returns-then-self-eq16-clause-taken g c = λ message held.
    let s : CmacState = record { key = c.self.inside.aes; chain = c.self.inside.chain; kept = c.self.inside.kept; used = c.self.inside.used } in
    let was : HasTaken g.row.NK s message = subst (λ (v : CmacState). HasTaken g.row.NK v message) (sym c.self.view_is) held in
    HasTaken_full g.row.NK s _ message c.encrypt.new.block c.args.byte was c.self.told.1 c.if-self-eq16.true
    (c.encrypt.ensures.encrypted ∙ ap (cipher g.row.NK s.key) c.add_bytes.ensures) refl

pub returns-else-self-eq16-clause-taken : goal.returns-else-self-eq16-clause-taken
returns-else-self-eq16-clause-taken g c = λ message held.
    let s : CmacState = record { key = c.self.inside.aes; chain = c.self.inside.chain; kept = c.self.inside.kept; used = c.self.inside.used } in
    let was : HasTaken g.row.NK s message = subst (λ (v : CmacState). HasTaken g.row.NK v message) (sym c.self.view_is) held in
    HasTaken_room g.row.NK s _ message c.args.byte was c.self.told.1 c.self.invariant c.if-self-eq16.false refl
