use Rattle.std.proofs.Common.{refl, sym, subst}
use Rattle.gcm_core.specs.State.{GcmState, HasTaken}
use Rattle.gcm_core.proofs.StateLemmas.{HasTaken_short, HasTaken_full}
use Rattle.gcm_core.proofs.gcm.Gcm.take.Goals as goal

pub returns-then-used-eq15-clause-taken : goal.returns-then-used-eq15-clause-taken
returns-then-used-eq15-clause-taken g c = λ aad held few.
    let s : GcmState = record { key = c.self.inside.aes; hash = c.self.inside.hash; rest = c.self.inside.rest; fed = c.self.inside.fed } in
    let was : HasTaken g.row.NK s aad = subst (λ (v : GcmState). HasTaken g.row.NK v aad) (sym c.self.view_is) held in
    HasTaken_full g.row.NK s _ aad c.args.byte c.absorb-self-inside.result c.self.inside.subkey was few c.self.told c.if-used-eq15.true
    c.self.invariant c.absorb-self-inside.ensures refl

pub returns-else-used-eq15-clause-taken : goal.returns-else-used-eq15-clause-taken
returns-else-used-eq15-clause-taken g c = λ aad held few.
    let s : GcmState = record { key = c.self.inside.aes; hash = c.self.inside.hash; rest = c.self.inside.rest; fed = c.self.inside.fed } in
    let was : HasTaken g.row.NK s aad = subst (λ (v : GcmState). HasTaken g.row.NK v aad) (sym c.self.view_is) held in
    HasTaken_short g.row.NK s _ aad c.args.byte was few c.self.told c.if-used-eq15.false refl
