use Rattle.std.proofs.Common.{◌≡◌, ◌≤◌, length, sym, ap, subst, ◌∙◌, arith}
use Rattle.cbor_profile.specs.declared.TheConstants.{BUNDLE_LIMIT}
use Rattle.bp_bundle.specs.Shape.{Contents}
use Rattle.bp_bundle.specs.Spelling.{IsBundle, spelling}
use Rattle.bp_bundle.specs.Edits.{with_crc}
use Rattle.bp_bundle.proofs.EditsLeaveBundles.{SameKeys, changed, crc_keys}
use Rattle.bp_bundle.proofs.bundle.Bundle.set_crc.Goals as goal

pub invariant_of-self : goal.invariant_of-self
invariant_of-self c =
    let old : Contents = record { primary = c.self.inside.primary; blocks = c.self.inside.blocks } in
    let new : Contents = record { primary = c.exchange_crc.new.primary; blocks = c.exchange_crc.new.blocks } in
    let is : new ≡ with_crc c.args.number c.args.crc c.args.self.now = c.exchange_crc.ensures ∙ ap (with_crc c.args.number c.args.crc) c.self.view_is in
    let same : SameKeys old.blocks new.blocks = rw (ap (λ (b : Contents). b.blocks) c.exchange_crc.ensures) (crc_keys c.args.number c.args.crc old) in
    let room : length (spelling new) ≤ BUNDLE_LIMIT = subst (λ (b : Contents). length (spelling b) ≤ BUNDLE_LIMIT) (sym is) c.requires.room in
    changed old new c.spelled_size-self-inside.result c.self.invariant.0 same c.spelled_size-self-inside.ensures.primary (rw c.items.ensures at c.spelled_size-self-inside.ensures.blocks) (rw c.items.ensures at c.spelled_size-self-inside.ensures.size) room
