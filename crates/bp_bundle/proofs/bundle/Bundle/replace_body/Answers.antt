use Rattle.std.proofs.Common.{◌≡◌, ◌<◌, ◌≤◌, List, length, min, sym, ap, subst, ◌∙◌, arith}
use Rattle.cbor_profile.specs.declared.TheConstants.{BUNDLE_LIMIT}
use Rattle.bp_blocks.specs.declared.block.Block.{Block}
use Rattle.bp_bundle.specs.Shape.{Contents}
use Rattle.bp_bundle.specs.Spelling.{IsBundle, spelling}
use Rattle.bp_bundle.specs.Edits.{body_at}
use Rattle.bp_bundle.proofs.EditsLeaveBundles.{SameKeys, changed, keys_of_body, body_back, body_there}
use Rattle.bp_bundle.proofs.bundle.Bundle.replace_body.Goals as goal

pub exchange_body-requires : goal.exchange_body-requires
exchange_body-requires c =
    let same = keys_of_body c.args.index c.args.body c.self.inside.blocks in
    omega (arith, same.len, c.requires, ap (λ (b : Contents). length b.blocks) c.self.view_is, ap (λ (bs : List Block). length bs) c.exchange_body-old.ensures.new)

back : (c : goal.After-exchange_body) → c.exchange_body.new.blocks ≡ c.self.inside.blocks
back c =
    let within : c.args.index < length c.self.inside.blocks = omega (arith, c.requires, ap (λ (b : Contents). length b.blocks) c.self.view_is) in
    c.exchange_body.ensures.new ∙ (ap (body_at c.args.index c.exchange_body-old.result) c.exchange_body-old.ensures.new ∙ body_back c.self.inside.blocks c.args.index c.args.body c.exchange_body-old.result within c.exchange_body-old.ensures.old)

pub invariant_of-self : goal.invariant_of-self
invariant_of-self c = rw (back c) c.self.invariant

pub returns-then-size-gt-BUNDLE_LIMIT-clause-err : goal.returns-then-size-gt-BUNDLE_LIMIT-clause-err
returns-then-size-gt-BUNDLE_LIMIT-clause-err c = rw (back c) c.self.view_is

pub returns-then-size-gt-BUNDLE_LIMIT-clause-back : goal.returns-then-size-gt-BUNDLE_LIMIT-clause-back
returns-then-size-gt-BUNDLE_LIMIT-clause-back c =
    let within : c.args.index < length c.self.inside.blocks = omega (arith, c.requires, ap (λ (b : Contents). length b.blocks) c.self.view_is) in
    body_there c.self.inside.blocks c.args.index c.args.body c.exchange_body.result within (rw c.exchange_body-old.ensures.new at c.exchange_body.ensures.old)

pub invariant_of-self-2 : goal.invariant_of-self-2
invariant_of-self-2 c =
    let old : Contents = record { primary = c.self.inside.primary; blocks = c.self.inside.blocks } in
    let new : Contents = record { primary = c.self.inside.primary; blocks = c.exchange_body-old.new.blocks } in
    let same : SameKeys old.blocks new.blocks = rw c.exchange_body-old.ensures.new (keys_of_body c.args.index c.args.body old.blocks) in
    let room : length (spelling new) ≤ BUNDLE_LIMIT = omega (arith, rw c.items.ensures at c.spelled_size-size.ensures.size, c.if-size-gt-BUNDLE_LIMIT.false) in
    changed old new c.spelled_size-size.result c.self.invariant.0 same c.spelled_size-size.ensures.primary (rw c.items.ensures at c.spelled_size-size.ensures.blocks) (rw c.items.ensures at c.spelled_size-size.ensures.size) room
