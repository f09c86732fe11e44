use Rattle.std.proofs.Common.{◌≡◌, ℕ, ◌≤◌, ◌==◌, List, Option, sym, ◌∙◌, ap, subst, length}
use Rattle.std.proofs.lemmas.Bool.{eqb-true}
use Rattle.std.proofs.lemmas.List.Quantifiers.{position-Some}
use Rattle.cbor_profile.specs.declared.TheConstants.{BUNDLE_LIMIT}
use Rattle.bp_blocks.specs.declared.block.Block.{Block}
use Rattle.bp_bundle.specs.Shape.{Contents}
use Rattle.bp_bundle.specs.Spelling.{spelling}
use Rattle.bp_bundle.specs.Edits.{with_body}
use Rattle.bpsec_node.specs.Change.{opened_bundle}
use Rattle.bpsec_node.proofs.PutOpened.{bundle_none, bundle_others, bundle_here, if_fits, position_none, position_within}
use Rattle.bpsec_node.proofs.step.put_opened.Goals as goal

pub returns-in-Some-index_of : goal.returns-in-Some-index_of
returns-in-Some-index_of c =
    let found = sym c.index_of.ensures ∙ c.in-Some-index_of.is in
    let same : with_body c.in-Some-index_of.index c.in-Some.body c.args.bundle.now ≡ opened_bundle c.args.number c.args.body c.args.bundle.now =
    bundle_here c.args.bundle.now c.in-Some-index_of.index c.args.number c.in-Some.body c.requires.shape.distinct
    (position_within (λ (block : Block). block.number == c.args.number) c.args.bundle.now.blocks c.in-Some-index_of.index found)
    (λ d. eqb-true _ _ (position-Some (λ (block : Block). block.number == c.args.number) c.args.bundle.now.blocks c.in-Some-index_of.index d found).1)
    ∙ ap (λ (b : Option (List ℕ)). opened_bundle c.args.number b c.args.bundle.now) (sym c.in-Some.is) in
    let fits : length (spelling (with_body c.in-Some-index_of.index c.in-Some.body c.args.bundle.now)) ≤ BUNDLE_LIMIT = subst (λ (b : Contents). length (spelling b) ≤ BUNDLE_LIMIT) (sym same) c.requires.small.within in
    if_fits c.replace_body-old.result _ _ c.replace_body-old.ensures.ok c.replace_body-old.ensures.exact fits ∙ same

pub returns-in_default-index_of : goal.returns-in_default-index_of
returns-in_default-index_of c =
    sym (ap (λ (b : Option (List ℕ)). opened_bundle c.args.number b c.args.bundle.now) c.in-Some.is
    ∙ bundle_others c.args.number c.in-Some.body c.args.bundle.now (position_none (λ (block : Block). block.number == c.args.number) c.args.bundle.now.blocks (sym c.index_of.ensures ∙ c.in_default-index_of.is)))

pub returns-in_default : goal.returns-in_default
returns-in_default c = sym (ap (λ (b : Option (List ℕ)). opened_bundle c.args.number b c.args.bundle.now) c.in_default.is ∙ bundle_none c.args.number c.args.bundle.now)
