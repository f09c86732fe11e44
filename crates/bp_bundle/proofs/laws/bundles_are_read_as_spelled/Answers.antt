use Rattle.std.proofs.Common.{refl, ◌∙◌, zero-add}
use Rattle.bp_bundle.specs.FirstFault.{read_bundle}
use Rattle.bp_bundle.proofs.ReadPrimaryIsSpelled.{Laws}
use Rattle.bp_bundle.proofs.ReadBundleIsSpelled.{bundle_means}
use Rattle.bp_bundle.proofs.SpelledIsRead.{bundle_again}
use Rattle.bp_bundle.proofs.laws.bundles_are_read_as_spelled.Goals as goal

pub returns-clause-again : goal.returns-clause-again
unfolding read_bundle
returns-clause-again c = λ bundle rest fits.
    let laws : Laws = record {
      heads = record { again = c.tokens_are_read_as_spelled.ensures.again; means = c.tokens_are_read_as_spelled.ensures.means };
      ids = record { again = c.ids_are_read_as_spelled.ensures.again; means = c.ids_are_read_as_spelled.ensures.means };
    } in
    bundle_again laws bundle rest fits

pub returns-clause-means : goal.returns-clause-means
unfolding read_bundle
returns-clause-means c = λ bytes bundle after fits e.
    let laws : Laws = record {
      heads = record { again = c.tokens_are_read_as_spelled.ensures.again; means = c.tokens_are_read_as_spelled.ensures.means };
      ids = record { again = c.ids_are_read_as_spelled.ensures.again; means = c.ids_are_read_as_spelled.ensures.means };
    } in
    let m = bundle_means laws (record { at = 0; rest = bytes }) (bundle, after) fits e in
    (m.shape refl, m.took.parts, m.took.moved ∙ zero-add _)
