use Rattle.std.proofs.Common.{◌≡◌, ℕ, ◌+◌, ◌<◌, List, ◌++◌, length, refl, sym, ◌∙◌, ap, arith}
use Rattle.bp_bundle.proofs.ReaderAnswers.{BundleLaws, IsBytes, feeds_from, none_pending}
use Rattle.bp_bundle.proofs.reader.Reader.feed.Goals as goal

pub returns-then-len-eq0-clause-means : goal.returns-then-len-eq0-clause-means
returns-then-len-eq0-clause-means c = λ taken took.
    let laws : BundleLaws = record { again = c.bundles_are_read_as_spelled.ensures.again; means = c.bundles_are_read_as_spelled.ensures.means } in
    let old = c.args.self.now in
    let piece = c.args.piece.now in
    let fits : IsBytes piece = λ i. omega (arith, c.type_inv.piece i) in
    feeds_from laws taken piece old _ c.settle.new.self c.replace-stage.result piece c.run-outcome.result c.settle.result c.replace-stage.ensures.value (none_pending old.pending piece (sym c.len.ensures ∙ c.if-len-eq0.true)) fits took took.none c.run-outcome.ensures c.settle.ensures

pub returns-clause-means : goal.returns-clause-means
returns-clause-means c = λ taken took.
    let laws : BundleLaws = record { again = c.bundles_are_read_as_spelled.ensures.again; means = c.bundles_are_read_as_spelled.ensures.means } in
    let old = c.args.self.now in
    let piece = c.args.piece.now in
    let fits : IsBytes piece = λ i. omega (arith, c.type_inv.piece i) in
    let all : c.as_slice.result.now ≡ old.pending ++ piece = c.as_slice.ensures ∙ (c.in-Ok.ensures.ok ∙ ap (λ (xs : List ℕ). xs ++ piece) c.replace-all.ensures.value) in
    feeds_from laws taken piece old _ c.settle-2.new.self c.replace-stage.result c.as_slice.result.now c.run-outcome-2.result c.settle-2.result c.replace-stage.ensures.value all fits took took.none c.run-outcome-2.ensures c.settle-2.ensures
