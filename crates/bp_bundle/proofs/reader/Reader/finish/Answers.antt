use Rattle.std.proofs.Common.{◌≡◌, ◌+◌, length, refl, sym, ◌∙◌, ap, arith}
use Rattle.bp_bundle.proofs.ReaderAnswers.{BundleLaws, finishes_so}
use Rattle.bp_bundle.proofs.reader.Reader.finish.Goals as goal

pub returns-clause-means : goal.returns-clause-means
returns-clause-means c = λ taken took.
    let laws : BundleLaws = record { again = c.bundles_are_read_as_spelled.ensures.again; means = c.bundles_are_read_as_spelled.ensures.means } in
    finishes_so laws taken c.args.self (c.args.self.place + c.len.result) c.concluded.result took (ap (λ n. c.args.self.place + n) c.len.ensures) c.concluded.ensures.concludes
