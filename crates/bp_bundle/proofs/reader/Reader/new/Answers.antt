use Rattle.std.proofs.Common.{◌≡◌, refl}
use Rattle.bp_bundle.proofs.ReaderAnswers.{begins}
use Rattle.bp_bundle.proofs.reader.Reader.new.Goals as goal

pub returns-clause-took : goal.returns-clause-took
returns-clause-took c = begins _ refl refl c.new.ensures refl
