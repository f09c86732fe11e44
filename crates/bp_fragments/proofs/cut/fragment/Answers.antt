use Rattle.bp_fragments.proofs.Cutting.{refused_so}
use Rattle.bp_fragments.proofs.cut.fragment.Goals as goal

pub returns-in-Some : goal.returns-in-Some
returns-in-Some c = record { means = refused_so c.args.bundle.now c.args.size c.in-Some.fault c.in-Some.ensures }
