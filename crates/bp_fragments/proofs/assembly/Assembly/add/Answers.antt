use Rattle.std.proofs.Common.{◌≡◌, None, sym}
use Rattle.bp_fragments.specs.Agreement.{refusal}
use Rattle.bp_fragments.proofs.Adding.{added, answers_so, refusal_is}
use Rattle.bp_fragments.proofs.assembly.Assembly.add.Goals as goal

pub returns-in-None-clause-means : goal.returns-in-None-clause-means
returns-in-None-clause-means c = λ pieces took.
    let free : None ≡ refusal pieces c.args.piece = refusal_is c.args.self.now pieces c.args.piece c.part_of-part.result.primary c.part_of-part.result.frame c.part_of-part.result.body None took c.part_of-part.ensures.primary c.part_of-part.ensures.frame c.part_of-part.ensures.body (rw c.self.view_is at c.in-None.ensures) in
    answers_so c.take_in.result _ _ (refusal pieces c.args.piece) c.take_in.ensures.ok c.take_in.ensures.memory
    (λ takes. (sym free, added c.args.self.now c.take_in.new.self pieces c.args.piece took c.part_of-part.ensures.bundle (sym free) (rw (c.part_of-part.ensures.primary, c.part_of-part.ensures.frame, c.part_of-part.ensures.body) at takes)))
