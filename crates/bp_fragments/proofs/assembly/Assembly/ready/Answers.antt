use Rattle.std.proofs.Common.{ap, sym, ◌∙◌, length}
use Rattle.std.specs.Prelude.{is_none}
use Rattle.std.specs.List.{position}
use Rattle.bp_fragments.specs.Agreement.{Gathered}
use Rattle.bp_fragments.proofs.Finishing.{empty_so, gap_so, ready_so}
use Rattle.bp_fragments.proofs.assembly.Assembly.ready.Goals as goal

pub returns-in-None : goal.returns-in-None
returns-in-None c = λ pieces took. empty_so c.args.self.now pieces took (ap (λ (g : Gathered). g.primary) (sym c.self.view_is) ∙ c.in-None.is)

pub returns-in-Some-gap : goal.returns-in-Some-gap
returns-in-Some-gap c = λ pieces took.
    gap_so c.args.self.now pieces c.in-Some.first c.in-Some-gap.place took (ap (λ (g : Gathered). g.primary) (sym c.self.view_is) ∙ c.in-Some.is) (c.in-Some-gap.ensures ∙ ap (λ (g : Gathered). position is_none g.known) c.self.view_is)

pub returns-in-None-gap : goal.returns-in-None-gap
returns-in-None-gap c = λ pieces took.
    ready_so c.whole_within.result c.args.self.now c.self.inside.frame c.len.result pieces c.in-Some.first took (ap (λ (g : Gathered). g.primary) (sym c.self.view_is) ∙ c.in-Some.is) (c.in-None-gap.ensures ∙ ap (λ (g : Gathered). position is_none g.known) c.self.view_is)
    (ap (λ (g : Gathered). g.frame) c.self.view_is) (c.len.ensures ∙ ap (λ (g : Gathered). length g.known) c.self.view_is) c.whole_within.ensures
