use Rattle.std.proofs.Common.{◌≡◌, ℕ, List, [], ◌∷◌, ◌++◌, sym, ◌∙◌, append_assoc}
use Rattle.std.specs.Prelude.{codes}
use Rattle.std.specs.Fmt.{decimal}
use Rattle.bpsec_answer.specs.Lines.{double_line}
use Rattle.bpsec_answer.proofs.lines.double_line.Goals as goal

written : (target first second : ℕ)
    → codes "refused bundle twice target=" ++ (decimal target ++ (codes " blocks=" ++ (decimal first ++ (codes "," ++ (decimal second ++ 10 ∷ []))))) ≡ double_line target first second
unfolding double_line
written target first second = sym (simp append_assoc)

pub returns : goal.returns
returns c = c.in_ok-format.ensures.ok ∙ written c.args.target c.args.first c.args.second
