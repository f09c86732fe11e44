use Rattle.std.proofs.Common.{length, ap, sym, ◌∙◌}
use Rattle.bp_bundle.specs.Shape.{Contents}
use Rattle.bp_bundle.specs.Spelling.{spelling}
use Rattle.bp_bundle.specs.Tokens.{Cursor}
use Rattle.bp_bundle.specs.FirstFault.{read_bundle}
use Rattle.bp_bundle.proofs.HeadsAsSpelled.{here, ok_is}
use Rattle.bp_bundle.proofs.laws.bundles_have_one_spelling.Goals as goal

pub returns : goal.returns
returns c = λ a b x y fits fits' e.
    let again = c.bundles_are_read_as_spelled.ensures.again in
    let same = ok_is (a, here (length (spelling a)) x) (b, here (length (spelling b)) y) (sym (again a x fits) ∙ (ap read_bundle e ∙ again b y fits')) in
    (ap (λ (r : Contents × Cursor). r.0) same, ap (λ (r : Contents × Cursor). r.1.rest) same)
