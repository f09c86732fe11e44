use Rattle.std.proofs.Common.{◌∙◌, sym, ap}
use Rattle.std.specs.Prelude.{Some}
use Rattle.bpsec_facts.specs.View.{facts}
use Rattle.bpsec_secure.specs.Secured.{secured}
use Rattle.bpsec_facts.proofs.AnswerLemmas.{long_refused}
use Rattle.bpsec_secure.proofs.LongLemmas.{long_bundle}
use Rattle.bpsec_secure.proofs.securing.applied.Goals as goal

pub returns-in-None : goal.returns-in-None
returns-in-None g c =
    let long = rw c.in-None.is at c.in_ok-primary.ensures.long in
    long_refused (secured (facts c.args.case.now)) (long_bundle (facts c.args.case.now) long) ∙ ap Some (sym c.too_long.ensures)
