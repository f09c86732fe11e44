-- What securing answers.
use Rattle.std.specs.Prelude.{List, Option}
use Rattle.bp_bundle.specs.Shape.{Contents}
use Rattle.bpsec_policy.specs.declared.ring.NamedKey.{NamedKey}
use Rattle.bpsec_plan.specs.declared.item.Item.{Item}
use Rattle.bpsec_facts.specs.declared.reason.Refusal.{Refusal}
use Rattle.bpsec_facts.specs.Facts.{facts_of}
use Rattle.bpsec_facts.specs.Refusal.{early_refusal}
use Rattle.bpsec_facts.specs.Answer.{long_refusal, or_next}
use Rattle.bpsec_secure.specs.Secured.{secured}

-- the first reason that holds, and where
unfoldable pub refusal : Contents → List Item → List NamedKey → Option Refusal
refusal bundle items ring =
    let facts = facts_of bundle items ring in or_next (early_refusal facts) (long_refusal (secured facts))

-- the bundle that the plan makes
unfoldable pub secured_bundle : Contents → List Item → List NamedKey → Contents
secured_bundle bundle items ring = secured (facts_of bundle items ring)
