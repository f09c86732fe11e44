-- What is the same in two sessions in which operations were handed the same keys.
use Rattle.std.proofs.Common.{◌≡◌, ◌↔◌, ℕ, List, [], Option, sym, ◌∙◌, ap, subst}
use Rattle.std.specs.Prelude.{Contains}
use Rattle.bp_bundle.specs.Shape.{Contents}
use Rattle.bpsec_asb.specs.declared.operation.OpId.{OpId}
use Rattle.bpsec_asb.specs.Operations.{NumbersAreDistinct}
use Rattle.bpsec_asb.proofs.Members.{Among, among, contains}
use Rattle.bpsec_policy.specs.Rules as policies
use Rattle.bpsec_node.specs.Situation.{Meaning, Situation}
use Rattle.bpsec_node.specs.Agree.{with_keys, Agree}
use Rattle.bpsec_node.specs.Alike.{Alike}
use Rattle.bpsec_node.specs.AllOperations.{all_operations}
use Rattle.bpsec_node.specs.Order.{ready, Legal}
use Rattle.bpsec_node.specs.Outcome.{outcome}
use Rattle.bpsec_node.specs.Verdict.{step_verdict}
use Rattle.bpsec_node.specs.View.{Progress, key_in, situation}
use Rattle.bpsec_node.proofs.Ended.{all_done}
use Rattle.bpsec_node.proofs.Legal.{done_among_all, done_verdict_same}
use Rattle.bpsec_node.proofs.OutcomeKeys.{all_same}
use Rattle.bpsec_node.proofs.OutcomeSame.{outcome_same}

-- where nothing is ready, keys that agree on what was done agree on all operations
all_agree : (s : Situation) (key : OpId → Option (List ℕ)) (done : List OpId) → ready s done ≡ [] → Agree s key done → Agree s key (all_operations s)
all_agree s key done none agree op there = agree op (contains done op (all_done s done op none (among (all_operations s) op there)))

pub outcome_by_done : (s : Situation) (key : OpId → Option (List ℕ)) (done : List OpId) → NumbersAreDistinct s.bundle.blocks → ready s done ≡ [] → Agree s key done
    → outcome s ≡ outcome (with_keys s key)
outcome_by_done s key done distinct none agree = outcome_same s key distinct (all_agree s key done none agree)

-- ---- two sessions

module _ (suite : Meaning) (p q : Progress) (alike : Alike p q) where
  other_is : with_keys (situation suite p) (key_in q.done q.keys) ≡ situation suite q
  unfolding situation
  other_is =
      ap (λ (bundle : Contents). record { bundle = bundle; policy = p.policy; suite = suite; key = key_in q.done q.keys }) alike.received
      ∙ ap (λ (policy : policies.Parts). record { bundle = q.received; policy = policy; suite = suite; key = key_in q.done q.keys }) alike.policy

  agree : Agree (situation suite p) (key_in q.done q.keys) p.done
  unfolding situation
  agree op there = alike.keys op there

  distinct_there : NumbersAreDistinct p.received.blocks → NumbersAreDistinct (situation suite p).bundle.blocks
  unfolding situation
  distinct_there distinct = distinct

  pub alike_outcome : NumbersAreDistinct p.received.blocks → ready (situation suite p) p.done ≡ [] → outcome (situation suite p) ≡ outcome (situation suite q)
  alike_outcome distinct none = outcome_by_done (situation suite p) (key_in q.done q.keys) p.done (distinct_there distinct) none agree ∙ ap outcome other_is

  pub alike_verdict : (op : OpId) → Legal (situation suite p) p.done → Contains p.done op → step_verdict (situation suite p) op ≡ step_verdict (situation suite q) op
  alike_verdict op legal there =
      done_verdict_same (situation suite p) (key_in q.done q.keys) p.done op agree legal (among p.done op there) ∙ ap (λ (s : Situation). step_verdict s op) other_is

  all_alike : ready (situation suite p) p.done ≡ [] → all_operations (situation suite p) ≡ all_operations (situation suite q)
  all_alike none = all_same (situation suite p) (key_in q.done q.keys) (all_agree (situation suite p) (key_in q.done q.keys) p.done none agree) ∙ ap all_operations other_is

  pub alike_done : (op : OpId) → Legal (situation suite p) p.done → ready (situation suite p) p.done ≡ [] → Legal (situation suite q) q.done → ready (situation suite q) q.done ≡ []
      → Contains p.done op ↔ Contains q.done op
  alike_done op p_legal p_none q_legal q_none = (
    (λ there.
        let all = done_among_all (situation suite p) p.done op p_legal (among p.done op there) in
        contains q.done op (all_done (situation suite q) q.done op q_none (subst (λ (ops : List OpId). Among op ops) (all_alike p_none) all))),
    (λ there.
        let all = done_among_all (situation suite q) q.done op q_legal (among q.done op there) in
        contains p.done op (all_done (situation suite p) p.done op p_none (subst (λ (ops : List OpId). Among op ops) (sym (all_alike p_none)) all))),
  )
