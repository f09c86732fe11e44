-- A step of a session that covers a block.
use Rattle.std.proofs.Common.{◌≡◌, ◌≢◌, ℕ, true, false, ◌&&◌, not, cond, List, [], ◌∷◌, ◌++◌, Option, Some, None, refl, sym, ◌∙◌, ap}
use Rattle.std.specs.Prelude.{Contains, is_some, option_to_list}
use Rattle.std.proofs.lemmas.List.Elements.{All-contains}
use Rattle.bp_blocks.specs.declared.block.Block.{Block}
use Rattle.bp_bundle.specs.Shape.{Contents}
use Rattle.bp_bundle.specs.Spelling.{IsBundle, IsNumbered}
use Rattle.bpsec_asb.specs.declared.operation.Service.{Service}
use Rattle.bpsec_asb.specs.declared.operation.Service.TheVariants.{Bcb}
use Rattle.bpsec_asb.specs.declared.operation.OpId.{OpId}
use Rattle.bpsec_asb.proofs.Members.{contains}
use Rattle.bpsec_node.specs.declared.event.Verdict.{Verdict}
use Rattle.bpsec_node.specs.declared.held.Held.{Held}
use Rattle.bpsec_node.specs.declared.over.Over.{Over}
use Rattle.bpsec_node.specs.Situation.{Meaning, Situation}
use Rattle.bpsec_node.specs.Agree.{with_keys, Agree}
use Rattle.bpsec_node.specs.Site.{Site, block_at, site, role_over, judge_over, open_over}
use Rattle.bpsec_node.specs.Plain.{may_be_covered, cover, is_acceptor, is_right, opens, is_opened}
use Rattle.bpsec_node.specs.Verdict.{is_bib, is_blocked, step_verdict}
use Rattle.bpsec_node.specs.Order.{ready, shown}
use Rattle.bpsec_node.specs.Over.{site_in, target_in, verdict_over, opened_over}
use Rattle.bpsec_node.specs.Session.{is_covering, IsSession}
use Rattle.bpsec_node.specs.Lists.{without_op, without_number, new_ops, ready_among}
use Rattle.bpsec_node.specs.Change.{held_after, stuck_after, opened_bundle}
use Rattle.bpsec_node.specs.View.{Progress, situation, after_step}
use Rattle.bpsec_node.proofs.Agree.{block_at_number}
use Rattle.bpsec_node.specs.Longer.{NeverLonger}
use Rattle.bpsec_node.proofs.Sited.{bcb_site}
use Rattle.bpsec_node.proofs.ReadyOps.{IsReady, ready_is, ready_undone, operation_cipher, ready_site_after}
use Rattle.bpsec_node.proofs.Opened.{service, may, opened, target_block}
use Rattle.bpsec_node.proofs.Uncovered.{kept_covering, covering_shape}
use Rattle.bpsec_node.proofs.Steps.{over_verdict, next_key, next_agrees, next_last, next_keyed}

module _ (suite : Meaning) (p : Progress) (now : Contents) (held : List Held) (sealed stuck : List ℕ) (open_ops ready_ops : List OpId) (verdicts : List Verdict)
    (session : IsSession suite p now held sealed stuck open_ops ready_ops verdicts) (op : OpId) (key : Option (List ℕ)) (there : Contains (ready (situation suite p) p.done) op)
    (covering : is_covering (situation suite p) p.done op ≡ true) where
  abbrev pub keys' : OpId → Option (List ℕ)
  keys' = next_key suite p now held sealed stuck open_ops ready_ops verdicts session op key there

  pub agrees : Agree (situation suite p) keys' p.done
  agrees = next_agrees suite p now held sealed stuck open_ops ready_ops verdicts session op key there

  -- the body that the operation opens
  abbrev pub next_body : Option (List ℕ)
  next_body = opened (situation suite p) keys' p.done now held sealed stuck open_ops ready_ops verdicts session.kept agrees op there covering

  abbrev pub next_block : Block
  next_block = (target_block (situation suite p) keys' p.done now held sealed stuck open_ops ready_ops verdicts session.kept agrees op there covering).0

  pub next_service : op.service ≡ Bcb
  next_service = service (situation suite p) keys' p.done now held sealed stuck open_ops ready_ops verdicts session.kept agrees op there covering

  is : IsReady (situation suite p) p.done op
  is = ready_is (situation suite p) p.done op session.kept.shape.distinct there

  block_is : block_at (situation suite p).bundle.blocks op.target ≡ Some next_block
  block_is = (target_block (situation suite p) keys' p.done now held sealed stuck open_ops ready_ops verdicts session.kept agrees op there covering).1

  pub next_canonical : op.target ≢ 0
  next_canonical zero =
      let b = block_at_number (situation suite p).bundle.blocks op.target next_block block_is in
      let n : IsNumbered next_block = All-contains IsNumbered (situation suite p).bundle.blocks next_block session.kept.shape.numbered (contains (situation suite p).bundle.blocks next_block b.0) in
      n.0 (b.1 ∙ zero)

  -- the site, as it was received
  received_site : site (shown (situation suite p) p.done) op ≡ site (situation suite p).bundle op
  received_site = bcb_site (situation suite p) p.done op session.kept.shape.distinct session.kept.begun.once (operation_cipher (situation suite p) op next_service is.operation) (ready_undone (situation suite p).bundle.blocks p.done op is.test)

  target_is : (site (situation suite p).bundle op).target ≡ block_at (situation suite p).bundle.blocks op.target
  unfolding site
  target_is = refl

  pub next_target : (over : Over) → site_in over ≡ site (shown (situation suite p) p.done) op → target_in over ≡ Some next_block
  next_target over at = ap (λ (x : Site). x.target) (at ∙ received_site) ∙ (target_is ∙ block_is)

  pub next_may : (over : Over) → site_in over ≡ site (shown (situation suite p) p.done) op → may_be_covered (target_in over) ≡ true
  next_may over at = ap may_be_covered (next_target over at ∙ sym block_is) ∙ may (situation suite p) keys' p.done now held sealed stuck open_ops ready_ops verdicts session.kept agrees op there covering

  key_is : keys' op ≡ key
  unfolding situation
  key_is = next_last suite p now held sealed stuck open_ops ready_ops verdicts session op key there

  by_opens : (s : Situation) (site' : Site) (k : Option (List ℕ)) → s.key op ≡ k → site s.bundle op ≡ site'
      → cond (is_acceptor (role_over s.policy site' op) && is_right (judge_over s.suite s.policy site' op k)) (Some (open_over s.suite site' op k)) None
      ≡ cond (opens s op) (Some (open_over s.suite (site s.bundle op) op (s.key op))) None
  unfolding opens
  by_opens s site' k same at =
      ap (λ (x : Site). cond (is_acceptor (role_over s.policy x op) && is_right (judge_over s.suite s.policy x op k)) (Some (open_over s.suite x op k)) None) (sym at)
      ∙ ap (λ (x : Option (List ℕ)). cond (is_acceptor (role_over s.policy (site s.bundle op) op) && is_right (judge_over s.suite s.policy (site s.bundle op) op x)) (Some (open_over s.suite (site s.bundle op) op x)) None) (sym same)

  pub next_opened : (over : Over) → over.op ≡ op → site_in over ≡ site (shown (situation suite p) p.done) op → opened_over suite p.policy over key ≡ next_body
  unfolding situation
  next_opened over same at =
      ap (λ (o : OpId). cond (is_acceptor (role_over p.policy (site_in over) o) && is_right (judge_over suite p.policy (site_in over) o key)) (Some (open_over suite (site_in over) o key)) None) same
      ∙ by_opens (with_keys (situation suite p) keys') (site_in over) key key_is (sym (at ∙ received_site))

  unblocked : false ≡ is_blocked (with_keys (situation suite p) keys') op
  unfolding is_blocked
  unblocked = ap (λ (v : Service). is_bib v && (is_some (cover (situation suite p).bundle.blocks op.target) && not (is_opened (with_keys (situation suite p) keys') op.target))) (sym next_service)

  pub covering_verdict : (over : Over) → over.op ≡ op → site_in over ≡ site (shown (situation suite p) p.done) op → verdict_over suite p.policy over false key ≡ step_verdict (situation suite (after_step p op key)) op
  unfolding situation
  covering_verdict over same at =
      over_verdict (situation suite (after_step p op key)) over op false key same
      (at ∙ ready_site_after (situation suite p) keys' p.done op session.kept.shape.distinct session.kept.begun.once agrees is)
      (next_last suite p now held sealed stuck open_ops ready_ops verdicts session op key there)
      unblocked

  pub next_shape : NeverLonger suite → IsBundle (opened_bundle op.target next_body now)
  unfolding situation
  next_shape never = covering_shape (situation suite p) keys' p.done now held sealed stuck open_ops ready_ops verdicts session.kept agrees op there covering never

  pub next_covering : (verdict : Verdict) → NeverLonger suite → verdict ≡ step_verdict (situation suite (after_step p op key)) op
      → IsSession suite (after_step p op key) (opened_bundle op.target next_body now) (held ++ option_to_list (held_after next_block.kind op.target next_body)) (without_number op.target sealed)
      (stuck ++ option_to_list (stuck_after op.target next_body)) (without_op op open_ops ++ new_ops (held_after next_block.kind op.target next_body))
      (ready_among (without_number op.target sealed) (without_op op open_ops ++ new_ops (held_after next_block.kind op.target next_body))) (verdicts ++ verdict ∷ [])
  unfolding situation
  next_covering verdict never is' = record {
    keyed = next_keyed suite p now held sealed stuck open_ops ready_ops verdicts session op key there;
    kept = kept_covering (situation suite p) keys' p.done now held sealed stuck open_ops ready_ops verdicts session.kept agrees op there covering verdict never is';
  }
