-- A step of a session.
use Rattle.std.proofs.Common.{◌≡◌, ℕ, ◌+◌, inl, inr, Bool, true, false, ◌&&◌, ◌||◌, not, cond, List, [], ◌∷◌, ◌++◌, length, Option, Some, None, refl, sym, ◌∙◌, ap, arith}
use Rattle.std.specs.Prelude.{Contains, is_some}
use Rattle.std.proofs.lemmas.List.{length-append}
use Rattle.bp_bundle.specs.Shape.{Contents}
use Rattle.bpsec_asb.specs.declared.operation.Service.{Service}
use Rattle.bpsec_asb.specs.declared.operation.Service.TheVariants.{Bib, Bcb}
use Rattle.bpsec_asb.specs.declared.operation.OpId.{OpId}
use Rattle.bpsec_asb.proofs.Members.{Among, among}
use Rattle.bpsec_node.specs.declared.event.Verdict.{Verdict}
use Rattle.bpsec_node.specs.declared.held.Held.{Held}
use Rattle.bpsec_node.specs.declared.over.Over.{Over}
use Rattle.bpsec_node.specs.Situation.{Meaning, Situation, is_op, is_among}
use Rattle.bpsec_node.specs.Agree.{with_keys, Agree}
use Rattle.bpsec_node.specs.Site.{Site, site, kind_at, role_over, judge_over}
use Rattle.bpsec_node.specs.Plain.{cover, is_opened}
use Rattle.bpsec_node.specs.AllOperations.{is_open}
use Rattle.bpsec_node.specs.Verdict.{is_bib, site_of, role, judgement, is_blocked, table, verdict_with, step_verdict}
use Rattle.bpsec_node.specs.Order.{is_free, ready, shown}
use Rattle.bpsec_node.specs.Over.{site_in, verdict_over}
use Rattle.bpsec_node.specs.Session.{has, is_covering, IsKept, IsSession}
use Rattle.bpsec_node.specs.Lists.{without_op}
use Rattle.bpsec_node.specs.View.{Progress, key_in, situation, after_step}
use Rattle.bpsec_node.proofs.Members.{is_op_itself}
use Rattle.bpsec_node.proofs.Agree.{ready_bib}
use Rattle.bpsec_node.proofs.Sited.{cover_itself, free_by_cover, uncovered_open}
use Rattle.bpsec_node.proofs.ReadyOps.{IsReady, ready_is, ready_undone, operation_cipher, ready_site_after}
use Rattle.bpsec_node.proofs.Keeping.{stuck_same}
use Rattle.bpsec_node.proofs.Other.{kept_other}

-- ---- keys

key_first : (o one : OpId) (done : List OpId) → Among o (one ∷ done) → is_op o one ≡ false → Among o done
key_first o one done (inl e) other = let t : true ≡ false = sym (ap (is_op o) e ∙ is_op_itself o) ∙ other in absurd cc
key_first o one done (inr there) other = there

pub key_before : (done : List OpId) (keys : List (Option (List ℕ))) (op : OpId) (key : Option (List ℕ)) (o : OpId) → length keys ≡ length done → Among o done
    → key_in done keys o ≡ key_in (done ++ op ∷ []) (keys ++ key ∷ []) o
key_before [] keys op key o same there = elim there [ ]
key_before (one ∷ done) [] op key o same there = absurd (omega (arith, same))
key_before (one ∷ done) (first ∷ keys) op key o same there = by (is_op o one) (λ other. key_before done keys op key o (omega (arith, same)) (key_first o one done there other)) refl
  where
    by : (b : Bool) → (is_op o one ≡ false → key_in done keys o ≡ key_in (done ++ op ∷ []) (keys ++ key ∷ []) o) → is_op o one ≡ b → cond b first (key_in done keys o) ≡ cond b first (key_in (done ++ op ∷ []) (keys ++ key ∷ []) o)
    by true rest is = refl
    by false rest is = rest is

pub key_last : (done : List OpId) (keys : List (Option (List ℕ))) (op : OpId) (key : Option (List ℕ)) → length keys ≡ length done → is_among done op ≡ false → key_in (done ++ op ∷ []) (keys ++ key ∷ []) op ≡ key
key_last [] [] op key same undone = ap (λ b. cond b key None) (is_op_itself op)
key_last [] (first ∷ keys) op key same undone = absurd (omega (arith, same))
key_last (one ∷ done) [] op key same undone = absurd (omega (arith, same))
key_last (one ∷ done) (first ∷ keys) op key same undone = by (is_op op one) (λ u. key_last done keys op key (omega (arith, same)) u) undone
  where
    by : (b : Bool) → (is_among done op ≡ false → key_in (done ++ op ∷ []) (keys ++ key ∷ []) op ≡ key) → (b || is_among done op) ≡ false → cond b first (key_in (done ++ op ∷ []) (keys ++ key ∷ []) op) ≡ key
    by true rest u = absurd cc
    by false rest u = rest u

-- ---- the verdict of a step

pub over_verdict : (s : Situation) (over : Over) (op : OpId) (blocked : Bool) (key : Option (List ℕ)) → over.op ≡ op → site_in over ≡ site_of s op → s.key op ≡ key → blocked ≡ is_blocked s op
    → verdict_over s.suite s.policy over blocked key ≡ step_verdict s op
unfolding step_verdict verdict_with role judgement
over_verdict s over op blocked key same at keyed is =
    ap (λ (o : OpId). table (role_over s.policy (site_in over) o) (kind_at o.target (site_in over).target) o.service false blocked (judge_over s.suite s.policy (site_in over) o key)) same
    ∙ (ap (λ (x : Site). table (role_over s.policy x op) (kind_at op.target x.target) op.service false blocked (judge_over s.suite s.policy x op key)) at
    ∙ (ap (λ b. table (role_over s.policy (site_of s op) op) (kind_at op.target (site_of s op).target) op.service false b (judge_over s.suite s.policy (site_of s op) op key)) is
    ∙ ap (λ k. table (role_over s.policy (site_of s op) op) (kind_at op.target (site_of s op).target) op.service false (is_blocked s op) (judge_over s.suite s.policy (site_of s op) op k)) (sym keyed)))

not_open : (covered opened : Bool) → not (not covered || opened) ≡ (covered && not opened)
not_open true true = refl
not_open true false = refl
not_open false opened = refl

free_if_other : (bib free : Bool) → bib ≡ false → (not bib && not free) ≡ false → free ≡ true
free_if_other true free is e = absurd cc
free_if_other false true is e = refl
free_if_other false false is e = absurd cc

module _ (s : Situation) (key : OpId → Option (List ℕ)) (done : List OpId) (now : Contents) (held : List Held) (sealed stuck : List ℕ) (open_ops ready_ops : List OpId) (verdicts : List Verdict)
    (kept : IsKept s done now held sealed stuck open_ops ready_ops verdicts) (agree : Agree s key done) (op : OpId) (there : Contains (ready s done) op) (covering : is_covering s done op ≡ false) where
  is : IsReady s done op
  is = ready_is s done op kept.shape.distinct there

  blocked_bib : op.service ≡ Bib → has stuck op.target ≡ is_blocked (with_keys s key) op
  unfolding is_blocked is_open
  blocked_bib service =
      let free = (ready_bib s.bundle.blocks done op service is.test).1 in
      kept.stuck_is op.target
      ∙ (stuck_same s key done agree op.target
      ∙ (ap (λ b. b && not (is_open (with_keys s key) op.target)) free
      ∙ (not_open (is_some (cover s.bundle.blocks op.target)) (is_opened (with_keys s key) op.target)
      ∙ ap (λ (v : Service). is_bib v && (is_some (cover s.bundle.blocks op.target) && not (is_opened (with_keys s key) op.target))) (sym service))))

  open_target : op.service ≡ Bcb → is_free s.bundle.blocks done op.target ≡ true → (c : Option OpId) → cover s.bundle.blocks op.target ≡ c → is_open s op.target ≡ true
  open_target service free None at = uncovered_open s op.target at
  open_target service free (Some c) at =
      let e = cover_itself s.bundle.blocks op c kept.begun.once (operation_cipher s op service is.operation) at in
      let t : true ≡ false = sym free ∙ (free_by_cover s.bundle.blocks done op.target c at ∙ (ap (is_among done) e ∙ ready_undone s.bundle.blocks done op is.test)) in
      absurd cc

  blocked_bcb : op.service ≡ Bcb → has stuck op.target ≡ is_blocked (with_keys s key) op
  unfolding is_blocked is_covering
  blocked_bcb service =
      let free : is_free s.bundle.blocks done op.target ≡ true = free_if_other (is_bib op.service) (is_free s.bundle.blocks done op.target) (ap is_bib service) covering in
      kept.stuck_is op.target
      ∙ (ap (λ b. b && not (is_open s op.target)) free
      ∙ (ap not (open_target service free (cover s.bundle.blocks op.target) refl)
      ∙ ap (λ (v : Service). is_bib v && (is_some (cover s.bundle.blocks op.target) && not (is_opened (with_keys s key) op.target))) (sym service)))

  pub blocked_is : has stuck op.target ≡ is_blocked (with_keys s key) op
  blocked_is = by op.service refl
    where
      by : (service : Service) → op.service ≡ service → has stuck op.target ≡ is_blocked (with_keys s key) op
      by Bib e = blocked_bib e
      by Bcb e = blocked_bcb e

-- ---- a step that covers no block

module _ (suite : Meaning) (p : Progress) (now : Contents) (held : List Held) (sealed stuck : List ℕ) (open_ops ready_ops : List OpId) (verdicts : List Verdict)
    (session : IsSession suite p now held sealed stuck open_ops ready_ops verdicts) (op : OpId) (key : Option (List ℕ)) (there : Contains (ready (situation suite p) p.done) op) where
  abbrev pub next_key : OpId → Option (List ℕ)
  next_key = key_in (p.done ++ op ∷ []) (p.keys ++ key ∷ [])

  pub next_agrees : Agree (situation suite p) next_key p.done
  unfolding situation
  next_agrees o in' = key_before p.done p.keys op key o session.keyed (among p.done o in')

  pub next_undone : is_among p.done op ≡ false
  next_undone = ready_undone (situation suite p).bundle.blocks p.done op (ready_is (situation suite p) p.done op session.kept.shape.distinct there).test

  pub next_last : (situation suite (after_step p op key)).key op ≡ key
  unfolding situation
  next_last = key_last p.done p.keys op key session.keyed next_undone

  pub next_keyed : length (p.keys ++ key ∷ []) ≡ length (p.done ++ op ∷ [])
  next_keyed = omega (arith, length-append p.keys (key ∷ []), length-append p.done (op ∷ []), session.keyed)

  pub next_verdict : (covering : is_covering (situation suite p) p.done op ≡ false) (over : Over) (blocked : Bool) → over.op ≡ op → site_in over ≡ site (shown (situation suite p) p.done) op → blocked ≡ has stuck op.target
      → verdict_over suite p.policy over blocked key ≡ step_verdict (situation suite (after_step p op key)) op
  unfolding situation
  next_verdict covering over blocked same at is =
      over_verdict (situation suite (after_step p op key)) over op blocked key same
      (at ∙ ready_site_after (situation suite p) next_key p.done op session.kept.shape.distinct session.kept.begun.once next_agrees (ready_is (situation suite p) p.done op session.kept.shape.distinct there))
      next_last
      (is ∙ blocked_is (situation suite p) next_key p.done now held sealed stuck open_ops ready_ops verdicts session.kept next_agrees op there covering)

  pub next_other : (covering : is_covering (situation suite p) p.done op ≡ false) (verdict : Verdict) → verdict ≡ step_verdict (situation suite (after_step p op key)) op
      → IsSession suite (after_step p op key) now held sealed stuck (without_op op open_ops) (without_op op ready_ops) (verdicts ++ verdict ∷ [])
  unfolding situation
  next_other covering verdict is = record {
    keyed = next_keyed;
    kept = kept_other (situation suite p) next_key p.done now held sealed stuck open_ops ready_ops verdicts session.kept next_agrees op there covering verdict is;
  }
