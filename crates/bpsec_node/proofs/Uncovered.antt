-- A step that covers a block: what is known and ready afterwards.
use Rattle.std.proofs.Common.{◌≡◌, ℕ, inl, inr, ◌⊎◌, Bool, true, false, ◌&&◌, ◌||◌, not, cond, eqb, List, [], ◌∷◌, ◌++◌, map, Option, Some, None, refl, sym, ◌∙◌, ap, subst}
use Rattle.std.specs.Prelude.{Contains, option_to_list}
use Rattle.std.proofs.lemmas.Bool.{eqb-true, eq-eqb}
use Rattle.std.proofs.lemmas.List.{map-append}
use Rattle.std.proofs.lemmas.List.Folds.{list_any-append}
use Rattle.bp_blocks.specs.declared.block.Block.{Block}
use Rattle.bp_bundle.specs.Shape.{Contents}
use Rattle.bp_bundle.specs.Spelling.{IsBundle}
use Rattle.bpsec_asb.specs.declared.operation.Service.{Service}
use Rattle.bpsec_asb.specs.declared.operation.Service.TheVariants.{Bib, Bcb}
use Rattle.bpsec_asb.specs.declared.operation.OpId.{OpId}
use Rattle.bpsec_asb.specs.Known.{operation, targets_of}
use Rattle.bpsec_asb.specs.Reading.{read_body}
use Rattle.bpsec_policy.specs.Rules.{same_service}
use Rattle.bpsec_node.specs.declared.event.Verdict.{Verdict}
use Rattle.bpsec_node.specs.declared.held.Held.{Held}
use Rattle.bpsec_node.specs.Situation.{Situation, is_op, is_among}
use Rattle.bpsec_node.specs.Agree.{with_keys, Agree}
use Rattle.bpsec_node.specs.Site.{block_at, site, open_over}
use Rattle.bpsec_node.specs.Plain.{opens, plain}
use Rattle.bpsec_node.specs.AllOperations.{is_open}
use Rattle.bpsec_node.specs.Verdict.{is_bib, step_verdict}
use Rattle.bpsec_node.specs.Order.{is_free, ready}
use Rattle.bpsec_node.specs.Session.{has, applies_to, is_operation_by, is_operation, is_shown, is_covering, IsKept}
use Rattle.bpsec_node.specs.Lists.{without_op, without_number, new_ops, ready_among}
use Rattle.bpsec_node.specs.Change.{held_after, stuck_after, opened_block, opened_bundle}
use Rattle.bpsec_node.proofs.Members.{same_truth, is_op_same, from_is_among}
use Rattle.bpsec_node.proofs.Agree.{block_at_number, ready_same}
use Rattle.bpsec_node.proofs.Legal.{legal_same, done_free}
use Rattle.bpsec_node.specs.Longer.{NeverLonger}
use Rattle.bpsec_node.proofs.Results.{shown_bundle}
use Rattle.bpsec_node.proofs.Keeping.{among_more, is_op_sym, known_same, legal_push, verdicts_same}
use Rattle.bpsec_node.proofs.Other.{among_without, regroup_open}
use Rattle.bpsec_node.proofs.Opened.{service, unfree, opened, free_other, free_target, open_target, plain_target, now_more, sealed_more, stuck_more, target_block, held_more}
use Rattle.bpsec_node.proofs.ReadyFrom.{ready_from}

or_none : (b : Bool) → (b || false) ≡ b
or_none true = refl
or_none false = refl

and_false : (b : Bool) → (b && false) ≡ false
and_false true = refl
and_false false = refl

-- ---- new operations

pub among_targets : (block : ℕ) (targets : List ℕ) (o : OpId) → o.service ≡ Bib → eqb o.block block ≡ true → is_among (map (operation Bib block) targets) o ≡ has targets o.target
among_targets block [] o service at = refl
among_targets block (target ∷ targets) o service at =
    ap (λ b. b || is_among (map (operation Bib block) targets) o) (first (same_service o.service Bib) (eqb o.block block) (ap (λ (v : Service). same_service v Bib) service) at)
    ∙ ap (λ b. eqb target o.target || b) (among_targets block targets o service at)
  where
    turn : eqb o.target target ≡ eqb target o.target
    turn = same_truth (eqb o.target target) (eqb target o.target) (λ e. eq-eqb target o.target (sym (eqb-true o.target target e))) (λ e. eq-eqb o.target target (sym (eqb-true target o.target e)))

    first : (a b : Bool) → a ≡ true → b ≡ true → (a && (b && eqb o.target target)) ≡ eqb target o.target
    first true true ea eb = turn
    first true false ea eb = absurd cc
    first false b ea eb = absurd cc

pub not_among_targets : (block : ℕ) (targets : List ℕ) (o : OpId) → (same_service o.service Bib && eqb o.block block) ≡ false → is_among (map (operation Bib block) targets) o ≡ false
not_among_targets block [] o other = refl
not_among_targets block (target ∷ targets) o other =
    ap (λ b. b || is_among (map (operation Bib block) targets) o) (first (same_service o.service Bib) (eqb o.block block) other) ∙ not_among_targets block targets o other
  where
    first : (a b : Bool) → (a && b) ≡ false → (a && (b && eqb o.target target)) ≡ false
    first true true e = absurd cc
    first true false e = refl
    first false b e = refl

-- the new operations of a block that may be read
new_none : (kind block : ℕ) (body : Option (List ℕ)) (o : OpId) → (same_service o.service Bib && eqb o.block block) ≡ false → is_among (new_ops (held_after kind block body)) o ≡ false
new_none kind block None o other = refl
new_none kind block (Some body) o other = by (eqb kind 11)
  where
    by : (b : Bool) → is_among (new_ops (cond b (Some (record { number = block; read = read_body body })) None)) o ≡ false
    by true = not_among_targets block (targets_of (read_body body)) o other
    by false = refl

new_some : (kind block : ℕ) (body : List ℕ) (o : OpId) → o.service ≡ Bib → eqb o.block block ≡ true → is_among (new_ops (held_after kind block (Some body))) o ≡ (eqb kind 11 && has (targets_of (read_body body)) o.target)
new_some kind block body o service at = by (eqb kind 11)
  where
    by : (b : Bool) → is_among (new_ops (cond b (Some (record { number = block; read = read_body body })) None)) o ≡ (b && has (targets_of (read_body body)) o.target)
    by true = among_targets block (targets_of (read_body body)) o service at
    by false = refl

bib_or_bcb : (service : Service) → (service ≡ Bib) ⊎ (service ≡ Bcb)
bib_or_bcb Bib = inl refl
bib_or_bcb Bcb = inr refl

bib_at : (service : Service) (at : Bool) → (same_service service Bib && at) ≡ true → (service ≡ Bib) × (at ≡ true)
bib_at Bib at e = (refl, e)
bib_at Bcb at e = absurd cc

shown_case : (service : Service) (at before after : Bool) → (same_service service Bib && at) ≡ false → (at ≡ false → after ≡ before) → (not (is_bib service) || after) ≡ (not (is_bib service) || before)
shown_case Bib at before after e same = same e
shown_case Bcb at before after e same = refl

module _ (s : Situation) (key : OpId → Option (List ℕ)) (done : List OpId) (now : Contents) (held : List Held) (sealed stuck : List ℕ) (open_ops ready_ops : List OpId) (verdicts : List Verdict)
    (kept : IsKept s done now held sealed stuck open_ops ready_ops verdicts) (agree : Agree s key done) (op : OpId) (there : Contains (ready s done) op) (covering : is_covering s done op ≡ true) where
  abbrev body : Option (List ℕ)
  body = opened s key done now held sealed stuck open_ops ready_ops verdicts kept agree op there covering

  abbrev block : Block
  block = (target_block s key done now held sealed stuck open_ops ready_ops verdicts kept agree op there covering).0

  abbrev more : List OpId
  more = without_op op open_ops ++ new_ops (held_after block.kind op.target body)

  split : (o : OpId) → is_among more o ≡ ((is_among open_ops o && not (is_op op o)) || is_among (new_ops (held_after block.kind op.target body)) o)
  split o = list_any-append (is_op o) (without_op op open_ops) (new_ops (held_after block.kind op.target body)) ∙ ap (λ b. b || is_among (new_ops (held_after block.kind op.target body)) o) (among_without op o open_ops)

  shown_same_other : (o : OpId) → (same_service o.service Bib && eqb o.block op.target) ≡ false → is_shown s.bundle.blocks (done ++ op ∷ []) o ≡ is_shown s.bundle.blocks done o
  unfolding is_shown
  shown_same_other o other =
      shown_case o.service (eqb o.block op.target) (is_free s.bundle.blocks done o.block) (is_free s.bundle.blocks (done ++ op ∷ []) o.block) other
      (λ e. free_other s key done now held sealed stuck open_ops ready_ops verdicts kept agree op there covering o.block e)

  open_other : (o : OpId) → (same_service o.service Bib && eqb o.block op.target) ≡ false
      → is_among more o ≡ (is_operation (with_keys s key) o && (is_shown s.bundle.blocks (done ++ op ∷ []) o && not (is_among (done ++ op ∷ []) o)))
  open_other o other =
      split o
      ∙ (ap (λ b. (is_among open_ops o && not (is_op op o)) || b) (new_none block.kind op.target body o other)
      ∙ (or_none (is_among open_ops o && not (is_op op o))
      ∙ (ap (λ b. b && not (is_op op o)) (kept.open_is o ∙ known_same s key done agree o (not (is_among done o)))
      ∙ (regroup_open (is_operation (with_keys s key) o) (is_shown s.bundle.blocks done o) (is_among done o) (is_op op o)
      ∙ (ap (λ b. is_operation (with_keys s key) o && (is_shown s.bundle.blocks done o && not b)) (ap (λ b. is_among done o || b) (is_op_sym op o) ∙ sym (among_more done op o))
      ∙ ap (λ b. is_operation (with_keys s key) o && (b && not (is_among (done ++ op ∷ []) o))) (sym (shown_same_other o other)))))))

  -- ---- an operation of the block that was covered

  undone_by : (o : OpId) → o.service ≡ Bib → o.block ≡ op.target → (b : Bool) → is_among done o ≡ b → is_among done o ≡ false
  undone_by o bib at true e =
      let f = (done_free s done o kept.legal (from_is_among done o e) bib).0 in
      let t : true ≡ false = sym f ∙ (ap (is_free s.bundle.blocks done) at ∙ unfree s key done now held sealed stuck open_ops ready_ops verdicts kept agree op there covering) in
      absurd cc
  undone_by o bib at false e = e

  not_op : (o : OpId) → o.service ≡ Bib → (b : Bool) → is_op o op ≡ b → is_op o op ≡ false
  not_op o bib true e =
      let same = is_op_same o op e in
      let t : Bib ≡ Bcb = sym bib ∙ (ap (λ (x : OpId). x.service) same ∙ service s key done now held sealed stuck open_ops ready_ops verdicts kept agree op there covering) in
      absurd cc
  not_op o bib false e = e

  undone_more : (o : OpId) → o.service ≡ Bib → o.block ≡ op.target → is_among (done ++ op ∷ []) o ≡ false
  undone_more o bib at = among_more done op o ∙ (ap (λ b. b || is_op o op) (undone_by o bib at (is_among done o) refl) ∙ not_op o bib (is_op o op) refl)

  shown_now : (o : OpId) → o.service ≡ Bib → o.block ≡ op.target → is_shown s.bundle.blocks (done ++ op ∷ []) o ≡ true
  unfolding is_shown
  shown_now o bib at =
      ap (λ (v : Service). not (is_bib v) || is_free s.bundle.blocks (done ++ op ∷ []) o.block) bib
      ∙ (ap (is_free s.bundle.blocks (done ++ op ∷ [])) at ∙ free_target s key done now held sealed stuck open_ops ready_ops verdicts kept agree op there covering)

  hidden_before : (o : OpId) → o.service ≡ Bib → o.block ≡ op.target → is_among open_ops o ≡ false
  unfolding is_shown
  hidden_before o bib at =
      kept.open_is o
      ∙ (ap (λ b. is_operation s o && (b && not (is_among done o))) (ap (λ (v : Service). not (is_bib v) || is_free s.bundle.blocks done o.block) bib
      ∙ (ap (is_free s.bundle.blocks done) at ∙ unfree s key done now held sealed stuck open_ops ready_ops verdicts kept agree op there covering))
      ∙ and_false (is_operation s o))

  block_number : block.number ≡ op.target
  block_number = (block_at_number s.bundle.blocks op.target block (target_block s key done now held sealed stuck open_ops ready_ops verdicts kept agree op there covering).1).1

  operation_now : (o : OpId) → o.service ≡ Bib → eqb o.block op.target ≡ true → is_operation (with_keys s key) o ≡ is_among (new_ops (held_after block.kind op.target body)) o
  unfolding is_operation
  operation_now o bib same =
      let at : o.block ≡ op.target = eqb-true o.block op.target same in
      ap (is_operation_by (with_keys s key) o) bib
      ∙ (ap (λ n. is_open (with_keys s key) n && applies_to (block_at (plain (with_keys s key)).blocks n) o.target) at
      ∙ (ap (λ b. b && applies_to (block_at (plain (with_keys s key)).blocks op.target) o.target) (open_target s key done now held sealed stuck open_ops ready_ops verdicts kept agree op there covering)
      ∙ (ap (λ x. opens (with_keys s key) op && applies_to x o.target) (plain_target s key done now held sealed stuck open_ops ready_ops verdicts kept agree op there covering)
      ∙ by (opens (with_keys s key) op))))
    where
      by : (b : Bool) → (b && applies_to (Some (opened_block op.target (cond b (Some (open_over s.suite (site s.bundle op) op (key op))) None) block)) o.target)
          ≡ is_among (new_ops (held_after block.kind op.target (cond b (Some (open_over s.suite (site s.bundle op) op (key op))) None))) o
      by true =
          ap (λ e. applies_to (Some (cond e (record block { body = open_over s.suite (site s.bundle op) op (key op) }) block)) o.target) (eq-eqb block.number op.target block_number)
          ∙ sym (new_some block.kind op.target (open_over s.suite (site s.bundle op) op (key op)) o bib same)
      by false = refl

  open_here : (o : OpId) → o.service ≡ Bib → eqb o.block op.target ≡ true
      → is_among more o ≡ (is_operation (with_keys s key) o && (is_shown s.bundle.blocks (done ++ op ∷ []) o && not (is_among (done ++ op ∷ []) o)))
  open_here o bib same =
      let at : o.block ≡ op.target = eqb-true o.block op.target same in
      split o
      ∙ (ap (λ b. (b && not (is_op op o)) || is_among (new_ops (held_after block.kind op.target body)) o) (hidden_before o bib at)
      ∙ (sym (operation_now o bib same)
      ∙ (sym (and_true (is_operation (with_keys s key) o))
      ∙ (ap (λ b. is_operation (with_keys s key) o && (b && true)) (sym (shown_now o bib at))
      ∙ ap (λ b. is_operation (with_keys s key) o && (is_shown s.bundle.blocks (done ++ op ∷ []) o && not b)) (sym (undone_more o bib at))))))
    where
      and_true : (b : Bool) → (b && true) ≡ b
      and_true true = refl
      and_true false = refl

  open_more : (o : OpId) → is_among more o ≡ (is_operation (with_keys s key) o && (is_shown s.bundle.blocks (done ++ op ∷ []) o && not (is_among (done ++ op ∷ []) o)))
  open_more o = by (same_service o.service Bib && eqb o.block op.target) refl
    where
      by : (b : Bool) → (same_service o.service Bib && eqb o.block op.target) ≡ b → is_among more o ≡ (is_operation (with_keys s key) o && (is_shown s.bundle.blocks (done ++ op ∷ []) o && not (is_among (done ++ op ∷ []) o)))
      by true e = let b = bib_at o.service (eqb o.block op.target) e in open_here o b.0 b.1
      by false e = open_other o e

  pub kept_covering : (verdict : Verdict) → NeverLonger s.suite → verdict ≡ step_verdict (with_keys s key) op
      → IsKept (with_keys s key) (done ++ op ∷ []) (opened_bundle op.target body now) (held ++ option_to_list (held_after block.kind op.target body)) (without_number op.target sealed)
      (stuck ++ option_to_list (stuck_after op.target body)) more (ready_among (without_number op.target sealed) more) (verdicts ++ verdict ∷ [])
  kept_covering verdict never is = record {
    shape = kept.shape;
    shape_now = subst IsBundle (now_more s key done now held sealed stuck open_ops ready_ops verdicts kept agree op there covering) (shown_bundle (with_keys s key) (done ++ op ∷ []) never kept.shape);
    begun = kept.begun;
    legal = legal_push (with_keys s key) done op (legal_same s key done agree kept.legal) (subst (λ (ops : List OpId). Contains ops op) (ready_same s key done agree) there);
    now_is = sym (now_more s key done now held sealed stuck open_ops ready_ops verdicts kept agree op there covering);
    held_is = held_more s key done now held sealed stuck open_ops ready_ops verdicts kept agree op there covering;
    sealed_is = sealed_more s key done now held sealed stuck open_ops ready_ops verdicts kept agree op there covering;
    stuck_is = stuck_more s key done now held sealed stuck open_ops ready_ops verdicts kept agree op there covering;
    open_is = open_more;
    ready_is = ready_from (with_keys s key) (done ++ op ∷ []) (without_number op.target sealed) more kept.shape.distinct (sealed_more s key done now held sealed stuck open_ops ready_ops verdicts kept agree op there covering) open_more;
    verdicts_are =
        ap (λ (vs : List Verdict). vs ++ verdict ∷ []) (kept.verdicts_are ∙ verdicts_same s key done agree kept.legal)
        ∙ (ap (λ (v : Verdict). map (step_verdict (with_keys s key)) done ++ v ∷ []) is
        ∙ sym (map-append (step_verdict (with_keys s key)) done (op ∷ [])));
  }

  pub covering_shape : NeverLonger s.suite → IsBundle (opened_bundle op.target body now)
  covering_shape never = subst IsBundle (now_more s key done now held sealed stuck open_ops ready_ops verdicts kept agree op there covering) (shown_bundle (with_keys s key) (done ++ op ∷ []) never kept.shape)
