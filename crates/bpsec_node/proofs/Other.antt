-- A step that covers no block.
use Rattle.std.proofs.Common.{◌≡◌, ℕ, Bool, true, false, ◌&&◌, ◌||◌, not, cond, List, [], ◌∷◌, ◌++◌, map, Option, Some, None, refl, sym, ◌∙◌, ap, subst}
use Rattle.std.specs.Prelude.{Contains, filter}
use Rattle.std.specs.List.{list_any}
use Rattle.std.proofs.lemmas.List.{map-append}
use Rattle.std.proofs.lemmas.List.Elements.{filter_agree}
use Rattle.bp_blocks.specs.declared.block.Block.{Block}
use Rattle.bp_bundle.specs.Shape.{Contents}
use Rattle.bpsec_asb.specs.declared.operation.Service.{Service}
use Rattle.bpsec_asb.specs.declared.operation.Service.TheVariants.{Bcb}
use Rattle.bpsec_asb.specs.declared.operation.OpId.{OpId}
use Rattle.bpsec_asb.proofs.Members.{among}
use Rattle.bpsec_node.specs.declared.event.Verdict.{Verdict}
use Rattle.bpsec_node.specs.declared.held.Held.{Held}
use Rattle.bpsec_node.specs.Situation.{Situation, is_op, is_among}
use Rattle.bpsec_node.specs.Agree.{with_keys, Agree}
use Rattle.bpsec_node.specs.Site.{block_at}
use Rattle.bpsec_node.specs.Plain.{cover, plain_block}
use Rattle.bpsec_node.specs.AllOperations.{all_operations, is_open}
use Rattle.bpsec_node.specs.Verdict.{is_bib, step_verdict}
use Rattle.bpsec_node.specs.Order.{is_free, is_ready, ready, shown_block, shown}
use Rattle.bpsec_asb.specs.Reading.{read_body}
use Rattle.bpsec_node.specs.Session.{holds_operations as holds, is_operation, is_shown, is_covering, held_by_block, held_at, IsKept}
use Rattle.bpsec_node.specs.Lists.{without_op}
use Rattle.bpsec_node.proofs.Members.{is_op_same}
use Rattle.bpsec_node.proofs.Agree.{ready_same}
use Rattle.bpsec_node.proofs.Legal.{legal_same}
use Rattle.bpsec_node.proofs.OutcomeKeys.{map_agree}
use Rattle.bpsec_node.proofs.Sited.{cover_among, cover_found_service, free_by_cover}
use Rattle.bpsec_node.proofs.ReadyOps.{ready_is, ready_undone}
use Rattle.bpsec_node.proofs.Keeping.{among_more, is_op_sym, free_stays, stuck_same, blocks_same, held_same, known_same, legal_push, verdicts_same}

true_not_false : (b : Bool) → b ≡ true → b ≡ false → ⊥
true_not_false true e f = cc
true_not_false false e f = cc

-- what covers a block isn't an operation that covers none
covers_other : (s : Situation) (done : List OpId) (op c : OpId) (number : ℕ) → is_among done op ≡ false → is_covering s done op ≡ false → cover s.bundle.blocks number ≡ Some c → is_op c op ≡ true → ⊥
unfolding is_covering
covers_other s done op c number undone covering is same =
    let e = is_op_same c op same in
    let at = cover_among s.bundle.blocks number c is in
    let target : op.target ≡ number = ap (λ (o : OpId). o.target) (sym e) ∙ at.1 in
    let service : op.service ≡ Bcb = ap (λ (o : OpId). o.service) (sym e) ∙ cover_found_service s.bundle.blocks number c is in
    let free : is_free s.bundle.blocks done op.target ≡ false = ap (is_free s.bundle.blocks done) target ∙ (free_by_cover s.bundle.blocks done number c is ∙ (ap (is_among done) e ∙ undone)) in
    let t : true ≡ false = sym (ap (λ (v : Service). not (is_bib v) && true) service) ∙ (ap (λ b. not (is_bib op.service) && not b) (sym free) ∙ covering) in
    true_not_false true refl t

other_op : (s : Situation) (done : List OpId) (op c : OpId) (number : ℕ) → is_among done op ≡ false → is_covering s done op ≡ false → cover s.bundle.blocks number ≡ Some c → is_op c op ≡ false
other_op s done op c number undone covering is = by (is_op c op) refl
  where
    by : (b : Bool) → is_op c op ≡ b → is_op c op ≡ false
    by true e = absurd (covers_other s done op c number undone covering is e)
    by false e = e

-- ---- lists without it

and_false : (b : Bool) → (b && false) ≡ false
and_false true = refl
and_false false = refl

-- the first one is taken out
first_dropped : (op o x : OpId) (among : Bool) (a : Bool) → is_op o x ≡ a → is_op op x ≡ true → (among && not (is_op op o)) ≡ ((a || among) && not (is_op op o))
first_dropped op o x among true e same =
    let gone : not (is_op op o) ≡ false = ap not (ap (is_op op) (is_op_same o x e) ∙ same) in
    ap (λ b. among && b) gone ∙ (and_false among ∙ sym gone)
first_dropped op o x among false e same = refl

-- the first one stays
first_stays : (op o x : OpId) (among : Bool) (a : Bool) → is_op o x ≡ a → is_op op x ≡ false → (a || (among && not (is_op op o))) ≡ ((a || among) && not (is_op op o))
first_stays op o x among true e other = sym (ap not (ap (is_op op) (is_op_same o x e) ∙ other))
first_stays op o x among false e other = refl

without_by : (op o x : OpId) (ops : List OpId) → is_among (without_op op ops) o ≡ (is_among ops o && not (is_op op o)) → (b : Bool) → is_op op x ≡ b
    → list_any (is_op o) (cond (not b) (x ∷ without_op op ops) (without_op op ops)) ≡ ((is_op o x || is_among ops o) && not (is_op op o))
without_by op o x ops rest true e = rest ∙ first_dropped op o x (is_among ops o) (is_op o x) refl e
without_by op o x ops rest false e = ap (λ r. is_op o x || r) rest ∙ first_stays op o x (is_among ops o) (is_op o x) refl e

any_without : (op o : OpId) (ops : List OpId) → is_among (without_op op ops) o ≡ (is_among ops o && not (is_op op o))
any_without op o [] = refl
any_without op o (x ∷ ops) = without_by op o x ops (any_without op o ops) (is_op op x) refl

pub among_without : (op o : OpId) (ops : List OpId) → is_among (without_op op ops) o ≡ (is_among ops o && not (is_op op o))
among_without op o ops = any_without op o ops

filter_filter : (p q : OpId → Bool) (xs : List OpId) → filter q (filter p xs) ≡ filter (λ x. p x && q x) xs
filter_filter p q [] = refl
filter_filter p q (x ∷ xs) = by (p x) (filter_filter p q xs)
  where
    by : (b : Bool) → filter q (filter p xs) ≡ filter (λ x. p x && q x) xs → filter q (cond b (x ∷ filter p xs) (filter p xs)) ≡ cond (b && q x) (x ∷ filter (λ x. p x && q x) xs) (filter (λ x. p x && q x) xs)
    by true e = ap (λ ys. cond (q x) (x ∷ ys) ys) e
    by false e = e

-- ---- the step

regroup_ready : (a n r : Bool) → (not (a || n) && r) ≡ ((not a && r) && not n)
regroup_ready true true r = refl
regroup_ready true false r = refl
regroup_ready false true true = refl
regroup_ready false true false = refl
regroup_ready false false true = refl
regroup_ready false false false = refl

pub regroup_open : (k sh a n : Bool) → ((k && (sh && not a)) && not n) ≡ (k && (sh && not (a || n)))
regroup_open true true true true = refl
regroup_open true true true false = refl
regroup_open true true false n = refl
regroup_open true false a n = refl
regroup_open false sh a n = refl

module _ (s : Situation) (key : OpId → Option (List ℕ)) (done : List OpId) (now : Contents) (held : List Held) (sealed stuck : List ℕ) (open_ops ready_ops : List OpId) (verdicts : List Verdict)
    (kept : IsKept s done now held sealed stuck open_ops ready_ops verdicts) (agree : Agree s key done) (op : OpId) (there : Contains (ready s done) op) (covering : is_covering s done op ≡ false) where
  undone : is_among done op ≡ false
  undone = ready_undone s.bundle.blocks done op (ready_is s done op kept.shape.distinct there).test

  free : (number : ℕ) → is_free s.bundle.blocks (done ++ op ∷ []) number ≡ is_free s.bundle.blocks done number
  free number = free_stays s.bundle.blocks done op number (λ c is. other_op s done op c number undone covering is)

  shown_more : shown (with_keys s key) (done ++ op ∷ []) ≡ shown (with_keys s key) done
  unfolding shown
  shown_more = ap (λ (bs : List Block). record { primary = s.bundle.primary; blocks = bs })
      (map_agree (shown_block (with_keys s key) (done ++ op ∷ [])) (shown_block (with_keys s key) done) (λ block. ap (λ b. cond b (plain_block (with_keys s key) block) block) (free block.number)) s.bundle.blocks)

  held_more : (number : ℕ) → held_at (with_keys s key) (done ++ op ∷ []) number ≡ held_at (with_keys s key) done number
  unfolding held_at
  held_more number =
      ap (λ (b : Contents). held_by_block (with_keys s key) (done ++ op ∷ []) (block_at b.blocks number)) shown_more
      ∙ by (block_at (shown (with_keys s key) done).blocks number)
    where
      by : (at : Option Block) → held_by_block (with_keys s key) (done ++ op ∷ []) at ≡ held_by_block (with_keys s key) done at
      by None = refl
      by (Some block) = ap (λ b. cond (holds block && (b && is_open (with_keys s key) block.number)) (Some (record { number = block.number; read = read_body block.body })) None) (free block.number)

  shown_stays : (o : OpId) → is_shown s.bundle.blocks (done ++ op ∷ []) o ≡ is_shown s.bundle.blocks done o
  unfolding is_shown
  shown_stays o = ap (λ b. not (is_bib o.service) || b) (free o.block)

  ready_more : (o : OpId) → is_ready s.bundle.blocks (done ++ op ∷ []) o ≡ (is_ready s.bundle.blocks done o && not (is_op op o))
  unfolding is_ready
  ready_more o =
      ap (λ b. not (is_among (done ++ op ∷ []) o) && (not (is_bib o.service) || (b && is_free s.bundle.blocks (done ++ op ∷ []) o.target))) (free o.block)
      ∙ (ap (λ b. not (is_among (done ++ op ∷ []) o) && (not (is_bib o.service) || (is_free s.bundle.blocks done o.block && b))) (free o.target)
      ∙ (ap (λ b. not b && (not (is_bib o.service) || (is_free s.bundle.blocks done o.block && is_free s.bundle.blocks done o.target))) (among_more done op o ∙ ap (λ b. is_among done o || b) (is_op_sym o op))
      ∙ regroup_ready (is_among done o) (is_op op o) (not (is_bib o.service) || (is_free s.bundle.blocks done o.block && is_free s.bundle.blocks done o.target))))

  ready_is_more : without_op op ready_ops ≡ ready (with_keys s key) (done ++ op ∷ [])
  unfolding ready
  ready_is_more =
      ap (without_op op) (kept.ready_is ∙ ready_same s key done agree)
      ∙ (filter_filter (is_ready s.bundle.blocks done) (λ o. not (is_op op o)) (all_operations (with_keys s key))
      ∙ filter_agree (λ o. is_ready s.bundle.blocks done o && not (is_op op o)) (is_ready s.bundle.blocks (done ++ op ∷ [])) (λ o. sym (ready_more o)) (all_operations (with_keys s key)))

  open_more : (o : OpId) → is_among (without_op op open_ops) o ≡ (is_operation (with_keys s key) o && (is_shown s.bundle.blocks (done ++ op ∷ []) o && not (is_among (done ++ op ∷ []) o)))
  open_more o =
      among_without op o open_ops
      ∙ (ap (λ b. b && not (is_op op o)) (kept.open_is o ∙ known_same s key done agree o (not (is_among done o)))
      ∙ (regroup_open (is_operation (with_keys s key) o) (is_shown s.bundle.blocks done o) (is_among done o) (is_op op o)
      ∙ (ap (λ b. is_operation (with_keys s key) o && (is_shown s.bundle.blocks done o && not b)) (ap (λ b. is_among done o || b) (is_op_sym op o) ∙ sym (among_more done op o))
      ∙ ap (λ b. is_operation (with_keys s key) o && (b && not (is_among (done ++ op ∷ []) o))) (sym (shown_stays o)))))

  pub kept_other : (verdict : Verdict) → verdict ≡ step_verdict (with_keys s key) op
      → IsKept (with_keys s key) (done ++ op ∷ []) now held sealed stuck (without_op op open_ops) (without_op op ready_ops) (verdicts ++ verdict ∷ [])
  kept_other verdict is = record {
    shape = kept.shape;
    shape_now = kept.shape_now;
    begun = kept.begun;
    legal = legal_push (with_keys s key) done op (legal_same s key done agree kept.legal) (subst (λ (ops : List OpId). Contains ops op) (ready_same s key done agree) there);
    now_is = kept.now_is ∙ (blocks_same s key done agree ∙ sym shown_more);
    held_is = λ number. kept.held_is number ∙ (held_same s key done agree number ∙ sym (held_more number));
    sealed_is = λ number. kept.sealed_is number ∙ ap not (sym (free number));
    stuck_is = λ number. kept.stuck_is number ∙ (stuck_same s key done agree number ∙ ap (λ b. b && not (is_open (with_keys s key) number)) (sym (free number)));
    open_is = open_more;
    ready_is = ready_is_more;
    verdicts_are =
        ap (λ (vs : List Verdict). vs ++ verdict ∷ []) (kept.verdicts_are ∙ verdicts_same s key done agree kept.legal)
        ∙ (ap (λ (v : Verdict). map (step_verdict (with_keys s key)) done ++ v ∷ []) is
        ∙ sym (map-append (step_verdict (with_keys s key)) done (op ∷ [])));
  }
