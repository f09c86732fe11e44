-- A session that runs with a key ring, step by step.
use Rattle.std.proofs.Common.{◌≡◌, ℕ, zero, suc, ◌+◌, ◌≤◌, inl, inr, false, List, [], ◌∷◌, ◌++◌, map, length, Option, Some, refl, sym, ◌∙◌, ap, append_assoc, arith}
use Rattle.std.specs.Prelude.{slice_get, Result, Ok, Err, IfOk, IfErr}
use Rattle.std.proofs.lemmas.List.{append-nil, map-append, length-append}
use Rattle.bp_bundle.specs.Spelling.{IsBundle}
use Rattle.bpsec_asb.specs.declared.operation.OpId.{OpId}
use Rattle.bpsec_asb.proofs.Members.{Among, among, contains}
use Rattle.bpsec_policy.specs.declared.ring.NamedKey.{NamedKey}
use Rattle.bpsec_policy.specs.declared.rule.Rule.{Rule}
use Rattle.bpsec_node.specs.declared.event.Verdict.{Verdict}
use Rattle.bpsec_node.specs.Situation.{Meaning, Situation, is_among}
use Rattle.bpsec_node.specs.Agree.{Agree}
use Rattle.bpsec_node.specs.AllOperations.{all_operations}
use Rattle.bpsec_node.specs.Verdict.{rule, step_verdict}
use Rattle.bpsec_node.specs.Events.{events}
use Rattle.bpsec_node.specs.Outcome.{Outcome, outcome}
use Rattle.bpsec_node.specs.Order.{ready, picked, picks, Legal}
use Rattle.bpsec_node.specs.Ring.{key_named, ring_key, with_ring}
use Rattle.bpsec_node.specs.Running.{ringed, Stepped, Ran, Ended}
use Rattle.bpsec_node.specs.View.{Progress, End, situation, end_of}
use Rattle.bpsec_node.proofs.Members.{from_ready}
use Rattle.bpsec_node.proofs.Ended.{all_done}
use Rattle.bpsec_node.proofs.OutcomeSame.{outcome_same}
use Rattle.bpsec_node.proofs.Ringed.{ring_keeps, ring_gives, ready_rule, ring_step, ring_ready}
use Rattle.bpsec_node.proofs.ReadyOps.{ready_undone}
use Rattle.bpsec_node.proofs.Keeping.{verdicts_same}

at_place : {A : Type 0} (xs : List A) (i : ℕ) (x : A) → slice_get xs i ≡ Some x → Among x xs
at_place [] i x e = absurd cc
at_place (y ∷ ys) zero x e = inl cc
at_place (y ∷ ys) (suc i) x e = inr (at_place ys i x e)

within : (a b n : ℕ) → n ≡ a + b → n ≤ 4096 → b ≤ 4096
within a b n e few = omega (arith, e, few)

-- the end of a session from its parts
pub end_parts : (s : Situation) (done : List OpId) (verdicts : List Verdict) → verdicts ≡ map (step_verdict s) done → record { outcome = record { events = events s; bundle = (outcome s).bundle }; done = done; verdicts = verdicts } ≡ end_of s done
unfolding end_of outcome
end_parts s done verdicts is = ap (λ (v : List Verdict). record { outcome = outcome s; done = done; verdicts = v }) is

module _ {C : Type 0} (answer : C → ℕ → ℕ) (next : C → ℕ → C) (suite : Meaning) (ring : List NamedKey) (before : Progress) (chooser : C) where
  abbrev r : Situation
  r = ringed suite before ring

  pub record OnTheWay (now : Progress) (chooser' : C) : Type 0 where
    pub more : List OpId
    pub received : now.received ≡ before.received
    pub policy : now.policy ≡ before.policy
    pub done : now.done ≡ before.done ++ more
    pub keys : now.keys ≡ before.keys ++ map (ringed suite before ring).key more
    pub picked : (n : ℕ) → picks answer next (ringed suite before ring) n now.done chooser' ≡ picks answer next (ringed suite before ring) (length more + n) before.done chooser
    pub same : ringed suite now ring ≡ ringed suite before ring
    pub keyed : length now.keys ≡ length now.done
    pub few : length now.done ≤ 4096
    pub shape : IsBundle now.received
    pub legal : Legal (situation suite now) now.done

  pub way_start : length before.keys ≡ length before.done → length before.done ≤ 4096 → IsBundle before.received → Legal (situation suite before) before.done → OnTheWay before chooser
  way_start keyed few shape legal = record {
    more = [];
    received = refl;
    policy = refl;
    done = sym (append-nil before.done);
    keys = sym (append-nil before.keys);
    picked = λ n. ap (λ m. picks answer next r m before.done chooser) (zero-add n);
    same = refl;
    keyed = keyed;
    few = few;
    shape = shape;
    legal = legal;
  }
    where
      zero-add : (n : ℕ) → n ≡ 0 + n
      zero-add n = omega arith

  -- ---- a step

  module _ (now : Progress) (chooser' : C) (way : OnTheWay now chooser') (later : Progress) (stepped : Stepped answer suite ring now later chooser') where
    there : Among stepped.op (ready (situation suite now) now.done)
    there = at_place (ready (situation suite now) now.done) _ stepped.op stepped.picked

    abbrev key : Option (List ℕ)
    key = ring_key (situation suite now) ring stepped.op

    undone : is_among now.done stepped.op ≡ false
    undone = ready_undone (situation suite now).bundle.blocks now.done stepped.op (from_ready (situation suite now) now.done stepped.op there).1

    kept_rule : rule (situation suite now) stepped.op ≡ rule (ringed suite now ring) stepped.op
    unfolding with_ring
    kept_rule = ready_rule (situation suite now) now.done (with_ring (situation suite now) now.done ring).key stepped.op (ring_keeps (situation suite now) now.done ring) there

    key_is : key ≡ (ringed suite before ring).key stepped.op
    key_is =
        ap (λ (x : Rule). key_named ring x.key) kept_rule
        ∙ (sym (ring_gives (situation suite now) now.done ring stepped.op undone)
        ∙ ap (λ (x : Situation). x.key stepped.op) way.same)

    ready_now : ready (situation suite now) now.done ≡ ready r now.done
    ready_now = ring_ready (situation suite now) now.done ring ∙ ap (λ (x : Situation). ready x now.done) way.same

    on : (n : ℕ) → picks answer next r (suc n) now.done chooser' ≡ picks answer next r n (now.done ++ stepped.op ∷ []) (next chooser' (length (ready (situation suite now) now.done)))
    on n =
        ap (λ (xs : List OpId). picks answer next r n (picked now.done (slice_get xs (answer chooser' (length xs)))) (next chooser' (length xs))) (sym ready_now)
        ∙ ap (λ (o : Option OpId). picks answer next r n (picked now.done o) (next chooser' (length (ready (situation suite now) now.done)))) stepped.picked

    count : (n : ℕ) → length way.more + suc n ≡ length (way.more ++ stepped.op ∷ []) + n
    count n = omega (arith, length-append way.more (stepped.op ∷ []))

    pub way_on : (chooser'' : C) → chooser'' ≡ next chooser' (length (ready (situation suite now) now.done)) → length later.keys ≡ length later.done → length later.done ≤ 4096
        → IsBundle later.received → Legal (situation suite later) later.done → OnTheWay later chooser''
    way_on chooser'' is keyed few shape legal = record {
      more = way.more ++ stepped.op ∷ [];
      received = ap (λ (p : Progress). p.received) stepped.after_is ∙ way.received;
      policy = ap (λ (p : Progress). p.policy) stepped.after_is ∙ way.policy;
      done = ap (λ (p : Progress). p.done) stepped.after_is ∙ (ap (λ (d : List OpId). d ++ stepped.op ∷ []) way.done ∙ append_assoc before.done way.more (stepped.op ∷ []));
      keys =
          ap (λ (p : Progress). p.keys) stepped.after_is
          ∙ (ap (λ (k : List (Option (List ℕ))). k ++ key ∷ []) way.keys
          ∙ (ap (λ (k : Option (List ℕ)). (before.keys ++ map (ringed suite before ring).key way.more) ++ k ∷ []) key_is
          ∙ (append_assoc before.keys (map (ringed suite before ring).key way.more) ((ringed suite before ring).key stepped.op ∷ [])
          ∙ ap (λ (k : List (Option (List ℕ))). before.keys ++ k) (sym (map-append (ringed suite before ring).key way.more (stepped.op ∷ []))))));
      picked = λ n.
          ap (λ (c : C). picks answer next r n later.done c) is
          ∙ (ap (λ (p : Progress). picks answer next r n p.done (next chooser' (length (ready (situation suite now) now.done)))) stepped.after_is
          ∙ (sym (on n)
          ∙ (way.picked (suc n)
          ∙ ap (λ m. picks answer next r m before.done chooser) (count n))));
      same =
          ap (λ (p : Progress). ringed suite p ring) stepped.after_is
          ∙ (ring_step suite now stepped.op ring way.keyed there ∙ way.same);
      keyed = keyed;
      few = few;
      shape = shape;
      legal = legal;
    }

  -- ---- the end

  pub way_ran : (now : Progress) (chooser' : C) → OnTheWay now chooser' → Ran answer next suite ring before now chooser
  way_ran now chooser' way = record {
    more = way.more;
    received = way.received;
    policy = way.policy;
    done = way.done;
    keys = way.keys;
    picked = way.picked 0 ∙ ap (λ m. picks answer next r m before.done chooser) (add-zero (length way.more));
  }
    where
      add-zero : (n : ℕ) → n + 0 ≡ n
      add-zero n = omega arith

  module _ (now : Progress) (chooser' : C) (way : OnTheWay now chooser') (none : ready (situation suite now) now.done ≡ []) where
    agrees : Agree (situation suite now) (ringed suite now ring).key (all_operations (situation suite now))
    agrees op in' = ring_keeps (situation suite now) now.done ring op (contains now.done op (all_done (situation suite now) now.done op none (among (all_operations (situation suite now)) op in')))

    end_same : end_of (situation suite now) now.done ≡ end_of (ringed suite now ring) now.done
    unfolding end_of with_ring situation
    end_same =
        ap (λ (o : Outcome). record { outcome = o; done = now.done; verdicts = map (step_verdict (situation suite now)) now.done }) (outcome_same (situation suite now) (ringed suite now ring).key way.shape.distinct agrees)
        ∙ ap (λ (v : List Verdict). record { outcome = outcome (ringed suite now ring); done = now.done; verdicts = v }) (verdicts_same (situation suite now) (ringed suite now ring).key now.done (ring_keeps (situation suite now) now.done ring) way.legal)

    pub way_end : (end : End) → end ≡ end_of (situation suite now) now.done → Ended answer next suite ring before chooser end
    unfolding end_of way_ran
    way_end end is =
        let done : end.done ≡ now.done = ap (λ (e : End). e.done) is in
        let ran = way_ran now chooser' way in
        record {
          steps = length ran.more;
          few = within (length before.done) (length way.more) (length now.done) (ap (λ (d : List OpId). length d) way.done ∙ length-append before.done way.more) way.few;
          picked = done ∙ ran.picked;
          none = ap (λ (d : List OpId). ready r d) done ∙ (ap (λ (x : Situation). ready x now.done) (sym way.same) ∙ (sym (ring_ready (situation suite now) now.done ring) ∙ none));
          means = is ∙ (end_same ∙ (ap (λ (x : Situation). end_of x now.done) way.same ∙ ap (end_of r) (sym done)));
        }

-- ---- results

pub if_ok : {T E : Type 0} (r : Result T E) (P Q : T → Type 0) → ((x : T) → P x → Q x) → IfOk r P → IfOk r Q
if_ok (Ok x) P Q step h = step x h
if_ok (Err e) P Q step h = h

pub if_err : {T E : Type 0} (r : Result T E) (P Q : E → Type 0) → ((x : E) → P x → Q x) → IfErr r P → IfErr r Q
if_err (Ok x) P Q step h = h
if_err (Err e) P Q step h = step e h

pub nothing : {A : Type 0} (xs : List A) → length xs ≤ 0 → xs ≡ []
nothing [] le = refl
nothing (x ∷ xs) le = absurd (omega arith)
