-- The end of a session in which nothing was done before.
use Rattle.std.proofs.Common.{◌≡◌, ℕ, zero, suc, ◌≤◌, List, [], ◌∷◌, length, Result, Ok, Err, refl, sym, ◌∙◌, ap, subst, arith}
use Rattle.std.specs.Prelude.{IfOk, slice_get}
use Rattle.bpsec_asb.specs.declared.operation.OpId.{OpId}
use Rattle.bpsec_policy.specs.declared.ring.NamedKey.{NamedKey}
use Rattle.bpsec_node.specs.declared.chooser.Digits.{Digits}
use Rattle.bpsec_node.specs.Situation.{Meaning, Situation}
use Rattle.bpsec_node.specs.Order.{ready, picked, picks}
use Rattle.bpsec_node.specs.Ring.{with_ring, at_node}
use Rattle.bpsec_node.specs.Running.{ringed, Ended}
use Rattle.bpsec_node.specs.View.{Progress, End, situation, key_in, end_of}
use Rattle.bpsec_jobs.specs.Noded.{digit, rest, most_steps, picked_by}

pub if_ok : {T E : Type 0} (r : Result T E) (P Q : T → Type 0) → ((x : T) → P x → Q x) → IfOk r P → IfOk r Q
if_ok (Ok x) P Q step h = step x h
if_ok (Err e) P Q step h = h

few_steps : (n : ℕ) → n ≤ 4096 → n ≤ most_steps
unfolding most_steps
few_steps n le = le

module _ {C : Type 0} (answer : C → ℕ → ℕ) (next : C → ℕ → C) (s : Situation) where
  -- where nothing is ready, nothing more is picked
  picks_stay : (n : ℕ) (done : List OpId) (c : C) → ready s done ≡ [] → picks answer next s n done c ≡ done
  picks_stay zero done c none = refl
  picks_stay (suc n) done c none =
      ap (λ (xs : List OpId). picks answer next s n (picked done (slice_get xs (answer c (length xs)))) (next c (length xs))) none
      ∙ picks_stay n done (next c 0) none

  picks_enough : (n most : ℕ) (done : List OpId) (c : C) → n ≤ most → ready s (picks answer next s n done c) ≡ [] → picks answer next s most done c ≡ picks answer next s n done c
  picks_enough zero most done c le none = picks_stay most done c none
  picks_enough (suc n) zero done c le none = absurd (omega (arith, le))
  picks_enough (suc n) (suc most) done c le none =
      picks_enough n most (picked done (slice_get (ready s done) (answer c (length (ready s done))))) (next c (length (ready s done))) (less n most le) none
    where
      less : (n most : ℕ) → suc n ≤ suc most → n ≤ most
      less n most le = omega (arith, le)

module _ (suite : Meaning) (session : Progress) (ring : List NamedKey) (d : Digits) (fresh : session.done ≡ []) where
  abbrev r : Situation
  r = at_node suite session.received session.policy ring

  same : ringed suite session ring ≡ at_node suite session.received session.policy ring
  unfolding at_node situation
  same = ap (λ (done : List OpId). with_ring (record { bundle = session.received; policy = session.policy; suite = suite; key = key_in done session.keys }) done ring) fresh

  pub end_picked : (end : End) → Ended digit rest suite ring session d end → end ≡ picked_by (at_node suite session.received session.policy ring) d.number
  unfolding picked_by
  end_picked end ended =
      let few : ended.steps ≤ most_steps = few_steps ended.steps ended.few in
      let here : end.done ≡ picks digit rest r ended.steps [] d =
      ended.picked
      ∙ (ap (λ (x : Situation). picks digit rest x ended.steps session.done d) same
      ∙ ap (λ (done : List OpId). picks digit rest r ended.steps done d) fresh) in
      let none : ready r (picks digit rest r ended.steps [] d) ≡ [] =
      ap (ready r) (sym here) ∙ (ap (λ (x : Situation). ready x end.done) (sym same) ∙ ended.none) in
      ended.means
      ∙ (ap (λ (x : Situation). end_of x end.done) same
      ∙ ap (end_of r) (here ∙ sym (picks_enough digit rest r ended.steps most_steps [] d few none)))
