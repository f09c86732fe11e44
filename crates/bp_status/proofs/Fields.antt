-- The fields of a report are read as they are spelled.
use Rattle.std.proofs.Common.{◌≡◌, ℕ, ◌^◌, ◌<◌, inl, inr, Bool, true, false, cond, eqb, List, [], ◌∷◌, ◌++◌, Option, Some, None, Result, Ok, refl, sym, ◌∙◌, ap, subst, append_assoc, drop, length, arith}
use Rattle.std.specs.Option.{ForSome}
use Rattle.std.proofs.lemmas.Bool.{eqb-true}
use Rattle.std.proofs.lemmas.List.{append-nil, drop_at}
use Rattle.cbor_profile.specs.Put.{uint, array_head, truth}
use Rattle.cbor_profile.specs.Step.{◌>>=◌}
use Rattle.cbor_profile.proofs.Tokens.{is_among}
use Rattle.bp_eid.specs.declared.eid.Eid.{Eid}
use Rattle.bp_eid.specs.declared.stop.Stop.{Stop}
use Rattle.bp_eid.specs.EndpointId as ids
use Rattle.bp_eid.specs.Reading.{pair_at, number_at, id_at}
use Rattle.bp_eid.proofs.Steps.{IsBytes, IsBytes-drop, bind_ok, ok_is, Takes, Takes-then}
use Rattle.bp_eid.proofs.Tokens.{pair_again, pair_means, number_again, number_means}
use Rattle.bp_eid.proofs.Ids.{id_again, id_means, chosen}
use Rattle.bp_status.specs.declared.report.Assertion.{Assertion}
use Rattle.bp_status.specs.declared.report.Assertion.TheVariants.{No, Yes, At}
use Rattle.bp_status.specs.declared.report.Extent.{Extent}
use Rattle.bp_status.specs.declared.parts.Asserted.{Asserted}
use Rattle.bp_status.specs.declared.parts.Subject.{Subject}
use Rattle.bp_status.specs.StatusReport.{assertion, information, timestamp, extent_items, content_count, IsAssertion, IsExtent}
use Rattle.bp_status.specs.Reading.{count_at, simple_at, untimed_at, timed_at, assertion_at, information_at, subject_at, extent_at, piece_at}
use Rattle.bp_status.proofs.Heads.{laws, TakesOne, count_again, false_again, true_again, count_means, only_count, true_means, simple_means, truth_of, other_of_two, second_of_two}

-- ---- assertions

untimed_again : (rest : List ℕ) → untimed_at (truth false ++ rest) ≡ Ok (No, rest)
unfolding untimed_at
untimed_again rest = rw (false_again rest) refl

yes_again : (rest : List ℕ) → untimed_at (truth true ++ rest) ≡ Ok (Yes, rest)
unfolding untimed_at
yes_again rest = rw (true_again (20 ∷ 21 ∷ []) rest refl) refl

timed_again : (time : ℕ) (rest : List ℕ) → time < 2 ^ 64 → timed_at (truth true ++ (uint time ++ rest)) ≡ Ok (At time, rest)
unfolding timed_at
timed_again time rest small = rw (true_again (21 ∷ []) (uint time ++ rest) refl, number_again laws time rest small) refl

pub assertion_again : (made : Assertion) (rest : List ℕ) → IsAssertion made → assertion_at (assertion made ++ rest) ≡ Ok (made, rest)
unfolding assertion_at
assertion_again No rest fits =
    ap assertion_at (append_assoc (array_head 1) (truth false) rest)
    ∙ rw (count_again (1 ∷ 2 ∷ []) 1 (truth false ++ rest) (omega arith) refl) (untimed_again rest)
assertion_again Yes rest fits =
    ap assertion_at (append_assoc (array_head 1) (truth true) rest)
    ∙ rw (count_again (1 ∷ 2 ∷ []) 1 (truth true ++ rest) (omega arith) refl) (yes_again rest)
assertion_again (At time) rest fits =
    let regrouped : (array_head 2 ++ (truth true ++ uint time)) ++ rest ≡ array_head 2 ++ (truth true ++ (uint time ++ rest)) = append_assoc (array_head 2) (truth true ++ uint time) rest ∙ ap (λ (l : List ℕ). array_head 2 ++ l) (append_assoc (truth true) (uint time) rest) in
    ap assertion_at regrouped
    ∙ rw (count_again (1 ∷ 2 ∷ []) 2 (truth true ++ (uint time ++ rest)) (omega arith) refl) (timed_again time rest fits)

-- an assertion that was read
abbrev Asserts : List ℕ → Assertion × List ℕ → Type 0
Asserts bytes x = Takes bytes (assertion x.0) x.1 × IsAssertion x.0

abbrev said : Assertion × List ℕ → Result (Assertion × List ℕ) Stop
said x = Ok x

-- without the head of its array
untimed_of : (bytes rest : List ℕ) (value : ℕ) (b : Bool) (rest' : List ℕ) (x : Assertion × List ℕ) → Takes bytes (array_head 1) rest → TakesOne 7 (20 ∷ 21 ∷ []) rest (value, rest') → eqb value 21 ≡ b
    → cond b (said (Yes, rest')) (said (No, rest')) ≡ said x → Asserts bytes x
untimed_of bytes rest value true rest' x head m is e = subst (Asserts bytes) (ok_is (Yes, rest') x e) (Takes-then bytes (array_head 1) rest (truth true) rest' head (truth_of rest value true rest' is m), tt)
untimed_of bytes rest value false rest' x head m is e = subst (Asserts bytes) (ok_is (No, rest') x e) (Takes-then bytes (array_head 1) rest (truth false) rest' head (truth_of rest value false rest' is m), tt)

untimed_means : (bytes rest : List ℕ) (x : Assertion × List ℕ) → Takes bytes (array_head 1) rest → untimed_at rest ≡ Ok x → Asserts bytes x
unfolding untimed_at
untimed_means bytes rest x head e =
    let v = bind_ok (simple_at (20 ∷ 21 ∷ []) rest) (λ value. cond (eqb value.0 21) (Ok (Yes, value.1)) (Ok (No, value.1))) x e in
    let m = simple_means rest v.0 head.rest_fits v.1 in
    untimed_of bytes rest v.0.0 (eqb v.0.0 21) v.0.1 x head m refl v.2

timed_means : (bytes rest : List ℕ) (x : Assertion × List ℕ) → Takes bytes (array_head 2) rest → timed_at rest ≡ Ok x → Asserts bytes x
unfolding timed_at
timed_means bytes rest x head e =
    let v = bind_ok (simple_at (21 ∷ []) rest) (λ value. number_at value.1 >>= λ time. Ok (At time.0, time.1)) x e in
    let t = bind_ok (number_at v.0.1) (λ time. Ok (At time.0, time.1)) x v.2 in
    let value = true_means rest v.0 head.rest_fits v.1 in
    let time = number_means laws v.0.1 t.0 value.rest_fits t.1 in
    let both = Takes-then rest (truth true) v.0.1 (uint t.0.0) t.0.1 value time.0 in
    subst (Asserts bytes) (ok_is (At t.0.0, t.0.1) x t.2) (Takes-then bytes (array_head 2) rest (truth true ++ uint t.0.0) t.0.1 head both, time.1)

assertion_means : (bytes : List ℕ) (x : Assertion × List ℕ) → IsBytes bytes → assertion_at bytes ≡ Ok x → Asserts bytes x
unfolding assertion_at
assertion_means bytes x small e =
    let c = bind_ok (count_at (1 ∷ 2 ∷ []) bytes) (λ count. cond (eqb count.0 1) (untimed_at count.1) (timed_at count.1)) x e in
    let m = count_means (1 ∷ 2 ∷ []) bytes c.0 small c.1 in
    elim (chosen (eqb c.0.0 1) (untimed_at c.0.1) (timed_at c.0.1) (Ok x) c.2) [
      | inl one ↦ untimed_means bytes c.0.1 x (subst (λ (n : ℕ). Takes bytes (array_head n) c.0.1) (eqb-true _ _ one.0) m.0) one.1
      | inr other ↦ timed_means bytes c.0.1 x (subst (λ (n : ℕ). Takes bytes (array_head n) c.0.1) (second_of_two 1 2 c.0.0 m.1 other.0) m.0) other.1
    ]

-- ---- the status information

abbrev pub information_of : Asserted → List ℕ
information_of asserted = information asserted.received asserted.forwarded asserted.delivered asserted.deleted

-- four assertions
pub record AreAssertions (asserted : Asserted) : Type 0 where
  pub received : IsAssertion asserted.received
  pub forwarded : IsAssertion asserted.forwarded
  pub delivered : IsAssertion asserted.delivered
  pub deleted : IsAssertion asserted.deleted

pub information_again : (asserted : Asserted) (rest : List ℕ) → AreAssertions asserted → information_at (information_of asserted ++ rest) ≡ Ok (asserted, rest)
unfolding information_at
information_again asserted rest fits =
    let r4 = assertion asserted.deleted ++ rest in
    let r3 = assertion asserted.delivered ++ r4 in
    let r2 = assertion asserted.forwarded ++ r3 in
    let r1 = assertion asserted.received ++ r2 in
    let regrouped : information_of asserted ++ rest ≡ array_head 4 ++ r1 = simp append_assoc in
    ap information_at regrouped
    ∙ rw (
      count_again (4 ∷ []) 4 r1 (omega arith) refl,
      assertion_again asserted.received r2 fits.received,
      assertion_again asserted.forwarded r3 fits.forwarded,
      assertion_again asserted.delivered r4 fits.delivered,
      assertion_again asserted.deleted rest fits.deleted,
    ) refl

-- what follows each assertion
abbrev pub asserted_of : Assertion → Assertion → Assertion → Assertion × List ℕ → Result (Asserted × List ℕ) Stop
asserted_of received forwarded delivered deleted = Ok (record { received = received; forwarded = forwarded; delivered = delivered; deleted = deleted.0 }, deleted.1)

abbrev pub after_delivered : Assertion → Assertion → Assertion × List ℕ → Result (Asserted × List ℕ) Stop
after_delivered received forwarded delivered = assertion_at delivered.1 >>= asserted_of received forwarded delivered.0

abbrev pub after_forwarded : Assertion → Assertion × List ℕ → Result (Asserted × List ℕ) Stop
after_forwarded received forwarded = assertion_at forwarded.1 >>= after_delivered received forwarded.0

abbrev pub after_received : Assertion × List ℕ → Result (Asserted × List ℕ) Stop
after_received received = assertion_at received.1 >>= after_forwarded received.0

abbrev pub after_four : ℕ × List ℕ → Result (Asserted × List ℕ) Stop
after_four count = assertion_at count.1 >>= after_received

abbrev pub Informs : List ℕ → Asserted × List ℕ → Type 0
Informs bytes x = Takes bytes (information_of x.0) x.1 × AreAssertions x.0

pub information_means : (bytes : List ℕ) (x : Asserted × List ℕ) → IsBytes bytes → information_at bytes ≡ Ok x → Informs bytes x
unfolding information_at
information_means bytes x small e =
    let c = bind_ok (count_at (4 ∷ []) bytes) after_four x e in
    let r = bind_ok (assertion_at c.0.1) after_received x c.2 in
    let f = bind_ok (assertion_at r.0.1) (after_forwarded r.0.0) x r.2 in
    let d = bind_ok (assertion_at f.0.1) (after_delivered r.0.0 f.0.0) x f.2 in
    let l = bind_ok (assertion_at d.0.1) (asserted_of r.0.0 f.0.0 d.0.0) x d.2 in
    let count = only_count 4 bytes c.0 small c.1 in
    let received = assertion_means c.0.1 r.0 count.rest_fits r.1 in
    let forwarded = assertion_means r.0.1 f.0 received.0.rest_fits f.1 in
    let delivered = assertion_means f.0.1 d.0 forwarded.0.rest_fits d.1 in
    let deleted = assertion_means d.0.1 l.0 delivered.0.rest_fits l.1 in
    let t3 = Takes-then f.0.1 (assertion d.0.0) d.0.1 (assertion l.0.0) l.0.1 delivered.0 deleted.0 in
    let t2 = Takes-then r.0.1 (assertion f.0.0) f.0.1 (assertion d.0.0 ++ assertion l.0.0) l.0.1 forwarded.0 t3 in
    let t1 = Takes-then c.0.1 (assertion r.0.0) r.0.1 (assertion f.0.0 ++ (assertion d.0.0 ++ assertion l.0.0)) l.0.1 received.0 t2 in
    let t0 = Takes-then bytes (array_head 4) c.0.1 (assertion r.0.0 ++ (assertion f.0.0 ++ (assertion d.0.0 ++ assertion l.0.0))) l.0.1 count t1 in
    subst (Informs bytes) (ok_is (record { received = r.0.0; forwarded = f.0.0; delivered = d.0.0; deleted = l.0.0 }, l.0.1) x l.2)
    (t0, record { received = received.1; forwarded = forwarded.1; delivered = delivered.1; deleted = deleted.1 })

-- ---- the bundle that the report is about

abbrev pub subject_of : Subject → List ℕ
subject_of subject = ids.spelling subject.source ++ timestamp subject.created subject.sequence

pub record IsSubject (subject : Subject) : Type 0 where
  pub source : ids.Fits subject.source
  pub created : subject.created < 2 ^ 64
  pub sequence : subject.sequence < 2 ^ 64

pub subject_again : (subject : Subject) (rest : List ℕ) → IsSubject subject → subject_at (subject_of subject ++ rest) ≡ Ok (subject, rest)
unfolding subject_at
subject_again subject rest fits =
    let r3 = uint subject.sequence ++ rest in
    let r2 = uint subject.created ++ r3 in
    let r1 = array_head 2 ++ r2 in
    let regrouped : subject_of subject ++ rest ≡ ids.spelling subject.source ++ r1 = simp append_assoc in
    ap subject_at regrouped
    ∙ rw (
      id_again laws subject.source r1 fits.source,
      pair_again laws r2,
      number_again laws subject.created r3 fits.created,
      number_again laws subject.sequence rest fits.sequence,
    ) refl

-- what follows each of its parts
abbrev pub named_of : Eid → ℕ → ℕ × List ℕ → Result (Subject × List ℕ) Stop
named_of source created sequence = Ok (record { source = source; created = created; sequence = sequence.0 }, sequence.1)

abbrev pub after_created : Eid → ℕ × List ℕ → Result (Subject × List ℕ) Stop
after_created source created = number_at created.1 >>= named_of source created.0

abbrev pub after_pair : Eid → List ℕ → Result (Subject × List ℕ) Stop
after_pair source rest = number_at rest >>= after_created source

abbrev pub after_source : Eid × List ℕ → Result (Subject × List ℕ) Stop
after_source source = pair_at source.1 >>= after_pair source.0

abbrev pub Names : List ℕ → Subject × List ℕ → Type 0
Names bytes x = Takes bytes (subject_of x.0) x.1 × IsSubject x.0

rest_is_bytes : (bytes text rest : List ℕ) → IsBytes bytes → bytes ≡ text ++ rest → IsBytes rest
rest_is_bytes bytes text rest bs parts = subst IsBytes (ap (drop (length text)) parts ∙ drop_at text rest (length text) refl) (IsBytes-drop (length text) bytes bs)

pub subject_means : (bytes : List ℕ) (x : Subject × List ℕ) → IsBytes bytes → subject_at bytes ≡ Ok x → Names bytes x
unfolding subject_at
subject_means bytes x small e =
    let i = bind_ok (id_at bytes) after_source x e in
    let p = bind_ok (pair_at i.0.1) (after_pair i.0.0) x i.2 in
    let c = bind_ok (number_at p.0) (after_created i.0.0) x p.2 in
    let s = bind_ok (number_at c.0.1) (named_of i.0.0 c.0.0) x c.2 in
    let source = id_means laws bytes i.0 small i.1 in
    let source_takes : Takes bytes (ids.spelling i.0.0) i.0.1 = record { parts = source.0; rest_fits = rest_is_bytes bytes (ids.spelling i.0.0) i.0.1 small source.0 } in
    let pair = pair_means laws i.0.1 p.0 source_takes.rest_fits p.1 in
    let created = number_means laws p.0 c.0 pair.rest_fits c.1 in
    let sequence = number_means laws c.0.1 s.0 created.0.rest_fits s.1 in
    let t2 = Takes-then p.0 (uint c.0.0) c.0.1 (uint s.0.0) s.0.1 created.0 sequence.0 in
    let t1 = Takes-then i.0.1 (array_head 2) p.0 (uint c.0.0 ++ uint s.0.0) s.0.1 pair t2 in
    let t0 = Takes-then bytes (ids.spelling i.0.0) i.0.1 (array_head 2 ++ (uint c.0.0 ++ uint s.0.0)) s.0.1 source_takes t1 in
    subst (Names bytes) (ok_is (record { source = i.0.0; created = c.0.0; sequence = s.0.0 }, s.0.1) x s.2)
    (t0, record { source = source.1; created = created.1; sequence = sequence.1 })

-- ---- the extent

extent_again : (extent : Extent) (rest : List ℕ) → IsExtent extent → extent_at ((uint extent.offset ++ uint extent.length) ++ rest) ≡ Ok (extent, rest)
unfolding extent_at
extent_again extent rest fits =
    ap extent_at (append_assoc (uint extent.offset) (uint extent.length) rest)
    ∙ rw (number_again laws extent.offset (uint extent.length ++ rest) fits.0, number_again laws extent.length rest fits.1) refl

pub piece_again : (piece : Option Extent) (rest : List ℕ) → ForSome piece IsExtent → piece_at (content_count piece) (extent_items piece ++ rest) ≡ Ok (piece, rest)
unfolding piece_at
piece_again None rest fits = refl
piece_again (Some extent) rest fits = rw (extent_again extent rest (fits extent refl)) refl

-- an extent that was read, or none
pub record TakesPiece (count : ℕ) (bytes : List ℕ) (x : Option Extent × List ℕ) : Type 0 where
  pub takes : Takes bytes (extent_items x.0) x.1
  pub fits : ForSome x.0 IsExtent
  pub counted : content_count x.0 ≡ count

some_means : (count : ℕ) (bytes : List ℕ) (x : Option Extent × List ℕ) → IsBytes bytes → count ≡ 6 → (extent_at bytes >>= λ extent. Ok (Some extent.0, extent.1)) ≡ Ok x → TakesPiece count bytes x
unfolding extent_at
some_means count bytes x small six e =
    let b = bind_ok (extent_at bytes) (λ extent. Ok (Some extent.0, extent.1)) x e in
    let o = bind_ok (number_at bytes) (λ offset. number_at offset.1 >>= λ len. Ok (record { offset = offset.0; length = len.0 }, len.1)) b.0 b.1 in
    let l = bind_ok (number_at o.0.1) (λ len. Ok (record { offset = o.0.0; length = len.0 }, len.1)) b.0 o.2 in
    let offset = number_means laws bytes o.0 small o.1 in
    let len = number_means laws o.0.1 l.0 offset.0.rest_fits l.1 in
    let both = Takes-then bytes (uint o.0.0) o.0.1 (uint l.0.0) l.0.1 offset.0 len.0 in
    let extent : Extent × List ℕ = (record { offset = o.0.0; length = l.0.0 }, l.0.1) in
    let same : extent ≡ b.0 = ok_is extent b.0 l.2 in
    let found : TakesPiece count bytes (Some extent.0, extent.1) = record { takes = both; fits = λ other is. let eq : extent.0 ≡ other = cc in subst IsExtent eq (offset.1, len.1); counted = sym six } in
    subst (TakesPiece count bytes) (ap (λ (y : Extent × List ℕ). (Some y.0, y.1)) same ∙ ok_is (Some b.0.0, b.0.1) x b.2) found

abbrev nothing_at : List ℕ → Result (Option Extent × List ℕ) Stop
nothing_at bytes = Ok (None, bytes)

none_means : (count : ℕ) (bytes : List ℕ) (x : Option Extent × List ℕ) → IsBytes bytes → count ≡ 4 → nothing_at bytes ≡ Ok x → TakesPiece count bytes x
none_means count bytes x small four e =
    subst (TakesPiece count bytes) (ok_is (None, bytes) x e) (record { takes = record { parts = refl; rest_fits = small }; fits = λ extent is. absurd cc; counted = sym four })

pub piece_means : (count : ℕ) (bytes : List ℕ) (x : Option Extent × List ℕ) → IsBytes bytes → is_among (4 ∷ 6 ∷ []) count ≡ true → piece_at count bytes ≡ Ok x → TakesPiece count bytes x
unfolding piece_at
piece_means count bytes x small among e =
    elim (chosen (eqb count 6) (extent_at bytes >>= λ extent. Ok (Some extent.0, extent.1)) (Ok (None, bytes)) (Ok x) e) [
      | inl there ↦ some_means count bytes x small (eqb-true _ _ there.0) there.1
      | inr absent ↦ none_means count bytes x small (other_of_two 4 6 count among absent.0) absent.1
    ]
