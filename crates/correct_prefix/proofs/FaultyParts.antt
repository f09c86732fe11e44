-- A token of a bundle that isn't permitted is refused whatever follows it: ids, checks, and the first and last byte.
use Rattle.std.proofs.Common.{◌≡◌, ◌≢◌, ℕ, suc, ◌+◌, ◌<◌, inl, inr, Bool, true, false, cond, eqb, List, [], ◌∷◌, ◌++◌, length, Result, Ok, Err, refl, sym, ◌∙◌, ap, subst, arith}
use Rattle.std.specs.Prelude.{bytes_eq}
use Rattle.std.proofs.lemmas.Bool.{eqb-true, eq-eqb}
use Rattle.std.proofs.lemmas.List.{length-append}
use Rattle.cbor_profile.specs.Head.{head_spelling}
use Rattle.cbor_profile.specs.Step.{◌>>=◌}
use Rattle.cbor_profile.specs.declared.TheConstants.{BUNDLE_LIMIT}
use Rattle.cbor_profile.specs.declared.fault.Reason.{Reason}
use Rattle.cbor_profile.specs.declared.fault.Reason.TheVariants as reasons
use Rattle.cbor_profile.specs.declared.fault.Fault.{Fault}
use Rattle.bp_crc.specs.declared.kind.CheckKind.{CheckKind}
use Rattle.bp_crc.specs.declared.kind.CheckKind.TheVariants as kinds
use Rattle.bp_crc.specs.Item.{check_item, zeros, check_of}
use Rattle.bp_eid.specs.declared.eid.Eid.{Eid}
use Rattle.bp_eid.specs.declared.stop.Stop.{Stop}
use Rattle.bp_eid.specs.EndpointId as ids
use Rattle.bp_eid.specs.Reading as reading
use Rattle.bp_eid.specs.Reading.{read_id, answer}
use Rattle.bp_bundle.specs.declared.token.Token.TheVariants as tokens
use Rattle.bp_bundle.specs.Tokens.{Cursor, stops, argument_at}
use Rattle.bp_bundle.specs.FirstFault.{after_byte, begin_at, end_at, content_at, after_id, id_at, check_type_at, check_string_at, check_at}
use Rattle.bp_bundle.proofs.HeadsAsSpelled.{IsBytes, here, text_of, argument_means}
use Rattle.bp_bundle.proofs.ReadPrimaryIsSpelled.{id_means, content_means, check_means}
use Rattle.bp_bundle.proofs.ReadBundleIsSpelled.{string_room}
use Rattle.bp_bundle.proofs.SpelledIsRead.{id_again, content_again, check_again}
use Rattle.correct_prefix.proofs.StopsBehindPrefix.{stopped, content_unfinished, placed as cursor_placed}
use Rattle.correct_prefix.proofs.IdStopsBehindPrefix.{placed}
use Rattle.correct_prefix.proofs.HeaderStopsBehindPrefix.{with_kind}
use Rattle.correct_prefix.proofs.FaultyToken.{pairs, cursors, Kept, Sealed, Seals, stopped_by, sealed_first, seals_then, seals_ok, stops_same}
use Rattle.correct_prefix.proofs.FaultyHead.{SealLaws, argument_once, argument_seals}
use Rattle.correct_prefix.proofs.FaultyId.{id_sealed_list}

-- ---- ids

id_kept : (laws : SealLaws) (c : Cursor) (x : Eid × Cursor) → IsBytes c.rest → id_at c ≡ Ok x → Kept (pairs Eid) id_at c x
id_kept laws c x fits e =
    let m = id_means laws.laws c x fits e in
    record {
      text = ids.spelling x.0;
      took = m.took;
      again = λ more. id_again laws.laws x.0 c.at more m.fits ∙ ap (λ (n : ℕ). Ok (x.0, here n more)) (sym m.took.moved);
    }

id_by : (laws : SealLaws) (c : Cursor) (r : Result (Eid × List ℕ) Stop) (fault : Fault) → IsBytes c.rest → fault.reason ≢ reasons.Truncated → reading.id_at c.rest ≡ r → after_id c (answer c.rest r) ≡ Err fault → Sealed id_at c fault
unfolding id_at read_id
id_by laws c (Ok x) fault fits other is e = absurd cc
id_by laws c (Err stop) fault fits other is e =
    let reason : fault.reason ≡ stop.reason = cc in
    let place : fault.place ≡ c.at + reading.place_of (length c.rest) stop.reason stop.left = cc in
    let refused : stop.reason ≢ reasons.Truncated = λ early. other (reason ∙ early) in
    let s = id_sealed_list laws c.rest stop fits refused is in
    let all = ap length s.parts ∙ length-append s.front (s.token ++ s.more) in
    let left = s.left in
    let first : reading.place_of (length c.rest) stop.reason stop.left ≡ length s.front = placed (length c.rest) stop.left stop.reason refused ∙ omega arith in
    record {
      front = s.front;
      token = s.token;
      more = s.more;
      parts = s.parts;
      place = place ∙ ap (λ (n : ℕ). c.at + n) first;
      is_token = s.is_token;
      again = λ others.
          let text = s.front ++ (s.token ++ others) in
          let same : reading.place_of (length text) stop.reason (length (s.token ++ others)) ≡ length s.front = placed (length text) (length (s.token ++ others)) stop.reason refused ∙ omega (arith, length-append s.front (s.token ++ others)) in
          ap (λ (r : Result (Eid × List ℕ) Stop). after_id (here c.at text) (answer text r)) (s.again others)
          ∙ (ap (λ (n : ℕ). Err (record { place = c.at + n; reason = stop.reason })) (same ∙ sym first) ∙ e);
    }

pub id_seals : (laws : SealLaws) → Seals (pairs Eid) id_at
unfolding id_at read_id
id_seals laws = record { kept = id_kept laws; sealed = λ c fault fits e other. id_by laws c (reading.id_at c.rest) fault fits other refl e }

-- ---- contents and checks

content_once : (len : ℕ) (c : Cursor) (x : List ℕ × Cursor) → IsBytes c.rest → content_at len c ≡ Ok x → (more : List ℕ) → content_at len (here c.at (x.0 ++ more)) ≡ Ok (x.0, here x.1.at more)
content_once len c x fits e more =
    let m = content_means len c x fits e in
    ap (λ (n : ℕ). content_at n (here c.at (x.0 ++ more))) (sym m.long) ∙ (content_again x.0 c.at more ∙ ap (λ (n : ℕ). Ok (x.0, here n more)) (sym m.took.moved))

content_kept : (len : ℕ) (c : Cursor) (x : List ℕ × Cursor) → IsBytes c.rest → content_at len c ≡ Ok x → Kept (pairs (List ℕ)) (content_at len) c x
content_kept len c x fits e = record { text = x.0; took = (content_means len c x fits e).took; again = content_once len c x fits e }

pub content_seals : (len : ℕ) → Seals (pairs (List ℕ)) (content_at len)
content_seals len = record { kept = content_kept len; sealed = λ c fault fits e other. absurd (other (content_unfinished len c fault e).0) }

pub check_type_seals : (laws : SealLaws) (checked : Bool) → Seals (pairs CheckKind) (check_type_at checked)
unfolding check_type_at
check_type_seals laws checked =
    seals_then (pairs ℕ) (pairs CheckKind) (argument_at [] (tokens.CheckType checked)) with_kind (argument_seals laws [] (tokens.CheckType checked)) (λ c x fits is. seals_ok (check_of x.0))

abbrev compared : List ℕ → Cursor → List ℕ × Cursor → Result Cursor Fault
compared check c found = cond (bytes_eq found.0 check) (Ok found.1) (stops c reasons.WrongCheck)

abbrev with_length : List ℕ → ℕ × Cursor → Result Cursor Fault
with_length check len = content_at len.0 len.1 >>= compared check len.1

-- where the bytes of a check are refused
wrong_check : (laws : SealLaws) (kind : CheckKind) (check : List ℕ) (c : Cursor) (x : ℕ × Cursor) (y : List ℕ × Cursor) (fault : Fault) → IsBytes c.rest → argument_at [] (tokens.CheckString kind) c ≡ Ok x → content_at x.0 x.1 ≡ Ok y
    → (b : Bool) → bytes_eq y.0 check ≡ b → cond b (Ok y.1) (stops x.1 reasons.WrongCheck) ≡ Err fault → Sealed (λ c'. argument_at [] (tokens.CheckString kind) c' >>= with_length check) c fault
wrong_check laws kind check c x y fault fits ex ey true is e = absurd cc
wrong_check laws kind check c x y fault fits ex ey false is e =
    let token = tokens.CheckString kind in
    let h = argument_means laws.laws.heads [] token c x fits ex in
    let m = content_means x.0 x.1 y h.took.fits ey in
    let s = stopped {A = Cursor} x.1 reasons.WrongCheck fault e in
    let front = text_of token x.0 in
    record {
      front = front;
      token = y.0;
      more = y.1.rest;
      parts = h.took.parts ∙ ap (λ (t : List ℕ). front ++ t) m.took.parts;
      place = s.0 ∙ h.took.moved;
      is_token = inr (inr ([], 2, inl refl, ap (head_spelling 2) (sym m.long)));
      again = λ others.
          let read = argument_once laws [] token c x fits ex (y.0 ++ others) in
          let content = content_once x.0 x.1 y h.took.fits ey others in
          ap (λ (r : Result (ℕ × Cursor) Fault). r >>= with_length check) read ∙ (ap (λ (r : Result (List ℕ × Cursor) Fault). r >>= compared check (here x.1.at (y.0 ++ others))) content ∙ rw is e);
    }

string_sealed : (laws : SealLaws) (kind : CheckKind) (check : List ℕ) (c : Cursor) (fault : Fault) → IsBytes c.rest → check_string_at kind check c ≡ Err fault → fault.reason ≢ reasons.Truncated → Sealed (check_string_at kind check) c fault
unfolding check_string_at
string_sealed laws kind check c fault fits e other =
    elim (stopped_by (argument_at [] (tokens.CheckString kind) c) (with_length check) fault e) [
      | inl is ↦ sealed_first (argument_at [] (tokens.CheckString kind)) (with_length check) c fault ((argument_seals laws [] (tokens.CheckString kind)).sealed c fault fits is other)
      | inr x ↦
          elim (stopped_by (content_at x.0.0 x.0.1) (compared check x.0.1) fault x.2) [
            | inl missing ↦ absurd (other (content_unfinished x.0.0 x.0.1 fault missing).0)
            | inr y ↦ wrong_check laws kind check c x.0 y.0 fault fits x.1 y.1 (bytes_eq y.0.0 check) refl y.2
          ]
    ]

check_kept : (laws : SealLaws) (kind : CheckKind) (check : List ℕ) (c x : Cursor) → length check ≡ length (zeros kind) → IsBytes c.rest → check_at kind check c ≡ Ok x → c.at + length (check_item kind check) < BUNDLE_LIMIT → Kept cursors (check_at kind check) c x
check_kept laws kind check c x long fits e room =
    let took = check_means laws.laws kind check c x long fits e in
    record { text = check_item kind check; took = took; again = λ more. check_again laws.laws kind check c.at more long room ∙ ap (λ (n : ℕ). Ok (here n more)) (sym took.moved) }

pub check_seals : (laws : SealLaws) (kind : CheckKind) (check : List ℕ) → length check ≡ length (zeros kind) → Seals cursors (check_at kind check)
unfolding check_at
check_seals laws kinds.None check long = record { kept = λ c x fits e. none_kept c x fits e; sealed = λ c fault fits e other. absurd cc }
  where
    cursor_same : (a b : Cursor) → ◌≡◌ {A = Result Cursor Fault} (Ok a) (Ok b) → a ≡ b
    cursor_same a b e = cc

    none_kept : (c x : Cursor) → IsBytes c.rest → ◌≡◌ {A = Result Cursor Fault} (Ok c) (Ok x) → Kept cursors (λ c'. Ok c') c x
    none_kept c x fits e = subst (Kept cursors (λ c'. Ok c') c) (cursor_same c x e) (record { text = []; took = record { parts = refl; moved = omega arith; fits = fits }; again = λ more. refl })
check_seals laws kinds.Crc16 check long = record {
  kept = λ c x fits e.
      let took = check_means laws.laws kinds.Crc16 check c x long fits e in
      check_kept laws kinds.Crc16 check c x long fits e (rw (← took.moved) (string_room laws.laws kinds.Crc16 check c x fits e));
  sealed = string_sealed laws kinds.Crc16 check;
}
check_seals laws kinds.Crc32c check long = record {
  kept = λ c x fits e.
      let took = check_means laws.laws kinds.Crc32c check c x long fits e in
      check_kept laws kinds.Crc32c check c x long fits e (rw (← took.moved) (string_room laws.laws kinds.Crc32c check c x fits e));
  sealed = string_sealed laws kinds.Crc32c check;
}

-- ---- the first and the last byte

byte_seals : (byte : ℕ) (reason : Reason) → reason ≢ reasons.Truncated → Seals cursors (λ c. after_byte byte (stops c reason) c c.rest)
byte_seals byte reason other = record { kept = λ c x fits e. kept c.at c.rest x fits e; sealed = λ c fault fits e own. sealed c.at c.rest fault e own }
  where
    went_on : (b : Bool) (at : ℕ) (rest all : List ℕ) (x : Cursor) → cond b (Ok (here (at + 1) rest)) (stops (here at all) reason) ≡ Ok x → (b ≡ true) × (here (at + 1) rest ≡ x)
    went_on true at rest all x e = (refl, cc)
    went_on false at rest all x e = absurd cc

    kept : (at : ℕ) (rest : List ℕ) (x : Cursor) → IsBytes rest → after_byte byte (stops (here at rest) reason) (here at rest) rest ≡ Ok x → Kept cursors (λ c. after_byte byte (stops c reason) c c.rest) (here at rest) x
    kept at [] x fits e = absurd cc
    kept at (first ∷ rest) x fits e =
        let p = went_on (eqb first byte) at rest (first ∷ rest) x e in
        let same : first ≡ byte = eqb-true first byte p.0 in
        subst (Kept cursors (λ c. after_byte byte (stops c reason) c c.rest) (here at (first ∷ rest))) p.1
        (record { text = byte ∷ []; took = record { parts = ap (λ (b : ℕ). b ∷ rest) same; moved = refl; fits = λ i. fits (suc i) }; again = λ more. rw (eq-eqb byte byte refl) refl })

    refused : (b : Bool) (at : ℕ) (rest all : List ℕ) (fault : Fault) → cond b (Ok (here (at + 1) rest)) (stops (here at all) reason) ≡ Err fault → (b ≡ false) × (stops {A = Cursor} (here at all) reason ≡ Err fault)
    refused true at rest all fault e = absurd cc
    refused false at rest all fault e = (refl, e)

    sealed : (at : ℕ) (rest : List ℕ) (fault : Fault) → after_byte byte (stops (here at rest) reason) (here at rest) rest ≡ Err fault → fault.reason ≢ reasons.Truncated → Sealed (λ c. after_byte byte (stops c reason) c c.rest) (here at rest) fault
    sealed at [] fault e own = absurd (own (stopped {A = Cursor} (here at []) reasons.Truncated fault e).1)
    sealed at (first ∷ rest) fault e own =
        let p = refused (eqb first byte) at rest (first ∷ rest) fault e in
        record {
          front = [];
          token = first ∷ [];
          more = rest;
          parts = refl;
          place = placed_here at (first ∷ rest) fault p.1 ∙ omega arith;
          is_token = inl refl;
          again = λ others. rw p.0 (stops_same {A = Cursor} at (first ∷ others) (first ∷ rest) reason other ∙ p.1);
        }
      where
        placed_here : (at : ℕ) (rest : List ℕ) (fault : Fault) → stops {A = Cursor} (here at rest) reason ≡ Err fault → fault.place ≡ at
        placed_here at rest fault e = (stopped {A = Cursor} (here at rest) reason fault e).0 ∙ cursor_placed (here at rest) reason other

pub begin_seals : Seals cursors begin_at
unfolding begin_at
begin_seals = byte_seals 0x9f reasons.NotBundle (λ e. cc)

pub end_seals : Seals cursors end_at
unfolding end_at
end_seals = byte_seals 0xff reasons.WrongKind (λ e. cc)
