-- Where reading an id stops, what stands before begins one, and bytes that end too early leave a token that isn't whole.
use Rattle.std.proofs.Common.{◌≡◌, ◌≢◌, ℕ, zero, suc, ◌+◌, ◌-◌, ◌^◌, ◌<◌, ◌≤◌, inl, inr, ◌⊎◌, Bool, true, false, cond, ltb, eqb, ◌||◌, List, [], ◌∷◌, ◌++◌, length, take, drop, Result, Ok, Err, refl, sym, ◌∙◌, ap, subst, append-nil, arith}
use Rattle.std.specs.Prelude.{replicate}
use Rattle.std.specs.List.{list_any, list_all}
use Rattle.std.proofs.lemmas.Bool.{ltb-true, ltb-false, eqb-true, le-leb, cases_lt}
use Rattle.std.proofs.lemmas.List.{length-append}
use Rattle.cbor_profile.specs.Head.{head_spelling}
use Rattle.cbor_profile.specs.Put.{uint, text_string, array_head}
use Rattle.cbor_profile.specs.Step.{◌>>=◌}
use Rattle.cbor_profile.specs.declared.fault.Reason.{Reason}
use Rattle.cbor_profile.specs.declared.fault.Reason.TheVariants as reasons
use Rattle.cbor_profile.specs.declared.fault.Fault.{Fault}
use Rattle.bp_eid.specs.declared.eid.Eid.{Eid}
use Rattle.bp_eid.specs.declared.eid.Eid.TheVariants.{Null, Dtn, Ipn}
use Rattle.bp_eid.specs.declared.stop.Stop.{Stop}
use Rattle.bp_eid.specs.DtnText.{is_dtn_text, is_visible, slash, IsDtnText}
use Rattle.bp_eid.specs.EndpointId as ids
use Rattle.bp_eid.specs.EndpointId.{scheme, specific_part, Fits}
use Rattle.bp_eid.specs.Reading as reading
use Rattle.bp_eid.specs.Reading.{stops, number_at, content_at, dtn_at, ipn_at, read_id, answer}
use Rattle.bp_bundle.specs.Tokens.{Cursor}
use Rattle.bp_bundle.specs.FirstFault.{after_id, id_at}
use Rattle.correct_prefix.specs.Prefix.{Begins, EndsInTextTooShort}
use Rattle.correct_prefix.specs.Spelled.{IsId}
use Rattle.bp_bundle.proofs.HeadsAsSpelled.{IsBytes, TokenLaws}
use Rattle.correct_prefix.proofs.StopsBehindPrefix.{Some_of, Starting, started, begun, Reached}
use Rattle.correct_prefix.proofs.ListStopsBehindPrefix.{Cut, cut_behind, cut_then, stopped, other_cut, either_cut, Starts, step_cut, pair_cut, number_cut}

-- ---- the parts of an id

abbrev IsSchemed : List ℕ → Type 0
IsSchemed text = (eid : Eid) × Fits eid × (text ≡ uint (scheme eid) ++ specific_part eid)

abbrev IsPart : ℕ → List ℕ → Type 0
IsPart number text = (eid : Eid) × Fits eid × (scheme eid ≡ number) × (text ≡ specific_part eid)

abbrev IsNumber : List ℕ → Type 0
IsNumber text = (n : ℕ) × (n < 2 ^ 64) × (text ≡ uint n)

abbrev AreNumbers : List ℕ → Type 0
AreNumbers text = (n : ℕ) × (m : ℕ) × (n < 2 ^ 64) × (m < 2 ^ 64) × (text ≡ uint n ++ uint m)

some_null : Starting (IsPart 1) 0
unfolding uint
some_null = (0, [], (Null, tt, refl {a = 1}, refl {a = uint 0}))

-- ---- texts

letters : ℕ → List ℕ
letters n = replicate n 97

visible_letters : (n : ℕ) → list_all is_visible (letters n) ≡ true
unfolding letters
visible_letters zero = refl
visible_letters (suc n) = visible_letters n

length-letters : (n : ℕ) → length (letters n) ≡ n
unfolding letters
length-letters zero = refl
length-letters (suc n) = ap suc (length-letters n)

some_text : ℕ → List ℕ
some_text n = slash ∷ slash ∷ 97 ∷ letters n

is_text : (n : ℕ) → n < 1022 → IsDtnText (some_text n)
unfolding is_dtn_text some_text
is_text n few = rw (le-leb (length (some_text n)) 1024 (omega (arith, length-letters n)), visible_letters n) refl

long_text : (len : ℕ) → 3 ≤ len → len ≤ 1024 → Starting (IsPart 1) 3
unfolding text_string some_text
long_text len low high = let text = some_text (len - 3) in (length text, text, (Dtn text, is_text (len - 3) (omega arith), refl {a = 1}, refl {a = text_string text}))

begins_long : (len : ℕ) → 3 ≤ len → len ≤ 1024 → Begins (IsPart 1) (head_spelling 3 len)
unfolding long_text some_text
begins_long len low high =
    let long : length (some_text (len - 3)) ≡ len = omega (arith, length-letters (len - 3)) in
    subst (λ (n : ℕ). Begins (IsPart 1) (head_spelling 3 n)) long (begun (IsPart 1) 3 (long_text len low high))

begins_text : (len : ℕ) → len ≤ 1024 → Begins (IsPart 1) (head_spelling 3 len) ⊎ EndsInTextTooShort (IsPart 1) (head_spelling 3 len)
begins_text len high = elim (cases_lt len 3) [
  | inl few ↦ inr ([], len, few, refl, begins_long 3 (omega arith) (omega arith))
  | inr low ↦ inl (begins_long len low high)
]

-- the content of a text
text_cut : (len : ℕ) (bytes rest : List ℕ) (stop : Stop) → len ≤ 1024 → bytes ≡ head_spelling 3 len ++ rest → content_at len rest ≡ Err stop → Cut (IsPart 1) bytes stop
unfolding content_at
text_cut len bytes rest stop high parts e = by (ltb (length rest) len) refl e
  where
    cut_text : (reason : Reason) → (reason ≡ reasons.Truncated → length rest < len) → stops {A = List ℕ × List ℕ} rest reason ≡ Err stop → Cut (IsPart 1) bytes stop
    cut_text reason missing e =
        let s = stopped {A = List ℕ × List ℕ} rest reason stop e in
        record { front = head_spelling 3 len; rest = rest; parts = parts; left = sym s.0; begins = begins_text len high; unfinished = λ early. inr (inr ([], 3, len, inr refl, missing (sym s.1 ∙ early), refl)) }

    by_text : (b : Bool) → cond b (Ok (take len rest, drop len rest)) (stops {A = List ℕ × List ℕ} rest reasons.WrongText) ≡ Err stop → Cut (IsPart 1) bytes stop
    by_text true e = absurd cc
    by_text false e = cut_text reasons.WrongText (λ early. absurd cc) e

    by : (b : Bool) → ltb (length rest) len ≡ b → cond b (stops {A = List ℕ × List ℕ} rest reasons.Truncated) (cond (is_dtn_text (take len rest)) (Ok (take len rest, drop len rest)) (stops rest reasons.WrongText)) ≡ Err stop → Cut (IsPart 1) bytes stop
    by true is e = cut_text reasons.Truncated (λ early. ltb-true _ _ is) e
    by false is e = by_text (is_dtn_text (take len rest)) e

pub null_or_text : (major : ℕ) → list_any (λ kind. eqb kind major) (0 ∷ 3 ∷ []) ≡ true → eqb major 0 ≡ false → major ≡ 3
null_or_text major among other = by (eqb 0 major) (eqb 3 major) refl refl among
  where
    by : (a b : Bool) → eqb 0 major ≡ a → eqb 3 major ≡ b → (a || (b || false)) ≡ true → major ≡ 3
    by true b none three e = absurd (let same : 0 ≡ major = eqb-true 0 major none in let clash : eqb 0 0 ≡ false = subst (λ (m : ℕ). eqb m 0 ≡ false) (sym same) other in cc)
    by false true none three e = sym (eqb-true 3 major three)
    by false false none three e = absurd cc

starts_part : Starts (IsPart 1) (0 ∷ 3 ∷ [])
starts_part major among = by (eqb major 0) refl
  where
    by : (b : Bool) → eqb major 0 ≡ b → Starting (IsPart 1) major
    by true is = subst (Starting (IsPart 1)) (sym (eqb-true _ _ is)) some_null
    by false is = subst (Starting (IsPart 1)) (sym (null_or_text major among is)) (long_text 3 (omega arith) (omega arith))

null_text : Some_of (IsPart 1)
null_text = started (IsPart 1) 0 some_null

dtn_cut : (laws : TokenLaws) (bytes : List ℕ) (stop : Stop) → IsBytes bytes → dtn_at bytes ≡ Err stop → Cut (IsPart 1) bytes stop
unfolding dtn_at
dtn_cut laws bytes stop fits e =
    step_cut laws (IsPart 1) (0 ∷ 3 ∷ []) bytes _ stop fits null_text starts_part e
    (λ x h g.
    either_cut (IsPart 1) bytes (eqb x.0.major 0) _ _ stop g
    (λ none k. either_cut (IsPart 1) bytes (eqb x.0.value 0) (Ok (Null, x.1)) (stops bytes reasons.WrongValue) stop k (λ b l. absurd cc) (λ b l. other_cut {A = Eid × List ℕ} (IsPart 1) bytes reasons.WrongValue stop null_text (λ r. cc) l))
    (λ other k.
    either_cut (IsPart 1) bytes (ltb 1024 x.0.value) (stops bytes reasons.WrongValue) _ stop k (λ b l. other_cut {A = Eid × List ℕ} (IsPart 1) bytes reasons.WrongValue stop null_text (λ r. cc) l)
    (λ b l.
    let three = null_or_text x.0.major h.among other in
    cut_then (IsPart 1) bytes (content_at x.0.value x.1) (λ text. Ok (Dtn text.0, text.1)) stop l (text_cut x.0.value bytes x.1 stop (ltb-false _ _ b) (h.parts ∙ ap (λ (m : ℕ). head_spelling m x.0.value ++ x.1) three))
    (λ t is m. absurd cc))))

-- ---- the scheme ipn, and the whole

abbrev after_service : ℕ → ℕ × List ℕ → Result (Eid × List ℕ) Stop
after_service node service = Ok (Ipn node service.0, service.1)

some_last : Starting IsNumber 0
unfolding uint
some_last = (0, [], (0, omega arith, append-nil (head_spelling 0 0)))

last_cut : (laws : TokenLaws) (node : ℕ) (bytes : List ℕ) (stop : Stop) → IsBytes bytes → (number_at bytes >>= after_service node) ≡ Err stop → Cut IsNumber bytes stop
last_cut laws node bytes stop fits e = number_cut laws IsNumber bytes (after_service node) stop fits some_last e (λ x n h. absurd cc)

some_numbers : Starting AreNumbers 0
unfolding uint
some_numbers = (0, uint 0, (0, 0, omega arith, omega arith, refl))

ipn_cut : (laws : TokenLaws) (bytes : List ℕ) (stop : Stop) → IsBytes bytes → ipn_at bytes ≡ Err stop → Cut (IsPart 2) bytes stop
unfolding ipn_at
ipn_cut laws bytes stop fits e =
    pair_cut laws AreNumbers (IsPart 2) bytes _ stop fits (started AreNumbers 0 some_numbers) (λ t k. (Ipn k.0 k.1, (k.2, k.3), refl {a = 2}, ap (λ (l : List ℕ). array_head 2 ++ l) k.4)) e
    (λ rest small h.
    number_cut laws AreNumbers rest _ stop small some_numbers h
    (λ x n g. cut_behind IsNumber AreNumbers (uint x.0) rest x.1 stop n.parts (λ t k. (x.0, k.0, n.small, k.1, ap (λ (l : List ℕ). uint x.0 ++ l) k.2)) (last_cut laws x.0 x.1 stop n.rest_fits g)))

schemed : (number : ℕ) (t : List ℕ) → IsPart number t → IsSchemed (uint number ++ t)
schemed number t (eid, fits, is, text) = (eid, fits, ap (λ (n : ℕ). uint n ++ t) (sym is) ∙ ap (λ (l : List ℕ). uint (scheme eid) ++ l) text)

some_schemed : Starting IsSchemed 0
unfolding uint
some_schemed = (1, null_text.0, schemed 1 null_text.0 null_text.1)

pub id_cut : (laws : TokenLaws) (bytes : List ℕ) (stop : Stop) → IsBytes bytes → reading.id_at bytes ≡ Err stop → Cut IsId bytes stop
unfolding reading.id_at ids.spelling
id_cut laws bytes stop fits e =
    pair_cut laws IsSchemed IsId bytes _ stop fits (started IsSchemed 0 some_schemed) (λ t k. (k.0, k.1, ap (λ (l : List ℕ). array_head 2 ++ l) k.2)) e
    (λ rest small h.
    number_cut laws IsSchemed rest _ stop small some_schemed h
    (λ x n g.
    either_cut IsSchemed rest (eqb x.0 1) (dtn_at x.1) _ stop g
    (λ b k. cut_behind (IsPart 1) IsSchemed (uint 1) rest x.1 stop (n.parts ∙ ap (λ (v : ℕ). uint v ++ x.1) (eqb-true _ _ b)) (schemed 1) (dtn_cut laws x.1 stop n.rest_fits k))
    (λ b k.
    either_cut IsSchemed rest (eqb x.0 2) (ipn_at x.1) (stops rest reasons.WrongValue) stop k
    (λ d l. cut_behind (IsPart 2) IsSchemed (uint 2) rest x.1 stop (n.parts ∙ ap (λ (v : ℕ). uint v ++ x.1) (eqb-true _ _ d)) (schemed 2) (ipn_cut laws x.1 stop n.rest_fits l))
    (λ d l. other_cut {A = Eid × List ℕ} IsSchemed rest reasons.WrongValue stop (started IsSchemed 0 some_schemed) (λ r. cc) l))))

-- ---- the id of a bundle

pub placed : (given left : ℕ) (reason : Reason) → reason ≢ reasons.Truncated → reading.place_of given reason left ≡ given - left
placed given left reasons.NotBundle other = refl
placed given left reasons.Truncated other = absurd (other refl)
placed given left reasons.NotShortest other = refl
placed given left reasons.WrongKind other = refl
placed given left reasons.WrongCount other = refl
placed given left reasons.WrongValue other = refl
placed given left reasons.WrongText other = refl
placed given left reasons.WrongCheck other = refl
placed given left reasons.TooLong other = refl
placed given left reasons.Trailing other = refl
placed given left reasons.Repeated other = refl

id_by : (laws : TokenLaws) (cursor : Cursor) (r : Result (Eid × List ℕ) Stop) (fault : Fault) → IsBytes cursor.rest → reading.id_at cursor.rest ≡ r → after_id cursor (answer cursor.rest r) ≡ Err fault → Reached IsId cursor fault
id_by laws cursor (Ok x) fault fits is e = absurd cc
id_by laws cursor (Err stop) fault fits is e =
    let c = id_cut laws cursor.rest stop fits is in
    let all : length cursor.rest ≡ length c.front + length c.rest = ap length c.parts ∙ length-append c.front c.rest in
    let left = c.left in
    let len : length cursor.rest - stop.left ≡ length c.front = omega arith in
    let place : fault.place ≡ cursor.at + reading.place_of (length cursor.rest) stop.reason stop.left = cc in
    let reason : fault.reason ≡ stop.reason = cc in
    record {
      front = c.front;
      rest = c.rest;
      parts = c.parts;
      place = λ other. place ∙ ap (λ (n : ℕ). cursor.at + n) (placed (length cursor.rest) stop.left stop.reason (λ early. other (reason ∙ early)) ∙ len);
      begins = c.begins;
      unfinished = λ early. c.unfinished (sym reason ∙ early);
    }

pub id_reached : (laws : TokenLaws) (cursor : Cursor) (fault : Fault) → IsBytes cursor.rest → id_at cursor ≡ Err fault → Reached IsId cursor fault
unfolding id_at read_id
id_reached laws cursor fault fits e = id_by laws cursor (reading.id_at cursor.rest) fault fits refl e
