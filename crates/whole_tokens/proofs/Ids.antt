-- Reading an id stops behind whole parts.
use Rattle.std.proofs.Common.{◌≡◌, ◌≢◌, ℕ, ◌^◌, ◌<◌, ◌≤◌, inl, inr, Bool, true, false, cond, ltb, eqb, List, [], ◌∷◌, ◌++◌, length, take, drop, Result, Ok, Err, refl, sym, ◌∙◌, ap, append_assoc, arith}
use Rattle.std.specs.List.{list_any}
use Rattle.std.proofs.lemmas.Bool.{ltb-true, ltb-false, eqb-true}
use Rattle.std.proofs.lemmas.List.{take-append-drop, length-take}
use Rattle.cbor_profile.specs.Head.{head_spelling, read_head}
use Rattle.cbor_profile.specs.Put.{uint, text_string, array_head}
use Rattle.cbor_profile.specs.Step.{◌>>=◌}
use Rattle.cbor_profile.specs.Token.{token_head}
use Rattle.cbor_profile.specs.declared.head.Head.{Head}
use Rattle.cbor_profile.specs.declared.fault.Reason.{Reason}
use Rattle.cbor_profile.specs.declared.fault.Reason.TheVariants as reasons
use Rattle.bp_eid.specs.declared.eid.Eid.{Eid}
use Rattle.bp_eid.specs.declared.eid.Eid.TheVariants.{Null, Dtn}
use Rattle.bp_eid.specs.declared.stop.Stop.{Stop}
use Rattle.bp_eid.specs.DtnText.{is_dtn_text}
use Rattle.bp_eid.specs.Reading.{stops, at_token, head_at, pair_at, number_at, content_at, dtn_at, ipn_at, id_at}
use Rattle.bp_bundle.proofs.HeadsAsSpelled.{IsBytes, TokenLaws, one_kind}
use Rattle.correct_prefix.proofs.StopsBehindPrefix.{LacksOne, head_unfinished}
use Rattle.correct_prefix.proofs.ListStopsBehindPrefix.{stopped, Headed, headed, Numbered}
use Rattle.correct_prefix.proofs.IdStopsBehindPrefix.{null_or_text}
use Rattle.whole_tokens.specs.Tokens.{IsUnfinished}
use Rattle.whole_tokens.specs.Tokens.Part.{Number, Array, Text}
use Rattle.whole_tokens.proofs.Parted.{no_parts, behind, one_part, Stops, stops_here, Reads, either}

-- It stops with as many bytes left as are told.
abbrev pub StopsAt : Stop → List ℕ → Type 0
StopsAt stop = Stops stop.reason (λ more. length more ≡ stop.left)

-- what was read leaves these bytes
abbrev pub Leaves : {A : Type 0} → A × List ℕ → List ℕ → Type 0
Leaves x left = x.1 ≡ left

-- ---- heads

pub unfinished_of : (Major : ℕ → Type 0) (bytes : List ℕ) → LacksOne Major bytes → IsUnfinished bytes
unfolding read_head
unfinished_of Major bytes (inl none) = inl (rw none refl)
unfinished_of Major bytes (inr (first, more, is, short, kind)) = inl short

head_stops : (kinds bytes : List ℕ) (r : Result (Head × List ℕ) Reason) (stop : Stop) → token_head kinds bytes ≡ r → at_token bytes r ≡ Err stop → StopsAt stop bytes
head_stops kinds bytes (Ok x) stop is e = absurd cc
head_stops kinds bytes (Err reason) stop is e =
    let s = stopped {A = Head × List ℕ} bytes reason stop e in
    stops_here stop.reason (λ more. length more ≡ stop.left) bytes (λ other. sym s.0)
    (λ early. unfinished_of (λ m. list_any (λ kind. eqb kind m) kinds ≡ true) bytes (head_unfinished kinds bytes (is ∙ ap Err (sym s.1 ∙ early))))

-- a head, and what follows it
step : {A : Type 0} (laws : TokenLaws) (kinds bytes : List ℕ) (f : Head × List ℕ → Result (A × List ℕ) Stop) → IsBytes bytes
    → ((x : Head × List ℕ) → Headed kinds bytes x → Reads Leaves StopsAt bytes (f x)) → Reads Leaves StopsAt bytes (head_at kinds bytes >>= f)
step laws kinds bytes f fits second = by (head_at kinds bytes) refl
  where
    by : (r : Result (Head × List ℕ) Stop) → head_at kinds bytes ≡ r → Reads Leaves StopsAt bytes (r >>= f)
    by (Ok x) is = second x (headed laws kinds bytes x fits is)
    by (Err stop) is = no_parts _ bytes (head_stops kinds bytes (token_head kinds bytes) stop refl is)

-- The token that begins here is refused.
refused : (A : Type 0) (bytes : List ℕ) (reason : Reason) → reason ≢ reasons.Truncated → Reads {A = A × List ℕ} Leaves StopsAt bytes (stops bytes reason)
refused A bytes reason other = no_parts _ bytes (stops_here reason (λ more. length more ≡ length bytes) bytes (λ _. refl) (λ early. absurd (other early)))

-- the head of an array of two items, and what follows it
pair_step : {A : Type 0} (laws : TokenLaws) (bytes : List ℕ) (f : List ℕ → Result (A × List ℕ) Stop) → IsBytes bytes
    → ((rest : List ℕ) → IsBytes rest → Reads Leaves StopsAt rest (f rest)) → Reads Leaves StopsAt bytes (pair_at bytes >>= f)
unfolding pair_at array_head
pair_step {A} laws bytes f fits second = by (head_at (4 ∷ []) bytes) refl
  where
    by_count : (x : Head × List ℕ) → Headed (4 ∷ []) bytes x → (b : Bool) → Reads Leaves StopsAt bytes (cond b (Ok x.1) (stops bytes reasons.WrongCount) >>= f)
    by_count x h true =
        behind _ (Array x.0.value) bytes x.1 h.small (h.parts ∙ ap (λ (m : ℕ). head_spelling m x.0.value ++ x.1) (one_kind 4 x.0.major h.among))
        (second x.1 h.rest_fits)
    by_count x h false = refused A bytes reasons.WrongCount (λ is. absurd cc)

    by : (r : Result (Head × List ℕ) Stop) → head_at (4 ∷ []) bytes ≡ r
        → Reads Leaves StopsAt bytes ((r >>= λ head. cond (eqb head.0.value 2) (Ok head.1) (stops bytes reasons.WrongCount)) >>= f)
    by (Ok x) is = by_count x (headed laws (4 ∷ []) bytes x fits is) (eqb x.0.value 2)
    by (Err stop) is = no_parts _ bytes (head_stops (4 ∷ []) bytes (token_head (4 ∷ []) bytes) stop refl is)

-- a number, and what follows it
number_step : {A : Type 0} (laws : TokenLaws) (bytes : List ℕ) (f : ℕ × List ℕ → Result (A × List ℕ) Stop) → IsBytes bytes
    → ((x : ℕ × List ℕ) → Numbered bytes x → Reads Leaves StopsAt bytes (f x)) → Reads Leaves StopsAt bytes (number_at bytes >>= f)
unfolding number_at uint
number_step {A} laws bytes f fits second = by (head_at (0 ∷ []) bytes) refl
  where
    by : (r : Result (Head × List ℕ) Stop) → head_at (0 ∷ []) bytes ≡ r → Reads Leaves StopsAt bytes ((r >>= λ head. Ok (head.0.value, head.1)) >>= f)
    by (Ok x) is =
        let h = headed laws (0 ∷ []) bytes x fits is in
        second (x.0.value, x.1) (record {
          parts = h.parts ∙ ap (λ (m : ℕ). head_spelling m x.0.value ++ x.1) (one_kind 0 x.0.major h.among);
          rest_fits = h.rest_fits;
          small = h.small;
        })
    by (Err stop) is = no_parts _ bytes (head_stops (0 ∷ []) bytes (token_head (0 ∷ []) bytes) stop refl is)

-- ---- the scheme dtn

abbrev as_id : List ℕ × List ℕ → Result (Eid × List ℕ) Stop
as_id text = Ok (Dtn text.0, text.1)

-- the content of a text, behind its head
text_step : (len : ℕ) (bytes rest : List ℕ) → len < 2 ^ 64 → bytes ≡ head_spelling 3 len ++ rest → Reads Leaves StopsAt bytes (content_at len rest >>= as_id)
unfolding content_at text_string
text_step len bytes rest small parts = by (ltb (length rest) len) refl
  where
    by_text : (b : Bool) → len ≤ length rest → Reads Leaves StopsAt bytes (cond b (Ok (take len rest, drop len rest)) (stops rest reasons.WrongText) >>= as_id)
    by_text true long =
        let size : length (take len rest) ≡ len = omega (arith, length-take len rest) in
        one_part _ (Text (take len rest)) bytes (drop len rest) (omega arith)
        (parts ∙ (ap (λ (t : List ℕ). head_spelling 3 len ++ t) (sym (take-append-drop len rest)) ∙ rw size (sym (append_assoc (head_spelling 3 len) (take len rest) (drop len rest))))) refl
    by_text false long = no_parts _ bytes (record {
      placed = λ other. (head_spelling 3 len, rest, inr (inl (len, (small, inr refl))), parts, refl);
      early = λ early. absurd cc;
    })

    by : (b : Bool) → ltb (length rest) len ≡ b
        → Reads Leaves StopsAt bytes (cond b (stops rest reasons.Truncated) (cond (is_dtn_text (take len rest)) (Ok (take len rest, drop len rest)) (stops rest reasons.WrongText)) >>= as_id)
    by true is = no_parts _ bytes (record {
      placed = λ other. absurd (other refl);
      early = λ early. inr (len, head_spelling 3 len, rest, (small, inr refl), ltb-true _ _ is, parts);
    })
    by false is = by_text (is_dtn_text (take len rest)) (ltb-false _ _ is)

dtn_reads : (laws : TokenLaws) (bytes : List ℕ) → IsBytes bytes → Reads Leaves StopsAt bytes (dtn_at bytes)
unfolding dtn_at uint
dtn_reads laws bytes fits =
    step laws (0 ∷ 3 ∷ []) bytes _ fits
    (λ x h.
    either Leaves StopsAt bytes (eqb x.0.major 0) _ _
    (λ zero.
    either Leaves StopsAt bytes (eqb x.0.value 0) (Ok (Null, x.1)) (stops bytes reasons.WrongValue)
    (λ _. one_part _ (Number x.0.value) bytes x.1 h.small (h.parts ∙ ap (λ (m : ℕ). head_spelling m x.0.value ++ x.1) (eqb-true _ _ zero)) refl)
    (λ _. refused Eid bytes reasons.WrongValue (λ is. absurd cc)))
    (λ other.
    either Leaves StopsAt bytes (ltb 1024 x.0.value) (stops bytes reasons.WrongValue) _ (λ _. refused Eid bytes reasons.WrongValue (λ is. absurd cc))
    (λ _. text_step x.0.value bytes x.1 h.small (h.parts ∙ ap (λ (m : ℕ). head_spelling m x.0.value ++ x.1) (null_or_text x.0.major h.among other)))))

-- ---- the scheme ipn, and the whole

-- a number that is taken
number_taken : {A : Type 0} (laws : TokenLaws) (bytes : List ℕ) (f : ℕ × List ℕ → Result (A × List ℕ) Stop) → IsBytes bytes
    → ((x : ℕ × List ℕ) → IsBytes x.1 → Reads Leaves StopsAt x.1 (f x)) → Reads Leaves StopsAt bytes (number_at bytes >>= f)
number_taken laws bytes f fits second = number_step laws bytes f fits (λ x n. behind _ (Number x.0) bytes x.1 n.small n.parts (second x n.rest_fits))

ipn_reads : (laws : TokenLaws) (bytes : List ℕ) → IsBytes bytes → Reads Leaves StopsAt bytes (ipn_at bytes)
unfolding ipn_at
ipn_reads laws bytes fits =
    pair_step laws bytes _ fits (λ rest rest_fits. number_taken laws rest _ rest_fits (λ node node_fits. number_taken laws node.1 _ node_fits (λ service service_fits. no_parts _ service.1 refl)))

pub id_reads : (laws : TokenLaws) (bytes : List ℕ) → IsBytes bytes → Reads Leaves StopsAt bytes (id_at bytes)
unfolding id_at
id_reads laws bytes fits =
    pair_step laws bytes _ fits
    (λ rest rest_fits.
    number_step laws rest _ rest_fits
    (λ x n.
    either Leaves StopsAt rest (eqb x.0 1) (dtn_at x.1) _ (λ _. behind _ (Number x.0) rest x.1 n.small n.parts (dtn_reads laws x.1 n.rest_fits))
    (λ _.
    either Leaves StopsAt rest (eqb x.0 2) (ipn_at x.1) (stops rest reasons.WrongValue) (λ _. behind _ (Number x.0) rest x.1 n.small n.parts (ipn_reads laws x.1 n.rest_fits))
    (λ _. refused Eid rest reasons.WrongValue (λ is. absurd cc)))))
