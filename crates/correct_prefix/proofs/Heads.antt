-- Where reading a head stops, and what begins with one.
use Rattle.std.proofs.Common.{◌≡◌, ◌≢◌, ℕ, ◌^◌, ◌<◌, ◌≤◌, inl, cond, eqb, leb, ◌&&◌, List, [], ◌∷◌, ◌++◌, length, Result, Ok, Err, refl, sym, ◌∙◌, ap, arith}
use Rattle.std.proofs.lemmas.Bool.{le-leb}
use Rattle.cbor_profile.specs.Head.{spelling}
use Rattle.cbor_profile.specs.Put.{uint, array_head}
use Rattle.cbor_profile.specs.Step.{◌>>=◌}
use Rattle.cbor_profile.specs.Token.{token_head}
use Rattle.cbor_profile.specs.declared.head.Head.{Head}
use Rattle.cbor_profile.specs.declared.fault.Reason.{Reason}
use Rattle.cbor_profile.specs.declared.fault.Reason.TheVariants as reasons
use Rattle.bp_eid.specs.declared.stop.Stop.{Stop}
use Rattle.bp_eid.specs.Reading.{stops, at_token, head_at, pair_at, number_at}
use Rattle.bp_eid.proofs.Tokens.{head_again}
use Rattle.correct_prefix.specs.Prefix.{IsWholeHead}
use Rattle.bp_bundle.proofs.HeadsAsSpelled.{IsBytes}
use Rattle.correct_prefix.proofs.StopsBehindPrefix.{Some_of, Starting, started, head_unfinished}
use Rattle.correct_prefix.proofs.ListStopsBehindPrefix.{stopped, token_ok, Starts, starts_one, lacks_one_of}
use Rattle.correct_prefix.proofs.FaultyHead.{SealLaws, refused_head, whole_head}
use Rattle.correct_prefix.proofs.FaultyId.{Read, read_so, either}
use Rattle.bpsec_asb.specs.Reading.{count_at}
use Rattle.bpsec_asb.proofs.Arrays as arrays
use Rattle.correct_prefix.proofs.Stopped.{Stopped, same_kind, steps, first_stops, whole_refused}

pub head_stops : (laws : SealLaws) (Kind : List ℕ → Type 0) (kinds bytes : List ℕ) (stop : Stop) → Some_of Kind → Starts Kind kinds → head_at kinds bytes ≡ Err stop → Stopped Kind (head_at kinds) bytes stop
head_stops laws Kind kinds bytes stop some starts e = by (token_head kinds bytes) refl e
  where
    by : (r : Result (Head × List ℕ) Reason) → token_head kinds bytes ≡ r → at_token bytes r ≡ Err stop → Stopped Kind (head_at kinds) bytes stop
    by (Ok x) is e = absurd cc
    by (Err reason) is e =
        let s = stopped {A = Head × List ℕ} bytes reason stop e in
        record {
          front = [];
          rest = bytes;
          parts = refl;
          left = sym s.0;
          begins = inl (some.0, some.1, some.0, refl);
          unfinished = λ early. inl (lacks_one_of Kind kinds bytes starts (head_unfinished kinds bytes (is ∙ ap Err (sym s.1 ∙ early))));
          sealed = λ other.
              let h = refused_head laws kinds bytes reason (λ early. other (s.1 ∙ early)) is in
              record {
                token = h.token;
                more = h.more;
                parts = h.parts;
                is_token = inl h.is_token;
                again = λ others. ap (at_token (h.token ++ others)) (h.again others) ∙ ap (λ (r : Reason). Err (record { reason = r; left = length (h.token ++ others) })) (sym s.1);
              };
        }

-- a head, and what is made of it
pub headed_stops : {A : Type 0} (laws : SealLaws) (Kind : List ℕ → Type 0) (kinds bytes : List ℕ) (f : List ℕ → Head × List ℕ → Result A Stop) (stop : Stop) → IsBytes bytes → Some_of Kind → Starts Kind kinds → (head_at kinds bytes >>= f bytes) ≡ Err stop
    → ((x : Head × List ℕ) → Read kinds bytes x → f bytes x ≡ Err stop → Stopped Kind (λ b. head_at kinds b >>= f b) bytes stop) → Stopped Kind (λ b. head_at kinds b >>= f b) bytes stop
headed_stops laws Kind kinds bytes f stop fits some starts e second =
    steps (Stopped Kind (λ b. head_at kinds b >>= f b) bytes stop) (head_at kinds bytes) (f bytes) stop e
    (λ is. first_stops Kind Kind (head_at kinds) f bytes stop (same_kind Kind) (head_stops laws Kind kinds bytes stop some starts is))
    (λ x is h. second x (read_so laws kinds bytes x fits (token_ok bytes (token_head kinds bytes) x is)) h)

-- a head that is refused itself
pub head_refused : {A : Type 0} (laws : SealLaws) (Kind : List ℕ → Type 0) (kinds bytes : List ℕ) (f : List ℕ → Head × List ℕ → Result A Stop) (reason : Reason) (stop : Stop) (x : Head × List ℕ) → Some_of Kind → Read kinds bytes x → reason ≢ reasons.Truncated
    → stops {A = A} bytes reason ≡ Err stop → ((t : List ℕ) → f (spelling x.0 ++ t) (x.0, t) ≡ stops (spelling x.0 ++ t) reason) → Stopped Kind (λ b. head_at kinds b >>= f b) bytes stop
head_refused laws Kind kinds bytes f reason stop x some r other e same =
    whole_refused Kind (λ b. head_at kinds b >>= f b) bytes (spelling x.0) x.1 reason stop some r.parts (whole_head laws x.0 r.head) other e
    (λ t. ap (λ (y : Result (Head × List ℕ) Stop). y >>= f (spelling x.0 ++ t)) (r.again t) ∙ same t)

-- ---- numbers

pub number_stops : (laws : SealLaws) (Kind : List ℕ → Type 0) (bytes : List ℕ) (stop : Stop) → IsBytes bytes → Starting Kind 0 → number_at bytes ≡ Err stop → Stopped Kind number_at bytes stop
unfolding number_at
number_stops laws Kind bytes stop fits start e =
    headed_stops laws Kind (0 ∷ []) bytes (λ b head. Ok (head.0.value, head.1)) stop fits (started Kind 0 start) (starts_one Kind 0 start) e (λ x r h. absurd cc)

pub whole_number : (laws : SealLaws) (n : ℕ) → n < 2 ^ 64 → IsWholeHead (uint n)
unfolding uint spelling
whole_number laws n small = whole_head laws (record { major = 0; value = n }) (small, inl (omega arith))

-- ---- the heads of arrays

pub pair_stops : (laws : SealLaws) (Kind : List ℕ → Type 0) (bytes : List ℕ) (stop : Stop) → IsBytes bytes → Starting Kind 4 → pair_at bytes ≡ Err stop → Stopped Kind pair_at bytes stop
unfolding pair_at
pair_stops laws Kind bytes stop fits start e =
    let f : List ℕ → Head × List ℕ → Result (List ℕ) Stop = λ b head. cond (eqb head.0.value 2) (Ok head.1) (stops b reasons.WrongCount) in
    headed_stops laws Kind (4 ∷ []) bytes f stop fits (started Kind 4 start) (starts_one Kind 4 start) e
    (λ x r h.
    either (eqb x.0.value 2) (Ok x.1) (stops bytes reasons.WrongCount) stop (Stopped Kind (λ b. head_at (4 ∷ []) b >>= f b) bytes stop) h (λ b k. absurd cc)
    (λ b k. head_refused laws Kind (4 ∷ []) bytes f reasons.WrongCount stop x (started Kind 4 start) r (λ q. cc) k (λ t. rw b refl)))

pub count_stops : (laws : SealLaws) (Kind : List ℕ → Type 0) (least most : ℕ) (bytes : List ℕ) (stop : Stop) → IsBytes bytes → Starting Kind 4 → count_at least most bytes ≡ Err stop → Stopped Kind (count_at least most) bytes stop
unfolding count_at
count_stops laws Kind least most bytes stop fits start e =
    let f : List ℕ → Head × List ℕ → Result (ℕ × List ℕ) Stop = λ b head. cond (leb least head.0.value && leb head.0.value most) (Ok (head.0.value, head.1)) (stops b reasons.WrongCount) in
    headed_stops laws Kind (4 ∷ []) bytes f stop fits (started Kind 4 start) (starts_one Kind 4 start) e
    (λ x r h.
    either (leb least x.0.value && leb x.0.value most) (Ok (x.0.value, x.1)) (stops bytes reasons.WrongCount) stop (Stopped Kind (λ b. head_at (4 ∷ []) b >>= f b) bytes stop) h (λ b k. absurd cc)
    (λ b k. head_refused laws Kind (4 ∷ []) bytes f reasons.WrongCount stop x (started Kind 4 start) r (λ q. cc) k (λ t. rw b refl)))

pub count_again : (least most n : ℕ) (rest : List ℕ) → least ≤ n → n ≤ most → n < 2 ^ 64 → count_at least most (array_head n ++ rest) ≡ Ok (n, rest)
unfolding count_at array_head spelling
count_again least most n rest low high fits =
    let h = head_again arrays.laws (4 ∷ []) (record { major = 4; value = n }) rest (fits, inl (omega arith)) refl in
    rw (h, le-leb _ _ low, le-leb _ _ high) refl
