-- What is left, after what was read or at a faulty token, is no more than what was given.
use Rattle.std.proofs.Common.{◌≡◌, ℕ, ◌≤◌, Bool, true, false, cond, ltb, eqb, List, [], ◌∷◌, length, take, drop, Result, Ok, Err, refl, subst, arith}
use Rattle.std.proofs.lemmas.List.{length-drop}
use Rattle.cbor_profile.specs.declared.head.Head.{Head}
use Rattle.cbor_profile.specs.declared.fault.Reason.{Reason}
use Rattle.cbor_profile.specs.declared.fault.Reason.TheVariants.{Truncated, WrongCount, WrongValue, WrongText}
use Rattle.cbor_profile.specs.Head.{read_head}
use Rattle.cbor_profile.specs.Step.{◌>>=◌}
use Rattle.cbor_profile.specs.Token.{token_head, after_read}
use Rattle.bp_eid.specs.declared.eid.Eid.{Eid}
use Rattle.bp_eid.specs.declared.eid.Eid.TheVariants.{Null, Dtn, Ipn}
use Rattle.bp_eid.specs.declared.stop.Stop.{Stop}
use Rattle.bp_eid.specs.DtnText.{is_dtn_text}
use Rattle.bp_eid.specs.Reading.{stops, at_token, head_at, pair_at, number_at, content_at, dtn_at, ipn_at, id_at}
use Rattle.cbor_profile.proofs.Tokens.{is_among, among_ok, after_ok}

-- what is left of a value, or the stop
unfoldable pub IsWithin : {A : Type 0} → (A → ℕ) → ℕ → Result A Stop → Type 0
IsWithin left given (Ok x) = left x ≤ given
IsWithin left given (Err stop) = stop.left ≤ given

abbrev pub rest_of : {A : Type 0} → A × List ℕ → ℕ
rest_of x = length x.1

pub then_within : {A B : Type 0} (left : A → ℕ) (left' : B → ℕ) (given : ℕ) (r : Result A Stop) (f : A → Result B Stop) → IsWithin left given r → ((x : A) → left x ≤ given → IsWithin left' given (f x)) → IsWithin left' given (r >>= f)
unfolding IsWithin
then_within left left' given (Ok x) f h g = g x h
then_within left left' given (Err stop) f h g = h

pub either_within : {A : Type 0} (left : A → ℕ) (given : ℕ) (b : Bool) (x y : Result A Stop) → IsWithin left given x → IsWithin left given y → IsWithin left given (cond b x y)
either_within left given true x y h g = h
either_within left given false x y h g = g

pub stops_within : {A : Type 0} (left : A → ℕ) (given : ℕ) (bytes : List ℕ) (reason : Reason) → length bytes ≤ given → IsWithin left given (stops bytes reason)
unfolding IsWithin
stops_within left given bytes reason h = h

pub ok_within : {A : Type 0} (left : A → ℕ) (given : ℕ) (x : A) → left x ≤ given → IsWithin left given (Ok x)
unfolding IsWithin
ok_within left given x h = h

token_within : (kinds bytes : List ℕ) (x : Head × List ℕ) → token_head kinds bytes ≡ Ok x → length x.1 ≤ length bytes
unfolding token_head
token_within kinds [] x e = absurd cc
token_within kinds (first ∷ others) x e =
    let bytes : List ℕ = first ∷ others in
    let w = after_ok bytes (read_head bytes) x (among_ok (is_among kinds _) (after_read bytes (read_head bytes)) x e).1 in
    rw (← w.2) (omega (arith, length-drop w.0 bytes))

at_token_within : (given : ℕ) (bytes : List ℕ) (r : Result (Head × List ℕ) Reason) → length bytes ≤ given → ((x : Head × List ℕ) → r ≡ Ok x → length x.1 ≤ length bytes) → IsWithin rest_of given (at_token bytes r)
unfolding IsWithin
at_token_within given bytes (Ok x) le h = omega (arith, h x refl)
at_token_within given bytes (Err reason) le h = le

pub head_within : (kinds : List ℕ) (given : ℕ) (bytes : List ℕ) → length bytes ≤ given → IsWithin rest_of given (head_at kinds bytes)
head_within kinds given bytes le = at_token_within given bytes (token_head kinds bytes) le (λ x e. token_within kinds bytes x e)

pub pair_within : (given : ℕ) (bytes : List ℕ) → length bytes ≤ given → IsWithin length given (pair_at bytes)
unfolding pair_at
pair_within given bytes le =
    then_within rest_of length given (head_at (4 ∷ []) bytes) (λ head. cond (eqb head.0.value 2) (Ok head.1) (stops bytes WrongCount)) (head_within (4 ∷ []) given bytes le)
    (λ x h. either_within length given (eqb x.0.value 2) (Ok x.1) (stops bytes WrongCount) (ok_within length given x.1 h) (stops_within length given bytes WrongCount le))

pub number_within : (given : ℕ) (bytes : List ℕ) → length bytes ≤ given → IsWithin rest_of given (number_at bytes)
unfolding number_at
number_within given bytes le =
    then_within rest_of rest_of given (head_at (0 ∷ []) bytes) (λ head. Ok (head.0.value, head.1)) (head_within (0 ∷ []) given bytes le) (λ x h. ok_within rest_of given (x.0.value, x.1) h)

content_within : (given len : ℕ) (bytes : List ℕ) → length bytes ≤ given → IsWithin rest_of given (content_at len bytes)
unfolding content_at
content_within given len bytes le =
    either_within rest_of given (ltb (length bytes) len) (stops bytes Truncated) _ (stops_within rest_of given bytes Truncated le)
    (either_within rest_of given (is_dtn_text (take len bytes)) (Ok (take len bytes, drop len bytes)) (stops bytes WrongText)
    (ok_within rest_of given (take len bytes, drop len bytes) (omega (arith, length-drop len bytes))) (stops_within rest_of given bytes WrongText le))

dtn_within : (given : ℕ) (bytes : List ℕ) → length bytes ≤ given → IsWithin rest_of given (dtn_at bytes)
unfolding dtn_at
dtn_within given bytes le =
    then_within rest_of rest_of given (head_at (0 ∷ 3 ∷ []) bytes) _ (head_within (0 ∷ 3 ∷ []) given bytes le)
    (λ x h. either_within rest_of given (eqb x.0.major 0) _ _
    (either_within rest_of given (eqb x.0.value 0) (Ok (Null, x.1)) (stops bytes WrongValue) (ok_within rest_of given (Null, x.1) h) (stops_within rest_of given bytes WrongValue le))
    (either_within rest_of given (ltb 1024 x.0.value) (stops bytes WrongValue) _ (stops_within rest_of given bytes WrongValue le)
    (then_within rest_of rest_of given (content_at x.0.value x.1) (λ text. Ok (Dtn text.0, text.1)) (content_within given x.0.value x.1 h) (λ y k. ok_within rest_of given (Dtn y.0, y.1) k))))

ipn_within : (given : ℕ) (bytes : List ℕ) → length bytes ≤ given → IsWithin rest_of given (ipn_at bytes)
unfolding ipn_at
ipn_within given bytes le =
    then_within length rest_of given (pair_at bytes) _ (pair_within given bytes le)
    (λ rest h. then_within rest_of rest_of given (number_at rest) _ (number_within given rest h)
    (λ node k. then_within rest_of rest_of given (number_at node.1) _ (number_within given node.1 k) (λ service l. ok_within rest_of given (Ipn node.0 service.0, service.1) l)))

pub id_within : (given : ℕ) (bytes : List ℕ) → length bytes ≤ given → IsWithin rest_of given (id_at bytes)
unfolding id_at
id_within given bytes le =
    then_within length rest_of given (pair_at bytes) _ (pair_within given bytes le)
    (λ rest h. then_within rest_of rest_of given (number_at rest) _ (number_within given rest h)
    (λ number k. either_within rest_of given (eqb number.0 1) _ _ (dtn_within given number.1 k)
    (either_within rest_of given (eqb number.0 2) _ _ (ipn_within given number.1 k) (stops_within rest_of given rest WrongValue h))))

-- the two sides
pub rest_within : (bytes : List ℕ) (x : Eid × List ℕ) → id_at bytes ≡ Ok x → length x.1 ≤ length bytes
unfolding IsWithin
rest_within bytes x e = subst (IsWithin rest_of (length bytes)) e (id_within (length bytes) bytes (omega arith))

pub stop_within : (bytes : List ℕ) (stop : Stop) → id_at bytes ≡ Err stop → stop.left ≤ length bytes
unfolding IsWithin
stop_within bytes stop e = subst (IsWithin rest_of (length bytes)) e (id_within (length bytes) bytes (omega arith))
