-- A head and an id are short, and so is what is there of one that isn't whole.
use Rattle.std.proofs.Common.{◌≡◌, ℕ, ◌+◌, ◌-◌, ◌/◌, ◌%◌, ◌≤◌, Bool, true, false, cond, ltb, eqb, List, [], ◌∷◌, length, take, drop, Result, Ok, Err, refl, ap, subst, ◌∙◌, arith, length-drop}
use Rattle.std.specs.List.{list_any}
use Rattle.std.proofs.lemmas.Bool.{ltb-true, ltb-false}
use Rattle.cbor_profile.specs.declared.head.Head.{Head}
use Rattle.cbor_profile.specs.declared.head.HeadRead.{HeadRead}
use Rattle.cbor_profile.specs.declared.head.HeadRead.TheVariants.{Whole, Short, NotShortest, Bad}
use Rattle.cbor_profile.specs.declared.fault.Reason.{Reason}
use Rattle.cbor_profile.specs.declared.fault.Reason.TheVariants as reasons
use Rattle.cbor_profile.specs.declared.fault.Fault.{Fault}
use Rattle.cbor_profile.specs.Head.{read_head, is_bad, following, argument, least}
use Rattle.cbor_profile.specs.Step.{◌>>=◌}
use Rattle.cbor_profile.specs.Token.{token_head, after_read}
use Rattle.bp_eid.specs.DtnText.{is_dtn_text}
use Rattle.bp_eid.specs.declared.eid.Eid.{Eid}
use Rattle.bp_eid.specs.declared.eid.Eid.TheVariants.{Null, Dtn, Ipn}
use Rattle.bp_eid.specs.declared.stop.Stop.{Stop}
use Rattle.bp_eid.specs.declared.reading.EidAt.{EidAt}
use Rattle.bp_eid.specs.Reading.{stops, at_token, head_at, pair_at, number_at, content_at, dtn_at, ipn_at, id_at, answer, read_id, fault_of}

-- ---- heads

followed_by : (b0 b1 b2 b3 : Bool) → cond b0 0 (cond b1 1 (cond b2 2 (cond b3 4 8))) ≤ 8
followed_by true b1 b2 b3 = omega arith
followed_by false true b2 b3 = omega arith
followed_by false false true b3 = omega arith
followed_by false false false true = omega arith
followed_by false false false false = omega arith

few_follow : (low : ℕ) → following low ≤ 8
few_follow low = followed_by (ltb low 24) (eqb low 24) (eqb low 25) (eqb low 26)

short_by : (bad short less : Bool) (whole : HeadRead) → cond bad Bad (cond short Short (cond less NotShortest whole)) ≡ Short → (whole ≡ Short → ⊥) → short ≡ true
short_by true short less whole e never = absurd cc
short_by false true less whole e never = refl
short_by false false true whole e never = absurd cc
short_by false false false whole e never = absurd (never e)

head_early : (bytes : List ℕ) → read_head bytes ≡ Short → length bytes ≤ 8
unfolding read_head
head_early [] e = omega arith
head_early (first ∷ rest) e =
    let low = first % 32 in
    let short = short_by (is_bad first) (ltb (length rest) (following low)) (ltb (argument low rest) (least low)) _ e (λ is. cc) in
    let lt = ltb-true (length rest) (following low) short in
    let few = few_follow low in
    omega arith

len_by : (bad short less : Bool) (len len' : ℕ) (head head' : Head) → cond bad Bad (cond short Short (cond less NotShortest (Whole head' len'))) ≡ Whole head len → len' ≡ len
len_by true short less len len' head head' e = absurd cc
len_by false true less len len' head head' e = absurd cc
len_by false false true len len' head head' e = absurd cc
len_by false false false len len' head head' e = cc

head_len : (bytes : List ℕ) (head : Head) (len : ℕ) → read_head bytes ≡ Whole head len → len ≤ 9
unfolding read_head
head_len [] head len e = absurd cc
head_len (first ∷ rest) head len e =
    let low = first % 32 in
    let same = len_by (is_bad first) (ltb (length rest) (following low)) (ltb (argument low rest) (least low)) len (following low + 1) head _ e in
    let few = few_follow low in
    omega arith

-- what is there of a token that isn't whole, and of one that is
pub ShortHead : {A : Type 0} → (A → List ℕ) → ℕ → ℕ → List ℕ → Result A Reason → Type 0
ShortHead rest most early bytes (Ok x) = length bytes ≤ length (rest x) + most
ShortHead rest most early bytes (Err reason) = reason ≡ reasons.Truncated → length bytes ≤ early

after_short : (bytes : List ℕ) (read : HeadRead) → read_head bytes ≡ read → ShortHead (λ x. x.1) 9 8 bytes (after_read bytes read)
unfolding ShortHead
after_short bytes (Whole head len) is = let few = head_len bytes head len is in omega (arith, length-drop len bytes)
after_short bytes Short is = λ _. head_early bytes is
after_short bytes NotShortest is = λ other. absurd cc
after_short bytes Bad is = λ other. absurd cc

among_short : (b : Bool) (bytes : List ℕ) (r : Result (Head × List ℕ) Reason) → ShortHead (λ x. x.1) 9 8 bytes r → ShortHead (λ x. x.1) 9 8 bytes (cond b r (Err reasons.WrongKind))
unfolding ShortHead
among_short true bytes r short = short
among_short false bytes r short = λ other. absurd cc

pub token_short : (kinds bytes : List ℕ) → ShortHead (λ x. x.1) 9 8 bytes (token_head kinds bytes)
unfolding token_head ShortHead
token_short kinds [] = λ _. omega arith
token_short kinds (first ∷ rest) = among_short (list_any (λ kind. eqb kind (first / 32)) kinds) (first ∷ rest) (after_read (first ∷ rest) (read_head (first ∷ rest))) (after_short (first ∷ rest) (read_head (first ∷ rest)) refl)

pub token_short_ok : (kinds bytes : List ℕ) (x : Head × List ℕ) → token_head kinds bytes ≡ Ok x → length bytes ≤ length x.1 + 9
unfolding ShortHead
token_short_ok kinds bytes x is = subst (ShortHead (λ x. x.1) 9 8 bytes) is (token_short kinds bytes)

pub token_short_early : (kinds bytes : List ℕ) → token_head kinds bytes ≡ Err reasons.Truncated → length bytes ≤ 8
unfolding ShortHead
token_short_early kinds bytes is = subst (ShortHead (λ x. x.1) 9 8 bytes) is (token_short kinds bytes) refl

-- ---- ids

abbrev after : {A : Type 0} → A × List ℕ → List ℕ
after x = x.1

-- at most so many bytes are read, and there are no more where bytes end too early
pub ShortStep : {A : Type 0} → (A → List ℕ) → ℕ → List ℕ → Result A Stop → Type 0
ShortStep rest most bytes (Ok x) = length bytes ≤ length (rest x) + most
ShortStep rest most bytes (Err stop) = stop.reason ≡ reasons.Truncated → length bytes ≤ most

then_short : {A B : Type 0} (rest : A → List ℕ) (rest' : B → List ℕ) (m n : ℕ) (bytes : List ℕ) (r : Result A Stop) (f : A → Result B Stop) → ShortStep rest m bytes r → ((x : A) → ShortStep rest' n (rest x) (f x)) → ShortStep rest' (m + n) bytes (r >>= f)
unfolding ShortStep
then_short rest rest' m n bytes (Ok x) f p q = joined rest' m n bytes (rest x) (f x) p (q x)
  where
    joined : {B : Type 0} (rest' : B → List ℕ) (m n : ℕ) (bytes left : List ℕ) (s : Result B Stop) → length bytes ≤ length left + m → ShortStep rest' n left s → ShortStep rest' (m + n) bytes s
    joined rest' m n bytes left (Ok y) p q = omega arith
    joined rest' m n bytes left (Err stop) p q = λ early. let le = q early in omega arith
then_short rest rest' m n bytes (Err stop) f p q = looser rest rest' m n bytes stop p
  where
    looser : {A B : Type 0} (rest : A → List ℕ) (rest' : B → List ℕ) (m n : ℕ) (bytes : List ℕ) (stop : Stop) → ShortStep rest m bytes (Err stop) → ShortStep rest' (m + n) bytes (Err stop)
    looser rest rest' m n bytes stop p = λ early. let le = p early in omega arith

either_short : {A : Type 0} (rest : A → List ℕ) (most : ℕ) (bytes : List ℕ) (b : Bool) (x y : Result A Stop) → ShortStep rest most bytes x → ShortStep rest most bytes y → ShortStep rest most bytes (cond b x y)
either_short rest most bytes true x y p q = p
either_short rest most bytes false x y p q = q

ok_short : {A : Type 0} (rest : A → List ℕ) (most : ℕ) (x : A) → ShortStep rest most (rest x) (Ok x)
unfolding ShortStep
ok_short rest most x = omega arith

-- another reason than that bytes end too early
other_short : {A : Type 0} (rest : A → List ℕ) (most : ℕ) (bytes at : List ℕ) (reason : Reason) → (reason ≡ reasons.Truncated → ⊥) → ShortStep rest most bytes (stops at reason)
unfolding ShortStep
other_short rest most bytes at reason other = λ early. absurd (other early)

token_step : (bytes : List ℕ) (r : Result (Head × List ℕ) Reason) → ShortHead after 9 8 bytes r → ShortStep after 9 bytes (at_token bytes r)
unfolding ShortStep ShortHead
token_step bytes (Ok x) short = short
token_step bytes (Err reason) short = λ early. let le = short early in omega arith

head_step : (kinds bytes : List ℕ) → ShortStep after 9 bytes (head_at kinds bytes)
head_step kinds bytes = token_step bytes (token_head kinds bytes) (token_short kinds bytes)

pair_step : (bytes : List ℕ) → ShortStep (λ x. x) 9 bytes (pair_at bytes)
unfolding pair_at
pair_step bytes = then_short after (λ x. x) 9 0 bytes (head_at (4 ∷ []) bytes) _ (head_step (4 ∷ []) bytes) (λ head. either_short (λ x. x) 0 head.1 (eqb head.0.value 2) (Ok head.1) (stops bytes reasons.WrongCount) (ok_short (λ x. x) 0 head.1) (other_short (λ x. x) 0 head.1 bytes reasons.WrongCount (λ e. cc)))

number_step : (bytes : List ℕ) → ShortStep after 9 bytes (number_at bytes)
unfolding number_at
number_step bytes = then_short after after 9 0 bytes (head_at (0 ∷ []) bytes) _ (head_step (0 ∷ []) bytes) (λ head. ok_short after 0 (head.0.value, head.1))

content_by : (b : Bool) (len : ℕ) (bytes : List ℕ) → ltb (length bytes) len ≡ b → len ≤ 1024 → ShortStep after 1024 bytes (cond b (stops bytes reasons.Truncated) (cond (is_dtn_text (take len bytes)) (Ok (take len bytes, drop len bytes)) (stops bytes reasons.WrongText)))
unfolding ShortStep
content_by true len bytes is few = λ _. let lt = ltb-true _ _ is in omega arith
content_by false len bytes is few = either_short after 1024 bytes (is_dtn_text (take len bytes)) (Ok (take len bytes, drop len bytes)) (stops bytes reasons.WrongText) (omega (arith, length-drop len bytes)) (λ other. absurd cc)

content_step : (len : ℕ) (bytes : List ℕ) → len ≤ 1024 → ShortStep after 1024 bytes (content_at len bytes)
unfolding content_at
content_step len bytes few = content_by (ltb (length bytes) len) len bytes refl few

if_small : (b : Bool) (value : ℕ) (bytes at : List ℕ) (x : Result (Eid × List ℕ) Stop) → ltb 1024 value ≡ b → (value ≤ 1024 → ShortStep after 1024 bytes x) → ShortStep after 1024 bytes (cond b (stops at reasons.WrongValue) x)
if_small true value bytes at x is p = other_short after 1024 bytes at reasons.WrongValue (λ e. cc)
if_small false value bytes at x is p = p (ltb-false _ _ is)

dtn_step : (bytes : List ℕ) → ShortStep after (9 + 1024) bytes (dtn_at bytes)
unfolding dtn_at
dtn_step bytes =
    then_short after after 9 1024 bytes (head_at (0 ∷ 3 ∷ []) bytes) _ (head_step (0 ∷ 3 ∷ []) bytes)
    (λ head. either_short after 1024 head.1 (eqb head.0.major 0) _ _
    (either_short after 1024 head.1 (eqb head.0.value 0) (Ok (Null, head.1)) (stops bytes reasons.WrongValue) (ok_short after 1024 (Null, head.1)) (other_short after 1024 head.1 bytes reasons.WrongValue (λ e. cc)))
    (if_small (ltb 1024 head.0.value) head.0.value head.1 bytes _ refl (λ few.
    then_short after after 1024 0 head.1 (content_at head.0.value head.1) (λ text. Ok (Dtn text.0, text.1)) (content_step head.0.value head.1 few) (λ text. ok_short after 0 (Dtn text.0, text.1)))))

ipn_step : (bytes : List ℕ) → ShortStep after (9 + (9 + 9)) bytes (ipn_at bytes)
unfolding ipn_at
ipn_step bytes =
    then_short (λ x. x) after 9 (9 + 9) bytes (pair_at bytes) _ (pair_step bytes)
    (λ rest. then_short after after 9 9 rest (number_at rest) _ (number_step rest)
    (λ node. then_short after after 9 0 node.1 (number_at node.1) (λ service. Ok (Ipn node.0 service.0, service.1)) (number_step node.1) (λ service. ok_short after 0 (Ipn node.0 service.0, service.1))))

loosen : {A : Type 0} (rest : A → List ℕ) (m n : ℕ) (bytes : List ℕ) (r : Result A Stop) → m ≤ n → ShortStep rest m bytes r → ShortStep rest n bytes r
unfolding ShortStep
loosen rest m n bytes (Ok x) le p = omega arith
loosen rest m n bytes (Err stop) le p = λ early. let h = p early in omega arith

id_step : (bytes : List ℕ) → ShortStep after 1051 bytes (id_at bytes)
unfolding id_at
id_step bytes =
    then_short (λ x. x) after 9 (9 + 1033) bytes (pair_at bytes) _ (pair_step bytes)
    (λ rest. then_short after after 9 1033 rest (number_at rest) _ (number_step rest)
    (λ scheme. either_short after 1033 scheme.1 (eqb scheme.0 1) _ _ (dtn_step scheme.1)
    (either_short after 1033 scheme.1 (eqb scheme.0 2) _ _ (loosen after 27 1033 scheme.1 (ipn_at scheme.1) (omega arith) (ipn_step scheme.1)) (other_short after 1033 scheme.1 rest reasons.WrongValue (λ e. cc)))))

-- an id that was read is short, and so is what is there of one that isn't whole
pub read_id_short : (bytes : List ℕ) (at : EidAt) → read_id bytes ≡ Ok at → at.len ≤ 1051
unfolding read_id ShortStep
read_id_short bytes at is = len_short bytes (id_at bytes) at (id_step bytes) is
  where
    len_short : (bytes : List ℕ) (r : Result (Eid × List ℕ) Stop) (at : EidAt) → ShortStep after 1051 bytes r → answer bytes r ≡ Ok at → at.len ≤ 1051
    len_short bytes (Ok x) at short is = let same : length bytes - length x.1 ≡ at.len = cc in omega arith
    len_short bytes (Err stop) at short is = absurd cc

pub read_id_early : (bytes : List ℕ) (fault : Fault) → read_id bytes ≡ Err fault → fault.reason ≡ reasons.Truncated → length bytes ≤ 1051
unfolding read_id ShortStep
read_id_early bytes fault is early = early_short bytes (id_at bytes) fault (id_step bytes) is early
  where
    early_short : (bytes : List ℕ) (r : Result (Eid × List ℕ) Stop) (fault : Fault) → ShortStep after 1051 bytes r → answer bytes r ≡ Err fault → fault.reason ≡ reasons.Truncated → length bytes ≤ 1051
    early_short bytes (Ok x) fault short is early = absurd cc
    early_short bytes (Err stop) fault short is early =
        let same : fault_of (length bytes) stop ≡ fault = cc in
        short (ap (λ (f : Fault). f.reason) same ∙ early)
