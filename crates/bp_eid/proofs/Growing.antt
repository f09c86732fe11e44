-- What was read, and a fault but for bytes that end too early, stay when bytes are added.
use Rattle.std.proofs.Common.{◌≡◌, ◌≢◌, ℕ, ◌+◌, ◌/◌, ◌%◌, ◌≤◌, Bool, true, false, cond, ltb, eqb, List, [], ◌∷◌, ◌++◌, length, take, drop, Result, Ok, Err, refl, ◌∙◌, ap, arith}
use Rattle.std.specs.Int.{w8, w16, w32, w64, from_be_bytes}
use Rattle.std.proofs.lemmas.Bool.{le-ltb, ltb-false}
use Rattle.std.proofs.lemmas.List.{length-append, take-append-le, drop-append-le}
use Rattle.cbor_profile.specs.declared.head.Head.{Head}
use Rattle.cbor_profile.specs.declared.head.HeadRead.{HeadRead}
use Rattle.cbor_profile.specs.declared.head.HeadRead.TheVariants.{Whole, Short, NotShortest, Bad}
use Rattle.cbor_profile.specs.declared.fault.Reason.{Reason}
use Rattle.cbor_profile.specs.declared.fault.Reason.TheVariants as reasons
use Rattle.cbor_profile.specs.Head.{read_head, is_bad, following, argument, least}
use Rattle.cbor_profile.specs.Step.{◌>>=◌}
use Rattle.cbor_profile.specs.Token.{token_head, after_read}
use Rattle.bp_eid.specs.declared.eid.Eid.{Eid}
use Rattle.bp_eid.specs.declared.eid.Eid.TheVariants.{Null, Dtn, Ipn}
use Rattle.bp_eid.specs.declared.stop.Stop.{Stop}
use Rattle.bp_eid.specs.DtnText.{is_dtn_text}
use Rattle.bp_eid.specs.Reading.{stops, at_token, head_at, pair_at, number_at, content_at, dtn_at, ipn_at, id_at}
use Rattle.cbor_profile.proofs.Tokens.{is_among}

-- ---- heads

grown_choice : (b0 b1 b2 b3 : Bool) (low : ℕ) (rest more : List ℕ) → cond b0 0 (cond b1 1 (cond b2 2 (cond b3 4 8))) ≤ length rest
    → cond b0 low (cond b1 (from_be_bytes w8 (take 1 (rest ++ more))) (cond b2 (from_be_bytes w16 (take 2 (rest ++ more))) (cond b3 (from_be_bytes w32 (take 4 (rest ++ more))) (from_be_bytes w64 (take 8 (rest ++ more))))))
    ≡ cond b0 low (cond b1 (from_be_bytes w8 (take 1 rest)) (cond b2 (from_be_bytes w16 (take 2 rest)) (cond b3 (from_be_bytes w32 (take 4 rest)) (from_be_bytes w64 (take 8 rest)))))
grown_choice true b1 b2 b3 low rest more long = refl
grown_choice false true b2 b3 low rest more long = ap (from_be_bytes w8) (take-append-le 1 rest more long)
grown_choice false false true b3 low rest more long = ap (from_be_bytes w16) (take-append-le 2 rest more long)
grown_choice false false false true low rest more long = ap (from_be_bytes w32) (take-append-le 4 rest more long)
grown_choice false false false false low rest more long = ap (from_be_bytes w64) (take-append-le 8 rest more long)

grown_argument : (low : ℕ) (rest more : List ℕ) → following low ≤ length rest → argument low (rest ++ more) ≡ argument low rest
grown_argument low rest more long = grown_choice (ltb low 24) (eqb low 24) (eqb low 25) (eqb low 26) low rest more long

-- the two tests of what a first byte says, and what is read where both let it through
choose : Bool → Bool → HeadRead → HeadRead
choose bad short read = cond bad Bad (cond short Short read)

grown_read : (bad short short' : Bool) (read read' : HeadRead) → (short ≡ false → (short' ≡ false) × (read' ≡ read)) → (choose bad short read ≡ Short → ⊥) → choose bad short' read' ≡ choose bad short read
unfolding choose
grown_read true short short' read read' same whole = refl
grown_read false true short' read read' same whole = absurd (whole refl)
grown_read false false short' read read' same whole = let s = same refl in rw s.0 s.1

grown_head : (bytes more : List ℕ) → (read_head bytes ≡ Short → ⊥) → read_head (bytes ++ more) ≡ read_head bytes
unfolding read_head choose
grown_head [] more whole = absurd (whole refl)
grown_head (first ∷ rest) more whole =
    let low = first % 32 in
    let found : List ℕ → HeadRead = λ r. cond (ltb (argument low r) (least low)) NotShortest (Whole (record { major = first / 32; value = argument low r }) (following low + 1)) in
    grown_read (is_bad first) (ltb (length rest) (following low)) (ltb (length (rest ++ more)) (following low)) (found rest) (found (rest ++ more)) (λ fits.
    let long : following low ≤ length rest = ltb-false _ _ fits in
    let longer : following low ≤ length (rest ++ more) = omega (arith, length-append rest more) in
    (le-ltb _ _ longer, rw (grown_argument low rest more long) refl)) whole

let_by : (b : Bool) (x y z : HeadRead) → cond b x y ≡ z → (x ≡ z → ⊥) → (b ≡ false) × (y ≡ z)
let_by true x y z e differs = absurd (differs e)
let_by false x y z e differs = (refl, e)

whole_len : (bytes : List ℕ) (head : Head) (len : ℕ) → read_head bytes ≡ Whole head len → len ≤ length bytes
unfolding read_head
whole_len [] head len e = absurd cc
whole_len (first ∷ rest) head len e =
    let a = let_by (is_bad first) Bad _ (Whole head len) e (λ h. cc) in
    let b = let_by (ltb (length rest) (following (first % 32))) Short _ (Whole head len) a.1 (λ h. cc) in
    let c = let_by (ltb (argument (first % 32) rest) (least (first % 32))) NotShortest _ (Whole head len) b.1 (λ h. cc) in
    let long : following (first % 32) ≤ length rest = ltb-false _ _ b.0 in
    let same : following (first % 32) + 1 ≡ len = cc in
    omega arith

-- ---- tokens

abbrev pub with_more : {X : Type 0} → List ℕ → X × List ℕ → X × List ℕ
with_more more x = (x.0, x.1 ++ more)

abbrev grown_token : List ℕ → Result (Head × List ℕ) Reason → Result (Head × List ℕ) Reason
grown_token more (Ok x) = Ok (with_more more x)
grown_token more (Err reason) = Err reason

after_grows : (bytes more : List ℕ) (read : HeadRead) → ((head : Head) (len : ℕ) → read ≡ Whole head len → len ≤ length bytes) → (read ≡ Short → ⊥) → after_read (bytes ++ more) read ≡ grown_token more (after_read bytes read)
after_grows bytes more (Whole head len) long whole = let le = long head len refl in rw drop-append-le refl
after_grows bytes more Short long whole = absurd (whole refl)
after_grows bytes more NotShortest long whole = refl
after_grows bytes more Bad long whole = refl

among_grows : (b : Bool) (more : List ℕ) (x y : Result (Head × List ℕ) Reason) → ((x ≡ Err reasons.Truncated → ⊥) → y ≡ grown_token more x) → (cond b x (Err reasons.WrongKind) ≡ Err reasons.Truncated → ⊥)
    → cond b y (Err reasons.WrongKind) ≡ grown_token more (cond b x (Err reasons.WrongKind))
among_grows true more x y same stays = same stays
among_grows false more x y same stays = refl

token_grows : (kinds bytes more : List ℕ) → (token_head kinds bytes ≡ Err reasons.Truncated → ⊥) → token_head kinds (bytes ++ more) ≡ grown_token more (token_head kinds bytes)
unfolding token_head
token_grows kinds [] more stays = absurd (stays refl)
token_grows kinds (first ∷ rest) more stays =
    let bytes : List ℕ = first ∷ rest in
    among_grows (is_among kinds (first / 32)) more (after_read bytes (read_head bytes)) (after_read (bytes ++ more) (read_head (bytes ++ more))) (λ whole.
    let read : read_head bytes ≡ Short → ⊥ = λ e. whole (ap (after_read bytes) e) in
    ap (after_read (bytes ++ more)) (grown_head bytes more read) ∙ after_grows bytes more (read_head bytes) (λ head len e. whole_len bytes head len e) read) stays

-- ---- steps

-- what was read, and a fault with as many more bytes left
abbrev pub grown : {A : Type 0} → (A → A) → ℕ → Result A Stop → Result A Stop
grown e k (Ok x) = Ok (e x)
grown e k (Err stop) = Err (record { reason = stop.reason; left = stop.left + k })

-- it isn't that bytes end too early
unfoldable pub Stays : {A : Type 0} → Result A Stop → Type 0
Stays (Ok x) = Unit {0}
Stays (Err stop) = stop.reason ≢ reasons.Truncated

abbrev pub Grows : {A : Type 0} → (A → A) → ℕ → Result A Stop → Result A Stop → Type 0
Grows e k r r' = Stays r → r' ≡ grown e k r

pub then_grows : {A B : Type 0} (e : A → A) (e' : B → B) (k : ℕ) (r r' : Result A Stop) (f g : A → Result B Stop) → Grows e k r r' → ((x : A) → Grows e' k (f x) (g (e x))) → Grows e' k (r >>= f) (r' >>= g)
unfolding Stays
then_grows e e' k (Ok x) r' f g p q stays = rw (p tt) (q x stays)
then_grows e e' k (Err stop) r' f g p q stays = rw (p stays) refl

pub either_grows : {A : Type 0} (e : A → A) (k : ℕ) (b : Bool) (x x' y y' : Result A Stop) → Grows e k x x' → Grows e k y y' → Grows e k (cond b x y) (cond b x' y')
either_grows e k true x x' y y' p q stays = p stays
either_grows e k false x x' y y' p q stays = q stays

pub stops_grows : {A : Type 0} (e : A → A) (bytes more : List ℕ) (reason : Reason) → Grows e (length more) (stops bytes reason) (stops (bytes ++ more) reason)
stops_grows e bytes more reason stays = ap (λ (left : ℕ). Err (record { reason = reason; left = left })) (length-append bytes more)

pub ok_grows : {A : Type 0} (e : A → A) (k : ℕ) (x : A) → Grows e k (Ok x) (Ok (e x))
ok_grows e k x stays = refl

pub at_token_grows : (bytes more : List ℕ) (r r' : Result (Head × List ℕ) Reason) → ((r ≡ Err reasons.Truncated → ⊥) → r' ≡ grown_token more r) → Grows (with_more more) (length more) (at_token bytes r) (at_token (bytes ++ more) r')
unfolding Stays
at_token_grows bytes more (Ok x) r' same stays = rw (same (λ e. cc)) refl
at_token_grows bytes more (Err reason) r' same stays = rw (same (λ e. stays cc)) (stops_grows (with_more more) bytes more reason stays)

pub head_grows : (kinds bytes more : List ℕ) → Grows (with_more more) (length more) (head_at kinds bytes) (head_at kinds (bytes ++ more))
head_grows kinds bytes more = at_token_grows bytes more (token_head kinds bytes) (token_head kinds (bytes ++ more)) (λ whole. token_grows kinds bytes more whole)

abbrev pub rest_more : List ℕ → List ℕ → List ℕ
rest_more more rest = rest ++ more

pub pair_grows : (bytes more : List ℕ) → Grows (rest_more more) (length more) (pair_at bytes) (pair_at (bytes ++ more))
unfolding pair_at
pair_grows bytes more =
    then_grows (with_more more) (rest_more more) (length more) (head_at (4 ∷ []) bytes) (head_at (4 ∷ []) (bytes ++ more)) _ (λ head. cond (eqb head.0.value 2) (Ok head.1) (stops (bytes ++ more) reasons.WrongCount)) (head_grows (4 ∷ []) bytes more)
    (λ x. either_grows (rest_more more) (length more) (eqb x.0.value 2) (Ok x.1) (Ok (x.1 ++ more)) _ _ (ok_grows (rest_more more) (length more) x.1) (stops_grows (rest_more more) bytes more reasons.WrongCount))

pub number_grows : (bytes more : List ℕ) → Grows (with_more more) (length more) (number_at bytes) (number_at (bytes ++ more))
unfolding number_at
number_grows bytes more =
    then_grows (with_more more) (with_more more) (length more) (head_at (0 ∷ []) bytes) (head_at (0 ∷ []) (bytes ++ more)) (λ head. Ok (head.0.value, head.1)) (λ head. Ok (head.0.value, head.1)) (head_grows (0 ∷ []) bytes more)
    (λ x. ok_grows (with_more more) (length more) (x.0.value, x.1))

content_by : (b : Bool) (len : ℕ) (bytes more : List ℕ) → ltb (length bytes) len ≡ b
    → Grows (with_more more) (length more) (cond b (stops bytes reasons.Truncated) (cond (is_dtn_text (take len bytes)) (Ok (take len bytes, drop len bytes)) (stops bytes reasons.WrongText))) (content_at len (bytes ++ more))
unfolding content_at Stays
content_by true len bytes more e stays = absurd (stays refl)
content_by false len bytes more e stays =
    let long : len ≤ length bytes = ltb-false _ _ e in
    let longer : ltb (length (bytes ++ more)) len ≡ false = le-ltb _ _ (omega (arith, length-append bytes more)) in
    rw (longer, take-append-le len bytes more long, drop-append-le len bytes more long)
    (either_grows (with_more more) (length more) (is_dtn_text (take len bytes)) (Ok (take len bytes, drop len bytes)) _ (stops bytes reasons.WrongText) _ (ok_grows (with_more more) (length more) (take len bytes, drop len bytes)) (stops_grows (with_more more) bytes more reasons.WrongText) stays)

content_grows : (len : ℕ) (bytes more : List ℕ) → Grows (with_more more) (length more) (content_at len bytes) (content_at len (bytes ++ more))
unfolding content_at
content_grows len bytes more = content_by (ltb (length bytes) len) len bytes more refl

dtn_grows : (bytes more : List ℕ) → Grows (with_more more) (length more) (dtn_at bytes) (dtn_at (bytes ++ more))
unfolding dtn_at
dtn_grows bytes more =
    let e : Eid × List ℕ → Eid × List ℕ = with_more more in
    let k = length more in
    let step : List ℕ → Head × List ℕ → Result (Eid × List ℕ) Stop = λ all head. cond (eqb head.0.major 0) (cond (eqb head.0.value 0) (Ok (Null, head.1)) (stops all reasons.WrongValue)) (cond (ltb 1024 head.0.value) (stops all reasons.WrongValue) (content_at head.0.value head.1 >>= λ text. Ok (Dtn text.0, text.1))) in
    then_grows (with_more more) e k (head_at (0 ∷ 3 ∷ []) bytes) (head_at (0 ∷ 3 ∷ []) (bytes ++ more)) (step bytes) (step (bytes ++ more)) (head_grows (0 ∷ 3 ∷ []) bytes more)
    (λ x. either_grows e k (eqb x.0.major 0) _ _ _ _
    (either_grows e k (eqb x.0.value 0) (Ok (Null, x.1)) _ _ _ (ok_grows e k (Null, x.1)) (stops_grows e bytes more reasons.WrongValue))
    (either_grows e k (ltb 1024 x.0.value) _ _ _ _ (stops_grows e bytes more reasons.WrongValue)
    (then_grows (with_more more) e k (content_at x.0.value x.1) (content_at x.0.value (x.1 ++ more)) (λ text. Ok (Dtn text.0, text.1)) (λ text. Ok (Dtn text.0, text.1)) (content_grows x.0.value x.1 more) (λ y. ok_grows e k (Dtn y.0, y.1)))))

ipn_grows : (bytes more : List ℕ) → Grows (with_more more) (length more) (ipn_at bytes) (ipn_at (bytes ++ more))
unfolding ipn_at
ipn_grows bytes more =
    let e : Eid × List ℕ → Eid × List ℕ = with_more more in
    let k = length more in
    let last : ℕ → ℕ × List ℕ → Result (Eid × List ℕ) Stop = λ node service. Ok (Ipn node service.0, service.1) in
    let numbers : ℕ × List ℕ → Result (Eid × List ℕ) Stop = λ node. number_at node.1 >>= last node.0 in
    then_grows (rest_more more) e k (pair_at bytes) (pair_at (bytes ++ more)) (λ rest. number_at rest >>= numbers) (λ rest. number_at rest >>= numbers) (pair_grows bytes more)
    (λ rest. then_grows (with_more more) e k (number_at rest) (number_at (rest ++ more)) numbers numbers (number_grows rest more)
    (λ node. then_grows (with_more more) e k (number_at node.1) (number_at (node.1 ++ more)) (last node.0) (last node.0) (number_grows node.1 more) (λ service. ok_grows e k (Ipn node.0 service.0, service.1))))

pub id_grows : (bytes more : List ℕ) → Grows (with_more more) (length more) (id_at bytes) (id_at (bytes ++ more))
unfolding id_at
id_grows bytes more =
    let e : Eid × List ℕ → Eid × List ℕ = with_more more in
    let k = length more in
    let part : List ℕ → ℕ × List ℕ → Result (Eid × List ℕ) Stop = λ rest number. cond (eqb number.0 1) (dtn_at number.1) (cond (eqb number.0 2) (ipn_at number.1) (stops rest reasons.WrongValue)) in
    then_grows (rest_more more) e k (pair_at bytes) (pair_at (bytes ++ more)) (λ rest. number_at rest >>= part rest) (λ rest. number_at rest >>= part rest) (pair_grows bytes more)
    (λ rest. then_grows (with_more more) e k (number_at rest) (number_at (rest ++ more)) (part rest) (part (rest ++ more)) (number_grows rest more)
    (λ number. either_grows e k (eqb number.0 1) (dtn_at number.1) _ _ _ (dtn_grows number.1 more)
    (either_grows e k (eqb number.0 2) (ipn_at number.1) _ _ _ (ipn_grows number.1 more) (stops_grows e rest more reasons.WrongValue))))

-- the two sides
pub id_stays : (bytes more : List ℕ) (x : Eid × List ℕ) → id_at bytes ≡ Ok x → id_at (bytes ++ more) ≡ Ok (x.0, x.1 ++ more)
unfolding Stays
id_stays bytes more x is = id_grows bytes more (rw is tt) ∙ ap (grown (with_more more) (length more)) is

pub stop_stays : (bytes more : List ℕ) (stop : Stop) → id_at bytes ≡ Err stop → stop.reason ≢ reasons.Truncated → id_at (bytes ++ more) ≡ Err (record { reason = stop.reason; left = stop.left + length more })
unfolding Stays
stop_stays bytes more stop is other = id_grows bytes more (rw is other) ∙ ap (grown (with_more more) (length more)) is
