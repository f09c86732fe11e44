-- Where reading the heads of an id stops, what stands before begins them, and bytes that end too early leave a token that
-- isn't whole.
use Rattle.std.proofs.Common.{◌≡◌, ◌≢◌, ℕ, suc, ◌/◌, ◌^◌, ◌<◌, inl, inr, ◌⊎◌, Bool, true, false, cond, eqb, List, [], ◌∷◌, ◌++◌, length, Result, Ok, Err, refl, sym, ◌∙◌, ap, subst, append_assoc}
use Rattle.std.specs.List.{list_any}
use Rattle.std.proofs.lemmas.Bool.{eqb-true}
use Rattle.cbor_profile.specs.Head.{spelling, head_spelling}
use Rattle.cbor_profile.specs.Put.{uint, array_head}
use Rattle.cbor_profile.specs.Step.{◌>>=◌}
use Rattle.cbor_profile.specs.Token.{token_head}
use Rattle.cbor_profile.specs.declared.head.Head.{Head}
use Rattle.cbor_profile.specs.declared.fault.Reason.{Reason}
use Rattle.cbor_profile.specs.declared.fault.Reason.TheVariants as reasons
use Rattle.bp_eid.specs.declared.stop.Stop.{Stop}
use Rattle.bp_eid.specs.Reading.{stops, at_token, head_at, pair_at, number_at}
use Rattle.correct_prefix.specs.Prefix.{Begins, EndsInTextTooShort, IsUnfinished}
use Rattle.bp_bundle.proofs.HeadsAsSpelled.{IsBytes, TokenLaws, one_kind}
use Rattle.correct_prefix.proofs.StopsBehindPrefix.{Some_of, Starting, started, begun, LacksOne, head_unfinished, begins_behind, unfinished_behind}

pub record Cut (Kind : List ℕ → Type 0) (bytes : List ℕ) (stop : Stop) : Type 0 where
  pub front : List ℕ
  pub rest : List ℕ
  pub parts : bytes ≡ front ++ rest
  pub left : length rest ≡ stop.left
  pub begins : Begins Kind front ⊎ EndsInTextTooShort Kind front
  pub unfinished : stop.reason ≡ reasons.Truncated → IsUnfinished Kind front rest

pub cut_behind : (Inner Outer : List ℕ → Type 0) (text bytes rest : List ℕ) (stop : Stop) → bytes ≡ text ++ rest → ((t : List ℕ) → Inner t → Outer (text ++ t)) → Cut Inner rest stop → Cut Outer bytes stop
cut_behind Inner Outer text bytes rest stop parts wider c = record {
  front = text ++ c.front;
  rest = c.rest;
  parts = parts ∙ (ap (λ (l : List ℕ). text ++ l) c.parts ∙ sym (append_assoc text c.front c.rest));
  left = c.left;
  begins = begins_behind Inner Outer text c.front wider c.begins;
  unfinished = λ early. unfinished_behind Inner Outer text c.front c.rest wider (c.unfinished early);
}

pub cut_here : (Kind : List ℕ → Type 0) (bytes : List ℕ) (stop : Stop) → Some_of Kind → stop.left ≡ length bytes → (stop.reason ≡ reasons.Truncated → IsUnfinished Kind [] bytes) → Cut Kind bytes stop
cut_here Kind bytes stop some left short = record { front = []; rest = bytes; parts = refl; left = sym left; begins = inl (some.0, some.1, some.0, refl); unfinished = short }

pub cut_then : {A B : Type 0} (Kind : List ℕ → Type 0) (bytes : List ℕ) (r : Result A Stop) (f : A → Result B Stop) (stop : Stop) → (r >>= f) ≡ Err stop → (r ≡ Err stop → Cut Kind bytes stop) → ((x : A) → r ≡ Ok x → f x ≡ Err stop → Cut Kind bytes stop)
    → Cut Kind bytes stop
cut_then Kind bytes (Ok x) f stop e first second = second x refl e
cut_then Kind bytes (Err s) f stop e first second = let same : s ≡ stop = cc in first (ap Err same)

pub stopped : {A : Type 0} (bytes : List ℕ) (reason : Reason) (stop : Stop) → stops {A = A} bytes reason ≡ Err stop → (stop.left ≡ length bytes) × (stop.reason ≡ reason)
stopped bytes reason stop e = (cc, cc)

pub other_cut : {A : Type 0} (Kind : List ℕ → Type 0) (bytes : List ℕ) (reason : Reason) (stop : Stop) → Some_of Kind → reason ≢ reasons.Truncated → stops {A = A} bytes reason ≡ Err stop → Cut Kind bytes stop
other_cut {A} Kind bytes reason stop some other e = let s = stopped {A = A} bytes reason stop e in cut_here Kind bytes stop some s.0 (λ early. absurd (other (sym s.1 ∙ early)))

pub either_cut : {A : Type 0} (Kind : List ℕ → Type 0) (bytes : List ℕ) (b : Bool) (x y : Result A Stop) (stop : Stop) → cond b x y ≡ Err stop → (b ≡ true → x ≡ Err stop → Cut Kind bytes stop) → (b ≡ false → y ≡ Err stop → Cut Kind bytes stop) → Cut Kind bytes stop
either_cut Kind bytes true x y stop e f g = f refl e
either_cut Kind bytes false x y stop e f g = g refl e

-- ---- heads of ids

-- a head that was read
pub record Headed (kinds bytes : List ℕ) (x : Head × List ℕ) : Type 0 where
  pub parts : bytes ≡ head_spelling x.0.major x.0.value ++ x.1
  pub rest_fits : IsBytes x.1
  pub small : x.0.value < 2 ^ 64
  pub among : list_any (λ kind. eqb kind x.0.major) kinds ≡ true

pub token_ok : {A : Type 0} (bytes : List ℕ) (r : Result A Reason) (x : A) → at_token bytes r ≡ Ok x → r ≡ Ok x
token_ok bytes (Ok y) x e = cc
token_ok bytes (Err reason) x e = absurd cc

pub drop_bytes : (text rest : List ℕ) → IsBytes (text ++ rest) → IsBytes rest
drop_bytes [] rest fits = fits
drop_bytes (b ∷ text) rest fits = drop_bytes text rest (λ i. fits (suc i))

pub headed : (laws : TokenLaws) (kinds bytes : List ℕ) (x : Head × List ℕ) → IsBytes bytes → head_at kinds bytes ≡ Ok x → Headed kinds bytes x
unfolding spelling
headed laws kinds bytes x fits e =
    let m = laws.means kinds bytes x.0 x.1 fits (token_ok bytes (token_head kinds bytes) x e) in
    record { parts = m.0; rest_fits = drop_bytes (head_spelling x.0.major x.0.value) x.1 (subst IsBytes m.0 fits); small = m.1.0; among = m.2 }

-- Byte lists of the kind begin with a head of each of these major types.
abbrev pub Starts : (List ℕ → Type 0) → List ℕ → Type 0
Starts Kind kinds = (major : ℕ) → list_any (λ kind. eqb kind major) kinds ≡ true → Starting Kind major

pub starts_one : (Kind : List ℕ → Type 0) (kind : ℕ) → Starting Kind kind → Starts Kind (kind ∷ [])
starts_one Kind kind s major among = subst (Starting Kind) (sym (one_kind kind major among)) s

pub lacks_one_of : (Kind : List ℕ → Type 0) (kinds bytes : List ℕ) → Starts Kind kinds → LacksOne (λ m. list_any (λ kind. eqb kind m) kinds ≡ true) bytes → IsUnfinished Kind [] bytes
lacks_one_of Kind kinds bytes starts (inl none) = inl none
lacks_one_of Kind kinds bytes starts (inr (first, more, is, short, among)) = let s = starts (first / 32) among in inr (inl (first, more, s.0, is, short, begun Kind (first / 32) s))

pub token_cut : (Kind : List ℕ → Type 0) (kinds bytes : List ℕ) (r : Result (Head × List ℕ) Reason) (stop : Stop) → Some_of Kind → Starts Kind kinds → token_head kinds bytes ≡ r → at_token bytes r ≡ Err stop → Cut Kind bytes stop
token_cut Kind kinds bytes (Ok x) stop some starts is e = absurd cc
token_cut Kind kinds bytes (Err reason) stop some starts is e =
    let s = stopped {A = Head × List ℕ} bytes reason stop e in
    cut_here Kind bytes stop some s.0 (λ early. lacks_one_of Kind kinds bytes starts (head_unfinished kinds bytes (is ∙ ap Err (sym s.1 ∙ early))))

-- a step of one head, and what follows it
pub step_cut : {B : Type 0} (laws : TokenLaws) (Kind : List ℕ → Type 0) (kinds bytes : List ℕ) (f : Head × List ℕ → Result B Stop) (stop : Stop) → IsBytes bytes → Some_of Kind → Starts Kind kinds → (head_at kinds bytes >>= f) ≡ Err stop
    → ((x : Head × List ℕ) → Headed kinds bytes x → f x ≡ Err stop → Cut Kind bytes stop) → Cut Kind bytes stop
step_cut laws Kind kinds bytes f stop fits some starts e second =
    cut_then Kind bytes (head_at kinds bytes) f stop e (λ is. token_cut Kind kinds bytes (token_head kinds bytes) stop some starts refl is) (λ x is h. second x (headed laws kinds bytes x fits is) h)

-- the two items of an array
pub pair_cut : {B : Type 0} (laws : TokenLaws) (Inner Outer : List ℕ → Type 0) (bytes : List ℕ) (f : List ℕ → Result B Stop) (stop : Stop) → IsBytes bytes → Some_of Inner → ((t : List ℕ) → Inner t → Outer (array_head 2 ++ t))
    → (pair_at bytes >>= f) ≡ Err stop → ((rest : List ℕ) → IsBytes rest → f rest ≡ Err stop → Cut Inner rest stop) → Cut Outer bytes stop
unfolding pair_at array_head
pair_cut laws Inner Outer bytes f stop fits some wider e second =
    let start : Starting Outer 4 = (2, some.0, wider some.0 some.1) in
    let whole : Some_of Outer = started Outer 4 start in
    cut_then Outer bytes (pair_at bytes) f stop e
    (λ is.
    step_cut laws Outer (4 ∷ []) bytes (λ head. cond (eqb head.0.value 2) (Ok head.1) (stops bytes reasons.WrongCount)) stop fits whole (starts_one Outer 4 start) is
    (λ x h g. either_cut Outer bytes (eqb x.0.value 2) (Ok x.1) (stops bytes reasons.WrongCount) stop g (λ b k. absurd cc) (λ b k. other_cut {A = List ℕ} Outer bytes reasons.WrongCount stop whole (λ r. cc) k)))
    (λ rest is h.
    let p = pair_ok rest (head_at (4 ∷ []) bytes) is in
    let g = headed laws (4 ∷ []) bytes p.0 fits p.1 in
    let parts : bytes ≡ head_spelling 4 2 ++ p.0.1 = g.parts ∙ (ap (λ (m : ℕ). head_spelling m p.0.0.value ++ p.0.1) (one_kind 4 p.0.0.major g.among) ∙ ap (λ (v : ℕ). head_spelling 4 v ++ p.0.1) (eqb-true _ _ p.2)) in
    cut_behind Inner Outer (head_spelling 4 2) bytes rest stop (subst (λ (r : List ℕ). bytes ≡ head_spelling 4 2 ++ r) p.3 parts) wider (second rest (subst IsBytes p.3 g.rest_fits) h))
  where
    counted : (b : Bool) (found rest : List ℕ) → cond b (Ok found) (stops bytes reasons.WrongCount) ≡ Ok rest → (b ≡ true) × (found ≡ rest)
    counted true found rest e = (refl, cc)
    counted false found rest e = absurd cc

    pair_ok : (rest : List ℕ) (r : Result (Head × List ℕ) Stop) → (r >>= λ head. cond (eqb head.0.value 2) (Ok head.1) (stops bytes reasons.WrongCount)) ≡ Ok rest → (x : Head × List ℕ) × (r ≡ Ok x) × (eqb x.0.value 2 ≡ true) × (x.1 ≡ rest)
    pair_ok rest (Ok x) e = let c = counted (eqb x.0.value 2) x.1 rest e in (x, refl, c.0, c.1)
    pair_ok rest (Err s) e = absurd cc

-- a number, and what follows it
pub record Numbered (bytes : List ℕ) (x : ℕ × List ℕ) : Type 0 where
  pub parts : bytes ≡ uint x.0 ++ x.1
  pub rest_fits : IsBytes x.1
  pub small : x.0 < 2 ^ 64

pub number_cut : {B : Type 0} (laws : TokenLaws) (Kind : List ℕ → Type 0) (bytes : List ℕ) (f : ℕ × List ℕ → Result B Stop) (stop : Stop) → IsBytes bytes → Starting Kind 0 → (number_at bytes >>= f) ≡ Err stop
    → ((x : ℕ × List ℕ) → Numbered bytes x → f x ≡ Err stop → Cut Kind bytes stop) → Cut Kind bytes stop
unfolding number_at uint
number_cut laws Kind bytes f stop fits some e second =
    cut_then Kind bytes (number_at bytes) f stop e
    (λ is. step_cut laws Kind (0 ∷ []) bytes (λ head. Ok (head.0.value, head.1)) stop fits (started Kind 0 some) (starts_one Kind 0 some) is (λ x h g. absurd cc))
    (λ x is h.
    let p = number_ok x (head_at (0 ∷ []) bytes) is in
    let g = headed laws (0 ∷ []) bytes p.0 fits p.1 in
    let parts : bytes ≡ head_spelling 0 p.0.0.value ++ p.0.1 = g.parts ∙ ap (λ (m : ℕ). head_spelling m p.0.0.value ++ p.0.1) (one_kind 0 p.0.0.major g.among) in
    second x (subst (Numbered bytes) p.2 (record { parts = parts; rest_fits = g.rest_fits; small = g.small })) h)
  where
    number_ok : (x : ℕ × List ℕ) (r : Result (Head × List ℕ) Stop) → (r >>= λ head. Ok (head.0.value, head.1)) ≡ Ok x → (y : Head × List ℕ) × (r ≡ Ok y) × ((y.0.value, y.1) ≡ x)
    number_ok x (Ok y) e = (y, refl, cc)
    number_ok x (Err s) e = absurd cc
