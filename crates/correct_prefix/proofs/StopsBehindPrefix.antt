-- Where reading stops, what stands before begins a spelling, and bytes that end too early leave a token that isn't whole.
use Rattle.std.proofs.Common.{◌≡◌, ◌≢◌, ℕ, ◌+◌, ◌-◌, ◌/◌, ◌<◌, inl, inr, ◌⊎◌, Bool, true, false, cond, ltb, eqb, List, [], ◌∷◌, ◌++◌, length, take, Option, Some, None, Result, Ok, Err, refl, sym, ◌∙◌, ap, subst, append_assoc, arith}
use Rattle.std.specs.List.{list_any}
use Rattle.std.proofs.lemmas.Bool.{ltb-true}
use Rattle.std.proofs.lemmas.List.{length-append}
use Rattle.cbor_profile.specs.Head.{head_spelling, read_head}
use Rattle.cbor_profile.specs.Step.{◌>>=◌}
use Rattle.cbor_profile.specs.Token.{token_head, after_read}
use Rattle.cbor_profile.specs.declared.TheConstants.{BUNDLE_LIMIT}
use Rattle.cbor_profile.specs.declared.head.Head.{Head}
use Rattle.cbor_profile.specs.declared.head.HeadRead.{HeadRead}
use Rattle.cbor_profile.specs.declared.head.HeadRead.TheVariants.{Whole, Short, NotShortest, Bad}
use Rattle.cbor_profile.specs.declared.fault.Reason.{Reason}
use Rattle.cbor_profile.specs.declared.fault.Reason.TheVariants as reasons
use Rattle.cbor_profile.specs.declared.fault.Fault.{Fault}
use Rattle.bp_blocks.specs.declared.block.Block.{Block}
use Rattle.bp_bundle.specs.declared.token.Token.{Token}
use Rattle.bp_bundle.specs.Tokens.{Cursor, place_of, stops, major_of, conditions, first_failing, announced, up_to, after_conditions, after_head, argument_at}
use Rattle.bp_bundle.specs.FirstFault.{past, content_at}
use Rattle.correct_prefix.specs.Prefix.{Begins, EndsInTextTooShort, IsUnfinished}
use Rattle.bp_bundle.proofs.HeadsAsSpelled.{IsBytes, TokenLaws, Took, ReadsArgument, one_kind, argument_means}
use Rattle.bp_bundle.proofs.WithinTheLimit.{never_early}

-- some byte list is of the kind
abbrev pub Some_of : (List ℕ → Type 0) → Type 0
Some_of Kind = (text : List ℕ) × Kind text

-- From this cursor on, the bytes before the token at which reading stops begin a byte list of the kind.
pub record Reached (Kind : List ℕ → Type 0) (cursor : Cursor) (fault : Fault) : Type 0 where
  pub front : List ℕ
  pub rest : List ℕ
  pub parts : cursor.rest ≡ front ++ rest
  pub place : fault.reason ≢ reasons.Truncated → fault.place ≡ cursor.at + length front
  pub begins : Begins Kind front ⊎ EndsInTextTooShort Kind front
  pub unfinished : fault.reason ≡ reasons.Truncated → IsUnfinished Kind front rest

-- No byte is left, or a head of such a major type isn't whole.
abbrev pub LacksOne : (ℕ → Type 0) → List ℕ → Type 0
LacksOne Major rest = (rest ≡ []) ⊎ ((first : ℕ) × (more : List ℕ) × (rest ≡ first ∷ more) × (read_head rest ≡ Short) × Major (first / 32))

-- It stops at the cursor, at a head of this major type.
pub record StopsHere (major : ℕ) (cursor : Cursor) (fault : Fault) : Type 0 where
  pub place : fault.reason ≢ reasons.Truncated → fault.place ≡ cursor.at
  pub unfinished : fault.reason ≡ reasons.Truncated → LacksOne (λ m. m ≡ major) cursor.rest

-- A byte list of the kind begins with a head of this major type.
abbrev pub Starting : (List ℕ → Type 0) → ℕ → Type 0
Starting Kind major = (argument : ℕ) × (more : List ℕ) × Kind (head_spelling major argument ++ more)

abbrev pub started : (Kind : List ℕ → Type 0) (major : ℕ) → Starting Kind major → Some_of Kind
started Kind major s = (head_spelling major s.0 ++ s.1, s.2)

pub begun : (Kind : List ℕ → Type 0) (major : ℕ) (s : Starting Kind major) → Begins Kind (head_spelling major s.0)
begun Kind major s = (head_spelling major s.0 ++ s.1, s.2, s.1, refl)

lacks_of : (Kind : List ℕ → Type 0) (major : ℕ) (rest : List ℕ) → Starting Kind major → LacksOne (λ m. m ≡ major) rest → IsUnfinished Kind [] rest
lacks_of Kind major rest s (inl none) = inl none
lacks_of Kind major rest s (inr (first, more, is, short, kind)) = inr (inl (first, more, s.0, is, short, subst (λ (m : ℕ). Begins Kind (head_spelling m s.0)) (sym kind) (begun Kind major s)))

pub reached_here : (Kind : List ℕ → Type 0) (major : ℕ) (cursor : Cursor) (fault : Fault) → Starting Kind major → StopsHere major cursor fault → Reached Kind cursor fault
reached_here Kind major cursor fault s here = record {
  front = [];
  rest = cursor.rest;
  parts = refl;
  place = λ other. here.place other ∙ omega arith;
  begins = inl (head_spelling major s.0 ++ s.1, s.2, head_spelling major s.0 ++ s.1, refl);
  unfinished = λ early. lacks_of Kind major cursor.rest s (here.unfinished early);
}

-- It stops at the cursor, at no head: no byte is left, or the token is refused.
pub record StopsAt (cursor : Cursor) (fault : Fault) : Type 0 where
  pub place : fault.reason ≢ reasons.Truncated → fault.place ≡ cursor.at
  pub unfinished : fault.reason ≡ reasons.Truncated → cursor.rest ≡ []

pub reached_at : (Kind : List ℕ → Type 0) (cursor : Cursor) (fault : Fault) → Some_of Kind → StopsAt cursor fault → Reached Kind cursor fault
reached_at Kind cursor fault some here = record {
  front = [];
  rest = cursor.rest;
  parts = refl;
  place = λ other. here.place other ∙ omega arith;
  begins = inl (some.0, some.1, some.0, refl);
  unfinished = λ early. inl (here.unfinished early);
}

-- ---- of a wider kind, behind a text

begun_behind : (Inner Outer : List ℕ → Type 0) (text front : List ℕ) → ((t : List ℕ) → Inner t → Outer (text ++ t)) → Begins Inner front → Begins Outer (text ++ front)
begun_behind Inner Outer text front wider (whole, inner, more, is) = (text ++ whole, wider whole inner, more, ap (λ (l : List ℕ). text ++ l) is ∙ sym (append_assoc text front more))

pub begins_behind : (Inner Outer : List ℕ → Type 0) (text front : List ℕ) → ((t : List ℕ) → Inner t → Outer (text ++ t)) → Begins Inner front ⊎ EndsInTextTooShort Inner front → Begins Outer (text ++ front) ⊎ EndsInTextTooShort Outer (text ++ front)
begins_behind Inner Outer text front wider (inl begun) = inl (begun_behind Inner Outer text front wider begun)
begins_behind Inner Outer text front wider (inr (before, len, few, is, begun)) =
    inr (
      text ++ before,
      len,
      few,
      ap (λ (l : List ℕ). text ++ l) is ∙ sym (append_assoc text before (head_spelling 3 len)),
      subst (Begins Outer) (sym (append_assoc text before (head_spelling 3 3))) (begun_behind Inner Outer text (before ++ head_spelling 3 3) wider begun),
    )

pub unfinished_behind : (Inner Outer : List ℕ → Type 0) (text front rest : List ℕ) → ((t : List ℕ) → Inner t → Outer (text ++ t)) → IsUnfinished Inner front rest → IsUnfinished Outer (text ++ front) rest
unfinished_behind Inner Outer text front rest wider (inl none) = inl none
unfinished_behind Inner Outer text front rest wider (inr (inl (first, more, argument, is, short, begins))) =
    inr (inl (first, more, argument, is, short, subst (Begins Outer) (sym (append_assoc text front (head_spelling (first / 32) argument))) (begun_behind Inner Outer text (front ++ head_spelling (first / 32) argument) wider begins)))
unfinished_behind Inner Outer text front rest wider (inr (inr (before, major, len, string, few, is))) =
    inr (inr (text ++ before, major, len, string, few, ap (λ (l : List ℕ). text ++ l) is ∙ sym (append_assoc text before (head_spelling major len))))

pub reached_behind : (Inner Outer : List ℕ → Type 0) (text : List ℕ) (cursor after : Cursor) (fault : Fault) → Took text cursor after → ((t : List ℕ) → Inner t → Outer (text ++ t)) → Reached Inner after fault → Reached Outer cursor fault
reached_behind Inner Outer text cursor after fault took wider r = record {
  front = text ++ r.front;
  rest = r.rest;
  parts = took.parts ∙ (ap (λ (l : List ℕ). text ++ l) r.parts ∙ sym (append_assoc text r.front r.rest));
  place = λ other. omega (arith, r.place other, took.moved, length-append text r.front);
  begins = begins_behind Inner Outer text r.front wider r.begins;
  unfinished = λ early. unfinished_behind Inner Outer text r.front r.rest wider (r.unfinished early);
}

-- ---- of a kind that goes on

begun_more : (Inner Outer : List ℕ → Type 0) (front : List ℕ) → ((t : List ℕ) → Inner t → (u : List ℕ) × Outer (t ++ u)) → Begins Inner front → Begins Outer front
begun_more Inner Outer front goes_on (whole, inner, more, is) =
    let on = goes_on whole inner in
    (whole ++ on.0, on.1, more ++ on.0, ap (λ (l : List ℕ). l ++ on.0) is ∙ append_assoc front more on.0)

begins_more : (Inner Outer : List ℕ → Type 0) (front : List ℕ) → ((t : List ℕ) → Inner t → (u : List ℕ) × Outer (t ++ u)) → Begins Inner front ⊎ EndsInTextTooShort Inner front → Begins Outer front ⊎ EndsInTextTooShort Outer front
begins_more Inner Outer front goes_on (inl begun) = inl (begun_more Inner Outer front goes_on begun)
begins_more Inner Outer front goes_on (inr (before, len, few, is, begun)) = inr (before, len, few, is, begun_more Inner Outer (before ++ head_spelling 3 3) goes_on begun)

unfinished_more : (Inner Outer : List ℕ → Type 0) (front rest : List ℕ) → ((t : List ℕ) → Inner t → (u : List ℕ) × Outer (t ++ u)) → IsUnfinished Inner front rest → IsUnfinished Outer front rest
unfinished_more Inner Outer front rest goes_on (inl none) = inl none
unfinished_more Inner Outer front rest goes_on (inr (inl (first, more, argument, is, short, begins))) =
    inr (inl (first, more, argument, is, short, begun_more Inner Outer (front ++ head_spelling (first / 32) argument) goes_on begins))
unfinished_more Inner Outer front rest goes_on (inr (inr content)) = inr (inr content)

pub reached_more : (Inner Outer : List ℕ → Type 0) (cursor : Cursor) (fault : Fault) → ((t : List ℕ) → Inner t → (u : List ℕ) × Outer (t ++ u)) → Reached Inner cursor fault → Reached Outer cursor fault
reached_more Inner Outer cursor fault goes_on r = record {
  front = r.front;
  rest = r.rest;
  parts = r.parts;
  place = r.place;
  begins = begins_more Inner Outer r.front goes_on r.begins;
  unfinished = λ early. unfinished_more Inner Outer r.front r.rest goes_on (r.unfinished early);
}

-- ---- two steps: where the first stops, and where the second stops behind what the first has read

pub reached_then : {A B : Type 0} (Kind : List ℕ → Type 0) (cursor : Cursor) (read : Result A Fault) (f : A → Result B Fault) (fault : Fault) → (read >>= f) ≡ Err fault → (read ≡ Err fault → Reached Kind cursor fault)
    → ((x : A) → read ≡ Ok x → f x ≡ Err fault → Reached Kind cursor fault) → Reached Kind cursor fault
reached_then Kind cursor (Ok x) f fault e first second = second x refl e
reached_then Kind cursor (Err s) f fault e first second = let same : s ≡ fault = cc in first (ap Err same)

-- ---- tokens are refused where they begin

pub placed : (cursor : Cursor) (reason : Reason) → reason ≢ reasons.Truncated → place_of cursor reason ≡ cursor.at
placed cursor reasons.NotBundle other = refl
placed cursor reasons.Truncated other = absurd (other refl)
placed cursor reasons.NotShortest other = refl
placed cursor reasons.WrongKind other = refl
placed cursor reasons.WrongCount other = refl
placed cursor reasons.WrongValue other = refl
placed cursor reasons.WrongText other = refl
placed cursor reasons.WrongCheck other = refl
placed cursor reasons.TooLong other = refl
placed cursor reasons.Trailing other = refl
placed cursor reasons.Repeated other = refl

-- what a stop says
pub stopped : {A : Type 0} (cursor : Cursor) (reason : Reason) (fault : Fault) → stops {A = A} cursor reason ≡ Err fault → (fault.place ≡ place_of cursor reason) × (fault.reason ≡ reason)
stopped cursor reason fault e = (cc, cc)

stopped_here : {A : Type 0} (major : ℕ) (cursor : Cursor) (reason : Reason) (fault : Fault) → (reason ≡ reasons.Truncated → LacksOne (λ m. m ≡ major) cursor.rest) → stops {A = A} cursor reason ≡ Err fault → StopsHere major cursor fault
stopped_here {A} major cursor reason fault short e =
    let s = stopped {A = A} cursor reason fault e in
    record { place = λ other. s.0 ∙ placed cursor reason (λ early. other (s.1 ∙ early)); unfinished = λ early. short (sym s.1 ∙ early) }

pub stopped_at : {A : Type 0} (cursor : Cursor) (reason : Reason) (fault : Fault) → (reason ≡ reasons.Truncated → cursor.rest ≡ []) → stops {A = A} cursor reason ≡ Err fault → StopsAt cursor fault
stopped_at {A} cursor reason fault none e =
    let s = stopped {A = A} cursor reason fault e in
    record { place = λ other. s.0 ∙ placed cursor reason (λ early. other (s.1 ∙ early)); unfinished = λ early. none (sym s.1 ∙ early) }

short_by : (bytes : List ℕ) (read : HeadRead) → after_read bytes read ≡ Err reasons.Truncated → read ≡ Short
short_by bytes (Whole head len) e = absurd cc
short_by bytes Short e = refl
short_by bytes NotShortest e = absurd cc
short_by bytes Bad e = absurd cc

pub head_unfinished : (kinds bytes : List ℕ) → token_head kinds bytes ≡ Err reasons.Truncated → LacksOne (λ m. list_any (λ kind. eqb kind m) kinds ≡ true) bytes
unfolding token_head
head_unfinished kinds [] e = inl refl
head_unfinished kinds (first ∷ rest) e = by (list_any (λ kind. eqb kind (first / 32)) kinds) refl e
  where
    by : (b : Bool) → list_any (λ kind. eqb kind (first / 32)) kinds ≡ b → cond b (after_read (first ∷ rest) (read_head (first ∷ rest))) (Err reasons.WrongKind) ≡ Err reasons.Truncated
        → LacksOne (λ m. list_any (λ kind. eqb kind m) kinds ≡ true) (first ∷ rest)
    by true is e = inr (first, rest, refl, short_by (first ∷ rest) (read_head (first ∷ rest)) e, is)
    by false is e = absurd cc

of_one : (major : ℕ) (bytes : List ℕ) → LacksOne (λ m. list_any (λ kind. eqb kind m) (major ∷ []) ≡ true) bytes → LacksOne (λ m. m ≡ major) bytes
of_one major bytes (inl none) = inl none
of_one major bytes (inr (first, more, is, short, among)) = inr (first, more, is, short, one_kind major (first / 32) among)

refused_here : (major : ℕ) (cursor : Cursor) (failing : Option Reason) (head : Head) (after : Cursor) (fault : Fault) → (failing ≡ Some reasons.Truncated → ⊥) → after_conditions cursor failing head after ≡ Err fault → StopsHere major cursor fault
refused_here major cursor (Some reason) head after fault never e = stopped_here {A = ℕ × Cursor} major cursor reason fault (λ early. absurd (never (ap Some early))) e
refused_here major cursor None head after fault never e = long_by (ltb (BUNDLE_LIMIT - 1) (after.at + announced head)) e
  where
    long_by : (b : Bool) → cond b (stops {A = ℕ × Cursor} cursor reasons.TooLong) (Ok (head.value, after)) ≡ Err fault → StopsHere major cursor fault
    long_by true e = stopped_here {A = ℕ × Cursor} major cursor reasons.TooLong fault (λ early. absurd cc) e
    long_by false e = absurd cc

head_here : (before : List Block) (token : Token) (cursor : Cursor) (r : Result (Head × List ℕ) Reason) (fault : Fault) → token_head (major_of token ∷ []) cursor.rest ≡ r → after_head before token cursor r ≡ Err fault → StopsHere (major_of token) cursor fault
head_here before token cursor (Err reason) fault is e =
    stopped_here {A = ℕ × Cursor} (major_of token) cursor reason fault (λ early. of_one (major_of token) cursor.rest (head_unfinished (major_of token ∷ []) cursor.rest (is ∙ ap Err early))) e
head_here before token cursor (Ok x) fault is e = refused_here (major_of token) cursor (first_failing (conditions before token) x.0.value) x.0 (up_to cursor x.1) fault (never_early before token x.0.value) e

pub argument_here : (before : List Block) (token : Token) (cursor : Cursor) (fault : Fault) → argument_at before token cursor ≡ Err fault → StopsHere (major_of token) cursor fault
unfolding argument_at
argument_here before token cursor fault e = head_here before token cursor (token_head (major_of token ∷ []) cursor.rest) fault refl e

-- a head, and what follows it
pub reached_argument : {B : Type 0} (laws : TokenLaws) (Kind : List ℕ → Type 0) (before : List Block) (token : Token) (cursor : Cursor) (f : ℕ × Cursor → Result B Fault) (fault : Fault) → IsBytes cursor.rest
    → (argument_at before token cursor >>= f) ≡ Err fault → Starting Kind (major_of token) → ((x : ℕ × Cursor) → ReadsArgument before token cursor x.0 x.1 → f x ≡ Err fault → Reached Kind cursor fault) → Reached Kind cursor fault
reached_argument laws Kind before token cursor f fault fits e some second =
    reached_then Kind cursor (argument_at before token cursor) f fault e (λ is. reached_here Kind (major_of token) cursor fault some (argument_here before token cursor fault is))
    (λ x is h. second x (argument_means laws before token cursor x fits is) h)

-- the content of a string is missing
pub content_unfinished : (len : ℕ) (cursor : Cursor) (fault : Fault) → content_at len cursor ≡ Err fault → (fault.reason ≡ reasons.Truncated) × (length cursor.rest < len)
unfolding content_at
content_unfinished len cursor fault e = missing_by (ltb (length cursor.rest) len) refl e
  where
    missing_by : (b : Bool) → ltb (length cursor.rest) len ≡ b → cond b (stops {A = List ℕ × Cursor} cursor reasons.Truncated) (Ok (take len cursor.rest, past len cursor)) ≡ Err fault → (fault.reason ≡ reasons.Truncated) × (length cursor.rest < len)
    missing_by true is e = ((stopped {A = List ℕ × Cursor} cursor reasons.Truncated fault e).1, ltb-true _ _ is)
    missing_by false is e = absurd cc

-- Behind the head of a string its content is missing.
pub reached_content : (Kind : List ℕ → Type 0) (front : List ℕ) (major len : ℕ) (cursor after : Cursor) (fault : Fault) → Took (front ++ head_spelling major len) cursor after → (major ≡ 2) ⊎ (major ≡ 3)
    → Begins Kind (front ++ head_spelling major len) → content_at len after ≡ Err fault → Reached Kind cursor fault
reached_content Kind front major len cursor after fault took string begins e =
    let missing = content_unfinished len after fault e in
    record {
      front = front ++ head_spelling major len;
      rest = after.rest;
      parts = took.parts;
      place = λ other. absurd (other missing.0);
      begins = inl begins;
      unfinished = λ early. inr (inr (front, major, len, string, missing.1, refl));
    }
