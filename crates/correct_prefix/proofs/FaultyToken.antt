-- Where reading stops at a token that isn't permitted, the token alone decides: whatever follows it, reading stops there.
use Rattle.std.proofs.Common.{◌≡◌, ◌≢◌, ℕ, ◌+◌, inl, inr, ◌⊎◌, List, [], ◌++◌, length, Result, Ok, Err, refl, sym, ◌∙◌, ap, subst, append_assoc, arith}
use Rattle.std.proofs.lemmas.List.{length-append}
use Rattle.cbor_profile.specs.Head.{head_spelling}
use Rattle.cbor_profile.specs.Step.{◌>>=◌}
use Rattle.cbor_profile.specs.declared.fault.Reason.{Reason}
use Rattle.cbor_profile.specs.declared.fault.Reason.TheVariants as reasons
use Rattle.cbor_profile.specs.declared.fault.Fault.{Fault}
use Rattle.bp_bundle.specs.Tokens.{Cursor, stops}
use Rattle.correct_prefix.specs.Prefix.{IsToken}
use Rattle.bp_bundle.proofs.HeadsAsSpelled.{IsBytes, bind_ok, here, Took, took-then}

-- ---- what a reader gives, and the cursor in it

pub record Shape (A : Type 0) : Type 0 where
  pub end : A → Cursor
  pub put : A → Cursor → A
  pub law : (x : A) → put x (end x) ≡ x

abbrev pub pairs : (A : Type 0) → Shape (A × Cursor)
pairs A = record { end = λ x. x.1; put = λ x c. (x.0, c); law = λ x. refl }

abbrev pub cursors : Shape Cursor
cursors = record { end = λ c. c; put = λ x c. c; law = λ c. refl }

-- ---- what was read, and where reading stopped, stays the same whatever follows

pub record Kept {A : Type 0} (shape : Shape A) (read : Cursor → Result A Fault) (c : Cursor) (x : A) : Type 0 where
  pub text : List ℕ
  pub took : Took text c (shape.end x)
  pub again : (more : List ℕ) → read (here c.at (text ++ more)) ≡ Ok (shape.put x (here (shape.end x).at more))

pub record Sealed {A : Type 0} (read : Cursor → Result A Fault) (c : Cursor) (fault : Fault) : Type 0 where
  pub front : List ℕ
  pub token : List ℕ
  pub more : List ℕ
  pub parts : c.rest ≡ front ++ (token ++ more)
  pub place : fault.place ≡ c.at + length front
  pub is_token : IsToken front token
  pub again : (others : List ℕ) → read (here c.at (front ++ (token ++ others))) ≡ Err fault

pub record Seals {A : Type 0} (shape : Shape A) (read : Cursor → Result A Fault) : Type 0 where
  pub kept : (c : Cursor) (x : A) → IsBytes c.rest → read c ≡ Ok x → Kept shape read c x
  pub sealed : (c : Cursor) (fault : Fault) → IsBytes c.rest → read c ≡ Err fault → fault.reason ≢ reasons.Truncated → Sealed read c fault

-- ---- two steps

pub token_behind : (text front token : List ℕ) → IsToken front token → IsToken (text ++ front) token
token_behind text front token (inl one) = inl one
token_behind text front token (inr (inl head)) = inr (inl head)
token_behind text front token (inr (inr (before, major, string, is))) = inr (inr (text ++ before, major, string, ap (λ (l : List ℕ). text ++ l) is ∙ sym (append_assoc text before (head_spelling major (length token)))))

kept_then : {A B : Type 0} (sA : Shape A) (sB : Shape B) (read : Cursor → Result A Fault) (f : A → Result B Fault) (c : Cursor) (x : A) (y : B) → Kept sA read c x → Kept sB (λ c'. f (sA.put x c')) (sA.end x) y → Kept sB (λ c'. read c' >>= f) c y
kept_then {A} sA sB read f c x y k l = record {
  text = k.text ++ l.text;
  took = took-then k.text l.text c (sA.end x) (sB.end y) k.took l.took;
  again = λ more. ap (λ (t : List ℕ). read (here c.at t) >>= f) (append_assoc k.text l.text more) ∙ (ap (λ (r : Result A Fault). r >>= f) (k.again (l.text ++ more)) ∙ l.again more);
}

sealed_then : {A B : Type 0} (sA : Shape A) (read : Cursor → Result A Fault) (f : A → Result B Fault) (c : Cursor) (x : A) (fault : Fault) → Kept sA read c x → Sealed (λ c'. f (sA.put x c')) (sA.end x) fault → Sealed (λ c'. read c' >>= f) c fault
sealed_then {A} sA read f c x fault k s = record {
  front = k.text ++ s.front;
  token = s.token;
  more = s.more;
  parts = k.took.parts ∙ (ap (λ (l : List ℕ). k.text ++ l) s.parts ∙ sym (append_assoc k.text s.front (s.token ++ s.more)));
  place = omega (arith, s.place, k.took.moved, length-append k.text s.front);
  is_token = token_behind k.text s.front s.token s.is_token;
  again = λ others.
      ap (λ (t : List ℕ). read (here c.at t) >>= f) (append_assoc k.text s.front (s.token ++ others)) ∙ (ap (λ (r : Result A Fault). r >>= f) (k.again (s.front ++ (s.token ++ others))) ∙ s.again others);
}

pub sealed_first : {A B : Type 0} (read : Cursor → Result A Fault) (f : A → Result B Fault) (c : Cursor) (fault : Fault) → Sealed read c fault → Sealed (λ c'. read c' >>= f) c fault
sealed_first {A} read f c fault s =
    record { front = s.front; token = s.token; more = s.more; parts = s.parts; place = s.place; is_token = s.is_token; again = λ others. ap (λ (r : Result A Fault). r >>= f) (s.again others) }

pub stopped_by : {A B : Type 0} (r : Result A Fault) (f : A → Result B Fault) (fault : Fault) → (r >>= f) ≡ Err fault → (r ≡ Err fault) ⊎ ((x : A) × (r ≡ Ok x) × (f x ≡ Err fault))
stopped_by (Ok x) f fault e = inr (x, refl, e)
stopped_by (Err s) f fault e = let same : s ≡ fault = cc in inl (ap Err same)

-- After what was read the second step seals too.
pub seals_then : {A B : Type 0} (sA : Shape A) (sB : Shape B) (read : Cursor → Result A Fault) (f : A → Result B Fault) → Seals sA read
    → ((c : Cursor) (x : A) → IsBytes c.rest → read c ≡ Ok x → Seals sB (λ c'. f (sA.put x c'))) → Seals sB (λ c. read c >>= f)
seals_then {A} {B} sA sB read f first second = record {
  kept = λ c y fits e.
      let b = bind_ok (read c) f y e in
      let k = first.kept c b.0 fits b.1 in
      let l = (second c b.0 fits b.1).kept (sA.end b.0) y k.took.fits (ap f (sA.law b.0) ∙ b.2) in
      kept_then sA sB read f c b.0 y k l;
  sealed = λ c fault fits e other.
      elim (stopped_by (read c) f fault e) [
        | inl is ↦ sealed_first read f c fault (first.sealed c fault fits is other)
        | inr b ↦
            let k = first.kept c b.0 fits b.1 in
            sealed_then sA read f c b.0 fault k ((second c b.0 fits b.1).sealed (sA.end b.0) fault k.took.fits (ap f (sA.law b.0) ∙ b.2) other)
      ];
}

-- ---- the last step

pub kept_here : {A : Type 0} (x : A) (c : Cursor) (y : A × Cursor) → IsBytes c.rest → ◌≡◌ {A = Result (A × Cursor) Fault} (Ok (x, c)) (Ok y) → Kept (pairs A) (λ c'. Ok (x, c')) c y
kept_here {A} x c y fits e =
    let same : (x, c) ≡ y = ok_same (x, c) y e in
    subst (Kept (pairs A) (λ c'. Ok (x, c')) c) same (record { text = []; took = record { parts = refl; moved = omega arith; fits = fits }; again = λ more. refl })
  where
    ok_same : (a b : A × Cursor) → ◌≡◌ {A = Result (A × Cursor) Fault} (Ok a) (Ok b) → a ≡ b
    ok_same a b e = cc

pub seals_ok : {A : Type 0} (x : A) → Seals (pairs A) (λ c. Ok (x, c))
seals_ok {A} x = record { kept = λ c y fits e. kept_here x c y fits e; sealed = λ c fault fits e other. absurd cc }

-- ---- stops

pub stops_same : {A : Type 0} (at : ℕ) (rest rest' : List ℕ) (reason : Reason) → reason ≢ reasons.Truncated → stops {A = A} (here at rest) reason ≡ stops (here at rest') reason
stops_same at rest rest' reasons.NotBundle other = refl
stops_same at rest rest' reasons.Truncated other = absurd (other refl)
stops_same at rest rest' reasons.NotShortest other = refl
stops_same at rest rest' reasons.WrongKind other = refl
stops_same at rest rest' reasons.WrongCount other = refl
stops_same at rest rest' reasons.WrongValue other = refl
stops_same at rest rest' reasons.WrongText other = refl
stops_same at rest rest' reasons.WrongCheck other = refl
stops_same at rest rest' reasons.TooLong other = refl
stops_same at rest rest' reasons.Trailing other = refl
stops_same at rest rest' reasons.Repeated other = refl
