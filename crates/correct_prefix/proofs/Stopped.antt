-- Where reading stops, what stands before begins a byte list of the kind, and the token there is refused whatever follows
-- it, or isn't whole.
use Rattle.std.proofs.Common.{◌≡◌, ◌≢◌, ℕ, ◌/◌, inl, inr, List, [], ◌++◌, length, Result, Ok, Err, refl, sym, ◌∙◌, ap, subst, append_assoc, append-nil}
use Rattle.cbor_profile.specs.Head.{head_spelling}
use Rattle.cbor_profile.specs.Step.{◌>>=◌}
use Rattle.cbor_profile.specs.declared.fault.Reason.{Reason}
use Rattle.cbor_profile.specs.declared.fault.Reason.TheVariants as reasons
use Rattle.bp_eid.specs.declared.stop.Stop.{Stop}
use Rattle.bp_eid.specs.Reading.{stops}
use Rattle.correct_prefix.proofs.StopsBehindPrefix.{Some_of}
use Rattle.correct_prefix.proofs.ListStopsBehindPrefix.{stopped}
use Rattle.correct_prefix.proofs.FaultyToken.{token_behind}
use Rattle.correct_prefix.specs.Prefix.{Begins, IsWholeHead, IsCorrect}
use Rattle.correct_prefix.specs.Values.{TakesValue, IsTokenOrValue, IsUnfinishedOrValue}

-- the token that is refused, whatever follows it
pub record Sealed {A : Type 0} (Kind : List ℕ → Type 0) (read : List ℕ → Result A Stop) (front rest : List ℕ) (stop : Stop) : Type 0 where
  pub token : List ℕ
  pub more : List ℕ
  pub parts : rest ≡ token ++ more
  pub is_token : IsTokenOrValue Kind front token
  pub again : (others : List ℕ) → read (front ++ (token ++ others)) ≡ Err (record { reason = stop.reason; left = length (token ++ others) })

pub record Stopped {A : Type 0} (Kind : List ℕ → Type 0) (read : List ℕ → Result A Stop) (bytes : List ℕ) (stop : Stop) : Type 0 where
  pub front : List ℕ
  pub rest : List ℕ
  pub parts : bytes ≡ front ++ rest
  pub left : length rest ≡ stop.left
  pub begins : IsCorrect Kind front
  pub unfinished : stop.reason ≡ reasons.Truncated → IsUnfinishedOrValue Kind front rest
  pub sealed : stop.reason ≢ reasons.Truncated → Sealed Kind read front rest stop

-- ---- of another kind, behind a text

-- behind the text a byte list of the one kind goes on to one of the other
abbrev pub Goes : (List ℕ → Type 0) → (List ℕ → Type 0) → List ℕ → Type 0
Goes Inner Outer text = (t : List ℕ) → Inner t → (u : List ℕ) × Outer (text ++ (t ++ u))

-- it is one of the other
pub wider : (Inner Outer : List ℕ → Type 0) (text : List ℕ) → ((t : List ℕ) → Inner t → Outer (text ++ t)) → Goes Inner Outer text
wider Inner Outer text is t k = ([], subst (λ (l : List ℕ). Outer (text ++ l)) (sym (append-nil t)) (is t k))

pub same_kind : (Kind : List ℕ → Type 0) → Goes Kind Kind []
same_kind Kind = wider Kind Kind [] (λ t k. k)

regrouped : (text front more others : List ℕ) → text ++ ((front ++ more) ++ others) ≡ (text ++ front) ++ (more ++ others)
regrouped text front more others = simp append_assoc

begins_into : (Inner Outer : List ℕ → Type 0) (text front : List ℕ) → Goes Inner Outer text → Begins Inner front → Begins Outer (text ++ front)
begins_into Inner Outer text front goes (whole, inner, more, is) =
    let on = goes whole inner in
    (text ++ (whole ++ on.0), on.1, more ++ on.0, ap (λ (l : List ℕ). text ++ (l ++ on.0)) is ∙ regrouped text front more on.0)

-- so does what begins it and goes on
begins_with : (Inner Outer : List ℕ → Type 0) (text front more : List ℕ) → Goes Inner Outer text → Begins Inner (front ++ more) → Begins Outer ((text ++ front) ++ more)
begins_with Inner Outer text front more goes begins = subst (Begins Outer) (sym (append_assoc text front more)) (begins_into Inner Outer text (front ++ more) goes begins)

correct_into : (Inner Outer : List ℕ → Type 0) (text front : List ℕ) → Goes Inner Outer text → IsCorrect Inner front → IsCorrect Outer (text ++ front)
correct_into Inner Outer text front goes (inl begins) = inl (begins_into Inner Outer text front goes begins)
correct_into Inner Outer text front goes (inr (before, len, few, is, begins)) =
    inr (text ++ before, len, few, ap (λ (l : List ℕ). text ++ l) is ∙ sym (append_assoc text before (head_spelling 3 len)), begins_with Inner Outer text before (head_spelling 3 3) goes begins)

takes_into : (Inner Outer : List ℕ → Type 0) (text front : List ℕ) → Goes Inner Outer text → TakesValue Inner front → TakesValue Outer (text ++ front)
takes_into Inner Outer text front goes takes = λ value item. begins_with Inner Outer text front value goes (takes value item)

unfinished_into : (Inner Outer : List ℕ → Type 0) (text front rest : List ℕ) → Goes Inner Outer text → IsUnfinishedOrValue Inner front rest → IsUnfinishedOrValue Outer (text ++ front) rest
unfinished_into Inner Outer text front rest goes (inl (inl none)) = inl (inl none)
unfinished_into Inner Outer text front rest goes (inl (inr (inl (first, more, argument, is, short, begins)))) =
    inl (inr (inl (first, more, argument, is, short, begins_with Inner Outer text front (head_spelling (first / 32) argument) goes begins)))
unfinished_into Inner Outer text front rest goes (inl (inr (inr (before, major, len, string, few, is)))) =
    inl (inr (inr (text ++ before, major, len, string, few, ap (λ (l : List ℕ). text ++ l) is ∙ sym (append_assoc text before (head_spelling major len)))))
unfinished_into Inner Outer text front rest goes (inr (takes, short)) = inr (takes_into Inner Outer text front goes takes, short)

token_into : (Inner Outer : List ℕ → Type 0) (text front token : List ℕ) → Goes Inner Outer text → IsTokenOrValue Inner front token → IsTokenOrValue Outer (text ++ front) token
token_into Inner Outer text front token goes (inl is) = inl (token_behind text front token is)
token_into Inner Outer text front token goes (inr (takes, refused)) = inr (takes_into Inner Outer text front goes takes, refused)

sealed_into : {A B : Type 0} (Inner Outer : List ℕ → Type 0) (inner : List ℕ → Result A Stop) (read : List ℕ → Result B Stop) (text front rest : List ℕ) (stop : Stop) → Goes Inner Outer text → ((t : List ℕ) (s : Stop) → inner t ≡ Err s → read (text ++ t) ≡ Err s)
    → Sealed Inner inner front rest stop → Sealed Outer read (text ++ front) rest stop
sealed_into Inner Outer inner read text front rest stop goes same s = record {
  token = s.token;
  more = s.more;
  parts = s.parts;
  is_token = token_into Inner Outer text front s.token goes s.is_token;
  again = λ others. ap read (append_assoc text front (s.token ++ others)) ∙ same (front ++ (s.token ++ others)) _ (s.again others);
}

pub into : {A B : Type 0} (Inner Outer : List ℕ → Type 0) (inner : List ℕ → Result A Stop) (read : List ℕ → Result B Stop) (text bytes rest : List ℕ) (stop : Stop) → bytes ≡ text ++ rest → Goes Inner Outer text
    → ((t : List ℕ) (s : Stop) → inner t ≡ Err s → read (text ++ t) ≡ Err s) → Stopped Inner inner rest stop → Stopped Outer read bytes stop
into Inner Outer inner read text bytes rest stop parts goes same s = record {
  front = text ++ s.front;
  rest = s.rest;
  parts = parts ∙ (ap (λ (l : List ℕ). text ++ l) s.parts ∙ sym (append_assoc text s.front s.rest));
  left = s.left;
  begins = correct_into Inner Outer text s.front goes s.begins;
  unfinished = λ early. unfinished_into Inner Outer text s.front s.rest goes (s.unfinished early);
  sealed = λ other. sealed_into Inner Outer inner read text s.front s.rest stop goes same (s.sealed other);
}

-- ---- two steps

pub steps : {A B : Type 0} (Goal : Type 0) (r : Result A Stop) (f : A → Result B Stop) (stop : Stop) → (r >>= f) ≡ Err stop → (r ≡ Err stop → Goal) → ((x : A) → r ≡ Ok x → f x ≡ Err stop → Goal) → Goal
steps Goal (Ok x) f stop e first second = second x refl e
steps Goal (Err s) f stop e first second = let same : s ≡ stop = cc in first (ap Err same)

-- where the first stops
pub first_stops : {A B : Type 0} (One Kind : List ℕ → Type 0) (first : List ℕ → Result A Stop) (f : List ℕ → A → Result B Stop) (bytes : List ℕ) (stop : Stop) → Goes One Kind [] → Stopped One first bytes stop → Stopped Kind (λ b. first b >>= f b) bytes stop
first_stops {A} One Kind first f bytes stop goes s = into One Kind first (λ b. first b >>= f b) [] bytes bytes stop refl goes (λ t own e. ap (λ (r : Result A Stop). r >>= f t) e) s

-- where the second stops, behind what the first has read
pub next_stops : {A B : Type 0} (Next Kind : List ℕ → Type 0) (first : List ℕ → Result A Stop) (f : List ℕ → A → Result B Stop) (next : List ℕ → Result B Stop) (found : List ℕ → A) (text bytes rest : List ℕ) (stop : Stop) → bytes ≡ text ++ rest
    → ((t : List ℕ) → first (text ++ t) ≡ Ok (found t)) → ((t : List ℕ) → f (text ++ t) (found t) ≡ next t) → Goes Next Kind text → Stopped Next next rest stop → Stopped Kind (λ b. first b >>= f b) bytes stop
next_stops {A} Next Kind first f next found text bytes rest stop parts again same goes s =
    into Next Kind next (λ b. first b >>= f b) text bytes rest stop parts goes (λ t own e. ap (λ (r : Result A Stop). r >>= f (text ++ t)) (again t) ∙ (same t ∙ e)) s

-- ---- a whole head is refused

pub whole_refused : {A : Type 0} (Kind : List ℕ → Type 0) (read : List ℕ → Result A Stop) (bytes token rest : List ℕ) (reason : Reason) (stop : Stop) → Some_of Kind → bytes ≡ token ++ rest → IsWholeHead token → reason ≢ reasons.Truncated
    → stops {A = A} bytes reason ≡ Err stop → ((t : List ℕ) → read (token ++ t) ≡ stops (token ++ t) reason) → Stopped Kind read bytes stop
whole_refused {A} Kind read bytes token rest reason stop some parts whole other e again =
    let s = stopped {A = A} bytes reason stop e in
    record {
      front = [];
      rest = bytes;
      parts = refl;
      left = sym s.0;
      begins = inl (some.0, some.1, some.0, refl);
      unfinished = λ early. absurd (other (sym s.1 ∙ early));
      sealed = λ no. record {
        token = token;
        more = rest;
        parts = parts;
        is_token = inl (inr (inl whole));
        again = λ t. again t ∙ ap (λ (r : Reason). Err (record { reason = r; left = length (token ++ t) })) (sym s.1);
      };
    }
