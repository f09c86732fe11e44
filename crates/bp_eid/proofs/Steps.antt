-- Steps of reading that went on, and what they took.
use Rattle.std.proofs.Common.{◌≡◌, ℕ, ◌+◌, ◌<◌, Bool, true, false, cond, List, ◌++◌, get_or, drop, Result, Ok, Err, refl, sym, ◌∙◌, ap, append_assoc}
use Rattle.std.proofs.lemmas.List.{get_or-drop}
use Rattle.cbor_profile.specs.declared.fault.Reason.{Reason}
use Rattle.cbor_profile.specs.Step.{◌>>=◌}
use Rattle.bp_eid.specs.declared.stop.Stop.{Stop}
use Rattle.bp_eid.specs.Reading.{stops, at_token}

abbrev pub IsBytes : List ℕ → Type 0
IsBytes bytes = (i : ℕ) → get_or bytes i 0 < 256

pub IsBytes-drop : (n : ℕ) (bytes : List ℕ) → IsBytes bytes → IsBytes (drop n bytes)
IsBytes-drop n bytes h i = rw get_or-drop (h (n + i))

-- the value of a step that went on
pub bind_ok : {A B : Type 0} (r : Result A Stop) (f : A → Result B Stop) (y : B) → (r >>= f) ≡ Ok y → (x : A) × (r ≡ Ok x) × (f x ≡ Ok y)
bind_ok (Ok x) f y e = (x, refl, e)
bind_ok (Err stop) f y e = absurd cc

pub at_token_ok : {A : Type 0} (bytes : List ℕ) (r : Result A Reason) (x : A) → at_token bytes r ≡ Ok x → r ≡ Ok x
at_token_ok bytes (Ok y) x e = cc
at_token_ok bytes (Err reason) x e = absurd cc

-- a test that let a value through
pub passed : {A : Type 0} (b : Bool) (bytes : List ℕ) (reason : Reason) (x : Result A Stop) (y : A) → cond b (stops bytes reason) x ≡ Ok y → (b ≡ false) × (x ≡ Ok y)
passed true bytes reason x y e = absurd cc
passed false bytes reason x y e = (refl, e)

pub let_through : {A : Type 0} (b : Bool) (bytes : List ℕ) (reason : Reason) (x : Result A Stop) (y : A) → cond b x (stops bytes reason) ≡ Ok y → (b ≡ true) × (x ≡ Ok y)
let_through true bytes reason x y e = (refl, e)
let_through false bytes reason x y e = absurd cc

abbrev done : {A : Type 0} → A → Result A Stop
done x = Ok x

pub ok_is : {A : Type 0} (x y : A) → done x ≡ done y → x ≡ y
ok_is x y e = cc

-- what was taken from the front
pub record Takes (bytes text rest : List ℕ) : Type 0 where
  pub parts : bytes ≡ text ++ rest
  pub rest_fits : IsBytes rest

pub Takes-then : (a x b y c : List ℕ) → Takes a x b → Takes b y c → Takes a (x ++ y) c
Takes-then a x b y c p q = record { parts = p.parts ∙ ap (λ (t : List ℕ). x ++ t) q.parts ∙ sym (append_assoc x y c); rest_fits = q.rest_fits }
