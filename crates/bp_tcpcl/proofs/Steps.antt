-- Steps of reading that went on, and what they took.
use Rattle.std.proofs.Common.{◌≡◌, ℕ, ◌+◌, Bool, true, false, cond, List, ◌++◌, length, Result, Ok, Err, refl, sym, ◌∙◌, ap, subst, append_assoc, length-append, arith}
use Rattle.std.specs.Prelude.{IfOk}
use Rattle.cbor_profile.specs.Step.{◌>>=◌}
use Rattle.cbor_profile.proofs.Wide.{IsBytes}
use Rattle.bp_tcpcl.specs.declared.stop.Stop.{Stop}
use Rattle.bp_tcpcl.specs.Reading.{Cursor}

-- what holds of what a step gives, and of what comes of it
pub then_sound : {A B : Type 0} (P : A → Type 0) (Q : B → Type 0) (r : Result A Stop) (f : A → Result B Stop) → IfOk r P → ((x : A) → P x → IfOk (f x) Q) → IfOk (r >>= f) Q
then_sound P Q (Ok x) f p q = q x p
then_sound P Q (Err stop) f p q = tt

pub either_sound : {A : Type 0} (Q : A → Type 0) (b : Bool) (x y : Result A Stop) → (b ≡ true → IfOk x Q) → (b ≡ false → IfOk y Q) → IfOk (cond b x y) Q
either_sound Q true x y p q = p refl
either_sound Q false x y p q = q refl

abbrev done : {A : Type 0} → A → Result A Stop
done x = Ok x

done_is : {A : Type 0} (x y : A) → done x ≡ done y → x ≡ y
done_is x y e = cc

pub sound_at : {A : Type 0} (Q : A → Type 0) (r : Result A Stop) (x : A) → IfOk r Q → r ≡ done x → Q x
sound_at Q (Ok y) x h is = subst Q (done_is y x is) h
sound_at Q (Err stop) x h is = absurd cc

-- What was taken from one place to another.
pub record Reads (from : Cursor) (text : List ℕ) (to : Cursor) : Type 0 where
  pub parts : from.rest ≡ text ++ to.rest
  pub at : to.at ≡ from.at + length text
  pub rest_fits : IsBytes to.rest

pub Reads-then : (a : Cursor) (x : List ℕ) (b : Cursor) (y : List ℕ) (c : Cursor) → Reads a x b → Reads b y c → Reads a (x ++ y) c
Reads-then a x b y c p q = record {
  parts = p.parts ∙ ap (λ (t : List ℕ). x ++ t) q.parts ∙ sym (append_assoc x y c.rest);
  at = let first = p.at in let second = q.at in omega (arith, length-append x y);
  rest_fits = q.rest_fits;
}
