-- What follows from tables of reasons, whatever they say.
use Rattle.std.specs.Prelude.{◌≡◌, ◌⊎◌, Bool, true, false, [], ◌∷◌, Ok, Err, refl}
use Rattle.std.proofs.Common.{inl, inr}
use Rattle.bpsec_context.specs.declared.judgement.Judgement.TheVariants.{Right, Misset}
use Rattle.bpsec_context.specs.declared.judgement.MissetReason.{MissetReason}
use Rattle.bpsec_context.specs.declared.judgement.MissetReason.TheVariants.{BadParameter, BadResult, NoKey, KeyLength, UnwrapRefused}
use Rattle.bpsec_context.specs.Reasons.{Table, first, judgement, unless_refused}
use Rattle.bpsec_context.specs.Calls.{IsContextReason}

-- the tables of both contexts: of judging, and of signing or sealing
abbrev pub judging : Bool → Bool → Bool → Bool → Bool → Table
judging parameters results key length refuses =
    (parameters, BadParameter) ∷ (results, BadResult) ∷ (key, NoKey) ∷ (length, KeyLength) ∷ (refuses, UnwrapRefused) ∷ []

abbrev pub making : Bool → Bool → Bool → Table
making parameters length refuses = (parameters, BadParameter) ∷ (length, KeyLength) ∷ (refuses, UnwrapRefused) ∷ []

pub refused_is_misset : {A : Type 0} (p r l u right : Bool) (made : A) (reason : MissetReason) → unless_refused (first (making p l u)) made ≡ Err reason → (judgement (first (judging p r false l u)) right ≡ Misset reason) ⊎ (judgement (first (judging p r false l u)) right ≡ Misset BadResult)
refused_is_misset true r l u right made reason e = inl cc
refused_is_misset false true l u right made reason e = inr refl
refused_is_misset false false true u right made reason e = inl cc
refused_is_misset false false false true right made reason e = inl cc
refused_is_misset false false false false right made reason e = absurd cc

pub misset_is_refused : {A : Type 0} (p r l u right : Bool) (made : A) (reason : MissetReason) → judgement (first (judging p r false l u)) right ≡ Misset reason → (reason ≡ BadResult) ⊎ (unless_refused (first (making p l u)) made ≡ Err reason)
misset_is_refused true r l u right made reason e = inr cc
misset_is_refused false true l u right made reason e = inl cc
misset_is_refused false false true u right made reason e = inr cc
misset_is_refused false false false true right made reason e = inr cc
misset_is_refused false false false false true made reason e = absurd cc
misset_is_refused false false false false false made reason e = absurd cc

-- parameters that are refused are bad ones
pub bad_parameters : {A : Type 0} (p l u : Bool) (made : A) → unless_refused (first (making p l u)) made ≡ Err BadParameter → p ≡ true
bad_parameters true l u made e = refl
bad_parameters false true u made e = absurd cc
bad_parameters false false true made e = absurd cc
bad_parameters false false false made e = absurd cc

pub bad_parameters_first : (p r k l u right : Bool) → p ≡ true → judgement (first (judging p r k l u)) right ≡ Misset BadParameter
bad_parameters_first true r k l u right e = refl
bad_parameters_first false r k l u right e = absurd cc

pub reasons : (p r k l u right : Bool) (reason : MissetReason) → judgement (first (judging p r k l u)) right ≡ Misset reason → IsContextReason reason
reasons true r k l u right reason e = inl cc
reasons false true k l u right reason e = inr (inl cc)
reasons false false true l u right reason e = inr (inr (inl cc))
reasons false false false true u right reason e = inr (inr (inr (inl cc)))
reasons false false false false true right reason e = inr (inr (inr (inr cc)))
reasons false false false false false true reason e = absurd cc
reasons false false false false false false reason e = absurd cc

-- nothing stands in the way of what is made
pub made_freely : {A : Type 0} (p l u : Bool) (made other : A) → unless_refused (first (making p l u)) made ≡ Ok other → (p ≡ false) × (l ≡ false) × (u ≡ false) × (made ≡ other)
made_freely true l u made other e = absurd cc
made_freely false true u made other e = absurd cc
made_freely false false true made other e = absurd cc
made_freely false false false made other e = (refl, refl, refl, cc)

-- so it is judged Right, where the test holds
pub judged_right : (p r l u right : Bool) → p ≡ false → r ≡ false → l ≡ false → u ≡ false → right ≡ true → judgement (first (judging p r false l u)) right ≡ Right
judged_right p r l u right ep er el eu e = rw (ep, er, el, eu, e) refl

-- what is judged Right has nothing in its way, and passes the test
pub right_is_free : (p r k l u right : Bool) → judgement (first (judging p r k l u)) right ≡ Right → (p ≡ false) × (l ≡ false) × (u ≡ false) × (right ≡ true)
right_is_free true r k l u right e = absurd cc
right_is_free false true k l u right e = absurd cc
right_is_free false false true l u right e = absurd cc
right_is_free false false false true u right e = absurd cc
right_is_free false false false false true right e = absurd cc
right_is_free false false false false false true e = (refl, refl, refl, refl)
right_is_free false false false false false false e = absurd cc

pub free_is_made : {A : Type 0} (p l u : Bool) (made : A) → p ≡ false → l ≡ false → u ≡ false → unless_refused (first (making p l u)) made ≡ Ok made
free_is_made p l u made ep el eu = rw (ep, el, eu) refl
