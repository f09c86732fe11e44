-- A head that was read has the wanted major type.
use Rattle.std.proofs.Common.{◌≡◌, ℕ, ◌+◌, ◌/◌, ◌%◌, Bool, true, false, cond, ltb, eqb, ◌||◌, List, [], ◌∷◌, ◌++◌, length, Result, Ok, Err, refl, sym, ◌∙◌, ap, arith}
use Rattle.std.proofs.lemmas.Bool.{eqb-true}
use Rattle.cbor_profile.specs.declared.head.Head.{Head}
use Rattle.cbor_profile.specs.declared.head.HeadRead.{HeadRead}
use Rattle.cbor_profile.specs.declared.head.HeadRead.TheVariants.{Whole, Short, NotShortest, Bad}
use Rattle.cbor_profile.specs.declared.fault.Reason.{Reason}
use Rattle.cbor_profile.specs.declared.fault.Reason.TheVariants as reasons
use Rattle.cbor_profile.specs.Head.{read_head, is_bad, following, argument, least}
use Rattle.cbor_profile.specs.Token.{token_head, after_read}

went_on : (b : Bool) (x y z : HeadRead) → cond b x y ≡ z → (x ≡ z → ⊥) → y ≡ z
went_on true x y z e differs = absurd (differs e)
went_on false x y z e differs = e

-- a head that was read has the wanted major type
head_fields : (first : ℕ) (rest : List ℕ) (head : Head) (len : ℕ) → read_head (first ∷ rest) ≡ Whole head len → head.major ≡ first / 32
unfolding read_head
head_fields first rest head len e =
    let a = went_on (is_bad first) Bad _ (Whole head len) e (λ h. cc) in
    let b = went_on (ltb (length rest) (following (first % 32))) Short _ (Whole head len) a (λ h. cc) in
    let c = went_on (ltb (argument (first % 32) rest) (least (first % 32))) NotShortest _ (Whole head len) b (λ h. cc) in
    cc

after_is : (first : ℕ) (rest : List ℕ) (read : HeadRead) (y : Head × List ℕ) → read_head (first ∷ rest) ≡ read → after_read (first ∷ rest) read ≡ Ok y → y.0.major ≡ first / 32
after_is first rest (Whole head len) y is e =
    let same : head ≡ y.0 = cc in
    sym (ap (λ (h : Head). h.major) same) ∙ head_fields first rest head len is
after_is first rest Short y is e = absurd cc
after_is first rest NotShortest y is e = absurd cc
after_is first rest Bad y is e = absurd cc

among_by : (b : Bool) (r : Result (Head × List ℕ) Reason) (y : Head × List ℕ) → cond b r (Err reasons.WrongKind) ≡ Ok y → (b ≡ true) × (r ≡ Ok y)
among_by true r y e = (refl, e)
among_by false r y e = absurd cc

or_no : (b : Bool) → (b || false) ≡ true → b ≡ true
or_no true e = refl
or_no false e = e

pub head_major : (major : ℕ) (bytes : List ℕ) (y : Head × List ℕ) → token_head (major ∷ []) bytes ≡ Ok y → y.0.major ≡ major
unfolding token_head
head_major major [] y e = absurd cc
head_major major (first ∷ rest) y e =
    let a = among_by (eqb major (first / 32) || false) (after_read (first ∷ rest) (read_head (first ∷ rest))) y e in
    after_is first rest (read_head (first ∷ rest)) y refl a.1 ∙ sym (eqb-true major (first / 32) (or_no (eqb major (first / 32)) a.0))
