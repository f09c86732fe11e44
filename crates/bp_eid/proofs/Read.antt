-- What reading an id answers of a whole input.
use Rattle.std.proofs.Common.{◌≡◌, ℕ, ◌+◌, ◌-◌, ◌<◌, ◌≤◌, List, [], ◌∷◌, ◌++◌, length, take, Result, Ok, Err, refl, sym, ◌∙◌, ap, subst, append-nil, arith}
use Rattle.std.specs.Prelude.{IfOk}
use Rattle.std.proofs.lemmas.List.{length-append, take_at}
use Rattle.cbor_profile.specs.declared.fault.SpellError.{SpellError}
use Rattle.bp_eid.specs.declared.eid.Eid.{Eid}
use Rattle.bp_eid.specs.declared.reading.EidAt.{EidAt}
use Rattle.bp_eid.specs.declared.stop.Stop.{Stop}
use Rattle.bp_eid.specs.EndpointId.{spelling, Fits}
use Rattle.bp_eid.specs.Reading.{answer, id_at, read_id, Answers}
use Rattle.bp_eid.proofs.Steps.{IsBytes, ok_is}
use Rattle.bp_eid.proofs.Tokens.{TokenLaws}
use Rattle.bp_eid.proofs.Ids.{id_again, id_means}

-- an id, and how many bytes spell it
abbrev pub IsFound : List ℕ → EidAt → Type 0
IsFound bytes at = (at.len ≤ length bytes) × (take at.len bytes ≡ spelling at.eid) × Fits at.eid

spelled_found : (bytes : List ℕ) (eid : Eid) (rest : List ℕ) → bytes ≡ spelling eid ++ rest → Fits eid → IsFound bytes (record { eid = eid; len = length bytes - length rest })
spelled_found bytes eid rest parts fits =
    let whole : length bytes ≡ length (spelling eid) + length rest = ap length parts ∙ length-append (spelling eid) rest in
    let len : length bytes - length rest ≡ length (spelling eid) = omega arith in
    let front : take (length (spelling eid)) bytes ≡ spelling eid = ap (take (length (spelling eid))) parts ∙ take_at (spelling eid) rest (length (spelling eid)) refl in
    (omega arith, rw len front, fits)

answer_found : (laws : TokenLaws) (bytes : List ℕ) (r : Result (Eid × List ℕ) Stop) (at : EidAt) → IsBytes bytes → id_at bytes ≡ r → answer bytes r ≡ Ok at → IsFound bytes at
answer_found laws bytes (Ok x) at fits e is =
    let m = id_means laws bytes x fits e in
    let same : record { eid = x.0; len = length bytes - length x.1 } ≡ at = cc in
    subst (IsFound bytes) same (spelled_found bytes x.0 x.1 m.0 m.1)
answer_found laws bytes (Err stop) at fits e is = absurd cc

pub is_found : (laws : TokenLaws) (bytes : List ℕ) (r : Result EidAt SpellError) → IsBytes bytes → Answers r (read_id bytes) → IfOk r (IsFound bytes)
unfolding read_id
is_found laws bytes (Ok at) fits h = answer_found laws bytes (id_at bytes) at fits refl h
is_found laws bytes (Err e) fits h = tt

read_again : (laws : TokenLaws) (eid : Eid) (rest : List ℕ) → Fits eid → read_id (spelling eid ++ rest) ≡ Ok (record { eid = eid; len = length (spelling eid) })
unfolding read_id
read_again laws eid rest fits =
    let len : length (spelling eid ++ rest) - length rest ≡ length (spelling eid) = omega (arith, length-append (spelling eid) rest) in
    rw (id_again laws eid rest fits, len) refl

pub is_read : (laws : TokenLaws) (bytes : List ℕ) (r : Result EidAt SpellError) (eid : Eid) (rest : List ℕ) → Answers r (read_id bytes) → Fits eid → bytes ≡ spelling eid ++ rest
    → Answers r (Ok (record { eid = eid; len = length (spelling eid) }))
is_read laws bytes r eid rest h fits parts = subst (Answers r) (ap read_id parts ∙ read_again laws eid rest fits) h

-- an id and nothing more is read so
pub whole_again : ((eid : Eid) (rest : List ℕ) → Fits eid → id_at (spelling eid ++ rest) ≡ Ok (eid, rest)) → (bytes : List ℕ) (eid : Eid) → Fits eid → bytes ≡ spelling eid → id_at bytes ≡ Ok (eid, [])
whole_again again bytes eid fits e = ap id_at (e ∙ sym (append-nil (spelling eid))) ∙ again eid [] fits

-- what is read with nothing left is an id and nothing more
pub whole_means : (bytes : List ℕ) (eid : Eid) (rest : List ℕ) → (bytes ≡ spelling eid ++ rest) × Fits eid → length rest < 1 → (bytes ≡ spelling eid) × Fits eid
whole_means bytes eid [] m none = (m.0 ∙ append-nil (spelling eid), m.1)
whole_means bytes eid (b ∷ rest) m none = absurd (omega arith)

-- one reading gives one id and leaves one rest
pub same_read : (r : Result (Eid × List ℕ) Stop) (a b : Eid) (x y : List ℕ) → r ≡ Ok (a, x) → r ≡ Ok (b, y) → (a ≡ b) × (x ≡ y)
same_read r a b x y e f =
    let both = ok_is (a, x) (b, y) (sym e ∙ f) in
    (ap (λ (p : Eid × List ℕ). p.0) both, ap (λ (p : Eid × List ℕ). p.1) both)
