-- Heads of tokens are read as they are spelled.
use Rattle.std.proofs.Common.{◌≡◌, ℕ, ◌/◌, ◌%◌, ◌<◌, ◌≤◌, Bool, true, false, cond, ltb, eqb, List, [], ◌∷◌, ◌++◌, length, take, drop, Result, Ok, Err, refl, sym, ◌∙◌}
use Rattle.std.specs.List.{list_any}
use Rattle.std.proofs.lemmas.List.{drop_at, take-append-drop}
use Rattle.cbor_profile.specs.declared.head.Head.{Head}
use Rattle.cbor_profile.specs.declared.head.HeadRead.{HeadRead}
use Rattle.cbor_profile.specs.declared.head.HeadRead.TheVariants.{Whole, Short, NotShortest, Bad}
use Rattle.cbor_profile.specs.declared.fault.Reason.{Reason}
use Rattle.cbor_profile.specs.declared.fault.Reason.TheVariants.{WrongKind}
use Rattle.cbor_profile.specs.Head.{spelling, IsHead, read_head, is_bad, following, argument, least}
use Rattle.cbor_profile.specs.Token.{token_head, after_read}
use Rattle.cbor_profile.proofs.Heads.{read-spelling, read-means}
use Rattle.cbor_profile.proofs.Wide.{IsBytes}

abbrev pub is_among : List ℕ → ℕ → Bool
is_among kinds major = list_any (λ kind. eqb kind major) kinds

went_on : (b : Bool) (x y z : HeadRead) → cond b x y ≡ z → (x ≡ z → ⊥) → y ≡ z
went_on true x y z e differs = absurd (differs e)
went_on false x y z e differs = e

-- a whole head has the major type that its first byte says
whole_major : (first : ℕ) (rest : List ℕ) (head : Head) (len : ℕ) → read_head (first ∷ rest) ≡ Whole head len → first / 32 ≡ head.major
unfolding read_head
whole_major first rest head len e =
    let a = went_on (is_bad first) Bad _ (Whole head len) e (λ h. cc) in
    let b = went_on (ltb (length rest) (following (first % 32))) Short _ (Whole head len) a (λ h. cc) in
    let c = went_on (ltb (argument (first % 32) rest) (least (first % 32))) NotShortest _ (Whole head len) b (λ h. cc) in
    cc

none_is_whole : (head : Head) (len : ℕ) → read_head [] ≡ Whole head len → ⊥
unfolding read_head
none_is_whole head len e = cc

token_whole : (kinds bytes : List ℕ) (head : Head) (len : ℕ) → is_among kinds head.major ≡ true → read_head bytes ≡ Whole head len → token_head kinds bytes ≡ Ok (head, drop len bytes)
unfolding token_head
token_whole kinds [] head len permitted e = absurd (none_is_whole head len e)
token_whole kinds (first ∷ rest) head len permitted e = rw (whole_major first rest head len e, permitted, e) refl

pub token_again : (kinds : List ℕ) (head : Head) (rest : List ℕ) → IsHead head → is_among kinds head.major ≡ true → token_head kinds (spelling head ++ rest) ≡ Ok (head, rest)
token_again kinds head rest h permitted =
    rw (token_whole kinds (spelling head ++ rest) head (length (spelling head)) permitted (read-spelling head rest h), drop_at (spelling head) rest (length (spelling head)) refl) refl

pub after_ok : (bytes : List ℕ) (read : HeadRead) (x : Head × List ℕ) → after_read bytes read ≡ Ok x → (len : ℕ) × (read ≡ Whole x.0 len) × (drop len bytes ≡ x.1)
after_ok bytes (Whole head len) x e = (len, cc, cc)
after_ok bytes Short x e = absurd cc
after_ok bytes NotShortest x e = absurd cc
after_ok bytes Bad x e = absurd cc

pub among_ok : {A : Type 0} (b : Bool) (x : Result A Reason) (y : A) → cond b x (Err WrongKind) ≡ Ok y → (b ≡ true) × (x ≡ Ok y)
among_ok true x y e = (refl, e)
among_ok false x y e = absurd cc

pub token_means : (kinds bytes : List ℕ) (head : Head) (rest : List ℕ) → IsBytes bytes → token_head kinds bytes ≡ Ok (head, rest)
    → (bytes ≡ spelling head ++ rest) × IsHead head × (is_among kinds head.major ≡ true)
unfolding token_head
token_means kinds [] head rest fits e = absurd cc
token_means kinds (first ∷ others) head rest fits e =
    let bytes : List ℕ = first ∷ others in
    let a = among_ok (is_among kinds (first / 32)) (after_read bytes (read_head bytes)) (head, rest) e in
    let w = after_ok bytes (read_head bytes) (head, rest) a.1 in
    let m = read-means bytes head w.0 fits w.1 in
    let major = whole_major first others head w.0 w.1 in
    (sym (take-append-drop w.0 bytes) ∙ rw (m.1, w.2) refl, m.2, rw (← major) a.0)
