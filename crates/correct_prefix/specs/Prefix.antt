-- What stands before and behind the place at which reading stops.
use Rattle.std.specs.Prelude.{◌≡◌, ◌⊎◌, ℕ, ◌-◌, ◌/◌, ◌%◌, ◌<◌, List, [], ◌∷◌, ◌++◌, length, take, drop}
use Rattle.cbor_profile.specs.Head.{head_spelling, following, read_head}
use Rattle.cbor_profile.specs.declared.head.HeadRead.TheVariants.{Short}
use Rattle.bp_eid.specs.declared.stop.Stop.{Stop}

-- the bytes before the token at which reading stops, and from it on
abbrev pub before_stop : List ℕ → Stop → List ℕ
before_stop bytes stop = take (length bytes - stop.left) bytes

abbrev pub from_stop : List ℕ → Stop → List ℕ
from_stop bytes stop = drop (length bytes - stop.left) bytes

-- ---- what stands before

-- a byte list of the kind begins so
abbrev pub Begins : (List ℕ → Type 0) → List ℕ → Type 0
Begins Kind front = (whole : List ℕ) × Kind whole × (more : List ℕ) × (whole ≡ front ++ more)

-- These bytes end in the head of a text of fewer than three bytes, where the head of a longer text would begin a byte
-- list of the kind. No text of a dtn id is so short, but it is refused only at its content.
abbrev pub EndsInTextTooShort : (List ℕ → Type 0) → List ℕ → Type 0
EndsInTextTooShort Kind front =
    (before : List ℕ) × (len : ℕ) × (len < 3) × (front ≡ before ++ head_spelling 3 len)
    × Begins Kind (before ++ head_spelling 3 3)

-- The bytes so far begin a byte list of the kind, but for such a head at their end.
abbrev pub IsCorrect : (List ℕ → Type 0) → List ℕ → Type 0
IsCorrect Kind front = Begins Kind front ⊎ EndsInTextTooShort Kind front

-- ---- what is left where the bytes end too early

-- They end in the head of a byte string or text string, and what is left is less than its content.
abbrev pub LacksContent : List ℕ → List ℕ → Type 0
LacksContent front rest =
    (before : List ℕ) × (major : ℕ) × (len : ℕ) × ((major ≡ 2) ⊎ (major ≡ 3)) × (length rest < len)
    × (front ≡ before ++ head_spelling major len)

-- Too little of a head is left. One of this major type, with some argument, would go on with a byte list of the kind.
abbrev pub LacksHead : (List ℕ → Type 0) → List ℕ → List ℕ → Type 0
LacksHead Kind front rest =
    (first : ℕ) × (more : List ℕ) × (argument : ℕ) × (rest ≡ first ∷ more) × (read_head rest ≡ Short)
    × Begins Kind (front ++ head_spelling (first / 32) argument)

-- What is left is no whole token: no byte, too little of a head, or too little of a string's content.
abbrev pub IsUnfinished : (List ℕ → Type 0) → List ℕ → List ℕ → Type 0
IsUnfinished Kind front rest = (rest ≡ []) ⊎ (LacksHead Kind front rest ⊎ LacksContent front rest)

-- ---- tokens

-- A head with all the bytes that its first byte announces (RFC 8949, section 3).
abbrev pub IsWholeHead : List ℕ → Type 0
IsWholeHead token =
    (first : ℕ) × (more : List ℕ) × (token ≡ first ∷ more) × (length more ≡ following (first % 32))

-- the whole content of the string whose head stands before
abbrev pub IsContent : List ℕ → List ℕ → Type 0
IsContent front token =
    (before : List ℕ) × (major : ℕ) × ((major ≡ 2) ⊎ (major ≡ 3))
    × (front ≡ before ++ head_spelling major (length token))

-- One token, behind these bytes: a single byte, a whole head or a whole content.
abbrev pub IsToken : List ℕ → List ℕ → Type 0
IsToken front token = (length token ≡ 1) ⊎ (IsWholeHead token ⊎ IsContent front token)

-- Behind these bytes stands such a token, with which no byte list of the kind begins.
abbrev pub IsFaulty : (List ℕ → Type 0) → (List ℕ → List ℕ → Type 0) → List ℕ → List ℕ → Type 0
IsFaulty Kind Token front rest =
    (token : List ℕ) × (more : List ℕ) × (rest ≡ token ++ more) × Token front token × (Begins Kind (front ++ token) → ⊥)
