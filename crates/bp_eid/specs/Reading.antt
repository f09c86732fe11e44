-- Reading an endpoint id from the front of a byte list, token by token (RFC 9171, section 4.2.5; RFC 8949, section 3). A
-- token is a head, or the content of a text string.
use Rattle.std.specs.Prelude.{◌≡◌, ℕ, ◌-◌, ◌==◌, nat_lt, if◌then◌else◌, List, [], ◌∷◌, length, take, drop, Result, Ok, Err, IsOkAnd}
use Rattle.cbor_profile.specs.declared.head.Head.{Head}
use Rattle.cbor_profile.specs.declared.fault.Reason.{Reason}
use Rattle.cbor_profile.specs.declared.fault.Reason.TheVariants.{Truncated, WrongCount, WrongValue, WrongText}
use Rattle.cbor_profile.specs.declared.fault.Fault.{Fault}
use Rattle.cbor_profile.specs.declared.fault.SpellError.{SpellError}
use Rattle.cbor_profile.specs.declared.fault.SpellError.TheVariants as errors
use Rattle.cbor_profile.specs.Step.{◌>>=◌}
use Rattle.cbor_profile.specs.Token.{token_head}
use Rattle.bp_eid.specs.declared.eid.Eid.{Eid}
use Rattle.bp_eid.specs.declared.eid.Eid.TheVariants.{Null, Dtn, Ipn}
use Rattle.bp_eid.specs.declared.reading.EidAt.{EidAt}
use Rattle.bp_eid.specs.declared.stop.Stop.{Stop}
use Rattle.bp_eid.specs.DtnText.{is_dtn_text}
use Rattle.bp_eid.specs.EndpointId.{HasText}

-- ---- tokens

-- a token that begins here isn't permitted, for this reason
abbrev pub stops : {A : Type 0} → List ℕ → Reason → Result A Stop
stops bytes reason = Err (record { reason = reason; left = length bytes })

abbrev pub at_token : {A : Type 0} → List ℕ → Result A Reason → Result A Stop
at_token bytes (Ok x) = Ok x
at_token bytes (Err reason) = stops bytes reason

-- a head of one of these major types
abbrev pub head_at : List ℕ → List ℕ → Result (Head × List ℕ) Stop
head_at kinds bytes = at_token bytes (token_head kinds bytes)

-- the head of an array of two items, and what follows it
unfoldable pub pair_at : List ℕ → Result (List ℕ) Stop
pair_at bytes = do
  head ← head_at (4 ∷ []) bytes
  if head.0.value == 2 then Ok head.1 else stops bytes WrongCount

-- an unsigned number, of any value
unfoldable pub number_at : List ℕ → Result (ℕ × List ℕ) Stop
number_at bytes = do
  head ← head_at (0 ∷ []) bytes
  Ok (head.0.value, head.1)

-- the content of a text string that is the text of a dtn id
unfoldable pub content_at : ℕ → List ℕ → Result (List ℕ × List ℕ) Stop
content_at len bytes =
    if nat_lt (length bytes) len then stops bytes Truncated
    else if is_dtn_text (take len bytes) then Ok (take len bytes, drop len bytes)
    else stops bytes WrongText

-- ---- ids

-- After the scheme 1: the number 0, or a text string of at most 1,024 bytes.
unfoldable pub dtn_at : List ℕ → Result (Eid × List ℕ) Stop
dtn_at bytes = do
  head ← head_at (0 ∷ 3 ∷ []) bytes
  if head.0.major == 0 then (if head.0.value == 0 then Ok (Null, head.1) else stops bytes WrongValue)
      else if nat_lt 1024 head.0.value then stops bytes WrongValue
      else content_at head.0.value head.1 >>= λ text. Ok (Dtn text.0, text.1)

-- After the scheme 2: an array of two numbers.
unfoldable pub ipn_at : List ℕ → Result (Eid × List ℕ) Stop
ipn_at bytes = do
  rest ← pair_at bytes
  node ← number_at rest
  service ← number_at node.1
  Ok (Ipn node.0 service.0, service.1)

-- An id and the bytes after it, or where reading from the left stops: an array of two items, the first of which is the
-- scheme.
unfoldable pub id_at : List ℕ → Result (Eid × List ℕ) Stop
id_at bytes = do
  rest ← pair_at bytes
  scheme ← number_at rest
  if scheme.0 == 1 then dtn_at scheme.1
      else if scheme.0 == 2 then ipn_at scheme.1
      else stops rest WrongValue

-- ---- the answer to a whole input

-- A place counts the bytes before the faulty token. Only of bytes that end too early it counts all that were given.
abbrev pub place_of : ℕ → Reason → ℕ → ℕ
place_of given Truncated left = given
place_of given reason left = given - left

abbrev pub fault_of : ℕ → Stop → Fault
fault_of given stop = record { place = place_of given stop.reason stop.left; reason = stop.reason }

abbrev pub answer : List ℕ → Result (Eid × List ℕ) Stop → Result EidAt Fault
answer bytes (Ok x) = Ok (record { eid = x.0; len = length bytes - length x.1 })
answer bytes (Err stop) = Err (fault_of (length bytes) stop)

-- the id at the front with its length, or the first fault
unfoldable pub read_id : List ℕ → Result EidAt Fault
read_id bytes = answer bytes (id_at bytes)

-- ---- what a function returned

-- an error is that of reading; memory ran out only where reading gives an id with a text
abbrev pub IsErrorOf : SpellError → Result EidAt Fault → Type 0
IsErrorOf errors.NoMemory read = IsOkAnd read (λ at. HasText at.eid)
IsErrorOf (errors.Fault fault) read = read ≡ Err fault

-- it is what reading gives, or memory ran out
abbrev pub Answers : Result EidAt SpellError → Result EidAt Fault → Type 0
Answers (Ok at) read = read ≡ Ok at
Answers (Err e) read = IsErrorOf e read
