-- Reading an abstract security block (RFC 9172, section 3.6), token by token. A token is a head, the content of a text
-- string, or the value of a pair.
use Rattle.std.specs.Prelude.{◌≡◌, ℕ, ℤ, pos, negsuc, zero, suc, ◌^◌, ◌==◌, ◌&&◌, nat_lt, nat_le, if◌then◌else◌, List, [], ◌∷◌, ◌++◌, length, take, drop, Option, Some, None, Result, Ok, Err}
use Rattle.std.specs.List.{list_any}
use Rattle.cbor_profile.specs.declared.fault.Reason.TheVariants as reasons
use Rattle.cbor_profile.specs.declared.fault.Fault.{Fault}
use Rattle.cbor_profile.specs.declared.fault.SpellError.{SpellError}
use Rattle.cbor_profile.specs.declared.fault.SpellError.TheVariants as errors
use Rattle.cbor_profile.specs.declared.item.ItemRead.{ItemRead}
use Rattle.cbor_profile.specs.declared.item.ItemRead.TheVariants as items
use Rattle.cbor_profile.specs.Item.{read_item}
use Rattle.cbor_profile.specs.Step.{◌>>=◌}
use Rattle.bp_eid.specs.declared.stop.Stop.{Stop}
use Rattle.bp_eid.specs.Reading.{stops, head_at, pair_at, number_at, id_at, fault_of}
use Rattle.bpsec_asb.specs.declared.asb.Pair.{Pair}
use Rattle.bpsec_asb.specs.declared.asb.Asb.{Asb}
use Rattle.bpsec_asb.specs.SecurityBlock.{has_parameters}

-- ---- arrays

-- the head of an array of so many items, and how many
unfoldable pub count_at : ℕ → ℕ → List ℕ → Result (ℕ × List ℕ) Stop
count_at least most bytes = do
  head ← head_at (4 ∷ []) bytes
  if nat_le least head.0.value && nat_le head.0.value most then Ok (head.0.value, head.1) else stops bytes reasons.WrongCount

-- This many items after those before, each read with those that stand before it.
unfoldable pub each_at : {A : Type 0} → (List A → List ℕ → Result (A × List ℕ) Stop) → ℕ → List A → List ℕ → Result (List A × List ℕ) Stop
each_at item_at zero before bytes = Ok (before, bytes)
each_at item_at (suc count) before bytes = do
  item ← item_at before bytes
  each_at item_at count (before ++ item.0 ∷ []) item.1

-- an array of so many items
abbrev pub array_at : {A : Type 0} → (List A → List ℕ → Result (A × List ℕ) Stop) → ℕ → ℕ → List ℕ → Result (List A × List ℕ) Stop
array_at item_at least most bytes = do
  count ← count_at least most bytes
  each_at item_at count.0 [] count.1

-- ---- the fields

-- a target: a number that isn't listed before
unfoldable pub target_at : List ℕ → List ℕ → Result (ℕ × List ℕ) Stop
target_at before bytes = do
  target ← number_at bytes
  if list_any (λ listed. listed == target.0) before then stops bytes reasons.Repeated else Ok target

-- the id of a security context: a number of 64 bits with its sign
unfoldable pub context_at : List ℕ → Result (ℤ × List ℕ) Stop
context_at bytes = do
  head ← head_at (0 ∷ 1 ∷ []) bytes
  if nat_lt head.0.value (2 ^ 63) then Ok ((if head.0.major == 0 then pos head.0.value else negsuc head.0.value), head.1)
      else stops bytes reasons.WrongValue

-- A value: one item. A fault inside it is placed at its first byte.
abbrev pub after_item : List ℕ → ItemRead → Result (List ℕ × List ℕ) Stop
after_item bytes (items.Whole len) = Ok (take len bytes, drop len bytes)
after_item bytes items.Short = stops bytes reasons.Truncated
after_item bytes items.Bad = stops bytes reasons.WrongKind
after_item bytes items.NotShortest = stops bytes reasons.NotShortest
after_item bytes items.Deep = stops bytes reasons.WrongValue

unfoldable pub value_at : List ℕ → Result (List ℕ × List ℕ) Stop
value_at bytes = after_item bytes (read_item bytes)

-- a parameter or a result: an array of its id and its value
unfoldable pub pair_of : List ℕ → Result (Pair × List ℕ) Stop
pair_of bytes = do
  rest ← pair_at bytes
  id ← number_at rest
  value ← value_at id.1
  Ok (record { id = id.0; value = value.0 }, value.1)

-- the parameters, or the results of one target: at most 16
abbrev pub pairs_at : List ℕ → Result (List Pair × List ℕ) Stop
pairs_at = array_at (λ before. pair_of) 0 16

-- the parameters, exactly where the flags say so
unfoldable pub parameters_at : ℕ → List ℕ → Result (Option (List Pair) × List ℕ) Stop
parameters_at flags bytes =
    if has_parameters flags then (pairs_at bytes >>= λ parameters. Ok (Some parameters.0, parameters.1)) else Ok (None, bytes)

-- results for so many targets
abbrev pub results_at : ℕ → List ℕ → Result (List (List Pair) × List ℕ) Stop
results_at targets = array_at (λ before. pairs_at) targets targets

-- ---- the whole

-- a security block and the bytes after it, or where reading from the left stops
unfoldable pub asb_at : List ℕ → Result (Asb × List ℕ) Stop
asb_at bytes = do
  targets ← array_at target_at 1 64 bytes
  context ← context_at targets.1
  flags ← number_at context.1
  source ← id_at flags.1
  parameters ← parameters_at flags.0 source.1
  results ← results_at (length targets.0) parameters.1
  Ok (record { targets = targets.0; context = context.0; flags = flags.0; source = source.0; parameters = parameters.0; results = results.0 }, results.1)

-- it ends the body
abbrev pub ends : Asb × List ℕ → Result Asb Stop
ends (asb, []) = Ok asb
ends (asb, byte ∷ bytes) = stops (byte ∷ bytes) reasons.Trailing

unfoldable pub body_at : List ℕ → Result Asb Stop
body_at body = asb_at body >>= ends

abbrev pub answer : ℕ → Result Asb Stop → Result Asb Fault
answer given (Ok asb) = Ok asb
answer given (Err stop) = Err (fault_of given stop)

-- the security block that the body is, or the first fault
unfoldable pub read_body : List ℕ → Result Asb Fault
read_body body = answer (length body) (body_at body)

-- ---- what a function returned

-- an error is that of reading; want of memory says nothing
abbrev pub IsErrorOf : SpellError → Result Asb Fault → Type 0
IsErrorOf errors.NoMemory read = Unit {0}
IsErrorOf (errors.Fault fault) read = read ≡ Err fault

-- it is what reading gives, or memory ran out
abbrev pub Answers : Result Asb SpellError → Result Asb Fault → Type 0
Answers (Ok asb) read = read ≡ Ok asb
Answers (Err e) read = IsErrorOf e read
