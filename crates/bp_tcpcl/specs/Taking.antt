-- What a stream has taken, and what it answers to one more piece.
use Rattle.std.specs.Prelude.{◌≡◌, ◌⊎◌, ℕ, ◌+◌, ◌<◌, ◌≤◌, Bool, true, false, List, [], ◌∷◌, ◌++◌, length, take, Option, Some, None, Result, Ok, Err}
use Rattle.bp_tcpcl.specs.declared.TheConstants.{INPUT_LIMIT}
use Rattle.bp_tcpcl.specs.declared.message.Item.{Item}
use Rattle.bp_tcpcl.specs.declared.reason.LinkReason.TheVariants.{Truncated}
use Rattle.bp_tcpcl.specs.declared.reason.LinkError.{LinkError}
use Rattle.bp_tcpcl.specs.declared.reason.LinkError.TheVariants as errors
use Rattle.bp_tcpcl.specs.declared.stop.Stop.{Stop}
use Rattle.bp_tcpcl.specs.declared.stop.Stop.TheVariants as stops
use Rattle.bp_tcpcl.specs.declared.stream.Taken.{Taken}
use Rattle.bp_tcpcl.specs.declared.stream.Found.{Found}
use Rattle.bp_tcpcl.specs.declared.stream.Found.TheVariants as found
use Rattle.bp_tcpcl.specs.Spelling.{item_bytes, stream_bytes, IsPart, IsStream, is_opened}
use Rattle.bp_tcpcl.specs.Reading.{Cursor, front_at}

-- Where a stream stands: whether the contact header was taken, how many bytes the parts have that were given, the bytes that
-- were taken after them, and the error that was met.
pub record Link : Type 0 where
  pub opened : Bool
  pub place : ℕ
  pub pending : List ℕ
  pub met : Option LinkError

-- what stands at the front of the bytes that were taken after the last part, and of more behind them
abbrev pub next : Link → List ℕ → Result (Item × Cursor) Stop
next link more = front_at link.opened link.place (link.pending ++ more)

-- Up to the end of the part that these bytes begin with: it is given.
pub record GivesPart (old : Link) (piece : List ℕ) (count : ℕ) (item : Item) (new : Link) : Type 0 where
  pub spells : old.pending ++ take count piece ≡ item_bytes item
  pub is : IsPart old.opened item
  pub within : count ≤ length piece
  pub room : old.place + length (item_bytes item) ≤ INPUT_LIMIT
  pub becomes : new ≡ record { opened = true; place = old.place + length (item_bytes item); pending = []; met = None }

-- The bytes begin with no whole part, and have no fault: all are taken.
pub record TakesAll (old : Link) (piece : List ℕ) (count : ℕ) (new : Link) : Type 0 where
  pub more : next old piece ≡ Err stops.More
  pub all : count ≡ length piece
  pub becomes : new ≡ record { opened = old.opened; place = old.place; pending = old.pending ++ piece; met = None }

abbrev pub Takes : Link → List ℕ → ℕ → Option Item → Link → Type 0
Takes old piece count (Some item) new = GivesPart old piece count item new
Takes old piece count None new = TakesAll old piece count new

-- it is the first fault
abbrev pub Faults : Link → List ℕ → LinkError → Type 0
Faults old piece errors.NoMemory = Unit {0}
Faults old piece (errors.Fault place reason) = next old piece ≡ Err (stops.Fault place reason)

-- what a stream that has met no error answers to one more piece
abbrev pub Feeds : Link → List ℕ → Link → Result Taken LinkError → Type 0
Feeds old piece new (Ok taken) = Takes old piece taken.taken taken.item new
Feeds old piece new (Err error) = Faults old piece error × (new.met ≡ Some error)

-- ---- a whole stream so far

-- The stream has met no error, has given just these items, and has taken just these bytes.
pub record Took (link : Link) (items : List Item) (bytes : List ℕ) : Type 0 where
  pub none : link.met ≡ None
  pub are : IsStream false items
  pub opened : link.opened ≡ is_opened items
  pub place : link.place ≡ length (stream_bytes items)
  pub spelled : bytes ≡ stream_bytes items ++ link.pending
  pub waits : next link [] ≡ Err stops.More

abbrev pub with_item : List Item → Option Item → List Item
with_item items (Some item) = items ++ (item ∷ [])
with_item items None = items

abbrev pub TookMore : List Item → List ℕ → List ℕ → Link → Result Taken LinkError → Type 0
TookMore items bytes piece new (Ok taken) = Took new (with_item items taken.item) (bytes ++ take taken.taken piece)
TookMore items bytes piece new (Err error) = Unit {0}

-- ---- the end of the input

-- A part was begun and not ended, or the contact header isn't whole.
abbrev pub IsUnended : Link → Type 0
IsUnended link = (link.opened ≡ false) ⊎ (0 < length link.pending)

-- what the end of the input gives a stream that has met no error
abbrev pub Finishes : {A : Type 0} → Link → Result A LinkError → Type 0
Finishes link (Ok done) = (link.opened ≡ true) × (link.pending ≡ [])
Finishes link (Err error) = IsUnended link × (error ≡ errors.Fault (link.place + length link.pending) Truncated)

-- ---- what stands at the front of some bytes

-- a part in so many bytes
pub record FindsPart (opened : Bool) (place : ℕ) (bytes : List ℕ) (item : Item) (len : ℕ) : Type 0 where
  pub rest : List ℕ
  pub spelled : bytes ≡ item_bytes item ++ rest
  pub size : len ≡ length (item_bytes item)
  pub room : place + length (item_bytes item) ≤ INPUT_LIMIT
  pub is : IsPart opened item

abbrev pub Finds : Bool → ℕ → List ℕ → Found → Type 0
Finds opened place bytes (found.Whole item len) = FindsPart opened place bytes item len
Finds opened place bytes found.More = front_at opened place bytes ≡ Err stops.More
Finds opened place bytes (found.Error errors.NoMemory) = Unit {0}
Finds opened place bytes (found.Error (errors.Fault at reason)) = front_at opened place bytes ≡ Err (stops.Fault at reason)
