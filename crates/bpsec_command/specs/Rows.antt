-- The slots and the rows of the code, as the grammar has them, and the rows tried one after the other.
use Rattle.std.specs.Prelude.{ℕ, max, if◌then◌else◌, map, List, [], ◌∷◌, Result, Ok, Err}
use Rattle.bpsec_command.specs.declared.command.Command.{Command}
use Rattle.bpsec_command.specs.declared.grammar.Slot as written
use Rattle.bpsec_command.specs.declared.grammar.Slot.TheVariants as slots
use Rattle.bpsec_command.specs.declared.grammar.Row as told
use Rattle.bpsec_command.specs.Grammar as grammar
use Rattle.bpsec_command.specs.Grammar.{Slot, Row, along, is_line}

abbrev pub slot_of : written.Slot → Slot
slot_of (slots.Exactly text) = grammar.Exactly text.now
slot_of slots.Name = grammar.Name
slot_of slots.Number = grammar.Number

abbrev pub row_of : told.Row → Row
row_of row = record { slots = map slot_of row.slots.now; command = row.command }

-- what the rows before gave, else the command of this row, else the most words that one of them goes along with
unfoldable pub or_row : Row → List (List ℕ) → Result Command ℕ → Result Command ℕ
or_row row words (Ok found) = Ok found
or_row row words (Err faulty) =
    if is_line row.slots words then Ok row.command else Err (max faulty (along row.slots words))

-- the rows tried one after the other
abbrev pub row_by_row : List Row → List (List ℕ) → Result Command ℕ → Result Command ℕ
row_by_row [] words read = read
row_by_row (row ∷ rows) words read = row_by_row rows words (or_row row words read)
