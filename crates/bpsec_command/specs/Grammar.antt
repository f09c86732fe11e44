-- The grammar of the words after the program's name.
use Rattle.std.specs.Prelude.{ℕ, ◌+◌, ◌^◌, ◌==◌, ◌&&◌, max, nat_le, nat_lt, Bool, if◌then◌else◌}
use Rattle.std.specs.Prelude.{List, [], ◌∷◌, ◌++◌, length, codes, Option, Some, None, is_some, unwrap_or}
use Rattle.std.specs.Prelude.{Result, Ok, Err, IsOkAnd, IsTrue}
use Rattle.std.specs.Fmt.{decimal}
use Rattle.std.specs.Str.{bytes_eq}
use Rattle.std.specs.Str.Parse.{digits_value}
use Rattle.bpsec_command.specs.declared.command.Command.{Command}
use Rattle.bpsec_command.specs.declared.command.Command.TheVariants as commands
use Rattle.bpsec_jobs.specs.Work.{reads, most_of, word_at}
use Rattle.bpsec_command.specs.Commands.{work_of}

-- what stands at a place of a line: a word; the name of a file, of 1 to 255 bytes; or a decimal number of
-- 64 bits
pub data Slot : Type 0 where
  Exactly : List ℕ → Slot
  Name : Slot
  Number : Slot

-- the number that has these decimal digits, without leading zeros, if one of 64 bits has them
unfoldable pub number_of : List ℕ → Option ℕ
number_of word =
    if nat_lt (digits_value 10 word) (2 ^ 64) && bytes_eq word (decimal (digits_value 10 word))
    then Some (digits_value 10 word) else None

abbrev pub fits : Slot → List ℕ → Bool
fits (Exactly text) word = bytes_eq text word
fits Name word = nat_le 1 (length word) && nat_le (length word) 255
fits Number word = is_some (number_of word)

-- a row of the grammar: what stands in a line, and the command that words of this line are
pub record Row : Type 0 where
  pub slots : List Slot
  pub command : Command

abbrev pub row : List Slot → Command → Row
row slots command = record { slots = slots; command = command }

-- the number at a place of a line
abbrev pub number_at : ℕ → List (List ℕ) → ℕ
number_at place words = unwrap_or (number_of (word_at place words)) 0

-- The rows, one for each line, with the numbers that these words give: of the jobs that make bundles and texts, ..
abbrev pub bundle_rows : List (List ℕ) → List Row
bundle_rows words =
    row (Exactly (codes "check") ∷ []) commands.Check
    ∷ row (Exactly (codes "explain") ∷ []) commands.Explain
    ∷ row (Exactly (codes "build") ∷ Exactly (codes "--text") ∷ Name ∷ []) commands.Build
    ∷ row (Exactly (codes "upgrade") ∷ Exactly (codes "--policy") ∷ Name ∷ []) commands.Upgrade
    ∷ row
    (Exactly (codes "secure") ∷ Exactly (codes "--plan") ∷ Name ∷ Exactly (codes "--keys") ∷ Name ∷ [])
    commands.Secure
    ∷ row (Exactly (codes "fragment") ∷ Exactly (codes "--size") ∷ Number ∷ [])
    (commands.Fragment (number_at 2 words))
    ∷ row (Exactly (codes "reassemble") ∷ []) commands.Reassemble
    ∷ row
    (Exactly (codes "node") ∷ Exactly (codes "--policy") ∷ Name ∷ Exactly (codes "--keys") ∷ Name
    ∷ Exactly (codes "--order") ∷ Number ∷ [])
    (commands.Node (number_at 6 words))
    ∷ []

-- .. of those that report, and of what the program says of itself
abbrev pub report_rows : List (List ℕ) → List Row
report_rows words =
    row
    (Exactly (codes "status") ∷ Exactly (codes "--policy") ∷ Name ∷ Exactly (codes "--keys") ∷ Name
    ∷ Exactly (codes "--order") ∷ Number ∷ Exactly (codes "--time") ∷ Number
    ∷ Exactly (codes "--sequence") ∷ Number ∷ [])
    (commands.Status (number_at 6 words) (number_at 8 words) (number_at 10 words))
    ∷ row
    (Exactly (codes "audit") ∷ Exactly (codes "--policy") ∷ Name ∷ Exactly (codes "--keys") ∷ Name ∷ [])
    commands.AuditPolicy
    ∷ row
    (Exactly (codes "audit") ∷ Exactly (codes "--plan") ∷ Name ∷ Exactly (codes "--keys") ∷ Name ∷ [])
    commands.AuditPlan
    ∷ row (Exactly (codes "--help") ∷ []) commands.Help
    ∷ row (Exactly (codes "--version") ∷ []) commands.Version
    ∷ []

abbrev pub grammar : List (List ℕ) → List Row
grammar words = bundle_rows words ++ report_rows words

-- how many words from the front a line goes along with
abbrev pub along : List Slot → List (List ℕ) → ℕ
along [] words = 0
along (slot ∷ slots) [] = 0
along (slot ∷ slots) (word ∷ words) = if fits slot word then along slots words + 1 else 0

-- the words are this line, each of it and nothing more
abbrev pub is_line : List Slot → List (List ℕ) → Bool
is_line slots words = (length words == length slots) && (along slots words == length slots)

-- the most words that the line of any row goes along with
abbrev pub along_any : List Row → List (List ℕ) → ℕ
along_any [] words = 0
along_any (row ∷ rows) words = max (along row.slots words) (along_any rows words)

-- The command of the first row that the words are, else the faulty word: the least index at which no line
-- goes on so, or the number of words where a line was begun and not ended.
abbrev pub command_in : List Row → List (List ℕ) → ℕ → Result Command ℕ
command_in [] words faulty = Err faulty
command_in (row ∷ rows) words faulty =
    if is_line row.slots words then Ok row.command else command_in rows words faulty

unfoldable pub command_of : List (List ℕ) → Result Command ℕ
command_of words = command_in (grammar words) words (along_any (grammar words) words)

-- the words are a line of a command that reads the input
abbrev pub ReadsInput : List (List ℕ) → Type 0
ReadsInput words = IsOkAnd (command_of words) (λ command. IsTrue (reads (work_of command).takes))

-- how many bytes are taken of the input at most
abbrev pub most_taken_for : Result Command ℕ → ℕ
most_taken_for (Ok command) = most_of (work_of command).takes
most_taken_for (Err word) = 0
