-- The rows of the grammar tried one after the other.
use Rattle.std.proofs.Common.{◌≡◌, ℕ, Bool, true, false, cond, max, List, [], ◌∷◌, ◌++◌, Result, Ok, Err}
use Rattle.std.proofs.Common.{refl, ◌∙◌, ap, arith}
use Rattle.bpsec_command.specs.declared.command.Command.{Command}
use Rattle.bpsec_command.specs.Grammar.{Row, along, is_line, along_any, command_in, grammar, command_of}
use Rattle.bpsec_command.specs.Rows.{or_row, row_by_row}

found_first : (rows : List Row) (words : List (List ℕ)) (command : Command)
    → row_by_row rows words (Ok command) ≡ Ok command
unfolding or_row
found_first [] words command = refl
found_first (row ∷ rows) words command = found_first rows words command

later : (rows : List Row) (words : List (List ℕ)) (faulty : ℕ)
    → row_by_row rows words (Err faulty) ≡ command_in rows words (max faulty (along_any rows words))
unfolding or_row
later [] words faulty =
    let e : faulty ≡ max faulty 0 = omega arith in
    ap (λ (n : ℕ). let r : Result Command ℕ = Err n in r) e
later (row ∷ rows) words faulty =
    at (is_line row.slots words) (later rows words (max faulty (along row.slots words)))
  where
    same : max (max faulty (along row.slots words)) (along_any rows words)
        ≡ max faulty (max (along row.slots words) (along_any rows words))
    same = omega arith

    at : (b : Bool)
        → row_by_row rows words (Err (max faulty (along row.slots words)))
        ≡ command_in rows words (max (max faulty (along row.slots words)) (along_any rows words))
        → row_by_row rows words (cond b (Ok row.command) (Err (max faulty (along row.slots words))))
        ≡ cond b (Ok row.command)
        (command_in rows words (max faulty (max (along row.slots words) (along_any rows words))))
    at true more = found_first rows words row.command
    at false more = more ∙ ap (command_in rows words) same

-- what they give is the command of the first row that the words are, else the faulty word
pub in_turn : (words : List (List ℕ)) → row_by_row (grammar words) words (Err 0) ≡ command_of words
unfolding command_of
in_turn words =
    let e : max 0 (along_any (grammar words) words) ≡ along_any (grammar words) words = omega arith in
    later (grammar words) words 0 ∙ ap (command_in (grammar words) words) e

-- rows behind others are tried on what those gave
pub rows_append : (first second : List Row) (words : List (List ℕ)) (read : Result Command ℕ)
    → row_by_row (first ++ second) words read ≡ row_by_row second words (row_by_row first words read)
rows_append [] second words read = refl
rows_append (row ∷ first) second words read = rows_append first second words (or_row row words read)
