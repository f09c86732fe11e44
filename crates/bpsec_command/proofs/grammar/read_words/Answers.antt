use Rattle.std.proofs.Common.{◌≡◌, Err, map, string_bytes, ap, sym, ◌∙◌}
use Rattle.bpsec_command.specs.Grammar.{bundle_rows, report_rows}
use Rattle.bpsec_command.specs.Rows.{row_by_row}
use Rattle.bpsec_command.proofs.RowsInTurn.{in_turn, rows_append}
use Rattle.bpsec_command.proofs.grammar.read_words.Goals as goal

pub returns : goal.returns
returns c =
    let words = map string_bytes c.args.words.now in
    (c.report_rows.ensures ∙ ap (row_by_row (report_rows words) words) c.bundle_rows.ensures)
    ∙ (sym (rows_append (bundle_rows words) (report_rows words) words (Err 0)) ∙ in_turn words)
