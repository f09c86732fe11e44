use Rattle.std.proofs.Common.{◌≡◌, map, string_bytes}
use Rattle.bpsec_command.specs.Grammar.{report_rows}
use Rattle.bpsec_command.specs.Rows.{row_by_row}
use Rattle.bpsec_command.proofs.grammar.report_rows.Goals as goal

pub returns : goal.returns
returns c =
    let words = map string_bytes c.args.words.now in
    let tried : c.row_by_row.result ≡ row_by_row (report_rows words) words c.args.before = cc in
    tried
