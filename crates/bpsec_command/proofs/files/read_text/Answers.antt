use Rattle.std.proofs.Common.{Err, ap}
use Rattle.bpsec_command.proofs.LongFilesAreRefused.{long_file}
use Rattle.bpsec_command.proofs.files.read_text.Goals as goal

pub returns-in-Err-TooLong-clause-means : goal.returns-in-Err-TooLong-clause-means
returns-in-Err-TooLong-clause-means g c =
    let long = c.in-Err-TooLong.ensures in
    let is = ap Err c.in-Err-TooLong.field-0-is in
    long_file _ _ _ 1048576 g.T.NamedText.reads _ g.met.T.NamedText.long (long.too_long is) (long.one_more is)
