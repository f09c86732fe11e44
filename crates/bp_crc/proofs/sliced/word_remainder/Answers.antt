-- The entries of the word's bytes are its remainder.
use Rattle.std.proofs.Common.{arith}
use Rattle.bp_crc.proofs.Words.{bits_remainder-word}
use Rattle.bp_crc.proofs.sliced.word_remainder.Goals as goal

pub returns : goal.returns
returns g c =
    bits_remainder-word g.row.BITS c.args.words c.tables-tables.result.now c.tables-tables.ensures c.args.word (omega (arith, c.ranges.word))
