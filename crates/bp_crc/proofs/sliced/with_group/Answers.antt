-- The remainders of the words take the group in.
use Rattle.std.proofs.Common.{◌<◌, ◌^◌, ℕ, get_or, sym, arith, rules}
use Rattle.bp_crc.specs.Table.{register_of}
use Rattle.bp_crc.proofs.Groups.{register_of-group, remainders-lt}
use Rattle.bp_crc.proofs.sliced.with_group.Goals as goal

pub returns-clause-stands : goal.returns-clause-stands
returns-clause-stands g c = λ fed before.
    let w : ℕ = g.row.BITS in
    let fits : (i : ℕ) → get_or c.args.group.now i 0 < 2 ^ 8 = c.fits-group in
    let below : register_of w fed < 2 ^ 32 = rw (sym before) (omega (arith, c.ranges.register)) in
    rw (
      c.word_remainder.ensures,
      c.word_remainder-2.ensures,
      c.word_remainder-3.ensures,
      c.word_remainder-4.ensures,
      c.from_le_bytes-first.ensures,
      c.from_le_bytes-second.ensures,
      c.from_le_bytes-third.ensures,
      c.from_le_bytes-last.ensures,
      before,
    )
    (register_of-group w fed c.args.group.now (search rules) fits below)

pub returns-clause-within : goal.returns-clause-within
returns-clause-within g c =
    rw (c.word_remainder.ensures, c.word_remainder-2.ensures, c.word_remainder-3.ensures, c.word_remainder-4.ensures)
    (remainders-lt g.row.BITS _ _ _ _)
