-- Each entry is computed by the steps of long division, and compared.
use Rattle.std.proofs.Common.{◌≡◌, refl, arith}
use Rattle.bp_crc.specs.declared.tables.TheConstants.{CRC_16_0, CRC_16_1, CRC_16_2, CRC_16_3}
use Rattle.bp_crc.specs.Check.{bits_of, number_of, generator}
use Rattle.bp_crc.proofs.Numbers.{step, steps}
use Rattle.bp_crc.proofs.Entries.{is_table, are_tables, AreTables-at}
use Rattle.bp_crc.proofs.tables.tables_16.Goals as goal

pub returns-in-0 : goal.returns-in-0
unfolding is_table are_tables steps step bits_of number_of generator
returns-in-0 c = AreTables-at 16 c.args.words 0 CRC_16_0 c.in-0.is refl refl

pub returns-in-1 : goal.returns-in-1
unfolding is_table are_tables steps step bits_of number_of generator
returns-in-1 c = AreTables-at 16 c.args.words 1 CRC_16_1 c.in-1.is refl refl

pub returns-in-2 : goal.returns-in-2
unfolding is_table are_tables steps step bits_of number_of generator
returns-in-2 c = AreTables-at 16 c.args.words 2 CRC_16_2 c.in-2.is refl refl

pub returns-in_default : goal.returns-in_default
unfolding is_table are_tables steps step bits_of number_of generator
returns-in_default c =
    let three : c.args.words ≡ 3 = omega arith in
    AreTables-at 16 c.args.words 3 CRC_16_3 three refl refl
