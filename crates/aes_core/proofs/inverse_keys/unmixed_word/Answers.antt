use Rattle.std.proofs.Common.{◌≡◌, ℕ, ◌<◌, ap, ◌∙◌, arith}
use Rattle.std.specs.Int.{byte_at}
use Rattle.aes_core.specs.Boxes.{sub_byte, inverse_sub_byte}
use Rattle.aes_core.proofs.BoxTables.{inverse_sub_byte-sub_byte}
use Rattle.aes_core.proofs.inverse_keys.unmixed_word.Goals as goal

unboxed : (s b : ℕ) → s ≡ sub_byte b → b < 256 → inverse_sub_byte s ≡ b
unboxed s b e h = ap inverse_sub_byte e ∙ inverse_sub_byte-sub_byte b h

pub returns : goal.returns
returns c =
    let word = c.args.word in
    let from = c.to_le_bytes.ensures in
    let row0 = unboxed c.sub_byte.result (byte_at 0 word) (rw from at c.sub_byte.ensures) (omega arith) in
    let row1 = unboxed c.sub_byte-2.result (byte_at 1 word) (rw from at c.sub_byte-2.ensures) (omega arith) in
    let row2 = unboxed c.sub_byte-3.result (byte_at 2 word) (rw from at c.sub_byte-3.ensures) (omega arith) in
    let row3 = unboxed c.sub_byte-4.result (byte_at 3 word) (rw from at c.sub_byte-4.ensures) (omega arith) in
    rw (row0, row1, row2, row3) at c.unmixed_column.ensures
