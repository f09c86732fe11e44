-- The next byte is taken in by one turn.
use Rattle.std.proofs.Common.{◌≡◌, ◌+◌, ◌<◌, ◌^◌, ◌++◌, ℕ, [], ◌∷◌, List, get_or, take, sym, ap, ◌∙◌, arith, add-one, append_assoc}
use Rattle.std.proofs.Math.Seq.{take-suc}
use Rattle.bp_crc.specs.Table.{register_of}
use Rattle.bp_crc.proofs.Words.{turn-lt, turn-register_of}
use Rattle.bp_crc.proofs.sliced.with_bytes.Goals as goal

pub loop-byte-preserved : goal.loop-byte-preserved
loop-byte-preserved g c =
    let w : ℕ = g.row.BITS in
    let bytes : List ℕ = c.args.bytes.now in
    let i : ℕ = c.loop-byte.byte-index in
    let byte : ℕ = get_or bytes i 0 in
    let fits : byte < 2 ^ 8 = omega (arith, c.type_inv.bytes i) in
    let longer : take (i + 1) bytes ≡ take i bytes ++ byte ∷ [] = rw add-one (take-suc bytes i 0 c.loop-byte-test.true) in
    rw c.from.ensures record {
      within = turn-lt w c.tables.result.now c.tables.ensures c.loop-byte.register byte c.loop-byte.invariant.within;
      stands = λ fed before.
          let more : List ℕ = fed ++ take i bytes in
          let register : c.loop-byte.register ≡ register_of w more = c.loop-byte.invariant.stands fed before in
          rw register (turn-register_of w c.tables.result.now c.tables.ensures more byte fits)
          ∙ ap (register_of w) (append_assoc fed (take i bytes) (byte ∷ []) ∙ ap (λ (x : List ℕ). fed ++ x) (sym longer));
    }
