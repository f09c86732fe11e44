use Rattle.aes_core.proofs.BlockLemmas.{xor_wide, block_in-sum}
use Rattle.aes_core.proofs.sliced.steps.add.Goals as goal

pub invariant_of-result : goal.invariant_of-result
invariant_of-result c =
    let a = c.args.a in
    let b = c.args.b in
    record {
      wide = (
        xor_wide a.bit0 b.bit0 a.wide.0 b.wide.0,
        xor_wide a.bit1 b.bit1 a.wide.1 b.wide.1,
        xor_wide a.bit2 b.bit2 a.wide.2 b.wide.2,
        xor_wide a.bit3 b.bit3 a.wide.3 b.wide.3,
        xor_wide a.bit4 b.bit4 a.wide.4 b.wide.4,
        xor_wide a.bit5 b.bit5 a.wide.5 b.wide.5,
        xor_wide a.bit6 b.bit6 a.wide.6 b.wide.6,
        xor_wide a.bit7 b.bit7 a.wide.7 b.wide.7,
      );
    }

pub returns : goal.returns
returns c = block_in-sum c.args.a c.args.b
