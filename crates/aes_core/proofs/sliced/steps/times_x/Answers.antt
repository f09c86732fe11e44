use Rattle.aes_core.proofs.BlockLemmas.{xor_wide, block_in-times_x}
use Rattle.aes_core.proofs.sliced.steps.times_x.Goals as goal

pub invariant_of-result : goal.invariant_of-result
invariant_of-result c =
    let r = c.args.r in
    record {
      wide = (
        r.wide.7,
        xor_wide r.bit0 r.bit7 r.wide.0 r.wide.7,
        r.wide.1,
        xor_wide r.bit2 r.bit7 r.wide.2 r.wide.7,
        xor_wide r.bit3 r.bit7 r.wide.3 r.wide.7,
        r.wide.4,
        r.wide.5,
        r.wide.6,
      );
    }

pub returns : goal.returns
returns c = block_in-times_x c.args.r
