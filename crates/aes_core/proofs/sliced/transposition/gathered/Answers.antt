use Rattle.std.proofs.Common.{◌≡◌, ◌<◌, List, ℕ, [], get_or, ap, ◌∙◌, arith}
use Rattle.aes_core.specs.declared.sliced.registers.Registers.{Registers}
use Rattle.aes_core.specs.Sliced.{registers_of}
use Rattle.aes_core.proofs.TranspositionLemmas.{block_gathered, eight_entries, all_of_eight}
use Rattle.aes_core.proofs.sliced.transposition.gathered.Goals as goal

pub returns : goal.returns
returns c = λ j lt.
    let r : Registers = record {
      bit0 = c.register.result;
      bit1 = c.register-2.result;
      bit2 = c.register-3.result;
      bit3 = c.register-4.result;
      bit4 = c.register-5.result;
      bit5 = c.register-6.result;
      bit6 = c.register-7.result;
      bit7 = c.register-8.result;
      wide = (
        c.register.ensures.wide,
        c.register-2.ensures.wide,
        c.register-3.ensures.wide,
        c.register-4.ensures.wide,
        c.register-5.ensures.wide,
        c.register-6.ensures.wide,
        c.register-7.ensures.wide,
        c.register-8.ensures.wide,
      );
    } in
    let below = λ (p : ℕ) (h : p < 16).
    all_of_eight (λ b. b < 256) _ _ _ _ _ _ _ _
    (c.register.ensures.bytes p)
    (c.register-2.ensures.bytes p)
    (c.register-3.ensures.bytes p)
    (c.register-4.ensures.bytes p)
    (c.register-5.ensures.bytes p)
    (c.register-6.ensures.bytes p)
    (c.register-7.ensures.bytes p)
    (c.register-8.ensures.bytes p) in
    let same : registers_of r ≡ c.args.blocks.now = rw (
      c.register.ensures.same,
      c.register-2.ensures.same,
      c.register-3.ensures.same,
      c.register-4.ensures.same,
      c.register-5.ensures.same,
      c.register-6.ensures.same,
      c.register-7.ensures.same,
      c.register-8.ensures.same,
    )
    (eight_entries c.args.blocks.now (omega arith)) in
    c.flipped.ensures j ∙ block_gathered r c.transposed.result j lt c.transposed.ensures.turned below
    ∙ ap (λ (l : List (List ℕ)). get_or l j []) same

pub invariant_of-transposed : goal.invariant_of-transposed
invariant_of-transposed c = record {
  wide = (
    c.register.ensures.wide,
    c.register-2.ensures.wide,
    c.register-3.ensures.wide,
    c.register-4.ensures.wide,
    c.register-5.ensures.wide,
    c.register-6.ensures.wide,
    c.register-7.ensures.wide,
    c.register-8.ensures.wide,
  );
}
