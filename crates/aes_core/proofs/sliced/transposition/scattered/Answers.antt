use Rattle.std.proofs.Common.{ap, ◌∙◌}
use Rattle.aes_core.specs.Sliced.{flipped}
use Rattle.aes_core.proofs.TranspositionLemmas.{block_scattered, flipped_twice}
use Rattle.aes_core.proofs.sliced.transposition.scattered.Goals as goal

pub returns-clause-blocks : goal.returns-clause-blocks
returns-clause-blocks c = λ j lt.
    let transposed = c.transposed-blocks.ensures in
    block_scattered c.flipped.result c.transposed-blocks.result j lt transposed.turned transposed.bytes
    ∙ ap flipped (c.flipped.ensures j) ∙ flipped_twice c.args.r j
