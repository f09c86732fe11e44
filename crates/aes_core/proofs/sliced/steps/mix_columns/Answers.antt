use Rattle.aes_core.specs.Sliced.{block_of}
use Rattle.aes_core.proofs.BlockLemmas.{mixed_by_sums, block_of-lt}
use Rattle.aes_core.proofs.sliced.steps.mix_columns.Goals as goal

pub returns : goal.returns
returns c = λ j.
    let r = c.args.r in
    rw (
      c.add-2.ensures j,
      c.turn_by_two.ensures j,
      c.add.ensures j,
      c.times_x.ensures j,
      c.add-sum.ensures j,
      c.turn_by_one-next.ensures j,
    )
    (mixed_by_sums (block_of r j) (block_of-lt r j))
