use Rattle.std.proofs.Common.{Ok, ap}
use Rattle.bp_bundle.specs.declared.whole_input.Step.{Step}
use Rattle.bp_bundle.proofs.OneBundleInputs.{loop_most, most_more, nearer, if_ok}
use Rattle.bp_bundle.proofs.whole_input.read_one.Goals as goal

pub loop-reader-smaller : goal.loop-reader-smaller
loop-reader-smaller g c = nearer _ _ c.loop-reader.reader c.take.new.reader c.loop-reader.invariant.taken (c.in-Ok-More.ensures.onwards _ c.loop-reader.invariant.taken (ap (λ (s : Step). Ok s) c.in-Ok-More.field-0-is))

pub returns-in-Ok-Over-clause-means : goal.returns-in-Ok-Over-clause-means
returns-in-Ok-Over-clause-means g c = let over = rw c.in-Ok-Over.field-0-is at (c.in-Ok-Over.ensures.means _ c.loop-reader.invariant.taken) in c.over.ensures.means _ _ over.0 over.1

pub returns-in-Ok-Over-clause-ended : goal.returns-in-Ok-Over-clause-ended
returns-in-Ok-Over-clause-ended g c = if_ok _ _ (rw c.in-Ok-Over.field-0-is at (c.in-Ok-Over.ensures.means _ c.loop-reader.invariant.taken)).1

pub returns-in-Ok-Over-clause-at_most : goal.returns-in-Ok-Over-clause-at_most
returns-in-Ok-Over-clause-at_most g c = loop_most _ _ _ (rw c.in-Ok-Over.field-0-is at (c.in-Ok-Over.ensures.means _ c.loop-reader.invariant.taken)).0

pub returns-in-Ok-Done-clause-means : goal.returns-in-Ok-Done-clause-means
returns-in-Ok-Done-clause-means g c = c.ended.ensures.means _ (rw c.in-Ok-Done.field-0-is at (c.in-Ok-Done.ensures.means _ c.loop-reader.invariant.taken))

pub returns-in-Ok-Done-clause-ended : goal.returns-in-Ok-Done-clause-ended
returns-in-Ok-Done-clause-ended g c = c.ended.ensures.ended _ (rw c.in-Ok-Done.field-0-is at (c.in-Ok-Done.ensures.means _ c.loop-reader.invariant.taken))

pub returns-in-Ok-Done-clause-at_most : goal.returns-in-Ok-Done-clause-at_most
returns-in-Ok-Done-clause-at_most g c = c.ended.ensures.at_most _ (rw c.in-Ok-Done.field-0-is at (c.in-Ok-Done.ensures.means _ c.loop-reader.invariant.taken))

pub returns-in-Err-clause-at_most : goal.returns-in-Err-clause-at_most
returns-in-Err-clause-at_most g c = most_more _ _ (c.in-Err.ensures.at_most _ c.loop-reader.invariant.taken)
