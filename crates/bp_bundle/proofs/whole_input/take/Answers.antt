use Rattle.std.proofs.Common.{length, sym, ◌∙◌, ap, arith}
use Rattle.std.proofs.lemmas.List.{length-take}
use Rattle.bp_bundle.proofs.OneBundleInputs.{step_most, step_more, step_done, step_fault, same_fed}
use Rattle.bp_bundle.specs.declared.reader.Fed.{Fed}
use Rattle.bp_bundle.proofs.whole_input.take.Goals as goal

pub returns-in-Ok-feed-clause-means : goal.returns-in-Ok-feed-clause-means
returns-in-Ok-feed-clause-means g c = λ before has. step_done before _ _ _ _ _ c.in-Ok-feed.fed c.in-Ok.n (omega (arith, length-take c.in-Ok.n c.read.new.buf, c.in-Ok.ensures.within, c.requires.few, c.read.auto.buf)) (omega (arith, length-take c.in-Ok.n c.read.new.buf, c.in-Ok.ensures.within, c.requires.few, c.read.auto.buf)) has c.in-Ok.ensures.moved c.in-Ok-feed.ensures.means c.if-fed.true

pub returns-in-Ok-feed-clause-at_most : goal.returns-in-Ok-feed-clause-at_most
returns-in-Ok-feed-clause-at_most g c = λ before has. step_most before _ _ _ _ (omega (arith, length-take c.in-Ok.n c.read.new.buf, c.in-Ok.ensures.within, c.requires.few, c.read.auto.buf)) has c.in-Ok.ensures.moved

pub returns-in-Ok-2-clause-means : goal.returns-in-Ok-2-clause-means
returns-in-Ok-2-clause-means g c = λ before has. step_more before _ _ _ _ _ c.in-Ok-2.field-0 has c.in-Ok.ensures.moved c.in-Ok-2.ensures.means (ap (λ (f : Fed). f.done) (sym (same_fed c.feed.result c.in-Ok-feed.fed c.in-Ok-2.field-0 c.in-Ok-feed.is c.in-Ok-2.is)) ∙ c.if-fed.false)

pub returns-in-Err-clause-means : goal.returns-in-Err-clause-means
returns-in-Err-clause-means g c = λ before has. rw c.from.ensures (step_fault c.reading_stays_the_same.ensures.fault before _ _ _ c.feed.new.self _ c.in-Err.error has c.in-Ok.ensures.moved c.in-Err.ensures.means)

pub returns-in-Err-clause-at_most : goal.returns-in-Err-clause-at_most
returns-in-Err-clause-at_most g c = λ before has. step_most before _ _ _ _ (omega (arith, length-take c.in-Ok.n c.read.new.buf, c.in-Ok.ensures.within, c.requires.few, c.read.auto.buf)) has c.in-Ok.ensures.moved
