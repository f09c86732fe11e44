use Rattle.bp_fragments.proofs.Covered.{merged_step, span_within, within_pushed}
use Rattle.bp_fragments.proofs.spans.merged.Goals as goal

pub loop-span-preserved : goal.loop-span-preserved
loop-span-preserved c = record {
  covers = λ place. merged_step c.loop-span.apart _ c.args.spans.now c.loop-span.span-index c.loop-span.whole c.in-Ok.after c.span-item.result c.args.more place c.loop-span-test.true c.span-item.is (c.loop-span.invariant.covers place) (c.in-Ok.ensures.covers place);
  within = λ len all more.
      let before = c.loop-span.invariant.within len all more in
      c.in-Ok.ensures.within len before.0 before.1 (span_within c.args.spans.now c.loop-span.span-index len c.span-item.result all c.loop-span-test.true c.span-item.is);
}

pub returns-in-Ok-append-clause-within : goal.returns-in-Ok-append-clause-within
returns-in-Ok-append-clause-within c = λ len all more.
    let before = c.loop-span.invariant.within len all more in
    rw c.in-Ok-append.ensures.ok (within_pushed c.loop-span.apart c.loop-span.whole len before.0 before.1)
