use Rattle.std.proofs.Common.{◌≡◌, ◌+◌, ◌++◌, length, take, refl, ◌∙◌, arith, length-append}
use Rattle.std.proofs.lemmas.List.{append-nil, length-take-le, take_all}
use Rattle.gcm_core.proofs.StateLemmas.{fed_more}
use Rattle.gcm_core.proofs.gcm.GcmFeed.feed.Goals as goal

pub loop-byte-init : goal.loop-byte-init
loop-byte-init g c = record { taken = λ aad held few. rw (append-nil aad) held; key = refl }

pub loop-byte-preserved : goal.loop-byte-preserved
loop-byte-preserved g c =
    let piece = c.args.piece.now in
    let i = c.loop-byte.byte-index in
    record {
      taken = λ aad held few.
          let so_far : length (aad ++ take i piece) ≡ length aad + i =
          omega (arith, length-append aad (take i piece), length-take-le i piece (omega arith)) in
          rw (fed_more aad piece i c.loop-byte-test.true) at (c.take.ensures.taken (aad ++ take i piece)
          (c.loop-byte.invariant.taken aad held (omega arith)) (omega arith));
      key = c.take.ensures.key ∙ c.loop-byte.invariant.key;
    }

pub returns-clause-stands : goal.returns-clause-stands
returns-clause-stands g c = λ fed held few.
    rw (take_all c.loop-byte.byte-index c.args.piece.now c.loop-byte-test.false) at (c.loop-byte.invariant.taken fed held (omega arith))
