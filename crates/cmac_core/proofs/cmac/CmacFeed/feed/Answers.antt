use Rattle.std.proofs.Common.{◌++◌, take, refl, ◌∙◌}
use Rattle.std.proofs.lemmas.List.{append-nil, take_all}
use Rattle.cmac_core.proofs.StateLemmas.{fed_more}
use Rattle.cmac_core.proofs.cmac.CmacFeed.feed.Goals as goal

pub loop-byte-init : goal.loop-byte-init
loop-byte-init g c = record { taken = λ message held. rw (append-nil message) held; key = refl }

pub loop-byte-preserved : goal.loop-byte-preserved
loop-byte-preserved g c =
    let piece = c.args.piece.now in
    let i = c.loop-byte.byte-index in
    record {
      taken = λ message held.
          rw (fed_more message piece i c.loop-byte-test.true) at (c.take.ensures.taken (message ++ take i piece)
          (c.loop-byte.invariant.taken message held));
      key = c.take.ensures.key ∙ c.loop-byte.invariant.key;
    }

pub returns-clause-stands : goal.returns-clause-stands
returns-clause-stands g c = λ fed held few.
    rw (take_all c.loop-byte.byte-index c.args.piece.now c.loop-byte-test.false) at (c.loop-byte.invariant.taken fed held)
