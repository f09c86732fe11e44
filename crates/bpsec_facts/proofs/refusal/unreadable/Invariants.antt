use Rattle.std.proofs.Common.{◌≡◌, None, take, map}
use Rattle.std.specs.Prelude.{filter, fold}
use Rattle.bpsec_facts.specs.View.{facts}
use Rattle.bpsec_facts.specs.Refusal.{is_unreadable, lesser}
use Rattle.bpsec_facts.proofs.refusal.unreadable.Given as goal

abbrev pub invariant-loop-block : goal.invariant-loop-block
invariant-loop-block l =
    l.least ≡ fold lesser None (map (λ block. block.number) (filter (is_unreadable (facts l.case)) (take l.block-index l.case.blocks.now)))
