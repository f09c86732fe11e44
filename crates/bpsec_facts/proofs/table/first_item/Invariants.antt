use Rattle.std.proofs.Common.{◌≡◌, [], take, drop}
use Rattle.bpsec_facts.specs.View.{facts}
use Rattle.bpsec_facts.specs.Refusal.{refuses, first_at}
use Rattle.bpsec_facts.proofs.table.first_item.Given as goal

abbrev pub invariant-loop-i : goal.invariant-loop-i
invariant-loop-i l =
    first_at (refuses l.reason (facts l.case)) [] l.case.items.now
    ≡ first_at (refuses l.reason (facts l.case)) (take l.i l.case.items.now) (drop l.i l.case.items.now)
