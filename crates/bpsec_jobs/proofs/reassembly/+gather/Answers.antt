use Rattle.std.proofs.Common.{◌<◌, arith}
use Rattle.bp_bundle.specs.BackToBack.{most_for_one}
use Rattle.bpsec_jobs.proofs.GatheringInTurn.{if_ok_map, comes_none, comes_next, comes_refused, comes_whole, comes_faulty, takes_on}
use Rattle.bpsec_jobs.proofs.reassembly.+gather.Goals as goal

pub returns-then-more-eq0-clause-means : goal.returns-then-more-eq0-clause-means
returns-then-more-eq0-clause-means g t c = λ before took. comes_none _ _ _ before _ c.if-more-eq0.true c.in_ok-pieces_refused.ensures

pub returns-in-Ok-clause-means : goal.returns-in-Ok-clause-means
returns-in-Ok-clause-means g t c = λ before took.
    let some : 0 < c.args.more = omega arith in
    let added = c.in-Ok.ensures.means before took in
    if_ok_map c.gather.result _ _ (comes_next c.bundles_are_read_as_spelled.ensures.again _ _ _ _ _ _ before c.in-Ok-Some.piece some c.taken-taken.ensures.within (c.in-Ok-Some.ensures.means c.requires.open) c.in-Ok-Some.field-0-is added.0)
    (c.gather.ensures.means _ added.1)

pub returns-in-Ok-clause-at_most : goal.returns-in-Ok-clause-at_most
returns-in-Ok-clause-at_most g t c =
    let some : 0 < c.args.more = omega arith in
    let reads = c.in-Ok-Some.ensures.means c.requires.open in
    takes_on most_for_one c.args.more _ _ _ reads.read reads.given reads.few some c.gather.ensures.at_most

pub returns-in-Ok-Some-clause-means : goal.returns-in-Ok-Some-clause-means
returns-in-Ok-Some-clause-means g t c = λ before took.
    let some : 0 < c.args.more = omega arith in
    let refused = c.in_ok-add_refused-in-Err.ensures in
    comes_refused c.bundles_are_read_as_spelled.ensures.again _ _ _ _ _ _ before c.in-Ok-Some.piece c.in-Err.fault _ some (c.in-Ok-Some.ensures.means c.requires.open) c.in-Ok-Some.field-0-is (c.in-Err.ensures.means before took) refused.met refused.is

pub returns-in-Ok-None-clause-means : goal.returns-in-Ok-None-clause-means
returns-in-Ok-None-clause-means g t c = λ before took.
    let some : 0 < c.args.more = omega arith in
    comes_whole _ _ _ _ _ _ before _ some (c.in-Ok-None.ensures.means c.requires.open) c.in-Ok-None.field-0-is (c.in_ok-join-in-Ok-None.ensures.is before took)

pub returns-in-Err-Fault-clause-means : goal.returns-in-Err-Fault-clause-means
returns-in-Err-Fault-clause-means g t c = λ before took.
    let some : 0 < c.args.more = omega arith in
    comes_faulty _ _ _ _ _ _ before c.in-Err-Fault.fault _ some (c.in-Err-Fault.ensures.means c.requires.open) c.in-Err-Fault.field-0-is c.in_ok-bundle_refused-in-Err-Fault.ensures
