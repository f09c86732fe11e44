use Rattle.std.proofs.Common.{sym, ◌∙◌, subst}
use Rattle.std.specs.BTreeSet.{insert_key}
use Rattle.bp_eid.proofs.Steps.{IsBytes}
use Rattle.bpsec_asb.specs.Order.{op_cmp}
use Rattle.bpsec_asb.specs.Known.{operation}
use Rattle.bpsec_asb.proofs.Lists.{fold-map-more}
use Rattle.bpsec_asb.proofs.Held.{lists_held, lists_none}
use Rattle.bpsec_asb.proofs.known.add_held.Goals as goal

pub loop-target-preserved : goal.loop-target-preserved
loop-target-preserved c =
    fold-map-more (insert_key op_cmp) c.args.ops.now.keys (operation c.args.service c.args.block.now.number) c.items-target-items.result.now c.loop-target.target-index 0
    c.loop-target.ops.keys c.insert.new.self.keys c.loop-target-test.true c.loop-target.invariant c.in_ok-insert.ensures.keys

pub returns-then-block-block_type-clause-held : goal.returns-then-block-block_type-clause-held
returns-then-block-block_type-clause-held c = lists_none c.args.service c.args.block.now (λ same. c.if-block-block_type.true (same ∙ sym c.block_type.ensures))

pub returns-clause-held : goal.returns-clause-held
returns-clause-held c = lists_held c.args.service c.args.block.now (subst IsBytes c.as_slice.ensures c.targets.ensures.bytes)
