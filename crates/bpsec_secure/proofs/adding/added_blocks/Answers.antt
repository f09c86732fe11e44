use Rattle.std.proofs.Common.{◌≡◌, ◌++◌, ◌∷◌, []}
use Rattle.bpsec_facts.specs.View.{facts}
use Rattle.bpsec_secure.specs.Secured.{finished}
use Rattle.bpsec_secure.proofs.AddedLemmas.{added_step}
use Rattle.bpsec_secure.proofs.adding.added_blocks.Goals as goal

pub loop-i-preserved : goal.loop-i-preserved
loop-i-preserved c =
    let next : c.add_finished.new.new ≡ c.loop-i.new ++ finished (facts c.args.case.now) c.item-item.result c.index-blocks-i.result ∷ [] =
    cc (c.in_ok-add_finished.ensures, c.item-item.is, c.index-blocks-i.is)
    in
    added_step (facts c.args.case.now) c.args.blocks.now c.loop-i.i c.item-item.result c.index-blocks-i.result c.loop-i.new c.add_finished.new.new c.requires.blocks c.loop-i-test.true c.item-item.is c.index-blocks-i.is c.loop-i.invariant next
