use Rattle.std.proofs.Common.{◌∙◌, ap, List, map}
use Rattle.bp_blocks.specs.declared.block.Block.{Block}
use Rattle.bpsec_facts.specs.View.{facts}
use Rattle.bpsec_secure.specs.Secured.{sealed}
use Rattle.bpsec_secure.proofs.AddedLemmas.{kept_all, tags_are}
use Rattle.bpsec_secure.proofs.sealing.seal_all.Goals as goal

pub returns-clause-old : goal.returns-clause-old
returns-clause-old g c =
    c.in_ok-seal_blocks.ensures.blocks ∙ (ap (λ (blocks : List Block). map (sealed (facts c.args.case.now)) blocks) c.requires.old ∙ kept_all (facts c.args.case.now) c.args.case.now.blocks.now)

pub returns-clause-tags : goal.returns-clause-tags
returns-clause-tags g c =
    tags_are (facts c.args.case.now) c.new-tags.result c.seal_blocks.new.tags c.seal_blocks-2.new.tags c.args.old.now c.args.new.now c.new-tags.ensures c.requires.old c.requires.new c.in_ok-seal_blocks.ensures.tags c.in_ok-seal_blocks-2.ensures.tags
