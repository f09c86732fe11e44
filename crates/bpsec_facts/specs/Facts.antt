-- What a plan meets.
use Rattle.std.specs.Prelude.{List}
use Rattle.bp_primary.specs.declared.primary.Primary.{Primary}
use Rattle.bp_blocks.specs.declared.block.Block.{Block}
use Rattle.bp_bundle.specs.Shape.{Contents}
use Rattle.bpsec_asb.specs.declared.operation.OpId.{OpId}
use Rattle.bpsec_asb.specs.Known.{known}
use Rattle.bpsec_policy.specs.declared.ring.NamedKey.{NamedKey}
use Rattle.bpsec_plan.specs.declared.item.Item.{Item}
use Rattle.bpsec_facts.specs.declared.bibs.ShownBib.{ShownBib}
use Rattle.bpsec_facts.specs.declared.bibs.ResultBib.{ResultBib}
use Rattle.bpsec_facts.specs.Bibs.{shown_bibs, result_bibs}

-- The bundle as it is handed in, its known operations, its block integrity blocks that no operation covers, those of the
-- result, and the plan and the keys.
pub record Facts : Type 0 where
  pub primary : Primary
  pub blocks : List Block
  pub ops : List OpId
  pub shown : List ShownBib
  pub bibs : List ResultBib
  pub items : List Item
  pub ring : List NamedKey

unfoldable pub facts_of : Contents → List Item → List NamedKey → Facts
facts_of bundle items ring =
    let shown = shown_bibs bundle.blocks (known bundle.blocks) in
    record {
      primary = bundle.primary;
      blocks = bundle.blocks;
      ops = known bundle.blocks;
      shown = shown;
      bibs = result_bibs shown items;
      items = items;
      ring = ring;
    }
