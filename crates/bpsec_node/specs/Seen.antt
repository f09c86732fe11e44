-- What a `Kept` stands for.
use Rattle.bpsec_node.specs.declared.kept.Kept.{Kept}
use Rattle.bpsec_node.specs.Finished.{Finished}

abbrev pub seen : Kept → Finished
seen kept = record {
  primary = kept.primary.now;
  policy = kept.policy.now;
  blocks = kept.blocks.now;
  held = kept.held.now;
  stuck = kept.stuck.now;
  done = kept.done.now;
  verdicts = kept.verdicts.now;
}
