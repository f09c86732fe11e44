-- What `Case` shows.
use Rattle.bpsec_facts.specs.declared.case.Case.{Case}
use Rattle.bpsec_facts.specs.Facts.{Facts}

abbrev pub facts : Case → Facts
facts case = record {
  primary = case.primary.now;
  blocks = case.blocks.now;
  ops = case.ops.now;
  shown = case.shown.now;
  bibs = case.bibs.now;
  items = case.items.now;
  ring = case.ring.now;
}
