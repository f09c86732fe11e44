-- An array's items are read by one loop, a map's by two.
use Rattle.std.proofs.Common.{◌<◌, refl, arith}
use Rattle.cbor_profile.specs.Item.{item_from}
use Rattle.cbor_profile.proofs.Items.{array_items, map_items, goes_on, stops, ends}
use Rattle.cbor_profile.proofs.item.+item.Goals as goal

pub content-returns-in-4-2-clause-exact : goal.content-returns-in-4-2-clause-exact
content-returns-in-4-2-clause-exact t c =
    let lt : 0 < c.args.levels = omega arith in
    rw (c.in-4-2.is, array_items c.args.levels c.args.head.value c.args.bytes.now lt) c.items.ensures.exact

pub content-returns-in-Ok-clause-exact : goal.content-returns-in-Ok-clause-exact
content-returns-in-Ok-clause-exact t c =
    let lt : 0 < c.args.levels = omega arith in
    rw (c.in-5.is, map_items c.args.levels c.args.head.value c.args.bytes.now lt, c.in-Ok.ensures.exact) c.items-in-Ok.ensures.exact

pub content-returns-in-Err-clause-exact : goal.content-returns-in-Err-clause-exact
content-returns-in-Err-clause-exact t c =
    let lt : 0 < c.args.levels = omega arith in
    rw (c.in-5.is, map_items c.args.levels c.args.head.value c.args.bytes.now lt, c.in-Err.ensures.exact) refl

pub items-returns-in-Err-clause-exact : goal.items-returns-in-Err-clause-exact
items-returns-in-Err-clause-exact t c = stops (item_from c.args.levels) c.args.count c.loop.counter c.loop.rest.now c.in-Err.fault _ (omega arith) c.in-Err.ensures.exact c.loop.invariant.same

pub items-loop-preserved : goal.items-loop-preserved
items-loop-preserved t c = record {
  shorter = omega (arith, c.in-Ok.ensures.shorter);
  same = goes_on (item_from c.args.levels) c.args.count c.loop.counter c.loop.rest.now c.in-Ok.after.now _ (omega arith) c.in-Ok.ensures.exact c.loop.invariant.same;
}

pub items-returns-clause-exact : goal.items-returns-clause-exact
items-returns-clause-exact t c = ends (item_from c.args.levels) c.args.count c.loop.counter c.loop.rest.now _ (omega arith) c.loop.invariant.same
