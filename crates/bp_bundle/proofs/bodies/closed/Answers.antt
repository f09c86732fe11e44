use Rattle.std.proofs.Common.{◌≡◌, ◌+◌, ◌≤◌, List, ◌++◌, length, arith, length-append, ap, ◌∙◌}
use Rattle.bp_crc.specs.Item.{check_item, zeros}
use Rattle.bp_crc.specs.Check.{check_bytes}
use Rattle.bp_bundle.specs.HeaderText.{header_text}
use Rattle.bp_bundle.proofs.HeaderText.{header_short, item_short, array_text}
use Rattle.bp_bundle.proofs.bodies.closed.Goals as goal

pub invariant_of-result-clause-checks : goal.invariant_of-result-clause-checks
invariant_of-result-clause-checks c =
    let h = c.args.opened.header in
    let text = header_text h in
    let body = c.args.opened.body in
    let small = c.args.opened.small in
    let feeds = rw c.zeros.ensures.value at c.feed.ensures.stands in
    let stands = feeds (text ++ body) c.args.opened.stands (omega (arith, length-append text body, header_short h, item_short h.crc, c.requires)) in
    let kind = c.what_is_fixed_names_the_kind.ensures _ _ c.feed.ensures.fixed ∙ c.args.opened.kind in
    rw kind at (c.finish.ensures ((text ++ body) ++ check_item h.crc (zeros h.crc)) stands) ∙ ap (check_bytes h.crc) (array_text h body c.requires)
