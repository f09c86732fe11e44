use Rattle.std.proofs.Common.{◌≡◌, ◌++◌, ℕ, List, length, take, ◌∙◌, ap, arith, length-take}
use Rattle.std.specs.Fmt.{decimal}
use Rattle.bpsec_audit.specs.Items.{item_lines, lines_at}
use Rattle.bpsec_audit.proofs.Each.{told_none, told_more}
use Rattle.bpsec_audit.proofs.items.put_items.Goals as goal

pub loop-at-init : goal.loop-at-init
loop-at-init c = told_none (item_lines c.args.ring.now) c.args.lines.now

pub loop-at-preserved : goal.loop-at-preserved
loop-at-preserved c =
    let at = c.loop-at.at-counter in
    let items = c.args.items.now in
    let before : at ≡ length (take at items) = omega (arith, length-take at items) in
    let index : c.as_bytes.result.now ≡ decimal (length (take at items)) = c.as_bytes.ensures.value ∙ (c.in_ok-index.ensures.ok ∙ ap decimal before) in
    told_more (item_lines c.args.ring.now) c.args.lines.now c.loop-at.lines c.put_item.new.lines items at c.index-items-at.result c.loop-at-test.true c.index-items-at.is c.loop-at.invariant
    (c.in_ok-put_item.ensures ∙ ap (λ (text : List ℕ). c.loop-at.lines ++ lines_at c.args.ring.now text c.index-items-at.result) index)
