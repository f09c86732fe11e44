use Rattle.std.proofs.Common.{◌≡◌, ◌+◌, ◌≤◌, List, ◌++◌, length, arith, append_assoc, length-append, ◌∙◌}
use Rattle.bp_bundle.specs.HeaderText.{header_text}
use Rattle.bp_bundle.proofs.HeaderText.{header_short}
use Rattle.bp_bundle.proofs.bodies.absorbed.Goals as goal

pub invariant_of-result-clause-kind : goal.invariant_of-result-clause-kind
invariant_of-result-clause-kind c =
    c.what_is_fixed_names_the_kind.ensures _ _ c.feed.ensures.fixed ∙ c.args.opened.kind

pub invariant_of-result-clause-stands : goal.invariant_of-result-clause-stands
invariant_of-result-clause-stands c =
    let text = header_text c.args.opened.header in
    let body = c.args.opened.body in
    let small = c.args.opened.small in
    let stands = c.feed.ensures.stands (text ++ body) c.args.opened.stands (omega (arith, length-append text body, header_short c.args.opened.header, c.requires)) in
    rw (c.in_ok-extend.ensures.ok) (rw append_assoc at stands)
