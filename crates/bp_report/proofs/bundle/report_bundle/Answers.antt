use Rattle.std.proofs.Common.{[], ◌∷◌}
use Rattle.bp_report.proofs.Shape.{no_fault}
use Rattle.bp_report.proofs.bundle.report_bundle.Goals as goal

pub unreachable-requires : goal.unreachable-requires
unreachable-requires c =
    let few = rw c.size-size.ensures.size at c.size-size.ensures.within in
    let none = no_fault c.in_ok-primary.primary c.args.report.now few c.report_block.ensures.short in
    let is = rw (c.in_ok-append.ensures.ok, c.new-blocks.ensures, c.in_ok-block.ensures.block) at c.in-Err.ensures.exact in
    cc
