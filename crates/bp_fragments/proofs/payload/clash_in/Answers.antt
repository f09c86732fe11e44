use Rattle.bp_fragments.proofs.Clashes.{look, looked_same, looked_all, looked_differs}
use Rattle.bp_fragments.proofs.payload.clash_in.Goals as goal

pub returns-then-at-to-clause-same : goal.returns-then-at-to-clause-same
returns-then-at-to-clause-same c =
    looked_same _ _ _ _ _ _ _ _ (look c.args.bytes.now c.args.piece.now c.args.span c.args.offset c.args.end c.max-from.result c.min-to.result c.first_difference.result c.max-from.ensures c.min-to.ensures c.if-from-to.false c.requires.inside c.first_difference.ensures.within c.first_difference.ensures.same c.first_difference.ensures.differs)

pub returns-then-at-to-clause-differs : goal.returns-then-at-to-clause-differs
returns-then-at-to-clause-differs c = λ _.
    looked_differs _ _ _ _ _ _ _ _ (look c.args.bytes.now c.args.piece.now c.args.span c.args.offset c.args.end c.max-from.result c.min-to.result c.first_difference.result c.max-from.ensures c.min-to.ensures c.if-from-to.false c.requires.inside c.first_difference.ensures.within c.first_difference.ensures.same c.first_difference.ensures.differs) c.if-at-to.true

pub returns-else-at-to-clause-same : goal.returns-else-at-to-clause-same
returns-else-at-to-clause-same c =
    looked_all _ _ _ _ _ _ _ _ (look c.args.bytes.now c.args.piece.now c.args.span c.args.offset c.args.end c.max-from.result c.min-to.result c.first_difference.result c.max-from.ensures c.min-to.ensures c.if-from-to.false c.requires.inside c.first_difference.ensures.within c.first_difference.ensures.same c.first_difference.ensures.differs) c.if-at-to.false
