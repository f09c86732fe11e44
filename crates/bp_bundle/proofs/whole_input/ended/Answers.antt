use Rattle.std.proofs.Common.{◌≡◌, ℕ, List, [], ◌++◌, length, ap, sym, ◌∙◌, arith}
use Rattle.std.proofs.lemmas.List.{length-take}
use Rattle.bp_bundle.specs.Spelling.{spelling}
use Rattle.bp_bundle.proofs.OneBundleInputs.{piece_trails, next_trails, next_most, nothing_follows}
use Rattle.bp_bundle.proofs.whole_input.ended.Goals as goal

pub returns-then-not-all-clause-means : goal.returns-then-not-all-clause-means
returns-then-not-all-clause-means g c = λ before has.
    rw c.trailing.ensures (piece_trails c.bundles_are_read_as_spelled.ensures.again before _ _ _ _ has (c.size-size.ensures.size ∙ ap length (sym (c.in-Ok.ensures.means (spelling has.bundle) has.took))) c.if-not-all.true)

pub returns-in-Ok-eq0-clause-means : goal.returns-in-Ok-eq0-clause-means
returns-in-Ok-eq0-clause-means g c = λ before has.
    let spelled = c.in-Ok.ensures.means (spelling has.bundle) has.took in
    let same = c.bundles_have_one_spelling.ensures has.bundle c.in-Ok.bundle [] [] has.is c.size-size.ensures.shape (ap (λ (t : List ℕ). t ++ []) spelled) in
    nothing_follows c.bundles_are_read_as_spelled.ensures.again before _ _ c.args.all c.in-Ok.bundle has same.0 c.if-not-all.false (c.in-Ok-eq0.ensures.ended c.in-Ok-eq0.field-0-test (omega (arith, length-take 1 c.args.buffer.now, c.requires)))

pub returns-in-Ok-read-clause-means : goal.returns-in-Ok-read-clause-means
returns-in-Ok-read-clause-means g c = λ before has.
    rw c.trailing-in-Ok-read.ensures (next_trails c.bundles_are_read_as_spelled.ensures.again before _ _ _ _ _ _ has (c.size-size.ensures.size ∙ ap length (sym (c.in-Ok.ensures.means (spelling has.bundle) has.took))) c.in-Ok-read.ensures.moved (omega (arith, length-take c.in-Ok-read.field-0 c.read.new.buf, length-take 1 c.args.buffer.now, c.in-Ok-read.ensures.within, c.requires, c.read.auto.buf, c.in-Ok-read.field-0-test)))

pub returns-in-Ok-read-clause-at_most : goal.returns-in-Ok-read-clause-at_most
returns-in-Ok-read-clause-at_most g c = λ before has. next_most before _ _ _ _ _ has c.in-Ok-read.ensures.moved (omega (arith, length-take c.in-Ok-read.field-0 c.read.new.buf, length-take 1 c.args.buffer.now, c.in-Ok-read.ensures.within, c.requires, c.read.auto.buf, c.in-Ok-read.field-0-test))
