use Rattle.std.proofs.Common.{arith}
use Rattle.std.specs.Fmt.{decimal}
use Rattle.std.proofs.lemmas.Str.Pattern.{split_after}
use Rattle.bp_eid.proofs.Decimals.{no_dot}
use Rattle.bp_eid.proofs.text.numbers_of.Goals as goal

pub returns-in_err-node : goal.returns-in_err-node
returns-in_err-node c = rw c.from_residual.ensures (λ node service n s is.
    let parts = split_after 46 c.args.part.now (decimal node) (decimal service) c.split_once.result c.split_once.ensures.cases (omega arith) is (no_dot node n) in
    rw c.in_err-node.was at parts)

pub returns-in_default : goal.returns-in_default
returns-in_default c = λ node service n s is.
    let parts = split_after 46 c.args.part.now (decimal node) (decimal service) c.split_once.result c.split_once.ensures.cases (omega arith) is (no_dot node n) in
    let both = rw c.in_ok-node.was at parts in
    c.in_default.ensures' service s both.1

pub returns-in_default-2 : goal.returns-in_default-2
returns-in_default-2 c = λ node service n s is.
    let parts = split_after 46 c.args.part.now (decimal node) (decimal service) c.split_once.result c.split_once.ensures.cases (omega arith) is (no_dot node n) in
    let both = rw c.in_ok-node.was at parts in
    let none = rw c.in_default.is-0 at c.number_of.ensures in
    none node n both.0
