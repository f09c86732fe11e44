use Rattle.std.proofs.Common.{◌∙◌, append_assoc, arith}
use Rattle.std.proofs.lemmas.Fmt.{decimal_digit, decimal_step}
use Rattle.std.proofs.lemmas.Result.{on_ok_weaker}
use Rattle.bp_eid.proofs.text.+put_decimal.Goals as goal

pub returns-then-number-lt10-clause-ok : goal.returns-then-number-lt10-clause-ok
returns-then-number-lt10-clause-ok t c = let lt = c.if-number-lt10.true in rw decimal_digit c.extend.ensures.ok

pub returns-clause-ok : goal.returns-clause-ok
returns-clause-ok t c =
    let step = decimal_step c.args.number c.if-number-lt10.false (omega arith) in
    on_ok_weaker c.extend-2.result (λ h. h ∙ rw (c.in_ok-put_decimal.ensures.ok, step) (append_assoc c.args.out.now _ _)) c.extend-2.ensures.ok
