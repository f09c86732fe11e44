use Rattle.bpsec_asb.proofs.Kept.{begins_after}
use Rattle.bpsec_asb.proofs.asb.Asb.append.Goals as goal

pub returns-clause-err : goal.returns-clause-err
returns-clause-err c =
    begins_after _ _ _ _ _ c.in_ok-put_all.ensures.ok (begins_after _ _ _ _ _ c.in_ok-put_int.ensures.ok (begins_after _ _ _ _ _ c.in_ok-put_uint.ensures.ok
    (begins_after _ _ _ _ _ c.in_ok-put.ensures.ok (begins_after _ _ _ _ _ c.in_ok-put_parameters.ensures.ok c.put_all-2.ensures.err))))
