use Rattle.std.proofs.Common.{◌++◌, ap, ◌∙◌}
use Rattle.key_wrap.proofs.CallLemmas.{wrap_by}
use Rattle.key_wrap.proofs.wrapping.wrap_into.Goals as goal

pub returns : goal.returns
returns g c =
    ap (λ first. first ++ c.wrap_steps.new.groups) c.copy_from_slice-2.ensures.after
    ∙ wrap_by g.row.NK c.args.kek.now c.args.key.now _ _ _ c.copy_from_slice.ensures.after c.wrap_steps.ensures
