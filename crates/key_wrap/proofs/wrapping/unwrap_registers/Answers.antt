use Rattle.std.proofs.Common.{◌∙◌}
use Rattle.std.proofs.lemmas.List.{take_rest}
use Rattle.key_wrap.proofs.CallLemmas.{unwrap_by, key_back}
use Rattle.key_wrap.proofs.wrapping.unwrap_registers.Goals as goal

pub returns-clause-unwrapped : goal.returns-clause-unwrapped
returns-clause-unwrapped g c =
    unwrap_by g.row.NK c.args.kek.now c.args.wrapped.now _ _ _ _ c.copy_from_slice.ensures.after
    (c.copy_from_slice-2.ensures.after ∙ take_rest c.args.wrapped.now 8) c.unwrap_steps.ensures.unwrapped

pub returns-clause-undoes : goal.returns-clause-undoes
returns-clause-undoes g c = λ key wrappable wrapped.
    key_back g.row.NK c.args.kek.now c.args.wrapped.now key _ _ (returns-clause-unwrapped g c) wrapped
    (c.unwrapping_undoes_wrapping.ensures g.row.NK c.args.kek.now key c.unwrap_steps.ensures.key wrappable)
