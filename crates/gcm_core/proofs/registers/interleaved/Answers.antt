use Rattle.std.proofs.Common.{ℕ, ◌+◌, ◌*◌, ◌/◌, ◌%◌, ◌++◌, get_or, zero-add}
use Rattle.std.proofs.lemmas.List.FromFn.{get_or-map-range_with_len}
use Rattle.gcm_core.proofs.registers.interleaved.Goals as goal

pub returns-clause-first : goal.returns-clause-first
returns-clause-first c = λ j h.
    get_or-map-range_with_len (λ (i : ℕ). get_or (c.args.left ++ c.args.right) (i / 2 + 16 * (i % 2)) 0) 0 16 j j 0 h (zero-add j)

pub returns-clause-second : goal.returns-clause-second
returns-clause-second c = λ j h.
    get_or-map-range_with_len (λ (i : ℕ). get_or (c.args.left ++ c.args.right) (8 + i / 2 + 16 * (i % 2)) 0) 0 16 j j 0 h (zero-add j)
