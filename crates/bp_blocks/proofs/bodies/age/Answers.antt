use Rattle.std.proofs.Common.{[], sym, ◌∙◌, append-nil}
use Rattle.cbor_profile.specs.Put.{uint}
use Rattle.bp_blocks.proofs.bodies.age.Goals as goal

pub returns-in_err-age-clause-found : goal.returns-in_err-age-clause-found
unfolding uint
returns-in_err-age-clause-found c = λ age fits e. absurd (c.in_err-age.ensures.found age [] fits (e ∙ sym (append-nil (uint age))))
