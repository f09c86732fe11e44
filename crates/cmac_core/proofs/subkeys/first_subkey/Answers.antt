use Rattle.std.proofs.Common.{List, ℕ, ap, ◌∙◌}
use Rattle.cmac_core.specs.Field.{times_x}
use Rattle.cmac_core.specs.Cmac.{first_subkey}
use Rattle.cmac_core.proofs.subkeys.first_subkey.Goals as goal

pub returns : goal.returns
unfolding first_subkey
returns g c = c.times_x.ensures ∙ ap (λ (block : List ℕ). times_x block) c.encrypt.ensures.encrypted
