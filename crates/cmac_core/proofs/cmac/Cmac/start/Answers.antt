use Rattle.std.proofs.Common.{refl}
use Rattle.cmac_core.proofs.StateLemmas.{HasTaken_none}
use Rattle.cmac_core.proofs.cmac.Cmac.start.Goals as goal

pub returns-clause-none : goal.returns-clause-none
returns-clause-none g c = HasTaken_none g.row.NK _ refl refl
