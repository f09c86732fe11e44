use Rattle.bp_bundle.proofs.LeftIsLess.{token_shorter}
use Rattle.bp_bundle.proofs.token.argument.Goals as goal

pub up_to-requires : goal.up_to-requires
up_to-requires c = token_shorter _ _ _ _ c.in-Ok.ensures
