use Rattle.std.proofs.Common.{◌∙◌, arith}
use Rattle.cmac_core.proofs.FieldLemmas.{times_x_is}
use Rattle.cmac_core.proofs.subkeys.times_x.Goals as goal

pub returns : goal.returns
returns c =
    c.to_be_bytes.ensures ∙ times_x_is c.args.block c.from_be_bytes-number.result c.from_be_bytes-number.ensures (omega arith)
