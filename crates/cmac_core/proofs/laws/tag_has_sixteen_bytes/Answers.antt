use Rattle.cmac_core.proofs.LawLemmas.{length-cmac, All-cmac}
use Rattle.cmac_core.proofs.laws.tag_has_sixteen_bytes.Goals as goal

pub returns-clause-length : goal.returns-clause-length
returns-clause-length c = length-cmac

pub returns-clause-bytes : goal.returns-clause-bytes
returns-clause-bytes c = All-cmac
