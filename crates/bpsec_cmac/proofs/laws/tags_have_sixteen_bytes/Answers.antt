use Rattle.bpsec_cmac.specs.IntegrityLaws.{signed_length}
use Rattle.bpsec_cmac.proofs.laws.tags_have_sixteen_bytes.Goals as goal

pub returns : goal.returns
returns c = signed_length
