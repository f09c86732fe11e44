use Rattle.bpsec_context.specs.IntegrityLaws.{signed_length}
use Rattle.bpsec_context.specs.ConfidentialityLaws.{sealed_lengths}
use Rattle.bpsec_context.proofs.laws.codes_ciphertexts_and_tags_have_their_lengths.Goals as goal

pub returns-clause-signed : goal.returns-clause-signed
returns-clause-signed c = signed_length

pub returns-clause-sealed : goal.returns-clause-sealed
returns-clause-sealed c = sealed_lengths
