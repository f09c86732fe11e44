use Rattle.gcm_core.proofs.SizeLemmas.{length-tag_of, tag_of_bytes}
use Rattle.gcm_core.proofs.laws.tag_has_sixteen_bytes.Goals as goal

pub returns : goal.returns
returns c = record { length = length-tag_of; bytes = tag_of_bytes }
