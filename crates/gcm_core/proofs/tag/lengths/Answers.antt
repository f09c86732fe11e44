use Rattle.std.proofs.Common.{◌∙◌, refl}
use Rattle.gcm_core.proofs.TagLemmas.{lengths_are}
use Rattle.gcm_core.proofs.tag.lengths.Goals as goal

pub returns : goal.returns
returns c =
    lengths_are c.copy_from_slice.new.self c.copy_from_slice-2.new.self c.args.left c.args.right _ _ refl refl
    (c.copy_from_slice.ensures.after ∙ c.to_be_bytes.ensures) (c.copy_from_slice-2.ensures.after ∙ c.to_be_bytes-2.ensures)
