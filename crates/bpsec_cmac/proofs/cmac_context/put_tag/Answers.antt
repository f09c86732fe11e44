use Rattle.std.proofs.Common.{◌≡◌, length, drop, ap, ◌∙◌}
use Rattle.std.proofs.lemmas.List.{take_at}
use Rattle.bpsec_cmac.proofs.cmac_context.put_tag.Goals as goal

pub returns : goal.returns
returns c =
    let written = c.copy_from_slice.new.self in
    let same : length written ≡ 16 = ap length c.copy_from_slice.ensures.after ∙ c.told-tag in
    take_at written (drop 16 c.args.out.now) 16 same ∙ c.copy_from_slice.ensures.after
