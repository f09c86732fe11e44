use Rattle.std.proofs.Common.{◌≡◌, ℕ, take, ap, ◌∙◌}
use Rattle.std.specs.Prelude.{bit_xor}
use Rattle.std.proofs.lemmas.List.{take-map}
use Rattle.hmac_core.specs.Hmac.{padded}
use Rattle.hmac_core.proofs.hmac.feed_padded.Goals as goal

pub returns : goal.returns
returns g c =
    let block = g.H.Hash.BLOCK in
    let is : take c.BLOCK.result c.xor_each.new.bytes ≡ padded c.args.pad (take block c.args.block.now) =
    ap (λ n. take n c.xor_each.new.bytes) c.BLOCK.ensures
    ∙ (ap (take block) c.xor_each.ensures ∙ take-map (λ (byte : ℕ). bit_xor byte c.args.pad) block c.args.block.now)
    in
    rw is at c.feed.ensures.stands
