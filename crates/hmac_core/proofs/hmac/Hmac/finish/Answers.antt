use Rattle.std.proofs.Common.{◌≡◌, ◌≤◌, ◌++◌, [], length, take, ap, ◌∙◌, arith}
use Rattle.hmac_core.specs.Hmac.{padded, inner_pad, outer_pad, code_under}
use Rattle.hmac_core.proofs.Blocks.{length-padded}
use Rattle.hmac_core.proofs.hmac.Hmac.finish.Goals as goal

pub returns-clause-code : goal.returns-clause-code
unfolding code_under
returns-clause-code g c = λ message holds.
    let laws = g.met.H.Hash in
    let hash = g.H.Hash.digest in
    let block = take g.H.Hash.BLOCK c.args.self.block in
    let inner = padded inner_pad block ++ message in
    let many = laws.many in
    let digest : take c.finish-len.result c.finish-len.new.out ≡ hash inner = ap (λ n. take n c.finish-len.new.out) c.finish-len.ensures.len ∙ c.finish-len.ensures.digest inner holds in
    let padded_len : length (padded outer_pad block) ≤ 128 = omega (arith, length-padded outer_pad g.H.Hash.BLOCK c.args.self.block, laws.small) in
    let front = c.feed_padded.ensures [] c.start-outer.ensures (omega (arith, many)) in
    let fed = rw digest at c.feed.ensures.stands in
    let size = laws.has_length inner in
    let short = laws.short in
    let whole = fed (padded outer_pad block) front (omega (arith, many, size, short)) in
    c.finish.ensures.digest (padded outer_pad block ++ hash inner) whole
