use Rattle.std.proofs.Common.{◌≡◌, ◌<◌, ◌≤◌, [], length, take, ◌∙◌, ap, sym, arith}
use Rattle.hmac_core.proofs.Blocks.{filled_front, long_key, short_key}
use Rattle.hmac_core.proofs.hmac.block_of.Goals as goal

pub returns-then-key-BLOCK : goal.returns-then-key-BLOCK
returns-then-key-BLOCK g c =
    let laws = g.met.H.Hash in
    let block = g.H.Hash.BLOCK in
    let key = c.args.key.now in
    let digest = g.H.Hash.digest key in
    let many = laws.many in
    let whole = c.feed.ensures.stands [] c.start-hash.ensures (omega (arith, many)) in
    let is : take c.finish-len.result c.finish-len.new.out ≡ digest = ap (λ n. take n c.finish-len.new.out) c.finish-len.ensures.len ∙ c.finish-len.ensures.digest key whole in
    let written = rw is at c.put_front.ensures in
    let size = laws.has_length key in
    let within = laws.within in
    let small = laws.small in
    let long : block < length key = omega (arith, c.BLOCK.ensures, c.if-key-BLOCK.true) in
    ap (take block) written ∙ (filled_front block digest (omega (arith, size, within)) small ∙ sym (long_key g.H.Hash.digest block key long))

pub returns-else-key-BLOCK : goal.returns-else-key-BLOCK
returns-else-key-BLOCK g c =
    let laws = g.met.H.Hash in
    let block = g.H.Hash.BLOCK in
    let key = c.args.key.now in
    let short : length key ≤ block = omega (arith, c.BLOCK.ensures, c.if-key-BLOCK.false) in
    ap (take block) c.put_front-else-key-BLOCK.ensures ∙ (filled_front block key short laws.small ∙ sym (short_key g.H.Hash.digest block key short))
