use Rattle.std.proofs.Common.{List, Bool, [], ◌++◌, ◌∙◌, arith, subst}
use Rattle.aes_core.specs.Cipher.{cipher}
use Rattle.gcm_core.specs.Hash.{filled, Hashes}
use Rattle.gcm_core.proofs.TagLemmas.{first_block_of_12, first_block_of_others, Hashes_none}
use Rattle.gcm_core.proofs.tag.first_block.Goals as goal

pub returns-then-iv-eq12 : goal.returns-then-iv-eq12
returns-then-iv-eq12 g c =
    rw c.copy_from_slice.ensures.after (first_block_of_12 (cipher g.row.NK c.args.aes.now) c.args.iv.now c.if-iv-eq12.true)

pub returns : goal.returns
returns g c =
    let iv = c.args.iv.now in
    let held : Hashes c.args.subkey.now (filled iv ++ filled c.lengths.result) c.absorb.result =
    c.absorb.ensures (filled iv) (c.absorb-hash.ensures [] (Hashes_none c.args.subkey.now)) in
    c.to_be_bytes.ensures
    ∙ first_block_of_others (cipher g.row.NK c.args.aes.now) iv c.lengths.result c.absorb.result c.if-iv-eq12.false c.lengths.ensures
    (omega arith)
    (subst (λ (h : List Bool). Hashes h (filled iv ++ filled c.lengths.result) c.absorb.result) c.requires held)
