use Rattle.aes_core.specs.Cipher.{cipher}
use Rattle.cmac_core.proofs.BlockLemmas.{last_whole, last_short}
use Rattle.cmac_core.proofs.last.last_block.Goals as goal

pub returns-then-used-eq16 : goal.returns-then-used-eq16
returns-then-used-eq16 g c =
    last_whole (cipher g.row.NK c.args.aes.now) c.args.bytes.now c.copy_from_slice.new.self c.first_subkey.result c.add_bytes.new.bytes
    c.if-used-eq16.true c.copy_from_slice.ensures.after c.first_subkey.ensures c.add_bytes.ensures

pub returns : goal.returns
returns g c =
    last_short (cipher g.row.NK c.args.aes.now) c.args.bytes.now c.copy_from_slice.new.self c.second_subkey.result c.add_bytes-2.new.bytes
    c.requires c.if-used-eq16.false c.copy_from_slice.ensures.after c.second_subkey.ensures c.add_bytes-2.ensures
