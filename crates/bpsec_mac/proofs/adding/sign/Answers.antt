use Rattle.bpsec_scope.specs.View.{parts_of}
use Rattle.bpsec_mac.proofs.Codes.{same_code, signs_cover}
use Rattle.bpsec_mac.proofs.adding.sign.Goals as goal

pub unreachable-requires : goal.unreachable-requires
unreachable-requires c =
    let right = signs_cover c.numbers_are_read_as_spelled.ensures.again c.args.ring.now c.args.cover.now (parts_of c.args.covered.now) c.requires.key in
    let was = rw (c.key_named-key.ensures, c.as_slice.ensures, c.requires.parameters) at c.in-Err.ensures in
    cc

pub returns-clause-code : goal.returns-clause-code
returns-clause-code c =
    let right = signs_cover c.numbers_are_read_as_spelled.ensures.again c.args.ring.now c.args.cover.now (parts_of c.args.covered.now) c.requires.key in
    let was = rw (c.key_named-key.ensures, c.as_slice.ensures, c.requires.parameters) at c.in-Ok.ensures.1 in
    same_code _ _ _ was right
