use Rattle.bpsec_scope.specs.View.{parts_of}
use Rattle.bpsec_secure.proofs.SigningLemmas.{Laws, signs}
use Rattle.bpsec_secure.proofs.signing.sign.Goals as goal

pub unreachable-requires : goal.unreachable-requires
unreachable-requires g c =
    let laws : Laws = record { numbers = c.numbers_are_read_as_spelled.ensures.again; texts = c.byte_strings_are_read_as_spelled.ensures.again; unwraps = c.unwrapping_undoes_wrapping.ensures; longer = c.wrapped_keys_have_eight_bytes_more.ensures.longer } in
    let right = signs laws c.args.ring.now c.args.cover.now (parts_of c.args.covered.now) c.requires.usable c.outer_key-key.ensures.working c.outer_key-key.ensures.bytes in
    let was = rw (c.requires.suite, c.outer_key-key.ensures.value, c.requires.parameters) at c.in-Err.ensures in
    cc

pub returns-clause-code : goal.returns-clause-code
returns-clause-code g c =
    let laws : Laws = record { numbers = c.numbers_are_read_as_spelled.ensures.again; texts = c.byte_strings_are_read_as_spelled.ensures.again; unwraps = c.unwrapping_undoes_wrapping.ensures; longer = c.wrapped_keys_have_eight_bytes_more.ensures.longer } in
    let right = signs laws c.args.ring.now c.args.cover.now (parts_of c.args.covered.now) c.requires.usable c.outer_key-key.ensures.working c.outer_key-key.ensures.bytes in
    let was = rw (c.requires.suite, c.outer_key-key.ensures.value, c.requires.parameters) at c.in-Ok.ensures.1 in
    cc
