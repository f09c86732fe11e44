use Rattle.std.proofs.Common.{length, ap, sym, arith}
use Rattle.cbor_profile.specs.Put.{uint}
use Rattle.cbor_profile.proofs.Sizes.{head_same, three_at_most}
use Rattle.bp_eid.proofs.Ids.{length-dtn_text}
use Rattle.bp_eid.proofs.Pieces.{length-null, length-dtn, length-ipn}
use Rattle.bp_eid.proofs.eid.Eid.size.Goals as goal

pub returns-in-Null-clause-size : goal.returns-in-Null-clause-size
returns-in-Null-clause-size c = sym (rw c.in-Null.is length-null)

pub returns-in-Dtn-clause-size : goal.returns-in-Dtn-clause-size
unfolding uint
returns-in-Dtn-clause-size c = rw (c.in-Dtn.is, ← c.bytes.ensures.value, length-dtn) (omega (arith, c.uint_size.ensures.size, head_same 3 0 (length c.bytes.result.now)))

pub returns-in-Dtn-clause-within : goal.returns-in-Dtn-clause-within
unfolding uint
returns-in-Dtn-clause-within c =
    let len = ap length c.bytes.ensures.value in
    let short = length-dtn_text c.in-Dtn.text c.bytes.ensures.rule in
    omega (arith, len, short, c.uint_size.ensures.size, three_at_most 0 (length c.bytes.result.now))

pub returns-in-Ipn-clause-size : goal.returns-in-Ipn-clause-size
unfolding uint
returns-in-Ipn-clause-size c = rw (c.in-Ipn.is, length-ipn) (omega (arith, c.uint_size-in-Ipn.ensures.size, c.uint_size-in-Ipn-2.ensures.size))
