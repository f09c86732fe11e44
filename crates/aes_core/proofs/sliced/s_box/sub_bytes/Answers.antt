use Rattle.aes_core.specs.Boxes.{sub_byte}
use Rattle.aes_core.specs.State.{sub_bytes}
use Rattle.aes_core.specs.Sliced.{registers_of}
use Rattle.aes_core.proofs.Circuit.{wire, run, picked, circuit}
use Rattle.aes_core.proofs.BlockLemmas.{each_byte}
use Rattle.aes_core.proofs.LaneLemmas.{wires_of, on_registers, circuit-wide, at_a_lane}
use Rattle.aes_core.proofs.sliced.s_box.sub_bytes.Goals as goal

pub invariant_of-result : goal.invariant_of-result
unfolding wire run picked circuit
invariant_of-result c =
    let wide = circuit-wide c.args.r in
    record { wide = (wide 0, wide 1, wide 2, wide 3, wide 4, wide 5, wide 6, wide 7) }

pub returns : goal.returns
unfolding wire run picked circuit sub_bytes
returns c = λ j lt.
    let r = c.args.r in
    each_byte sub_byte (registers_of r) (on_registers (wires_of r)) j (λ p h. at_a_lane r p j h lt)
