-- The circuit on registers of 16 bytes, byte by byte.
use Rattle.std.proofs.Common.{◌≡◌, ℕ, zero, suc, ◌<◌, List, [], ◌∷◌, Bool, true, false, get_or, map, length, replicate, refl, sym, ap, ◌∙◌, arith, bit_xor, bit_and}
use Rattle.std.proofs.Math.ListN.{get_or-map}
use Rattle.std.proofs.lemmas.Simd.{length-zip2, get_or-zip2, get_or-replicate}
use Rattle.std.specs.Simd.Lanes.{zip2}
use Rattle.aes_core.specs.Boxes.{sub_byte}
use Rattle.aes_core.specs.declared.sliced.registers.Registers.{Registers}
use Rattle.aes_core.specs.Sliced.{registers_of, lane, byte_across}
use Rattle.aes_core.proofs.Circuit.{Gate, wire, run, picked, gates, places, circuit}
use Rattle.aes_core.proofs.CircuitLemmas.{at_a_place}

-- a register of zeros, which stands for a wire that is not there
abbrev nothing : List ℕ
nothing = replicate 16 0

-- each of these registers has 16 bytes
pub AllWide : List (List ℕ) → Type 0
AllWide registers = (i : ℕ) → length (get_or registers i (replicate 16 0)) ≡ 16

wide_at : (registers : List (List ℕ)) → AllWide registers → (i : ℕ) → length (get_or registers i nothing) ≡ 16
unfolding AllWide
wide_at registers w i = w i

none_wide : AllWide []
unfolding AllWide
none_wide i = refl

one_wide : (v : List ℕ) (registers : List (List ℕ)) → length v ≡ 16 → AllWide registers → AllWide (v ∷ registers)
unfolding AllWide
one_wide v registers lv lr zero = lv
one_wide v registers lv lr (suc i) = lr i

-- the inputs of the circuit: the registers and one of ones
abbrev pub wires_of : Registers → List (List ℕ)
wires_of r = r.bit0 ∷ r.bit1 ∷ r.bit2 ∷ r.bit3 ∷ r.bit4 ∷ r.bit5 ∷ r.bit6 ∷ r.bit7 ∷ replicate 16 255 ∷ []

wires_wide : (r : Registers) → AllWide (wires_of r)
wires_wide r =
    let ones = one_wide (replicate 16 255) [] refl none_wide in
    let upper = one_wide r.bit4 _ r.wide.4 (one_wide r.bit5 _ r.wide.5 (one_wide r.bit6 _ r.wide.6 (one_wide r.bit7 _ r.wide.7 ones))) in
    one_wide r.bit0 _ r.wide.0 (one_wide r.bit1 _ r.wide.1 (one_wide r.bit2 _ r.wide.2 (one_wide r.bit3 _ r.wide.3 upper)))

wire-wide : (wires : List (List ℕ)) (b : Bool) (i j : ℕ) → AllWide wires → length (wire (zip2 bit_xor) (zip2 bit_and) nothing wires b i j) ≡ 16
unfolding wire
wire-wide wires true i j l =
    length-zip2 bit_xor (get_or wires i nothing) (get_or wires j nothing) (wide_at wires l i ∙ sym (wide_at wires l j)) ∙ wide_at wires l i
wire-wide wires false i j l =
    length-zip2 bit_and (get_or wires i nothing) (get_or wires j nothing) (wide_at wires l i ∙ sym (wide_at wires l j)) ∙ wide_at wires l i

run-wide : (gs : List Gate) (wires : List (List ℕ)) → AllWide wires → AllWide (run (zip2 bit_xor) (zip2 bit_and) nothing gs wires)
unfolding run
run-wide [] wires l = l
run-wide (g ∷ gs) wires l =
    let w : List ℕ = wire (zip2 bit_xor) (zip2 bit_and) nothing wires g.0 g.1 g.2 in
    run-wide gs (w ∷ wires) (one_wide w wires (wire-wide wires g.0 g.1 g.2 l) l)

picked-wide : (wires : List (List ℕ)) (is : List ℕ) → AllWide wires → AllWide (picked nothing wires is)
unfolding picked
picked-wide wires [] l = none_wide
picked-wide wires (i ∷ is) l = one_wide (get_or wires i nothing) (picked nothing wires is) (wide_at wires l i) (picked-wide wires is l)

-- the circuit on registers
abbrev pub on_registers : List (List ℕ) → List (List ℕ)
on_registers wires = circuit (zip2 bit_xor) (zip2 bit_and) (replicate 16 0) wires

-- what comes out of it has 16 bytes
pub circuit-wide : (r : Registers) (i : ℕ) → length (get_or (on_registers (wires_of r)) i (replicate 16 0)) ≡ 16
unfolding circuit
circuit-wide r =
    wide_at _ (picked-wide (run (zip2 bit_xor) (zip2 bit_and) nothing gates (wires_of r)) places (run-wide gates (wires_of r) (wires_wide r)))

-- ---- byte by byte

abbrev byte_at : ℕ → List ℕ → ℕ
byte_at p v = get_or v p 0

module _ (p : ℕ) (h : p < 16) where
  wire-lane : (wires : List (List ℕ)) (b : Bool) (i j : ℕ) → AllWide wires
      → byte_at p (wire (zip2 bit_xor) (zip2 bit_and) nothing wires b i j) ≡ wire bit_xor bit_and (byte_at p nothing) (map (byte_at p) wires) b i j
  unfolding wire
  wire-lane wires true i j l =
      get_or-zip2 bit_xor (get_or wires i nothing) (get_or wires j nothing) p 0 0 0 (omega (arith, wide_at wires l i)) (omega (arith, wide_at wires l j))
      ∙ ap (λ x. bit_xor x (byte_at p (get_or wires j nothing))) (sym (get_or-map (byte_at p) wires i nothing))
      ∙ ap (λ y. bit_xor (get_or (map (byte_at p) wires) i (byte_at p nothing)) y) (sym (get_or-map (byte_at p) wires j nothing))
  wire-lane wires false i j l =
      get_or-zip2 bit_and (get_or wires i nothing) (get_or wires j nothing) p 0 0 0 (omega (arith, wide_at wires l i)) (omega (arith, wide_at wires l j))
      ∙ ap (λ x. bit_and x (byte_at p (get_or wires j nothing))) (sym (get_or-map (byte_at p) wires i nothing))
      ∙ ap (λ y. bit_and (get_or (map (byte_at p) wires) i (byte_at p nothing)) y) (sym (get_or-map (byte_at p) wires j nothing))

  run-lane : (gs : List Gate) (wires : List (List ℕ)) → AllWide wires
      → map (byte_at p) (run (zip2 bit_xor) (zip2 bit_and) nothing gs wires) ≡ run bit_xor bit_and (byte_at p nothing) gs (map (byte_at p) wires)
  unfolding run
  run-lane [] wires l = refl
  run-lane (g ∷ gs) wires l =
      let w : List ℕ = wire (zip2 bit_xor) (zip2 bit_and) nothing wires g.0 g.1 g.2 in
      run-lane gs (w ∷ wires) (one_wide w wires (wire-wide wires g.0 g.1 g.2 l) l)
      ∙ ap (λ x. run bit_xor bit_and (byte_at p nothing) gs (x ∷ map (byte_at p) wires)) (wire-lane wires g.0 g.1 g.2 l)

  picked-lane : (wires : List (List ℕ)) (is : List ℕ)
      → map (byte_at p) (picked nothing wires is) ≡ picked (byte_at p nothing) (map (byte_at p) wires) is
  unfolding picked
  picked-lane wires [] = refl
  picked-lane wires (i ∷ is) =
      ap (λ x. x ∷ map (byte_at p) (picked nothing wires is)) (sym (get_or-map (byte_at p) wires i nothing))
      ∙ ap (λ l. get_or (map (byte_at p) wires) i (byte_at p nothing) ∷ l) (picked-lane wires is)

  circuit-lane : (inputs : List (List ℕ)) → AllWide inputs
      → map (byte_at p) (circuit (zip2 bit_xor) (zip2 bit_and) nothing inputs) ≡ circuit bit_xor bit_and (byte_at p nothing) (map (byte_at p) inputs)
  unfolding circuit
  circuit-lane inputs l =
      picked-lane (run (zip2 bit_xor) (zip2 bit_and) nothing gates inputs) places
      ∙ ap (λ wires. picked (byte_at p nothing) wires places) (run-lane gates inputs l)

-- at each place of each byte
pub at_a_lane : (r : Registers) (p k : ℕ) → p < 16 → k < 8
    → byte_across k (lane p (on_registers (wires_of r))) ≡ sub_byte (byte_across k (lane p (registers_of r)))
at_a_lane r p k lt kt =
    let wires : List (List ℕ) = wires_of r in
    let b : List ℕ → ℕ = byte_at p in
    ap (byte_across k)
    (circuit-lane p lt wires (wires_wide r)
    ∙ ap (λ z. circuit bit_xor bit_and z (map b wires)) (get_or-replicate 16 p 0 0 lt)
    ∙ ap (λ o. circuit bit_xor bit_and 0
    (b r.bit0 ∷ b r.bit1 ∷ b r.bit2 ∷ b r.bit3 ∷ b r.bit4 ∷ b r.bit5 ∷ b r.bit6 ∷ b r.bit7 ∷ o ∷ []))
    (get_or-replicate 16 p 255 0 lt))
    ∙ at_a_place (b r.bit0) (b r.bit1) (b r.bit2) (b r.bit3) (b r.bit4) (b r.bit5) (b r.bit6) (b r.bit7) k kt
