-- Circuits of sums and products, over any carrier, and that of the S-box.
use Rattle.std.proofs.Common.{ℕ, List, [], ◌∷◌, Bool, true, false, get_or}

-- a gate: whether it is a sum, and the places of its two inputs among the wires, the newest first
abbrev pub Gate : Type 0
Gate = Bool × ℕ × ℕ

unfoldable pub wire : {A : Type 0} → (A → A → A) → (A → A → A) → A → List A → Bool → ℕ → ℕ → A
wire plus times none wires true i j = plus (get_or wires i none) (get_or wires j none)
wire plus times none wires false i j = times (get_or wires i none) (get_or wires j none)

-- the wires after these gates
unfoldable pub run : {A : Type 0} → (A → A → A) → (A → A → A) → A → List Gate → List A → List A
run plus times none [] wires = wires
run plus times none (g ∷ gs) wires = run plus times none gs (wire plus times none wires g.0 g.1 g.2 ∷ wires)

-- the wires at these places
unfoldable pub picked : {A : Type 0} → A → List A → List ℕ → List A
picked none wires [] = []
picked none wires (i ∷ is) = get_or wires i none ∷ picked none wires is

-- the S-box, from the eight bits, the lowest first, and a one (Boyar and Peralta, "A new combinational logic minimization
-- technique with applications to cryptology", 2010)
abbrev pub gates : List Gate
gates =
    (true, 4, 2) ∷ (true, 8, 2) ∷ (true, 9, 6) ∷ (true, 10, 5) ∷ (true, 10, 9) ∷ (true, 0, 5) ∷ (true, 0, 10)
    ∷ (true, 5, 6) ∷ (true, 2, 15) ∷ (true, 3, 10) ∷ (true, 0, 6) ∷ (true, 14, 3) ∷ (true, 0, 14) ∷ (true, 1, 19)
    ∷ (true, 1, 14) ∷ (true, 2, 10) ∷ (true, 2, 13) ∷ (true, 17, 0) ∷ (true, 2, 1) ∷ (true, 3, 15) ∷ (true, 15, 3)
    ∷ (true, 19, 0) ∷ (true, 29, 1) ∷ (false, 15, 10) ∷ (false, 13, 9) ∷ (true, 0, 1) ∷ (false, 19, 26) ∷ (true, 0, 3)
    ∷ (false, 26, 7) ∷ (false, 19, 23) ∷ (true, 0, 1) ∷ (false, 22, 13) ∷ (true, 0, 3) ∷ (false, 30, 16)
    ∷ (false, 33, 15) ∷ (true, 0, 1) ∷ (false, 32, 20) ∷ (true, 0, 3) ∷ (true, 12, 2) ∷ (true, 11, 1) ∷ (true, 9, 4)
    ∷ (true, 8, 3) ∷ (true, 3, 28) ∷ (true, 3, 23) ∷ (true, 3, 22) ∷ (true, 3, 22) ∷ (true, 3, 2) ∷ (false, 4, 2)
    ∷ (true, 2, 0) ∷ (false, 2, 0) ∷ (true, 0, 6) ∷ (true, 6, 5) ∷ (true, 8, 4) ∷ (false, 0, 1) ∷ (true, 0, 8)
    ∷ (true, 10, 0) ∷ (true, 7, 1) ∷ (false, 11, 0) ∷ (true, 0, 2) ∷ (true, 10, 1) ∷ (false, 9, 0) ∷ (true, 14, 0)
    ∷ (true, 0, 3) ∷ (true, 12, 8) ∷ (true, 13, 2) ∷ (true, 10, 6) ∷ (true, 2, 3) ∷ (false, 1, 54) ∷ (false, 9, 53)
    ∷ (false, 14, 69) ∷ (false, 5, 49) ∷ (false, 9, 65) ∷ (false, 21, 54) ∷ (false, 9, 56) ∷ (false, 7, 55)
    ∷ (false, 12, 59) ∷ (false, 10, 68) ∷ (false, 18, 66) ∷ (false, 23, 71) ∷ (false, 14, 77) ∷ (false, 18, 70)
    ∷ (false, 30, 72) ∷ (false, 18, 79) ∷ (false, 16, 82) ∷ (false, 21, 80) ∷ (true, 2, 1) ∷ (true, 8, 7)
    ∷ (true, 14, 6) ∷ (true, 11, 10) ∷ (true, 19, 9) ∷ (true, 20, 17) ∷ (true, 16, 15) ∷ (true, 24, 21)
    ∷ (true, 19, 18) ∷ (true, 10, 9) ∷ (true, 15, 7) ∷ (true, 6, 3) ∷ (true, 25, 11) ∷ (true, 27, 4) ∷ (true, 13, 2)
    ∷ (true, 18, 3) ∷ (true, 9, 3) ∷ (true, 13, 4) ∷ (true, 31, 4) ∷ (true, 3, 2) ∷ (true, 36, 2) ∷ (true, 7, 3)
    ∷ (true, 11, 5) ∷ (true, 0, 116) ∷ (true, 21, 9) ∷ (true, 0, 118) ∷ (true, 7, 6) ∷ (true, 19, 6) ∷ (true, 22, 7)
    ∷ (true, 27, 9) ∷ (true, 11, 2) ∷ (true, 0, 124) ∷ (true, 22, 5) ∷ (true, 0, 126) ∷ []

-- the places of its eight bits, the lowest first
abbrev pub places : List ℕ
places = 8 ∷ 10 ∷ 4 ∷ 5 ∷ 6 ∷ 0 ∷ 2 ∷ 12 ∷ []

unfoldable pub circuit : {A : Type 0} → (A → A → A) → (A → A → A) → A → List A → List A
circuit plus times none inputs = picked none (run plus times none gates inputs) places
