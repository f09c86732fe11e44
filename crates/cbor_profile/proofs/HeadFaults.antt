-- Each answer about a head but want of bytes stands, whatever follows; and a head is bad at its first byte.
use Rattle.std.proofs.Common.{◌≡◌, ℕ, ◌+◌, ◌/◌, ◌%◌, ◌<◌, ◌≤◌, ◌⊎◌, ◌||◌, ◌&&◌, inl, inr, false, List, [], ◌∷◌, ◌++◌, length, refl, sym, ◌∙◌, ap, subst, arith}
use Rattle.std.specs.Prelude.{◌==◌, nat_le}
use Rattle.std.specs.Int.{w8, w16, w32, w64, from_be_bytes, to_be_bytes}
use Rattle.std.proofs.lemmas.Bool.{cases_Bool, cases_lt, le-ltb, lt-ltb, leb-false, cases_eq, or_parts}
use Rattle.std.proofs.lemmas.List.{length-append, take-append-le}
use Rattle.cbor_profile.specs.declared.head.Head.{Head}
use Rattle.cbor_profile.specs.declared.head.HeadRead.TheVariants.{Whole, Short, NotShortest, Bad}
use Rattle.cbor_profile.specs.Head.{first_byte, spelling, IsHead, following, argument, least, is_bad, read_head}
use Rattle.cbor_profile.proofs.Heads.{read-spelling, not_bad}

-- the argument is the same with more bytes behind it
Stays : List ℕ → List ℕ → ℕ → Type 0
Stays rest more low = following low ≤ length rest → argument low (rest ++ more) ≡ argument low rest

same_argument : (rest more : List ℕ) (low : ℕ) → low < 28 → Stays rest more low
unfolding Stays
same_argument rest more low lt =
    elim (cases_lt low 24) [
      | inl small ↦ λ le. rw (lt-ltb low 24 small) refl
      | inr large ↦ elim (cases_eq low 24) [
        | inl e ↦ subst (Stays rest more) (sym e) (λ le. ap (λ (b : List ℕ). from_be_bytes w8 b) (take-append-le 1 rest more le))
        | inr n24 ↦ elim (cases_eq low 25) [
          | inl e ↦ subst (Stays rest more) (sym e) (λ le. ap (λ (b : List ℕ). from_be_bytes w16 b) (take-append-le 2 rest more le))
          | inr n25 ↦ elim (cases_eq low 26) [
            | inl e ↦ subst (Stays rest more) (sym e) (λ le. ap (λ (b : List ℕ). from_be_bytes w32 b) (take-append-le 4 rest more le))
            | inr n26 ↦ let e : low ≡ 27 = omega arith in subst (Stays rest more) (sym e) (λ le. ap (λ (b : List ℕ). from_be_bytes w64 b) (take-append-le 8 rest more le))
          ]
        ]
      ]
    ]

low_below : (first : ℕ) → is_bad first ≡ false → first % 32 < 28
low_below first fine =
    let a = or_parts (first / 32 == 6) (nat_le 28 (first % 32) || ((first / 32 == 7) && nat_le 24 (first % 32))) fine in
    leb-false _ _ (or_parts (nat_le 28 (first % 32)) ((first / 32 == 7) && nat_le 24 (first % 32)) a.1).0

pub answer_stands : (bytes more : List ℕ) → (read_head bytes ≡ Short → ⊥) → read_head (bytes ++ more) ≡ read_head bytes
unfolding read_head Stays
answer_stands [] more whole = absurd (whole refl)
answer_stands (first ∷ rest) more whole =
    elim (cases_Bool (is_bad first)) [
      | inl bad ↦ rw bad refl
      | inr fine ↦ elim (cases_lt (length rest) (following (first % 32))) [
        | inl short ↦ absurd (whole (rw (fine, lt-ltb _ _ short) refl))
        | inr long ↦
            let longer : following (first % 32) ≤ length (rest ++ more) = omega (arith, length-append rest more) in
            let same = same_argument rest more (first % 32) (low_below first fine) long in
            rw (fine, le-ltb _ _ long, le-ltb _ _ longer, same) refl
      ]
    ]

-- ---- a head is bad where no spelling begins with its first byte

-- the argument that a first byte with these low five bits spells
Begins : ℕ → ℕ → Type 0
Begins major low = (head : Head) × (others : List ℕ) × IsHead head × (spelling head ≡ first_byte major low ∷ others)

begins_wide : (major low : ℕ) → major < 6 → low < 28 → 24 ≤ low → Begins major low
unfolding Begins spelling
begins_wide major low kind lt le =
    elim (cases_eq low 24) [
      | inl e ↦ subst (Begins major) (sym e) (record { major = major; value = 24 }, to_be_bytes w8 24, (omega arith, inl kind), refl)
      | inr n24 ↦ elim (cases_eq low 25) [
        | inl e ↦ subst (Begins major) (sym e) (record { major = major; value = 256 }, to_be_bytes w16 256, (omega arith, inl kind), refl)
        | inr n25 ↦ elim (cases_eq low 26) [
          | inl e ↦ subst (Begins major) (sym e) (record { major = major; value = 65536 }, to_be_bytes w32 65536, (omega arith, inl kind), refl)
          | inr n26 ↦ let e : low ≡ 27 = omega arith in subst (Begins major) (sym e) (record { major = major; value = 4294967296 }, to_be_bytes w64 4294967296, (omega arith, inl kind), refl)
        ]
      ]
    ]

begins : (major low : ℕ) → (low < 28) × ((major < 6) ⊎ ((major ≡ 7) × (low < 24))) → Begins major low
unfolding Begins spelling
begins major low (lt, kind) =
    elim (cases_lt low 24) [
      | inl small ↦ (record { major = major; value = low }, [], (omega arith, kind), rw (lt-ltb low 24 small) refl)
      | inr large ↦ elim kind [ inl below ↦ begins_wide major low below lt large | inr seven ↦ absurd (omega (arith, seven.1)) ]
    ]

pub bad_begins_none : (first : ℕ) (rest : List ℕ) → read_head (first ∷ rest) ≡ Bad → (head : Head) (others : List ℕ) → IsHead head → spelling head ≡ first ∷ others → ⊥
unfolding read_head
bad_begins_none first rest bad head others fits e =
    let whole : read_head (first ∷ (others ++ [])) ≡ Whole head (length (spelling head)) = subst (λ (s : List ℕ). read_head (s ++ []) ≡ Whole head (length (spelling head))) e (read-spelling head [] fits) in
    elim (cases_Bool (is_bad first)) [
      | inl bads ↦ let b : read_head (first ∷ (others ++ [])) ≡ Bad = rw bads refl in let c : Bad ≡ Whole head (length (spelling head)) = sym b ∙ whole in cc
      | inr fine ↦ elim (cases_lt (length rest) (following (first % 32))) [
        | inl short ↦ let b : read_head (first ∷ rest) ≡ Short = rw (fine, lt-ltb _ _ short) refl in let c : Bad ≡ Short = sym bad ∙ b in cc
        | inr long ↦ elim (cases_lt (argument (first % 32) rest) (least (first % 32))) [
          | inl few ↦ let b : read_head (first ∷ rest) ≡ NotShortest = rw (fine, le-ltb _ _ long, lt-ltb _ _ few) refl in let c : Bad ≡ NotShortest = sym bad ∙ b in cc
          | inr enough ↦ let b : read_head (first ∷ rest) ≡ Whole (record { major = first / 32; value = argument (first % 32) rest }) (following (first % 32) + 1) = rw (fine, le-ltb _ _ long, le-ltb _ _ enough) refl in let c : Bad ≡ Whole (record { major = first / 32; value = argument (first % 32) rest }) (following (first % 32) + 1) = sym bad ∙ b in cc
        ]
      ]
    ]

pub none_begins_bad : (first : ℕ) (rest : List ℕ) → first < 256 → ((head : Head) (others : List ℕ) → IsHead head → spelling head ≡ first ∷ others → ⊥) → read_head (first ∷ rest) ≡ Bad
unfolding read_head Begins
none_begins_bad first rest byte none =
    elim (cases_Bool (is_bad first)) [
      | inl bads ↦ rw bads refl
      | inr fine ↦
          let b = begins (first / 32) (first % 32) (not_bad (first / 32) (first % 32) (omega arith) fine) in
          let is : first_byte (first / 32) (first % 32) ≡ first = omega arith in
          absurd (none b.0 b.1 b.2 (b.3 ∙ ap (λ (f : ℕ). f ∷ b.1) is))
    ]
