-- What is spelled as a head is read as that head, and what is read as a head is spelled so.
use Rattle.std.proofs.Common.{◌≡◌, ℕ, suc, ◌+◌, ◌/◌, ◌%◌, ◌^◌, ◌||◌, ◌&&◌, ◌<◌, ◌≤◌, ◌⊎◌, inl, inr, Bool, true, false, cond, ltb, subst, List, [], ◌∷◌, ◌++◌, length, take, refl, sym, ◌∙◌, ap, arith}
use Rattle.std.specs.Prelude.{◌==◌, nat_le}
use Rattle.std.specs.Int.{Width, w8, w16, w32, w64, byte_len, from_be_bytes, to_be_bytes}
use Rattle.std.proofs.lemmas.Bool.{cases_lt, ltb-false, le-ltb, lt-ltb, leb-false, eqb-false, cases_eq, or_parts, and_cases}
use Rattle.std.proofs.lemmas.List.{length-append, length-take}
use Rattle.std.proofs.lemmas.Bool.Decides.{nat_tests}
use Rattle.cbor_profile.specs.declared.head.Head.{Head}
use Rattle.cbor_profile.specs.declared.head.HeadRead.{HeadRead}
use Rattle.cbor_profile.specs.declared.head.HeadRead.TheVariants.{Whole, Short, NotShortest, Bad}
use Rattle.cbor_profile.specs.Head.{first_byte, head_spelling, spelling, IsHead, following, argument, least, is_bad, read_head}
use Rattle.cbor_profile.specs.HeadAnswer.{IfWhole}
use Rattle.cbor_profile.proofs.Wide.{IsBytes, IsBytes-take, IsWide, wide8, wide16, wide32, wide64, read_again}

fine_kind : (major low : ℕ) → low < 28 → (major < 6) ⊎ ((major ≡ 7) × (low < 24)) → ((major == 6) || (nat_le 28 low || ((major == 7) && nat_le 24 low))) ≡ false
fine_kind major low lt (inl below) = grind (arith, nat_tests)
fine_kind major low lt (inr seven) = grind (arith, nat_tests)

-- a first byte that isn't bad, with its argument
read_first : (major low : ℕ) (rest : List ℕ) → low < 28 → (major < 6) ⊎ ((major ≡ 7) × (low < 24)) → following low ≤ length rest → least low ≤ argument low rest
    → read_head (first_byte major low ∷ rest) ≡ Whole (record { major = major; value = argument low rest }) (following low + 1)
unfolding read_head
read_first major low rest lt kind long enough =
    let d : first_byte major low / 32 ≡ major = omega arith in
    let m : first_byte major low % 32 ≡ low = omega arith in
    let fine : is_bad (first_byte major low) ≡ false = rw (d, m) (fine_kind major low lt kind) in
    rw (fine, m, d, le-ltb _ _ long, le-ltb _ _ enough) refl

-- the same where the argument stands in the bytes that follow
read_wide : (w : Width) (limit : ℕ) (wide : IsWide w limit) (major low a : ℕ) (rest : List ℕ) → low < 28 → major < 6 → a < limit → following low ≡ byte_len w
    → ((bytes : List ℕ) → argument low bytes ≡ from_be_bytes w (take (byte_len w) bytes)) → least low ≤ a
    → read_head ((first_byte major low ∷ to_be_bytes w a) ++ rest) ≡ Whole (record { major = major; value = a }) (length (first_byte major low ∷ to_be_bytes w a))
read_wide w limit wide major low a rest lt kind fits len arg enough =
    let is : argument low (to_be_bytes w a ++ rest) ≡ a = arg (to_be_bytes w a ++ rest) ∙ read_again w limit wide a rest fits in
    let long : following low ≤ length (to_be_bytes w a ++ rest) = omega (arith, length-append (to_be_bytes w a) rest, wide.len a) in
    let count : following low + 1 ≡ length (first_byte major low ∷ to_be_bytes w a) = omega (arith, wide.len a) in
    read_first major low (to_be_bytes w a ++ rest) lt (inl kind) long (rw is enough) ∙ rw (is, count) refl

-- the same where the argument stands in the first byte
read_short : (major a : ℕ) (rest : List ℕ) → a < 24 → (major < 6) ⊎ ((major ≡ 7) × (a < 24)) → read_head (first_byte major a ∷ rest) ≡ Whole (record { major = major; value = a }) 1
read_short major a rest lt kind =
    let yes = lt-ltb a 24 lt in
    let none : following a ≡ 0 = rw yes refl in
    let self : argument a rest ≡ a = rw yes refl in
    let nought : least a ≡ 0 = rw yes refl in
    read_first major a rest (omega arith) kind (omega arith) (omega arith) ∙ rw (self, none) refl

below_six : (head : Head) → IsHead head → 24 ≤ head.value → head.major < 6
below_six head h le = elim h.1 [ inl below ↦ below | inr seven ↦ absurd (omega arith) ]

pub read-spelling : (head : Head) (rest : List ℕ) → IsHead head → read_head (spelling head ++ rest) ≡ Whole head (length (spelling head))
unfolding spelling
read-spelling head rest h =
    let a = head.value in
    let m = head.major in
    elim (cases_lt a 24) [
      | inl lt ↦ rw (lt-ltb _ _ lt) (read_short m a rest lt h.1)
      | inr le ↦
          let six = below_six head h le in
          rw (le-ltb _ _ le) (elim (cases_lt a (2 ^ 8)) [
            | inl lt ↦ rw (lt-ltb _ _ lt) (read_wide w8 (2 ^ 8) wide8 m 24 a rest (omega arith) six lt refl (λ _. refl) le)
            | inr le2 ↦ rw (le-ltb _ _ le2) (elim (cases_lt a (2 ^ 16)) [
              | inl lt ↦ rw (lt-ltb _ _ lt) (read_wide w16 (2 ^ 16) wide16 m 25 a rest (omega arith) six lt refl (λ _. refl) le2)
              | inr le3 ↦ rw (le-ltb _ _ le3) (elim (cases_lt a (2 ^ 32)) [
                | inl lt ↦ rw (lt-ltb _ _ lt) (read_wide w32 (2 ^ 32) wide32 m 26 a rest (omega arith) six lt refl (λ _. refl) le3)
                | inr le4 ↦ rw (le-ltb _ _ le4) (read_wide w64 (2 ^ 64) wide64 m 27 a rest (omega arith) six h.0 refl (λ _. refl) le4)
              ])
            ])
          ])
    ]

-- ---- what was read

-- the spelling is the bytes read, and the argument fits
Spells : ℕ → ℕ → List ℕ → Type 0
Spells major low rest = (take (following low + 1) (first_byte major low ∷ rest) ≡ head_spelling major (argument low rest)) × (argument low rest < 2 ^ 64)

-- a premise for each form of argument
abbrev IsRead : ℕ → ℕ → List ℕ → Type 0
IsRead major low rest = following low ≤ length rest → least low ≤ argument low rest → Spells major low rest

wide_bytes : (w : Width) (limit : ℕ) (wide : IsWide w limit) (first : ℕ) (rest : List ℕ) → IsBytes rest → byte_len w ≤ length rest
    → (first ∷ take (byte_len w) rest ≡ first ∷ to_be_bytes w (from_be_bytes w (take (byte_len w) rest))) × (from_be_bytes w (take (byte_len w) rest) < limit)
wide_bytes w limit wide first rest fits long =
    let front = IsBytes-take (byte_len w) rest fits in
    (ap (λ (bytes : List ℕ). first ∷ bytes) (sym (wide.back (take (byte_len w) rest) (omega (arith, length-take (byte_len w) rest)) front)), wide.below (take (byte_len w) rest) front)

read_8 : (major : ℕ) (rest : List ℕ) → IsBytes rest → IsRead major 24 rest
unfolding Spells
read_8 major rest fits long enough =
    let b = wide_bytes w8 (2 ^ 8) wide8 (first_byte major 24) rest fits long in
    (b.0 ∙ rw (le-ltb _ _ enough, lt-ltb _ _ b.1) refl, omega arith)

read_16 : (major : ℕ) (rest : List ℕ) → IsBytes rest → IsRead major 25 rest
unfolding Spells
read_16 major rest fits long enough =
    let b = wide_bytes w16 (2 ^ 16) wide16 (first_byte major 25) rest fits long in
    let a = from_be_bytes w16 (take 2 rest) in
    let e1 : 24 ≤ a = omega arith in
    (b.0 ∙ rw (le-ltb _ _ e1, le-ltb _ _ enough, lt-ltb _ _ b.1) refl, omega arith)

read_32 : (major : ℕ) (rest : List ℕ) → IsBytes rest → IsRead major 26 rest
unfolding Spells
read_32 major rest fits long enough =
    let b = wide_bytes w32 (2 ^ 32) wide32 (first_byte major 26) rest fits long in
    let a = from_be_bytes w32 (take 4 rest) in
    let e1 : 24 ≤ a = omega arith in
    let e2 : 2 ^ 8 ≤ a = omega arith in
    (b.0 ∙ rw (le-ltb _ _ e1, le-ltb _ _ e2, le-ltb _ _ enough, lt-ltb _ _ b.1) refl, omega arith)

read_64 : (major : ℕ) (rest : List ℕ) → IsBytes rest → IsRead major 27 rest
unfolding Spells
read_64 major rest fits long enough =
    let b = wide_bytes w64 (2 ^ 64) wide64 (first_byte major 27) rest fits long in
    let a = from_be_bytes w64 (take 8 rest) in
    let e1 : 24 ≤ a = omega arith in
    let e2 : 2 ^ 8 ≤ a = omega arith in
    let e3 : 2 ^ 16 ≤ a = omega arith in
    (b.0 ∙ rw (le-ltb _ _ e1, le-ltb _ _ e2, le-ltb _ _ e3, le-ltb _ _ enough) refl, b.1)

read_small : (major low : ℕ) (rest : List ℕ) → low < 24 → IsRead major low rest
unfolding Spells
read_small major low rest lt long enough =
    let yes = lt-ltb low 24 lt in
    let none : following low ≡ 0 = rw yes refl in
    let self : argument low rest ≡ low = rw yes refl in
    (rw (none, self, yes) refl, rw self (omega arith))

spells : (major low : ℕ) (rest : List ℕ) → low < 28 → IsBytes rest → IsRead major low rest
spells major low rest lt fits =
    let P : ℕ → Type 0 = λ l. IsRead major l rest in
    elim (cases_lt low 24) [
      | inl small ↦ read_small major low rest small
      | inr le ↦ elim (cases_eq low 24) [
        | inl e ↦ subst P (sym e) (read_8 major rest fits)
        | inr n24 ↦ elim (cases_eq low 25) [
          | inl e ↦ subst P (sym e) (read_16 major rest fits)
          | inr n25 ↦ elim (cases_eq low 26) [
            | inl e ↦ subst P (sym e) (read_32 major rest fits)
            | inr n26 ↦ let e : low ≡ 27 = omega arith in subst P (sym e) (read_64 major rest fits)
          ]
        ]
      ]
    ]

-- a test that did not answer
pub passed : (b : Bool) (x y z : HeadRead) → cond b x y ≡ z → (x ≡ z → ⊥) → (b ≡ false) × (y ≡ z)
passed true x y z e differs = absurd (differs e)
passed false x y z e differs = (refl, e)

pub not_bad : (major low : ℕ) → major < 8 → ((major == 6) || (nat_le 28 low || ((major == 7) && nat_le 24 low))) ≡ false → (low < 28) × ((major < 6) ⊎ ((major ≡ 7) × (low < 24)))
not_bad major low lt fine =
    let a = or_parts (major == 6) (nat_le 28 low || ((major == 7) && nat_le 24 low)) fine in
    let b = or_parts (nat_le 28 low) ((major == 7) && nat_le 24 low) a.1 in
    let six : major ≡ 6 → ⊥ = eqb-false _ _ a.0 in (
      leb-false _ _ b.0,
      elim (cases_lt major 6) [
        | inl below ↦ inl below
        | inr le ↦ elim (and_cases (major == 7) (nat_le 24 low) b.1) [
          | inl other ↦ let seven : major ≡ 7 → ⊥ = eqb-false _ _ other in absurd (elim (cases_eq major 6) [ inl e ↦ six e | inr e ↦ seven (omega arith) ])
          | inr small ↦ elim (cases_eq major 6) [ inl e ↦ absurd (six e) | inr e ↦ inr (omega arith, leb-false _ _ small) ]
        ]
      ],
    )

kind_of : (major low : ℕ) (rest : List ℕ) → (major < 6) ⊎ ((major ≡ 7) × (low < 24)) → (major < 6) ⊎ ((major ≡ 7) × (argument low rest < 24))
kind_of major low rest (inl below) = inl below
kind_of major low rest (inr seven) = inr (seven.0, rw (lt-ltb _ _ seven.1) seven.1)

Means : List ℕ → HeadRead → Type 0
Means bytes read = IfWhole read (λ head len. (len ≤ length bytes) × (take len bytes ≡ spelling head) × IsHead head)

pub read-means : (bytes : List ℕ) (head : Head) (len : ℕ) → IsBytes bytes → read_head bytes ≡ Whole head len → (len ≤ length bytes) × (take len bytes ≡ spelling head) × IsHead head
unfolding read_head spelling Spells Means
read-means [] head len fits e = absurd cc
read-means (first ∷ rest) head len fits e =
    let major = first / 32 in
    let low = first % 32 in
    let a = passed (is_bad first) Bad _ (Whole head len) e (λ h. cc) in
    let b = passed (ltb (length rest) (following low)) Short _ (Whole head len) a.1 (λ h. cc) in
    let c = passed (ltb (argument low rest) (least low)) NotShortest _ (Whole head len) b.1 (λ h. cc) in
    let n = not_bad major low (omega (arith, fits 0)) a.0 in
    let s = spells major low rest n.0 (λ i. fits (suc i)) (ltb-false _ _ b.0) (ltb-false _ _ c.0) in
    let is : first_byte major low ≡ first = omega arith in
    let front : take (following low + 1) (first ∷ rest) ≡ head_spelling major (argument low rest) = subst (λ (b : ℕ). take (following low + 1) (b ∷ rest) ≡ head_spelling major (argument low rest)) is s.0 in
    let long = ltb-false _ _ b.0 in
    subst (Means (first ∷ rest)) c.1 (omega arith, front, (s.1, kind_of major low rest n.1))

pub IfWhole_from : (read : HeadRead) (P : Head → ℕ → Type 0) → ((head : Head) (len : ℕ) → read ≡ Whole head len → P head len) → IfWhole read P
IfWhole_from (Whole head len) P h = h head len refl
IfWhole_from Short P h = tt
IfWhole_from NotShortest P h = tt
IfWhole_from Bad P h = tt

-- equal fronts of one length leave equal rests
pub same_parts : (a b x y : List ℕ) → length a ≡ length b → a ++ x ≡ b ++ y → (a ≡ b) × (x ≡ y)
same_parts [] [] x y len e = (refl, e)
same_parts [] (q ∷ b) x y len e = absurd (omega arith)
same_parts (p ∷ a) [] x y len e = absurd (omega arith)
same_parts (p ∷ a) (q ∷ b) x y len e =
    let first : p ≡ q = cc in
    let others : a ++ x ≡ b ++ y = cc in
    let parts = same_parts a b x y (omega arith) others in
    (cc, parts.1)

pub one_spelling : (a b : Head) (x y : List ℕ) → IsHead a → IsHead b → spelling a ++ x ≡ spelling b ++ y → (a ≡ b) × (x ≡ y)
one_spelling a b x y ha hb e =
    let same : Whole a (length (spelling a)) ≡ Whole b (length (spelling b)) = sym (read-spelling a x ha) ∙ (ap read_head e ∙ read-spelling b y hb) in
    let head : a ≡ b = cc in
    let len : length (spelling a) ≡ length (spelling b) = cc in
    (head, (same_parts (spelling a) (spelling b) x y len e).1)
