-- A covered record as a list of CBOR items: numbers, primary blocks, byte strings. Their spellings, one after another,
-- determine them.
use Rattle.std.proofs.Common.{◌≡◌, ℕ, ◌^◌, ◌<◌, ◌≤◌, List, [], ◌∷◌, ◌++◌, length, take, refl, sym, ap, ◌∙◌, inl, arith, append_assoc, append-nil, length-append}
use Rattle.std.proofs.lemmas.List.{take_at, append_cancel_left}
use Rattle.cbor_profile.specs.declared.head.Head.{Head}
use Rattle.cbor_profile.specs.Head.{IsHead, head_spelling}
use Rattle.cbor_profile.specs.Head as heads
use Rattle.cbor_profile.specs.Put.{uint, byte_string, array_head}
use Rattle.bp_primary.specs.declared.primary.Primary.{Primary}
use Rattle.bp_primary.specs.Spelling.{IsPrimary, spelling}
use Rattle.cbor_profile.proofs.Sizes.{head_at_least}

-- the laws of heads and of primary blocks
abbrev pub HeadsHaveOneSpelling : Type 0
HeadsHaveOneSpelling = (a b : Head) (x y : List ℕ) → IsHead a → IsHead b → heads.spelling a ++ x ≡ heads.spelling b ++ y → (a ≡ b) × (x ≡ y)

abbrev pub PrimariesHaveOneSpelling : Type 0
PrimariesHaveOneSpelling = (a b : Primary) (x y : List ℕ) → IsPrimary a → IsPrimary b → spelling a ++ x ≡ spelling b ++ y → (a ≡ b) × (x ≡ y)

abbrev pub PrimariesAreArrays : Type 0
PrimariesAreArrays = (primary : Primary) → (count : ℕ) × (rest : List ℕ) × (8 ≤ count) × (count ≤ 11) × (spelling primary ≡ array_head count ++ rest)

-- all of them
pub record Laws : Type 0 where
  pub heads_once : HeadsHaveOneSpelling
  pub primaries_once : PrimariesHaveOneSpelling
  pub primaries_begin : PrimariesAreArrays

pub data Item : Type 0 where
  Number : ℕ → Item
  Block : Primary → Item
  Bytes : List ℕ → Item

abbrev pub spelled : Item → List ℕ
spelled (Number n) = uint n
spelled (Block primary) = spelling primary
spelled (Bytes body) = byte_string body

abbrev pub FitsItem : Item → Type 0
FitsItem (Number n) = n < 2 ^ 64
FitsItem (Block primary) = IsPrimary primary
FitsItem (Bytes body) = length body < 2 ^ 64

abbrev pub spelled_all : List Item → List ℕ
spelled_all [] = []
spelled_all (item ∷ items) = spelled item ++ spelled_all items

abbrev pub FitAll : List Item → Type 0
FitAll [] = Unit {0}
FitAll (item ∷ items) = FitsItem item × FitAll items

-- the major type of the head that an item begins with
major_of : Item → ℕ
major_of (Number n) = 0
major_of (Block primary) = 4
major_of (Bytes body) = 2

Begins : Item → Type 0
Begins item = (argument : ℕ) × (rest : List ℕ) × (argument < 2 ^ 64) × (spelled item ≡ head_spelling (major_of item) argument ++ rest)

begins : Laws → (item : Item) → FitsItem item → Begins item
unfolding major_of Begins uint byte_string array_head
begins laws (Number n) fits = (n, [], fits, simp append-nil)
begins laws (Block primary) fits =
    let array = laws.primaries_begin primary in (array.0, array.1, omega (arith, array.3), array.4)
begins laws (Bytes body) fits = (length body, body, fits, refl)

same_head : HeadsHaveOneSpelling → (j k m n : ℕ) (x y : List ℕ) → j < 6 → k < 6 → m < 2 ^ 64 → n < 2 ^ 64 → head_spelling j m ++ x ≡ head_spelling k n ++ y → (j ≡ k) × (m ≡ n) × (x ≡ y)
unfolding heads.spelling
same_head one j k m n x y kind kind' fits fits' e =
    let same = one (record { major = j; value = m }) (record { major = k; value = n }) x y (fits, inl kind) (fits', inl kind') e in
    (ap (λ (head : Head). head.major) same.0, ap (λ (head : Head). head.value) same.0, same.1)

small_major : (item : Item) → major_of item < 6
unfolding major_of
small_major (Number n) = omega arith
small_major (Block primary) = omega arith
small_major (Bytes body) = omega arith

regrouped : (whole head rest more : List ℕ) → whole ≡ head ++ rest → whole ++ more ≡ head ++ (rest ++ more)
regrouped whole head rest more e = ap (λ bytes. bytes ++ more) e ∙ append_assoc head rest more

same_kind : Laws → (i j : Item) (x y : List ℕ) → FitsItem i → FitsItem j → spelled i ++ x ≡ spelled j ++ y → major_of i ≡ major_of j
unfolding Begins
same_kind laws i j x y fits fits' e =
    let left = begins laws i fits in
    let right = begins laws j fits' in
    let from_left = regrouped (spelled i) (head_spelling (major_of i) left.0) left.1 x left.3 in
    let from_right = regrouped (spelled j) (head_spelling (major_of j) right.0) right.1 y right.3 in
    (same_head laws.heads_once (major_of i) (major_of j) left.0 right.0 (left.1 ++ x) (right.1 ++ y) (small_major i) (small_major j) left.2 right.2 (sym from_left ∙ (e ∙ from_right))).0

-- equal lists have equal fronts of one length
same_front : (a b x y : List ℕ) → length a ≡ length b → a ++ x ≡ b ++ y → a ≡ b
same_front a b x y len e = sym (take_at a x (length b) len) ∙ (ap (take (length b)) e ∙ take_at b y (length b) refl)

same_string : HeadsHaveOneSpelling → (a b x y : List ℕ) → length a < 2 ^ 64 → length b < 2 ^ 64 → byte_string a ++ x ≡ byte_string b ++ y → (a ≡ b) × (x ≡ y)
unfolding byte_string
same_string one a b x y short short' e =
    let regrouped = simp append_assoc at e in
    let len = same_head one 2 2 (length a) (length b) (a ++ x) (b ++ y) (omega arith) (omega arith) short short' regrouped in
    let same = same_front a b x y len.1 len.2 in
    (same, append_cancel_left b x y (ap (λ bytes. bytes ++ x) (sym same) ∙ len.2))

one_item : Laws → (i j : Item) (x y : List ℕ) → FitsItem i → FitsItem j → spelled i ++ x ≡ spelled j ++ y → (i ≡ j) × (x ≡ y)
unfolding major_of uint
one_item laws (Number m) (Number n) x y fits fits' e =
    let same = same_head laws.heads_once 0 0 m n x y (omega arith) (omega arith) fits fits' e in (ap Number same.1, same.2)
one_item laws (Block p) (Block q) x y fits fits' e =
    let same = laws.primaries_once p q x y fits fits' e in (ap Block same.0, same.1)
one_item laws (Bytes a) (Bytes b) x y fits fits' e =
    let same = same_string laws.heads_once a b x y fits fits' e in (ap Bytes same.0, same.1)
one_item laws (Number m) (Block q) x y fits fits' e = absurd (omega (arith, same_kind laws (Number m) (Block q) x y fits fits' e))
one_item laws (Number m) (Bytes b) x y fits fits' e = absurd (omega (arith, same_kind laws (Number m) (Bytes b) x y fits fits' e))
one_item laws (Block p) (Number n) x y fits fits' e = absurd (omega (arith, same_kind laws (Block p) (Number n) x y fits fits' e))
one_item laws (Block p) (Bytes b) x y fits fits' e = absurd (omega (arith, same_kind laws (Block p) (Bytes b) x y fits fits' e))
one_item laws (Bytes a) (Number n) x y fits fits' e = absurd (omega (arith, same_kind laws (Bytes a) (Number n) x y fits fits' e))
one_item laws (Bytes a) (Block q) x y fits fits' e = absurd (omega (arith, same_kind laws (Bytes a) (Block q) x y fits fits' e))

-- no item is spelled by nothing
some_bytes : Laws → (i : Item) (x : List ℕ) → FitsItem i → spelled i ++ x ≡ [] → ⊥
unfolding Begins
some_bytes laws i x fits e =
    let parts = begins laws i fits in
    let head = head_at_least (major_of i) parts.0 in
    let size = ap length (ap (λ bytes. bytes ++ x) (sym parts.3) ∙ e) in
    let counted = simp length-append at size in
    omega (arith, head)

pub one_list : Laws → (is js : List Item) → FitAll is → FitAll js → spelled_all is ≡ spelled_all js → is ≡ js
one_list laws [] [] fit fit' e = refl
one_list laws [] (j ∷ js) fit fit' e = absurd (some_bytes laws j (spelled_all js) fit'.0 (sym e))
one_list laws (i ∷ is) [] fit fit' e = absurd (some_bytes laws i (spelled_all is) fit.0 e)
one_list laws (i ∷ is) (j ∷ js) fit fit' e =
    let same = one_item laws i j (spelled_all is) (spelled_all js) fit.0 fit'.0 e in
    let rest = one_list laws is js fit.1 fit'.1 same.1 in
    cc
