-- What is read as a number or as a byte string is spelled so.
use Rattle.std.proofs.Common.{◌≡◌, ℕ, ◌^◌, ◌<◌, ◌≤◌, ◌==◌, ◌&&◌, Bool, true, false, cond, List, [], ◌++◌, length, get_or, take, drop, refl, sym, ap, ◌∙◌, inl, arith}
use Rattle.std.specs.Prelude.{Some, None}
use Rattle.std.specs.Cmp.{unsigned_Decides}
use Rattle.std.proofs.lemmas.Bool.{eq-eqb}
use Rattle.std.proofs.lemmas.List.{take-append-drop, take_all, append-nil}
use Rattle.cbor_profile.specs.declared.head.Head.{Head}
use Rattle.cbor_profile.specs.declared.head.HeadRead.{HeadRead}
use Rattle.cbor_profile.specs.declared.head.HeadRead.TheVariants.{Whole, Short, NotShortest, Bad}
use Rattle.cbor_profile.specs.Head.{IsHead, head_spelling, spelling, read_head}
use Rattle.cbor_profile.specs.Put.{uint, byte_string}
use Rattle.bpsec_context.specs.Values.{number_of, number_from, content_of, content_from}

-- the law of what is read as a head, both ways
abbrev pub HeadsAgain : Type 0
HeadsAgain = (head : Head) (rest : List ℕ) → IsHead head → read_head (spelling head ++ rest) ≡ Whole head (length (spelling head))

abbrev pub HeadsMean : Type 0
HeadsMean = (bytes : List ℕ) (head : Head) (len : ℕ) → ((i : ℕ) → get_or bytes i 0 < 256) → read_head bytes ≡ Whole head len → (len ≤ length bytes) × (take len bytes ≡ spelling head) × IsHead head

number_head : ℕ → Head
number_head n = record { major = 0; value = n }

number_again_from : (n : ℕ) (len : ℕ) (bytes : List ℕ) → len ≡ length bytes → number_from bytes (Whole (number_head n) len) ≡ Some n
unfolding number_head
number_again_from n len bytes e = rw (eq-eqb len (length bytes) e) refl

uint_is : (n : ℕ) → spelling (number_head n) ++ [] ≡ uint n
unfolding number_head spelling uint
uint_is n = append-nil (head_spelling 0 n)

spelling_is : (n : ℕ) → length (spelling (number_head n)) ≡ length (uint n)
unfolding number_head spelling uint
spelling_is n = refl

small_head : (n : ℕ) → n < 2 ^ 64 → IsHead (number_head n)
unfolding number_head
small_head n small = (small, inl (omega arith))

pub number_again : HeadsAgain → (n : ℕ) → n < 2 ^ 64 → number_of (uint n) ≡ Some n
unfolding number_of
number_again again n small =
    let read : read_head (uint n) ≡ Whole (number_head n) (length (spelling (number_head n))) =
    ap read_head (sym (uint_is n)) ∙ again (number_head n) [] (small_head n small)
    in
    ap (number_from (uint n)) read ∙ number_again_from n _ (uint n) (spelling_is n)

-- ---- what is read is spelled

both : {A : Type 0} (a b : Bool) (x y : A) → cond (a && b) (Some x) None ≡ Some y → (a ≡ true) × (b ≡ true) × (x ≡ y)
both true true x y e = (refl, refl, cc)
both true false x y e = absurd cc
both false b x y e = absurd cc

-- a head stands there, and says this
abbrev pub NumberRead : List ℕ → HeadRead → ℕ → Type 0
NumberRead value read n = (head : Head) × (len : ℕ) × (read ≡ Whole head len) × (head.major ≡ 0) × (len ≡ length value) × (head.value ≡ n)

number_read : (value : List ℕ) (read : HeadRead) (n : ℕ) → number_from value read ≡ Some n → NumberRead value read n
number_read value (Whole head len) n e =
    let parts = both (head.major == 0) (len == length value) head.value n e in
    (head, len, refl, (unsigned_Decides head.major 0).0 parts.0, (unsigned_Decides len (length value)).0 parts.1, parts.2)
number_read value Short n e = absurd cc
number_read value NotShortest n e = absurd cc
number_read value Bad n e = absurd cc

spelled_as : (head : Head) (major argument : ℕ) → head.major ≡ major → head.value ≡ argument → spelling head ≡ head_spelling major argument
unfolding spelling
spelled_as head major argument kind value = ap (λ m. head_spelling m head.value) kind ∙ ap (head_spelling major) value

pub number_means : HeadsMean → (value : List ℕ) (n : ℕ) → ((i : ℕ) → get_or value i 0 < 256) → number_of value ≡ Some n → value ≡ uint n
unfolding number_of uint
number_means means value n bytes e =
    let read = number_read value (read_head value) n e in
    let head = read.0 in
    let len = read.1 in
    let spelled = means value head len bytes read.2 in
    sym (take_all len value (omega (arith, read.4))) ∙ (spelled.1 ∙ spelled_as head 0 n read.3 read.5)

abbrev pub ContentRead : List ℕ → HeadRead → List ℕ → Type 0
ContentRead value read content =
    (head : Head) × (len : ℕ) × (read ≡ Whole head len) × (head.major ≡ 2) × (head.value ≡ length (drop len value)) × (drop len value ≡ content)

content_read : (value : List ℕ) (read : HeadRead) (content : List ℕ) → content_from value read ≡ Some content → ContentRead value read content
content_read value (Whole head len) content e =
    let parts = both (head.major == 2) (head.value == length (drop len value)) (drop len value) content e in
    (head, len, refl, (unsigned_Decides head.major 2).0 parts.0, (unsigned_Decides head.value (length (drop len value))).0 parts.1, parts.2)
content_read value Short content e = absurd cc
content_read value NotShortest content e = absurd cc
content_read value Bad content e = absurd cc

pub content_means : HeadsMean → (value content : List ℕ) → ((i : ℕ) → get_or value i 0 < 256) → content_of value ≡ Some content → value ≡ byte_string content
unfolding content_of byte_string
content_means means value content bytes e =
    let read = content_read value (read_head value) content e in
    let head = read.0 in
    let len = read.1 in
    let spelled = means value head len bytes read.2 in
    let front : take len value ≡ head_spelling 2 (length content) = spelled.1 ∙ spelled_as head 2 (length content) read.3 (read.4 ∙ ap length read.5) in
    sym (take-append-drop len value) ∙ (ap (λ bs. bs ++ drop len value) front ∙ ap (λ bs. head_spelling 2 (length content) ++ bs) read.5)
