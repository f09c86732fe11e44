-- Each answer about an item but want of bytes stands, whatever follows.
use Rattle.std.proofs.Common.{◌≡◌, ℕ, zero, suc, ◌+◌, ◌*◌, ◌-◌, ◌%◌, ◌≤◌, Bool, true, false, cond, ltb, List, [], ◌∷◌, ◌++◌, length, drop, Result, Ok, Err, refl, sym, ◌∙◌, ap, arith}
use Rattle.std.proofs.lemmas.Bool.{ltb-false, le-ltb}
use Rattle.std.proofs.lemmas.List.{length-append, drop-append-le}
use Rattle.cbor_profile.specs.declared.head.Head.{Head}
use Rattle.cbor_profile.specs.declared.head.HeadRead.{HeadRead}
use Rattle.cbor_profile.specs.declared.head.HeadRead.TheVariants as heads
use Rattle.cbor_profile.specs.declared.item.ItemFault.{ItemFault}
use Rattle.cbor_profile.specs.declared.item.ItemFault.TheVariants.{Short, NotShortest, Bad, Deep}
use Rattle.cbor_profile.specs.declared.item.ItemRead.TheVariants as items
use Rattle.cbor_profile.specs.Head.{following, argument, least, is_bad, read_head}
use Rattle.cbor_profile.specs.Item.{Following, Nothing, Text, Items, following_head, head_from, each_from, headed_from, content_from, item_from, most_levels, answer, read_item}
use Rattle.cbor_profile.specs.Step.{◌>>=◌}
use Rattle.cbor_profile.proofs.Heads.{passed}
use Rattle.cbor_profile.proofs.HeadFaults.{answer_stands}

-- what reading leaves, with more bytes behind it
abbrev grown : List ℕ → Result (List ℕ) ItemFault → Result (List ℕ) ItemFault
grown more (Ok rest) = Ok (rest ++ more)
grown more (Err fault) = Err fault

Stands : (List ℕ → Result (List ℕ) ItemFault) → Type 0
Stands read = (bytes more : List ℕ) → (read bytes ≡ Err Short → ⊥) → read (bytes ++ more) ≡ grown more (read bytes)

abbrev Read : Type 0
Read = Result (List ℕ) ItemFault

-- a first step that answered, and what stands after it
after_ok : (first : Read) (next : List ℕ → Read) (rest more : List ℕ) (r : Read) → Stands next → first ≡ Ok (rest ++ more) → r ≡ Ok rest → ((r >>= next) ≡ Err Short → ⊥) → (first >>= next) ≡ grown more (r >>= next)
unfolding Stands
after_ok first next rest more r q e is whole =
    let whole' : next rest ≡ Err Short → ⊥ = λ s. whole (rw is s) in
    rw (e, is) (q rest more whole')

after_err : (first : Read) (next : List ℕ → Read) (fault : ItemFault) (more : List ℕ) (r : Read) → first ≡ Err fault → r ≡ Err fault → (first >>= next) ≡ grown more (r >>= next)
after_err first next fault more r e is = rw (e, is) refl

not_short_ok : (rest : List ℕ) (r : Read) → r ≡ Ok rest → r ≡ Err Short → ⊥
not_short_ok rest r e s = let c : Ok rest ≡ r = sym e in cc

-- a step that stands, and what stands after it
then_by : (one next : List ℕ → Read) → Stands one → Stands next → (bytes more : List ℕ) (r : Read) → one bytes ≡ r → ((one bytes >>= next) ≡ Err Short → ⊥) → (one (bytes ++ more) >>= next) ≡ grown more (one bytes >>= next)
unfolding Stands
then_by one next p q bytes more (Ok rest) e whole =
    after_ok (one (bytes ++ more)) next rest more (one bytes) q (p bytes more (not_short_ok rest (one bytes) e) ∙ ap (grown more) e) e whole
then_by one next p q bytes more (Err fault) e whole =
    let given : (one bytes ≡ Err Short) → ⊥ = λ s. whole (rw s refl) in
    after_err (one (bytes ++ more)) next fault more (one bytes) (p bytes more given ∙ ap (grown more) e) e

each_stands : (one : List ℕ → Read) → Stands one → (n : ℕ) → Stands (each_from one n)
unfolding each_from Stands
each_stands one p zero bytes more whole = refl
each_stands one p (suc n) bytes more whole = then_by one (each_from one n) p (each_stands one p n) bytes more (one bytes) refl whole

-- ---- heads

whole_len : (bytes : List ℕ) (head : Head) (len : ℕ) → read_head bytes ≡ heads.Whole head len → len ≤ length bytes
unfolding read_head
whole_len [] head len e = absurd cc
whole_len (first ∷ rest) head len e =
    let low = first % 32 in
    let a = passed (is_bad first) heads.Bad _ (heads.Whole head len) e (λ h. cc) in
    let b = passed (ltb (length rest) (following low)) heads.Short _ (heads.Whole head len) a.1 (λ h. cc) in
    let c = passed (ltb (argument low rest) (least low)) heads.NotShortest _ (heads.Whole head len) b.1 (λ h. cc) in
    let long = ltb-false _ _ b.0 in
    let count : following low + 1 ≡ len = let same = c.1 in cc in
    omega arith

abbrev Fits : Type 0
Fits = Following → ℕ → List ℕ → Read

headed_by : (read : Fits) → ((f : Following) (a : ℕ) → Stands (read f a)) → (bytes more : List ℕ) (h : HeadRead) → read_head bytes ≡ h → (headed_from read bytes ≡ Err Short → ⊥)
    → headed_from read (bytes ++ more) ≡ grown more (headed_from read bytes)
unfolding Stands head_from
headed_by read p bytes more (heads.Whole head len) e whole =
    let le = whole_len bytes head len e in
    let rest = drop len bytes in
    let same : read_head (bytes ++ more) ≡ heads.Whole head len = answer_stands bytes more (λ s. let c : heads.Whole head len ≡ heads.Short = sym e ∙ s in cc) ∙ e in
    let there : drop len (bytes ++ more) ≡ rest ++ more = drop-append-le len bytes more le in
    let given : read (following_head head.major) head.value rest ≡ Err Short → ⊥ = λ s. whole (rw e s) in
    rw (same, e, there) (p (following_head head.major) head.value rest more given)
headed_by read p bytes more heads.Short e whole = absurd (whole (rw e refl))
headed_by read p bytes more heads.NotShortest e whole =
    let same : read_head (bytes ++ more) ≡ heads.NotShortest = answer_stands bytes more (λ s. let c : heads.NotShortest ≡ heads.Short = sym e ∙ s in cc) ∙ e in
    rw (same, e) refl
headed_by read p bytes more heads.Bad e whole =
    let same : read_head (bytes ++ more) ≡ heads.Bad = answer_stands bytes more (λ s. let c : heads.Bad ≡ heads.Short = sym e ∙ s in cc) ∙ e in
    rw (same, e) refl

headed_stands : (read : Fits) → ((f : Following) (a : ℕ) → Stands (read f a)) → Stands (headed_from read)
unfolding Stands
headed_stands read p bytes more whole = headed_by read p bytes more (read_head bytes) refl whole

-- ---- items

text_by : (b : Bool) (a : ℕ) (bytes more : List ℕ) → ltb (length bytes) a ≡ b → (cond b (Err Short) (Ok (drop a bytes)) ≡ Err Short → ⊥)
    → cond (ltb (length (bytes ++ more)) a) (Err Short) (Ok (drop a (bytes ++ more))) ≡ grown more (cond b (Err Short) (Ok (drop a bytes)))
text_by true a bytes more e whole = absurd (whole refl)
text_by false a bytes more e whole =
    let long = ltb-false _ _ e in
    let longer : ltb (length (bytes ++ more)) a ≡ false = le-ltb _ _ (omega (arith, length-append bytes more)) in
    rw (longer, drop-append-le a bytes more long) refl

text_stands : (levels a : ℕ) → Stands (content_from levels Text a)
unfolding Stands content_from
text_stands zero a bytes more whole = text_by (ltb (length bytes) a) a bytes more refl whole
text_stands (suc levels) a bytes more whole = text_by (ltb (length bytes) a) a bytes more refl whole

content_stands : (levels : ℕ) (f : Following) (a : ℕ) → Stands (content_from levels f a)
unfolding Stands content_from
content_stands zero Nothing a bytes more whole = refl
content_stands (suc levels) Nothing a bytes more whole = refl
content_stands zero Text a bytes more whole = text_stands zero a bytes more whole
content_stands (suc levels) Text a bytes more whole = text_stands (suc levels) a bytes more whole
content_stands zero (Items each) a bytes more whole = refl
content_stands (suc levels) (Items each) a bytes more whole =
    each_stands (headed_from (content_from levels)) (headed_stands (content_from levels) (λ g b. content_stands levels g b)) (each * a) bytes more whole

item_stands : (levels : ℕ) → Stands (item_from levels)
item_stands levels = headed_stands (content_from levels) (content_stands levels)

-- ---- the answer

abbrev Says : List ℕ → List ℕ → Read → Type 0
Says bytes more r = (answer bytes r ≡ items.Short → ⊥) → answer (bytes ++ more) (grown more r) ≡ answer bytes r

same_answer : (bytes more : List ℕ) (r : Read) → Says bytes more r
same_answer bytes more (Ok rest) whole =
    let len : length (bytes ++ more) - length (rest ++ more) ≡ length bytes - length rest = omega (arith, length-append bytes more, length-append rest more) in
    rw len refl
same_answer bytes more (Err Short) whole = refl
same_answer bytes more (Err NotShortest) whole = refl
same_answer bytes more (Err Bad) whole = refl
same_answer bytes more (Err Deep) whole = refl

pub item_answer_stands : (bytes more : List ℕ) → (read_item bytes ≡ items.Short → ⊥) → read_item (bytes ++ more) ≡ read_item bytes
unfolding read_item Stands
item_answer_stands bytes more whole =
    let given : item_from most_levels bytes ≡ Err Short → ⊥ = λ s. whole (rw s refl) in
    rw (item_stands most_levels bytes more given) (same_answer bytes more (item_from most_levels bytes) whole)

-- ---- an item is no longer than what it was read from

answer_within : (bytes : List ℕ) (r : Result (List ℕ) ItemFault) (len : ℕ) → answer bytes r ≡ items.Whole len → len ≤ length bytes
answer_within bytes (Ok rest) len e = let same : length bytes - length rest ≡ len = cc in omega arith
answer_within bytes (Err Short) len e = absurd cc
answer_within bytes (Err NotShortest) len e = absurd cc
answer_within bytes (Err Bad) len e = absurd cc
answer_within bytes (Err Deep) len e = absurd cc

pub item_within : (bytes : List ℕ) (len : ℕ) → read_item bytes ≡ items.Whole len → len ≤ length bytes
unfolding read_item
item_within bytes len e = answer_within bytes (item_from most_levels bytes) len e
