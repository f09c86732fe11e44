-- What is in the grammar of items is read, and what is read is in it.
use Rattle.std.proofs.Common.{◌≡◌, ℕ, zero, suc, ◌+◌, ◌*◌, ◌-◌, ◌≤◌, Bool, true, false, cond, ltb, List, [], ◌++◌, length, take, drop, Result, Ok, Err, refl, sym, ◌∙◌, ap, subst, append_assoc, arith}
use Rattle.std.proofs.lemmas.Bool.{ltb-false, le-ltb}
use Rattle.std.proofs.lemmas.List.{take-append-drop, take_at, drop_at, length-append, length-take}
use Rattle.cbor_profile.specs.declared.head.Head.{Head}
use Rattle.cbor_profile.specs.declared.head.HeadRead.{HeadRead}
use Rattle.cbor_profile.specs.declared.head.HeadRead.TheVariants as heads
use Rattle.cbor_profile.specs.declared.item.ItemFault.{ItemFault}
use Rattle.cbor_profile.specs.declared.item.ItemFault.TheVariants.{Short, NotShortest, Bad, Deep}
use Rattle.cbor_profile.specs.Head.{IsHead, spelling, read_head}
use Rattle.cbor_profile.specs.Item.{Following, Nothing, Text, Items, following_head, Sequence, Headed, IsContent, IsItem, after_head, head_from, each_from, headed_from, content_from, item_from, most_levels, answer, read_item}
use Rattle.cbor_profile.specs.ItemAnswer.{IfWholeItem}
use Rattle.cbor_profile.specs.Step.{◌>>=◌}
use Rattle.cbor_profile.specs.declared.item.ItemRead.{ItemRead}
use Rattle.cbor_profile.specs.declared.item.ItemRead.TheVariants as items
use Rattle.cbor_profile.proofs.Wide.{IsBytes, IsBytes-drop}
use Rattle.cbor_profile.proofs.Heads.{read-spelling, read-means, same_parts}

-- ---- what is in the grammar is read, whatever follows it

abbrev Reads : (List ℕ → Type 0) → (List ℕ → Result (List ℕ) ItemFault) → Type 0
Reads Is read = (content rest : List ℕ) → Is content → read (content ++ rest) ≡ Ok rest

head_again : (head : Head) (rest : List ℕ) → IsHead head → head_from (spelling head ++ rest) ≡ Ok (head, rest)
unfolding head_from
head_again head rest h = rw (read-spelling head rest h, drop_at (spelling head) rest (length (spelling head)) refl) refl

each_again : (Each : List ℕ → Type 0) (one : List ℕ → Result (List ℕ) ItemFault) → Reads Each one → (n : ℕ) → Reads (Sequence Each n) (each_from one n)
unfolding each_from
each_again Each one again zero content rest h = rw h refl
each_again Each one again (suc n) content rest h =
    rw (h.4, append_assoc h.0 h.1 rest, again h.0 (h.1 ++ rest) h.2) (each_again Each one again n h.1 rest h.3)

headed_again : (Fits : Following → ℕ → List ℕ → Type 0) (read : Following → ℕ → List ℕ → Result (List ℕ) ItemFault) → ((f : Following) (a : ℕ) → Reads (Fits f a) (read f a))
    → Reads (Headed Fits) (headed_from read)
headed_again Fits read again item rest h =
    rw (h.4, append_assoc (spelling h.0) h.1 rest, head_again h.0 (h.1 ++ rest) h.2) (again (following_head h.0.major) h.0.value h.1 rest h.3)

text_again : (a : ℕ) (content rest : List ℕ) → length content ≡ a → cond (ltb (length (content ++ rest)) a) (Err Short) (Ok (drop a (content ++ rest))) ≡ Ok rest
text_again a content rest len = rw (le-ltb (length (content ++ rest)) a (omega (arith, length-append content rest)), drop_at content rest a len) refl

content_again : (levels : ℕ) (f : Following) (a : ℕ) → Reads (IsContent levels f a) (content_from levels f a)
unfolding content_from
content_again zero Nothing a content rest h = rw h refl
content_again (suc levels) Nothing a content rest h = rw h refl
content_again zero Text a content rest h = text_again a content rest h
content_again (suc levels) Text a content rest h = text_again a content rest h
content_again zero (Items each) a content rest h = elim h [ ]
content_again (suc levels) (Items each) a content rest h =
    each_again (Headed (IsContent levels)) (headed_from (content_from levels)) (headed_again (IsContent levels) (content_from levels) (λ f b. content_again levels f b)) (each * a) content rest h

pub item_again : (levels : ℕ) → Reads (IsItem levels) (item_from levels)
item_again levels = headed_again (IsContent levels) (content_from levels) (content_again levels)

-- ---- what is read is in the grammar

-- what was taken from the front, and bytes after it
record Took (Is : List ℕ → Type 0) (bytes rest : List ℕ) : Type 0 where
  content : List ℕ
  holds : Is content
  parts : bytes ≡ content ++ rest
  fits : IsBytes rest

abbrev Means : (List ℕ → Type 0) → (List ℕ → Result (List ℕ) ItemFault) → Type 0
Means Is read = (bytes rest : List ℕ) → IsBytes bytes → read bytes ≡ Ok rest → Took Is bytes rest

bind_ok : {A B : Type 0} (r : Result A ItemFault) (f : A → Result B ItemFault) (y : B) → (r >>= f) ≡ Ok y → (x : A) × (r ≡ Ok x) × (f x ≡ Ok y)
bind_ok (Ok x) f y e = (x, refl, e)
bind_ok (Err d) f y e = absurd cc

ok_is : {A : Type 0} (x y : A) → (let r : Result A ItemFault = Ok x in r ≡ Ok y) → x ≡ y
ok_is x y e = cc

-- a head that was found at the front
record TookHead (bytes : List ℕ) (found : Head × List ℕ) : Type 0 where
  head : IsHead (found.0)
  parts : bytes ≡ spelling found.0 ++ found.1
  fits : IsBytes found.1

after_head_means : (bytes : List ℕ) (read : HeadRead) (found : Head × List ℕ) → IsBytes bytes → read_head bytes ≡ read → after_head bytes read ≡ Ok found → TookHead bytes found
after_head_means bytes (heads.Whole head len) found fits is e =
    let m = read-means bytes head len fits is in
    let front : bytes ≡ spelling head ++ drop len bytes = sym (take-append-drop len bytes) ∙ rw m.1 refl in
    subst (TookHead bytes) (ok_is (head, drop len bytes) found e) (record { head = m.2; parts = front; fits = IsBytes-drop len bytes fits })
after_head_means bytes heads.Short found fits is e = absurd cc
after_head_means bytes heads.NotShortest found fits is e = absurd cc
after_head_means bytes heads.Bad found fits is e = absurd cc

head_means : (bytes : List ℕ) (found : Head × List ℕ) → IsBytes bytes → head_from bytes ≡ Ok found → TookHead bytes found
unfolding head_from
head_means bytes found fits e = after_head_means bytes (read_head bytes) found fits refl e

each_means : (Each : List ℕ → Type 0) (one : List ℕ → Result (List ℕ) ItemFault) → Means Each one → (n : ℕ) → Means (Sequence Each n) (each_from one n)
unfolding each_from
each_means Each one means zero bytes rest fits e = record { content = []; holds = refl; parts = ok_is bytes rest e; fits = subst IsBytes (ok_is bytes rest e) fits }
each_means Each one means (suc n) bytes rest fits e =
    let b = bind_ok (one bytes) (each_from one n) rest e in
    let first = means bytes b.0 fits b.1 in
    let others = each_means Each one means n b.0 rest first.fits b.2 in
    record {
      content = first.content ++ others.content;
      holds = (first.content, others.content, first.holds, others.holds, refl);
      parts = first.parts ∙ (ap (λ (t : List ℕ). first.content ++ t) others.parts ∙ sym (append_assoc first.content others.content rest));
      fits = others.fits;
    }

headed_means : (Fits : Following → ℕ → List ℕ → Type 0) (read : Following → ℕ → List ℕ → Result (List ℕ) ItemFault) → ((f : Following) (a : ℕ) → Means (Fits f a) (read f a))
    → Means (Headed Fits) (headed_from read)
headed_means Fits read means bytes rest fits e =
    let b = bind_ok (head_from bytes) (λ h. read (following_head h.0.major) h.0.value h.1) rest e in
    let head = head_means bytes b.0 fits b.1 in
    let content = means (following_head b.0.0.major) b.0.0.value b.0.1 rest head.fits b.2 in
    record {
      content = spelling b.0.0 ++ content.content;
      holds = (b.0.0, content.content, head.head, content.holds, refl);
      parts = head.parts ∙ (ap (λ (t : List ℕ). spelling b.0.0 ++ t) content.parts ∙ sym (append_assoc (spelling b.0.0) content.content rest));
      fits = content.fits;
    }

guard_ok : {A : Type 0} (b : Bool) (d : ItemFault) (x y : A) → cond b (Err d) (Ok x) ≡ Ok y → (b ≡ false) × (x ≡ y)
guard_ok true d x y e = absurd cc
guard_ok false d x y e = (refl, cc)

text_means : (a : ℕ) (bytes rest : List ℕ) → IsBytes bytes → cond (ltb (length bytes) a) (Err Short) (Ok (drop a bytes)) ≡ Ok rest → Took (λ content. length content ≡ a) bytes rest
text_means a bytes rest fits e =
    let g = guard_ok (ltb (length bytes) a) Short (drop a bytes) rest e in
    let long = ltb-false _ _ g.0 in
    record {
      content = take a bytes;
      holds = omega (arith, length-take a bytes);
      parts = sym (take-append-drop a bytes) ∙ rw g.1 refl;
      fits = subst IsBytes g.1 (IsBytes-drop a bytes fits);
    }

nothing_means : (bytes rest : List ℕ) → IsBytes bytes → (let r : Result (List ℕ) ItemFault = Ok bytes in r ≡ Ok rest) → Took (λ content. content ≡ []) bytes rest
nothing_means bytes rest fits e = record { content = []; holds = refl; parts = ok_is bytes rest e; fits = subst IsBytes (ok_is bytes rest e) fits }

content_means : (levels : ℕ) (f : Following) (a : ℕ) → Means (IsContent levels f a) (content_from levels f a)
unfolding content_from
content_means zero Nothing a bytes rest fits e = nothing_means bytes rest fits e
content_means (suc levels) Nothing a bytes rest fits e = nothing_means bytes rest fits e
content_means zero Text a bytes rest fits e = text_means a bytes rest fits e
content_means (suc levels) Text a bytes rest fits e = text_means a bytes rest fits e
content_means zero (Items each) a bytes rest fits e = absurd cc
content_means (suc levels) (Items each) a bytes rest fits e =
    each_means (Headed (IsContent levels)) (headed_from (content_from levels)) (headed_means (IsContent levels) (content_from levels) (λ f b. content_means levels f b)) (each * a) bytes rest fits e

item_means : (levels : ℕ) → Means (IsItem levels) (item_from levels)
item_means levels = headed_means (IsContent levels) (content_from levels) (content_means levels)

-- ---- the answers

pub item_read_again : (item rest : List ℕ) → IsItem most_levels item → read_item (item ++ rest) ≡ items.Whole (length item)
unfolding read_item
item_read_again item rest h =
    let len : length (item ++ rest) - length rest ≡ length item = omega (arith, length-append item rest) in
    rw (item_again most_levels item rest h, len) refl

abbrev Answers : List ℕ → ItemRead → Type 0
Answers bytes read = IfWholeItem read (λ len. (len ≤ length bytes) × IsItem most_levels (take len bytes))

took_means : (bytes rest : List ℕ) → Took (IsItem most_levels) bytes rest → Answers bytes (items.Whole (length bytes - length rest))
took_means bytes rest t =
    let content = t.content in
    let whole : length bytes ≡ length content + length rest = ap length t.parts ∙ length-append content rest in
    let len : length bytes - length rest ≡ length content = omega arith in
    let front : take (length content) bytes ≡ content = ap (take (length content)) t.parts ∙ take_at content rest (length content) refl in
    (omega arith, rw len (subst (IsItem most_levels) (sym front) t.holds))

answer_means : (bytes : List ℕ) (r : Result (List ℕ) ItemFault) → IsBytes bytes → item_from most_levels bytes ≡ r → Answers bytes (answer bytes r)
answer_means bytes (Ok rest) fits e = took_means bytes rest (item_means most_levels bytes rest fits e)
answer_means bytes (Err Short) fits e = tt
answer_means bytes (Err NotShortest) fits e = tt
answer_means bytes (Err Bad) fits e = tt
answer_means bytes (Err Deep) fits e = tt

pub item_read_means : (bytes : List ℕ) (read : ItemRead) → IsBytes bytes → read ≡ read_item bytes → Answers bytes read
unfolding read_item
item_read_means bytes read fits e = subst (Answers bytes) (sym e) (answer_means bytes (item_from most_levels bytes) fits refl)

pub one_item : (a b x y : List ℕ) → IsItem most_levels a → IsItem most_levels b → a ++ x ≡ b ++ y → (a ≡ b) × (x ≡ y)
one_item a b x y ha hb e =
    let same : items.Whole (length a) ≡ items.Whole (length b) = sym (item_read_again a x ha) ∙ (ap read_item e ∙ item_read_again b y hb) in
    let len : length a ≡ length b = cc in
    same_parts a b x y len e
