-- How many bytes the text of a policy has at most.
use Rattle.std.proofs.Common.{◌≡◌, ℕ, suc, ◌+◌, ◌*◌, ◌/◌, ◌%◌, ◌^◌, ◌<◌, ◌≤◌, Bool, true, false, not, ◌&&◌, cond, List, [], ◌∷◌, ◌++◌, length, map, Option, Some, None, Ordering, Less, Equal, Greater, nat_cmp, ℤ, pos, negsuc, refl, arith, length-append}
use Rattle.std.specs.Prelude.{nat_lt, nat_le, codes, is_some, option_map, flat_map, IfSome, IsTrue, FitsSigned}
use Rattle.std.specs.Int.{w64}
use Rattle.std.specs.Char.{digit_char}
use Rattle.std.specs.Fmt.{decimal}
use Rattle.std.specs.Ordering.{match_ordering}
use Rattle.std.specs.Cmp.Lexicographic.{slice_cmp}
use Rattle.std.specs.List.{AllByRecursion, list_all}
use Rattle.std.proofs.lemmas.Bool.{leb-true, le-ltb}
use Rattle.std.proofs.lemmas.Fmt.{length-decimal-le}
use Rattle.json.specs.Print.{escape_letter, escape_byte, escape, quoted}
use Rattle.serde_json.specs.Data.{Data, string, number, array, object, unsigned, Items, no_items, item, Members, no_members, member, put}
use Rattle.serde_json.specs.Find.{of_integer}
use Rattle.serde_json.specs.View.{items_of}
use Rattle.serde_json.specs.Written.{compact_text, comma_if, items_text, members_text}
use Rattle.bp_eid.specs.declared.eid.Eid.{Eid}
use Rattle.bp_eid.specs.declared.eid.Eid.TheVariants.{Null, Dtn, Ipn}
use Rattle.bp_eid.specs.DtnText.{is_dtn_text}
use Rattle.bp_eid.specs.EndpointId.{text_form, Fits}
use Rattle.bp_text.specs.Shape.{is_name}
use Rattle.bpsec_policy.specs.Written.{Entry, with, entered, id_tree}
use Rattle.bpsec_policy.proofs.Steps.{both_true}

-- how many bytes a value's text has
unfoldable pub size : Data → ℕ
size d = length (compact_text d)

-- ---- strings

-- a byte is written as at most six
byte_six : (b : ℕ) → length (escape_byte b) ≤ 6
unfolding escape_byte
byte_six b = at (nat_lt 0 (escape_letter b)) (nat_lt b 32)
  where
    at : (short low : Bool) → length (cond short (92 ∷ escape_letter b ∷ []) (cond low (92 ∷ 117 ∷ 48 ∷ 48 ∷ digit_char (b / 16) ∷ digit_char (b % 16) ∷ []) (b ∷ []))) ≤ 6
    at true low = omega arith
    at false true = omega arith
    at false false = omega arith

-- and a visible one as at most two
byte_two : (b : ℕ) → nat_le 33 b ≡ true → length (escape_byte b) ≤ 2
unfolding escape_byte
byte_two b visible = at (nat_lt 0 (escape_letter b)) (nat_lt b 32) (le-ltb b 32 low)
  where
    low : 32 ≤ b
    low = let h : 33 ≤ b = leb-true 33 b visible in omega arith

    at : (short low : Bool) → low ≡ false → length (cond short (92 ∷ escape_letter b ∷ []) (cond low (92 ∷ 117 ∷ 48 ∷ 48 ∷ digit_char (b / 16) ∷ digit_char (b % 16) ∷ []) (b ∷ []))) ≤ 2
    at true low e = omega arith
    at false true e = absurd cc
    at false false e = omega arith

escape_six : (s : List ℕ) → length (escape s) ≤ 6 * length s
escape_six [] = omega arith
escape_six (b ∷ s) = omega (arith, byte_six b, escape_six s, length-append (escape_byte b) (escape s))

escape_two : (s : List ℕ) → list_all (λ b. nat_le 33 b && nat_le b 126) s ≡ true → length (escape s) ≤ 2 * length s
escape_two [] h = omega arith
escape_two (b ∷ s) h =
    let p = both_true (nat_le 33 b && nat_le b 126) (list_all (λ x. nat_le 33 x && nat_le x 126) s) h in
    omega (arith, byte_two b (both_true (nat_le 33 b) (nat_le b 126) p.0).0, escape_two s p.1, length-append (escape_byte b) (escape s))

quoted_len : (s : List ℕ) → length (quoted s) ≡ length (escape s) + 2
quoted_len s = omega (arith, length-append (escape s) (34 ∷ []))

pub name_size : (name : List ℕ) → is_name name ≡ true → size (string name) ≤ 130
unfolding is_name size
name_size name h =
    let a = both_true (nat_le 1 (length name)) _ h in
    let b = both_true (nat_le (length name) 64) _ a.1 in
    let few : length name ≤ 64 = leb-true (length name) 64 b.0 in
    omega (arith, quoted_len name, escape_two name b.1)

-- ---- numbers

pub number_size : (n : ℕ) → n < 2 ^ 64 → size (number (unsigned n)) ≤ 20
unfolding size
number_size n small = length-decimal-le 20 n (omega arith) (omega arith) small

pub integer_size : (z : ℤ) → FitsSigned w64 z → size (number (of_integer z)) ≤ 21
unfolding size
integer_size (pos n) h = let s : n < 2 ^ 64 = omega (arith, h.sfits) in omega (arith, number_size n s)
integer_size (negsuc n) h = let s : suc n < 2 ^ 64 = omega (arith, h.sfits) in omega (arith, number_size (suc n) s)

-- ---- ids

pub id_size : (eid : Eid) → Fits eid → size (id_tree eid) ≤ 2058
unfolding text_form is_dtn_text size
id_size Null fits = omega (arith, quoted_len (codes "dtn:none"), escape_six (codes "dtn:none"))
id_size (Dtn text) fits =
    let a = both_true (nat_le (length text) 1024) _ fits in
    let b = both_true _ _ a.1 in
    let few : length text ≤ 1024 = leb-true (length text) 1024 a.0 in
    omega (arith, quoted_len (codes "dtn:" ++ text), escape_two (codes "dtn:" ++ text) b.0, length-append (codes "dtn:") text)
id_size (Ipn node service) fits =
    let whole = codes "ipn:" ++ (decimal node ++ (46 ∷ decimal service)) in
    omega (arith, quoted_len whole, escape_six whole, length-append (codes "ipn:") (decimal node ++ (46 ∷ decimal service)), length-append (decimal node) (46 ∷ decimal service), number_size node fits.0, number_size service fits.1)

-- ---- objects that are made entry by entry

-- a member with its key, its colon and a comma
unfoldable pub worth : List ℕ → Option Data → ℕ
worth key None = 0
worth key (Some d) = length (quoted key) + 2 + size d

abbrev pub worths : List Entry → ℕ
worths [] = 0
worths (e ∷ es) = worth e.0 e.1 + worths es

abbrev weight : Members → ℕ
weight no_members = 0
weight (member k d ms) = length (quoted k) + 2 + size d + weight ms

comma_len : (later : Bool) → length (comma_if later) ≤ 1
comma_len true = omega arith
comma_len false = omega arith

members_len : (later : Bool) (ms : Members) → length (members_text later ms) ≤ weight ms + 1
unfolding size
members_len later no_members = omega arith
members_len later (member k d ms) =
    omega (
      arith,
      comma_len later,
      members_len true ms,
      length-append (comma_if later) (quoted k ++ 58 ∷ (compact_text d ++ members_text true ms)),
      length-append (quoted k) (58 ∷ (compact_text d ++ members_text true ms)),
      length-append (compact_text d) (members_text true ms),
    )

put_weight : (k : List ℕ) (d : Data) (ms : Members) → weight (put k d ms) ≤ weight ms + worth k (Some d)
unfolding worth
put_weight k d no_members = omega arith
put_weight k d (member l e ms) = at (slice_cmp nat_cmp k l) (put_weight k d ms)
  where
    at : (o : Ordering) → weight (put k d ms) ≤ weight ms + worth k (Some d)
        → weight (match_ordering o (member k d (member l e ms)) (member l d ms) (member l e (put k d ms))) ≤ weight (member l e ms) + worth k (Some d)
    at Less h = omega arith
    at Equal h = omega arith
    at Greater h = omega arith

with_weight : (k : List ℕ) (o : Option Data) (ms : Members) → weight (with k o ms) ≤ weight ms + worth k o
unfolding worth
with_weight k None ms = omega arith
with_weight k (Some d) ms = put_weight k d ms

entered_weight : (ms : Members) (es : List Entry) → weight (entered ms es) ≤ weight ms + worths es
entered_weight ms [] = omega arith
entered_weight ms (e ∷ es) = omega (arith, entered_weight (with e.0 e.1 ms) es, with_weight e.0 e.1 ms)

pub object_size : (es : List Entry) → size (object (entered no_members es)) ≤ worths es + 2
unfolding size
object_size es = omega (arith, members_len false (entered no_members es), entered_weight no_members es)

-- ---- arrays

items_len : {A : Type 0} (tree : A → Data) (most : ℕ) (later : Bool) (xs : List A) → AllByRecursion (λ x. size (tree x) < most) xs
    → length (items_text later (items_of (map tree xs))) ≤ length xs * most + 1
unfolding size
items_len tree most later [] each = omega arith
items_len tree most later (x ∷ xs) each =
    let more = items_len tree most true xs each.1 in
    let first = each.0 in
    omega (arith, comma_len later, more, first, length-append (comma_if later) (compact_text (tree x) ++ items_text true (items_of (map tree xs))), length-append (compact_text (tree x)) (items_text true (items_of (map tree xs))))

pub array_size : {A : Type 0} (tree : A → Data) (most : ℕ) (xs : List A) → AllByRecursion (λ x. size (tree x) < most) xs → size (array (items_of (map tree xs))) ≤ length xs * most + 2
unfolding size
array_size tree most xs each = omega (arith, items_len tree most false xs each)
