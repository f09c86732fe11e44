-- A bundle whose new blocks stand before the payload block has the shape of a bundle.
use Rattle.std.proofs.Common.{◌≡◌, ℕ, zero, suc, ◌+◌, ◌-◌, ◌<◌, ◌≤◌, ◌==◌, ◌&&◌, ◌||◌, Bool, true, false, not, cond, List, [], ◌∷◌, ◌++◌, length, map, refl, sym, ap, ◌∙◌, arith, append_assoc}
use Rattle.std.specs.Prelude.{Option, Some, None, nat_le, nat_lt}
use Rattle.std.specs.List.{list_any, position, prefix_len, slice_get}
use Rattle.std.proofs.lemmas.Bool.{or_parts, or_from, and_parts, eqb-true, ne_eqb, le-ltb, ltb-false}
use Rattle.std.proofs.lemmas.List.{append-nil, length-append, length-map}
use Rattle.std.proofs.Math.Seq.{take-append_seam, drop-append_seam, get_or-append_seam}
use Rattle.std.proofs.lemmas.Option.{slice_get-get_or}
use Rattle.cbor_profile.specs.declared.TheConstants.{BUNDLE_LIMIT}
use Rattle.std.proofs.lemmas.List.Folds.{list_any-append}
use Rattle.bp_primary.specs.declared.primary.Primary.{Primary}
use Rattle.bp_blocks.specs.declared.block.Block.{Block}
use Rattle.bp_bundle.specs.Spelling.{IsPayload, is_single}
use Rattle.bp_bundle.specs.declared.shape.ShapeFault.{ShapeFault}
use Rattle.bp_bundle.specs.declared.shape.ShapeFault.TheVariants as faults
use Rattle.bp_bundle.specs.Faults.{is_misnumbered, has_number, has_single, is_repeated, repeated_from, is_payload, is_payload_there, ends_in_payload, or_else, shape_fault_of, shape_fault}
use Rattle.bpsec_plan.specs.declared.item.Item.{Item}
use Rattle.bpsec_plan.specs.declared.item.Item.TheVariants.{Bib, Bcb, Split}
use Rattle.bpsec_facts.specs.Facts.{Facts}
use Rattle.bpsec_facts.specs.Items.{block_number, block_kind}
use Rattle.bpsec_facts.specs.Refusal.{has_block, has_item, first_at, number_taken}
use Rattle.bpsec_facts.specs.Left.{before_last}
use Rattle.bpsec_facts.specs.Answer.{HasShape}
use Rattle.bpsec_facts.proofs.Chains.{here_not}

-- what becomes of the blocks of a bundle, and of the items of a plan: numbers and types are as they say
pub record Made : Type 0 where
  pub facts : Facts
  pub kept : Block → Block
  pub kept_number : (block : Block) → (kept block).number ≡ block.number
  pub kept_kind : (block : Block) → (kept block).kind ≡ block.kind
  pub added : Item → Block
  pub added_number : (item : Item) → (added item).number ≡ block_number item
  pub added_kind : (item : Item) → (added item).kind ≡ block_kind item

-- what is used of a plan that no reason refused
pub record Passed (facts : Facts) : Type 0 where
  pub numbers : first_at (number_taken facts) [] facts.items ≡ None
  pub few : nat_lt 64 (length facts.blocks + length facts.items) ≡ false

-- ---- numbers

kept_has : (made : Made) (blocks : List Block) (number : ℕ) → has_number (map (made.kept) blocks) number ≡ has_number blocks number
kept_has made [] number = refl
kept_has made (block ∷ blocks) number = rw (made.kept_number block, kept_has made blocks number) refl

kept_single : (made : Made) (blocks : List Block) (kind : ℕ) → list_any (λ (b : Block). b.kind == kind) (map (made.kept) blocks) ≡ list_any (λ (b : Block). b.kind == kind) blocks
kept_single made [] kind = refl
kept_single made (block ∷ blocks) kind = rw (made.kept_kind block, kept_single made blocks kind) refl

added_has : (made : Made) (items : List Item) (number : ℕ) → has_number (map (made.added) items) number ≡ has_item items number
added_has made [] number = refl
added_has made (item ∷ items) number = rw (made.added_number item, added_has made items number) refl

-- ---- what a number that isn't taken is

pub record Free (facts : Facts) (before : List Item) (item : Item) : Type 0 where
  pub above : 1 < block_number item
  pub block : has_block facts.blocks (block_number item) ≡ false
  pub earlier : has_item before (block_number item) ≡ false

above_by : (n : ℕ) → nat_le n 1 ≡ false → 1 < n
above_by zero is = absurd cc
above_by (suc zero) is = absurd cc
above_by (suc (suc n)) is = omega arith

free : (facts : Facts) (before : List Item) (item : Item) → number_taken facts before item ≡ false → Free facts before item
unfolding number_taken
free facts before item is =
    let parts = or_parts (nat_le (block_number item) 1) _ is in
    let more = or_parts (has_block facts.blocks (block_number item)) (has_item before (block_number item)) parts.1 in
    record { above = above_by (block_number item) parts.0; block = more.0; earlier = more.1 }

-- ---- no block is misnumbered

misnumbered_by : (kind number : ℕ) → (kind == 1) ≡ false → 1 < number → not (not (number == 0) && cond (kind == 1) (number == 1) (not (number == 1))) ≡ false
misnumbered_by kind number other above =
    let zero_not : (number == 0) ≡ false = ne_eqb number 0 (λ e. absurd (omega arith)) in
    let one_not : (number == 1) ≡ false = ne_eqb number 1 (λ e. absurd (omega arith)) in
    rw (zero_not, other, one_not) refl

not_payload : (item : Item) → (block_kind item == 1) ≡ false
not_payload (Bib cover) = refl
not_payload (Bcb cover iv shared_iv tag_in_body) = refl
not_payload (Split split) = refl

not_single : (item : Item) → is_single (block_kind item) ≡ false
not_single (Bib cover) = refl
not_single (Bcb cover iv shared_iv tag_in_body) = refl
not_single (Split split) = refl

added_numbered : (made : Made) (item : Item) → 1 < block_number item → is_misnumbered (made.added item) ≡ false
added_numbered made item above =
    rw (made.added_kind item, made.added_number item) (misnumbered_by (block_kind item) (block_number item) (not_payload item) above)

kept_numbered : (made : Made) (block : Block) → is_misnumbered (made.kept block) ≡ is_misnumbered block
kept_numbered made block = rw (made.kept_kind block, made.kept_number block) refl

all_kept_numbered : (made : Made) (blocks : List Block) → list_any is_misnumbered (map (made.kept) blocks) ≡ list_any is_misnumbered blocks
all_kept_numbered made [] = refl
all_kept_numbered made (block ∷ blocks) = rw (kept_numbered made block, all_kept_numbered made blocks) refl

all_added_numbered : (made : Made) (before items : List Item) → first_at (number_taken made.facts) before items ≡ None → list_any is_misnumbered (map (made.added) items) ≡ false
all_added_numbered made before [] none = refl
all_added_numbered made before (item ∷ items) none =
    let step = here_not (number_taken made.facts before item) (length before) _ none in
    or_from (is_misnumbered (made.added item)) (list_any is_misnumbered (map (made.added) items)) (added_numbered made item (free made.facts before item step.0).above) (all_added_numbered made (before ++ item ∷ []) items step.1)

prefix_whole : (p : Block → Bool) (blocks : List Block) → list_any p blocks ≡ false → prefix_len (λ b. not (p b)) blocks ≡ length blocks
prefix_whole p [] none = refl
prefix_whole p (block ∷ blocks) none =
    let parts = or_parts (p block) (list_any p blocks) none in
    rw (parts.0, prefix_whole p blocks parts.1) (omega arith)

position_is : (n : ℕ) → ◌≡◌ {A = Option ℕ} (cond (nat_lt n n) (Some n) None) None
position_is n = rw (below_not n) refl
  where
    below_not : (n : ℕ) → nat_lt n n ≡ false
    below_not n = le-ltb n n (omega arith)

none_at : (p : Block → Bool) (blocks : List Block) → list_any p blocks ≡ false → position p blocks ≡ None
none_at p blocks none = rw (prefix_whole p blocks none) (position_is (length blocks))

-- the converse
whole_step : (p : Block → Bool) (block : Block) (blocks : List Block) (b : Bool) → p block ≡ b → length blocks + 1 ≤ cond (not b) (1 + prefix_len (λ b. not (p b)) blocks) 0 → (length blocks ≤ prefix_len (λ b. not (p b)) blocks → list_any p blocks ≡ false) → (p block || list_any p blocks) ≡ false
whole_step p block blocks true is long rest = absurd (omega arith)
whole_step p block blocks false is long rest = rw is (rest (omega arith))

whole_prefix : (p : Block → Bool) (blocks : List Block) → length blocks ≤ prefix_len (λ b. not (p b)) blocks → list_any p blocks ≡ false
whole_prefix p [] long = refl
whole_prefix p (block ∷ blocks) long = whole_step p block blocks (p block) refl (omega arith) (whole_prefix p blocks)

position_by : (n len : ℕ) (b : Bool) → nat_lt n len ≡ b → ◌≡◌ {A = Option ℕ} (cond b (Some n) None) None → len ≤ n
position_by n len true is none = absurd cc
position_by n len false is none = ltb-false n len is

any_none : (p : Block → Bool) (blocks : List Block) → position p blocks ≡ None → list_any p blocks ≡ false
any_none p blocks none = whole_prefix p blocks (position_by (prefix_len (λ b. not (p b)) blocks) (length blocks) _ refl none)

-- ---- no block is repeated

-- repeated nowhere in two lists, one after the other
repeated_append : (before xs ys : List Block) → repeated_from before xs ≡ None → repeated_from (before ++ xs) ys ≡ None → repeated_from before (xs ++ ys) ≡ None
repeated_append before [] ys first second = rw append-nil at second
repeated_append before (x ∷ xs) ys first second =
    let step = here_not (is_repeated before x) (length before) _ first in
    rw step.0 (repeated_append (before ++ x ∷ []) xs ys step.1 (rw append_assoc second))

repeated_split : (before xs : List Block) (last : Block) → repeated_from before (xs ++ last ∷ []) ≡ None → (repeated_from before xs ≡ None) × (is_repeated (before ++ xs) last ≡ false)
repeated_split before [] last none = rw append-nil (refl, (here_not (is_repeated before last) (length before) _ none).0)
repeated_split before (x ∷ xs) last none =
    let step = here_not (is_repeated before x) (length before) _ none in
    let rest = repeated_split (before ++ x ∷ []) xs last step.1 in
    (rw step.0 rest.0, rw append_assoc at rest.1)

kept_repeated : (made : Made) (before : List Block) (block : Block) → is_repeated (map (made.kept) before) (made.kept block) ≡ is_repeated before block
kept_repeated made before block = rw (made.kept_number block, made.kept_kind block, kept_has made before block.number, kept_single made before block.kind) refl

map_push : (made : Made) (before : List Block) (block : Block) → map (made.kept) before ++ made.kept block ∷ [] ≡ map (made.kept) (before ++ block ∷ [])
map_push made [] block = refl
map_push made (b ∷ before) block = ap (λ (bs : List Block). made.kept b ∷ bs) (map_push made before block)

all_kept_repeated : (made : Made) (before blocks : List Block) → repeated_from before blocks ≡ None → repeated_from (map (made.kept) before) (map (made.kept) blocks) ≡ None
all_kept_repeated made before [] none = refl
all_kept_repeated made before (block ∷ blocks) none =
    let step = here_not (is_repeated before block) (length before) _ none in
    rw (kept_repeated made before block, step.0, map_push made before block) (all_kept_repeated made (before ++ block ∷ []) blocks step.1)

-- the blocks in front, of the bundle
abbrev InFront : Facts → List Block → Type 0
InFront facts front = (number : ℕ) → has_block facts.blocks number ≡ false → has_number front number ≡ false

added_unrepeated : (made : Made) (front : List Block) (before : List Item) (item : Item) → InFront made.facts front → Free made.facts before item → is_repeated (front ++ map (made.added) before) (made.added item) ≡ false
added_unrepeated made front before item inside free =
    rw (made.added_number item, made.added_kind item, not_single item, list_any-append, inside (block_number item) free.block, added_has made before (block_number item), free.earlier) refl

added_push : (made : Made) (before : List Item) (item : Item) → map (made.added) before ++ made.added item ∷ [] ≡ map (made.added) (before ++ item ∷ [])
added_push made [] item = refl
added_push made (b ∷ before) item = ap (λ (bs : List Block). made.added b ∷ bs) (added_push made before item)

all_added_unrepeated : (made : Made) (front : List Block) (before items : List Item) → InFront made.facts front → first_at (number_taken made.facts) before items ≡ None → repeated_from (front ++ map (made.added) before) (map (made.added) items) ≡ None
all_added_unrepeated made front before [] inside none = refl
all_added_unrepeated made front before (item ∷ items) inside none =
    let step = here_not (number_taken made.facts before item) (length before) _ none in
    rw (added_unrepeated made front before item inside (free made.facts before item step.0), append_assoc, added_push made before item) (all_added_unrepeated made front (before ++ item ∷ []) items inside step.1)

not_one : (facts : Facts) (before items : List Item) → first_at (number_taken facts) before items ≡ None → has_item items 1 ≡ false
not_one facts before [] none = refl
not_one facts before (item ∷ items) none =
    let step = here_not (number_taken facts before item) (length before) _ none in
    let above = (free facts before item step.0).above in
    or_from (block_number item == 1) (has_item items 1) (ne_eqb (block_number item) 1 (λ e. absurd (omega arith))) (not_one facts (before ++ item ∷ []) items step.1)

last_unrepeated : (made : Made) (front : List Block) (items : List Item) (last : Block) → IsPayload last → has_number front last.number ≡ false → has_item items 1 ≡ false → is_repeated (map (made.kept) front ++ map (made.added) items) (made.kept last) ≡ false
last_unrepeated made front items last is front_not items_not =
    let number : has_number (map (made.added) items) last.number ≡ false = rw (added_has made items last.number, is.1) items_not in
    rw (made.kept_number last, made.kept_kind last, is.0, list_any-append, kept_has made front last.number, front_not, number) refl

-- ---- the last block

last_at : (blocks : List Block) (last : Block) → slice_get (blocks ++ last ∷ []) (length (blocks ++ last ∷ []) - 1) ≡ Some last
last_at blocks last =
    let count : length (blocks ++ last ∷ []) - 1 ≡ length blocks = simp length-append (omega arith) in
    let within : length blocks < length (blocks ++ last ∷ []) = simp length-append (omega arith) in
    rw (count, slice_get-get_or (blocks ++ last ∷ []) (length blocks) last within, get_or-append_seam blocks last [] last) refl

ends_so : (blocks : List Block) (last : Block) → is_payload last ≡ true → ends_in_payload (blocks ++ last ∷ []) ≡ true
ends_so blocks last is = rw (last_at blocks last) is

-- ---- what a bundle without a fault of shape has

pub record Shaped (blocks : List Block) : Type 0 where
  pub few : nat_lt 64 (length blocks) ≡ false
  pub numbered : position is_misnumbered blocks ≡ None
  pub apart : repeated_from [] blocks ≡ None
  pub last : ends_in_payload blocks ≡ true

if_none : (b : Bool) (fault : ShapeFault) (next : Option ShapeFault) → cond b (Some fault) next ≡ None → (b ≡ false) × (next ≡ None)
if_none true fault next none = absurd cc
if_none false fault next none = (refl, none)

else_none : (fault : ℕ → ShapeFault) (o : Option ℕ) (next : Option ShapeFault) → or_else fault o next ≡ None → (o ≡ None) × (next ≡ None)
else_none fault (Some n) next none = absurd cc
else_none fault None next none = (refl, none)

not_false : (b : Bool) → not b ≡ false → b ≡ true
not_false true is = refl
not_false false is = absurd cc

shaped_by : (size : ℕ) (blocks : List Block) → shape_fault_of size blocks ≡ None → Shaped blocks
unfolding shape_fault_of
shaped_by size blocks none =
    let a = if_none (nat_lt 64 (length blocks)) faults.TooManyBlocks _ none in
    let b = else_none faults.BadNumber (position is_misnumbered blocks) _ a.1 in
    let c = else_none faults.Repeated (repeated_from [] blocks) _ b.1 in
    let d = if_none (not (ends_in_payload blocks)) faults.NoPayloadLast _ c.1 in
    record { few = a.0; numbered = b.0; apart = c.0; last = not_false (ends_in_payload blocks) d.0 }

-- such blocks have no other fault than that they are too long
too_long_alone : (size : ℕ) (blocks : List Block) → Shaped blocks → shape_fault_of size blocks ≡ cond (nat_lt BUNDLE_LIMIT size) (Some faults.TooLong) None
unfolding shape_fault_of
too_long_alone size blocks shaped = rw (shaped.few, shaped.numbered, shaped.apart, shaped.last) refl

-- ---- the blocks before the payload block

-- they, and the payload block
record Parted (blocks : List Block) : Type 0 where
  front : List Block
  last : Block
  is : blocks ≡ front ++ last ∷ []
  payload : is_payload last ≡ true

part_more : (block : Block) (blocks : List Block) → Parted blocks → Parted (block ∷ blocks)
part_more block blocks parted = record {
  front = block ∷ parted.front;
  last = parted.last;
  is = ap (λ (bs : List Block). block ∷ bs) parted.is;
  payload = parted.payload;
}

parted_from : (block : Block) (blocks : List Block) → is_payload_there (slice_get (block ∷ blocks) (length blocks)) ≡ true → Parted (block ∷ blocks)
parted_from block [] last = record { front = []; last = block; is = refl; payload = last }
parted_from block (other ∷ blocks) last = part_more block (other ∷ blocks) (parted_from other blocks last)

parted : (blocks : List Block) → ends_in_payload blocks ≡ true → Parted blocks
parted [] last = absurd cc
parted (block ∷ blocks) last =
    let count : length (block ∷ blocks) - 1 ≡ length blocks = omega arith in parted_from block blocks (rw count at last)

before_last_is : (xs new : List Block) (last : Block) → before_last (xs ++ last ∷ []) new ≡ xs ++ (new ++ last ∷ [])
before_last_is xs new last =
    let count : length (xs ++ last ∷ []) - 1 ≡ length xs = simp length-append (omega arith) in
    rw (count, take-append_seam xs (last ∷ []), drop-append_seam xs (last ∷ [])) refl

-- ---- the secured bundle

final : Made → List Block → Block → List Block
final made front last = map (made.kept) front ++ (map (made.added) made.facts.items ++ made.kept last ∷ [])

final_is : (made : Made) (front : List Block) (last : Block) → made.facts.blocks ≡ front ++ last ∷ [] → before_last (map (made.kept) made.facts.blocks) (map (made.added) made.facts.items) ≡ final made front last
unfolding final
final_is made front last is =
    ap (λ (blocks : List Block). before_last (map (made.kept) blocks) (map (made.added) made.facts.items)) is
    ∙ (rw (← map_push made front last) (before_last_is (map (made.kept) front) (map (made.added) made.facts.items) (made.kept last)))

final_few : (made : Made) (front : List Block) (last : Block) → Passed made.facts → made.facts.blocks ≡ front ++ last ∷ [] → nat_lt 64 (length (final made front last)) ≡ false
unfolding final
final_few made front last passed is =
    let here : length made.facts.blocks ≡ length front + 1 = ap length is ∙ simp length-append in
    let count : length (map (made.kept) front ++ (map (made.added) made.facts.items ++ made.kept last ∷ [])) ≡ length made.facts.blocks + length made.facts.items = simp (length-append, length-map) (omega arith) in
    rw count passed.few

final_numbered : (made : Made) (front : List Block) (last : Block) → Passed made.facts → position is_misnumbered (front ++ last ∷ []) ≡ None → position is_misnumbered (final made front last) ≡ None
unfolding final
final_numbered made front last passed none =
    let old = any_none is_misnumbered (front ++ last ∷ []) none in
    let parts = or_parts (list_any is_misnumbered front) (list_any is_misnumbered (last ∷ [])) (sym (list_any-append is_misnumbered front (last ∷ [])) ∙ old) in
    let behind = or_parts (is_misnumbered last) false parts.1 in
    none_at is_misnumbered (map (made.kept) front ++ (map (made.added) made.facts.items ++ made.kept last ∷ [])) (rw (list_any-append, list_any-append, all_kept_numbered made front, parts.0, all_added_numbered made [] made.facts.items passed.numbers, kept_numbered made last, behind.0) refl)

final_apart : (made : Made) (front : List Block) (last : Block) → Passed made.facts → made.facts.blocks ≡ front ++ last ∷ [] → is_payload last ≡ true → repeated_from [] (front ++ last ∷ []) ≡ None → repeated_from [] (final made front last) ≡ None
unfolding final
final_apart made front last passed is payload none =
    let old = repeated_split [] front last none in
    let alone = or_parts (has_number front last.number) (has_single front last.kind) old.1 in
    let inside : InFront made.facts (map (made.kept) front) = λ number free.
    let whole : has_number (front ++ last ∷ []) number ≡ false = rw (← is) free in
    kept_has made front number ∙ (or_parts (has_number front number) (has_number (last ∷ []) number) (sym (list_any-append (λ (b : Block). b.number == number) front (last ∷ [])) ∙ whole)).0
    in
    let kinds = and_parts (last.kind == 1) (last.number == 1) payload in
    let is_one : IsPayload last = (eqb-true last.kind 1 kinds.0, eqb-true last.number 1 kinds.1) in
    let first = all_kept_repeated made [] front old.0 in
    let second = all_added_unrepeated made (map (made.kept) front) [] made.facts.items inside passed.numbers in
    let third = last_unrepeated made front made.facts.items last is_one alone.0 (not_one made.facts [] made.facts.items passed.numbers) in
    repeated_append [] (map (made.kept) front) (map (made.added) made.facts.items ++ made.kept last ∷ []) first
    (repeated_append (map (made.kept) front) (map (made.added) made.facts.items) (made.kept last ∷ []) (rw append-nil at second) (rw third refl))

final_last : (made : Made) (front : List Block) (last : Block) → is_payload last ≡ true → ends_in_payload (final made front last) ≡ true
unfolding final
final_last made front last payload =
    rw (← append_assoc) (ends_so (map (made.kept) front ++ map (made.added) made.facts.items) (made.kept last) (rw (made.kept_kind last, made.kept_number last) payload))

pub has_shape : (made : Made) → Passed made.facts → shape_fault (record { primary = made.facts.primary; blocks = made.facts.blocks }) ≡ None
    → (primary : Primary) → HasShape (record { primary = primary; blocks = before_last (map made.kept made.facts.blocks) (map made.added made.facts.items) })
unfolding shape_fault
has_shape made passed none primary =
    let shaped = shaped_by _ made.facts.blocks none in
    let parts = parted made.facts.blocks shaped.last in
    let now = rw parts.is at shaped.numbered in
    let apart = rw parts.is at shaped.apart in
    let all : Shaped (before_last (map (made.kept) made.facts.blocks) (map (made.added) made.facts.items)) =
    rw (final_is made parts.front parts.last parts.is) (record {
      few = final_few made parts.front parts.last passed parts.is;
      numbered = final_numbered made parts.front parts.last passed now;
      apart = final_apart made parts.front parts.last passed parts.is parts.payload apart;
      last = final_last made parts.front parts.last parts.payload;
    })
    in
    too_long_alone _ _ all
