-- What stays, and where a reason holds first.
use Rattle.std.proofs.Common.{◌≡◌, ℕ, zero, suc, ◌+◌, ◌<◌, ◌≤◌, ◌&&◌, Bool, true, false, cond, List, [], ◌∷◌, ◌++◌, length, take, map, get_or, refl, arith, append_assoc}
use Rattle.std.specs.Prelude.{Option, Some, None, find, nat_lt}
use Rattle.std.specs.List.{list_any, take-map, drop-map}
use Rattle.std.proofs.lemmas.Bool.{or_parts, ltb-false}
use Rattle.std.proofs.lemmas.List.{append-nil, length-map, length-append}
use Rattle.std.proofs.lemmas.List.{map-append}
use Rattle.cbor_profile.specs.declared.TheConstants.{BUNDLE_LIMIT}
use Rattle.bp_crc.specs.declared.kind.CheckKind.TheVariants as checks
use Rattle.bp_blocks.specs.declared.block.Block.{Block}
use Rattle.bp_bundle.specs.Shape.{Contents}
use Rattle.bp_bundle.specs.Spelling.{spelling}
use Rattle.bpsec_policy.specs.declared.ring.NamedKey.{NamedKey}
use Rattle.bpsec_plan.specs.declared.item.Item.{Item}
use Rattle.bpsec_plan.specs.declared.item.Item.TheVariants.{Bib, Bcb, Split}
use Rattle.bpsec_facts.specs.declared.reason.Refusal.{Refusal}
use Rattle.bpsec_facts.specs.Items.{block_number, is_cipher, is_in, targets_of, is_target}
use Rattle.bpsec_secure.specs.Laws.{is_split}
use Rattle.bpsec_facts.specs.Facts.{Facts, facts_of}
use Rattle.bpsec_facts.specs.declared.reason.PlanReason.TheVariants.{TooLong}
use Rattle.bpsec_facts.specs.Refusal.{first_at, nowhere}
use Rattle.bpsec_facts.specs.Left.{header_of, splits_from, body_left, block_left, primary_left, before_last}
use Rattle.bpsec_secure.specs.Secured.{seals, sealed, kept, added, secured}
use Rattle.bpsec_facts.specs.Answer.{or_next}
use Rattle.bpsec_secure.specs.Answer.{refusal, secured_bundle}
use Rattle.bpsec_facts.proofs.Chains.{here_not}
use Rattle.bpsec_secure.proofs.ShapeLemmas.{kept_number, added_number}

-- ---- what stays

and_false : (a b : Bool) → b ≡ false → (a && b) ≡ false
and_false true b is = is
and_false false b is = refl

not_sealed : (items : List Item) (number : ℕ) → is_target items number ≡ false → find (seals number) items ≡ None
not_sealed [] number none = refl
not_sealed (item ∷ items) number none =
    let parts = or_parts (is_in (targets_of item) number) (is_target items number) none in
    rw (and_false (is_cipher item) (is_in (targets_of item) number) parts.0) (not_sealed items number parts.1)

none_sealed : (items : List Item) (number : ℕ) → list_any is_cipher items ≡ false → find (seals number) items ≡ None
none_sealed [] number none = refl
none_sealed (item ∷ items) number none =
    let parts = or_parts (is_cipher item) (list_any is_cipher items) none in rw parts.0 (none_sealed items number parts.1)

none_split : (items : List Item) (number : ℕ) → list_any is_split items ≡ false → list_any (splits_from number) items ≡ false
none_split [] number none = refl
none_split (Bib cover ∷ items) number none = none_split items number none
none_split (Bcb cover iv shared_iv tag_in_body ∷ items) number none = none_split items number none
none_split (Split split ∷ items) number none = absurd cc

pub unnamed_stays : (facts : Facts) (block : Block) → is_target facts.items block.number ≡ false → list_any (splits_from block.number) facts.items ≡ false → kept facts block ≡ block
unfolding kept sealed block_left body_left
unnamed_stays facts block untargeted unsplit = rw (not_sealed facts.items block.number untargeted, untargeted, unsplit) refl

pub body_stays : (facts : Facts) (block : Block) → list_any is_cipher facts.items ≡ false → list_any is_split facts.items ≡ false → (kept facts block).body ≡ block.body
unfolding kept sealed block_left body_left
body_stays facts block no_cipher no_split = rw (none_sealed facts.items block.number no_cipher, none_split facts.items block.number no_split) refl

-- ---- what a named block keeps

pub kept_header : (facts : Facts) (block : Block) → header_of (kept facts block) ≡ header_of block
unfolding kept sealed block_left
kept_header facts block = refl

pub target_unchecked : (facts : Facts) (block : Block) → is_target facts.items block.number ≡ true → (kept facts block).crc ≡ checks.None
unfolding kept sealed block_left
target_unchecked facts block target = rw target refl

pub check_stays : (facts : Facts) (block : Block) → is_target facts.items block.number ≡ false → (kept facts block).crc ≡ block.crc
unfolding kept sealed block_left
check_stays facts block untargeted = rw untargeted refl

none_seals : (items : List Item) (number : ℕ) → list_any (seals number) items ≡ false → find (seals number) items ≡ None
none_seals [] number none = refl
none_seals (item ∷ items) number none =
    let parts = or_parts (seals number item) (list_any (seals number) items) none in rw parts.0 (none_seals items number parts.1)

pub unsealed_stays : (facts : Facts) (block : Block) → list_any (seals block.number) facts.items ≡ false → list_any (splits_from block.number) facts.items ≡ false → (kept facts block).body ≡ block.body
unfolding kept sealed block_left body_left
unsealed_stays facts block unsealed unsplit = rw (none_seals facts.items block.number unsealed, unsplit) refl

pub primary_unchecked : (bundle : Contents) (items : List Item) (ring : List NamedKey) → is_target items 0 ≡ true → (secured_bundle bundle items ring).primary ≡ record bundle.primary { crc = checks.None }
unfolding secured_bundle secured facts_of primary_left
primary_unchecked bundle items ring target = rw target refl

pub primary_stays : (bundle : Contents) (items : List Item) (ring : List NamedKey) → is_target items 0 ≡ false → (secured_bundle bundle items ring).primary ≡ bundle.primary
unfolding secured_bundle secured facts_of primary_left
primary_stays bundle items ring untargeted = rw untargeted refl

-- ---- numbers

kept_numbers : (facts : Facts) (blocks : List Block) → map (λ (b : Block). b.number) (map (kept facts) blocks) ≡ map (λ (b : Block). b.number) blocks
kept_numbers facts [] = refl
kept_numbers facts (block ∷ blocks) = rw (kept_number facts block, kept_numbers facts blocks) refl

added_numbers : (facts : Facts) (items : List Item) → map (λ (b : Block). b.number) (map (added facts) items) ≡ map block_number items
added_numbers facts [] = refl
added_numbers facts (item ∷ items) = rw (added_number facts item, added_numbers facts items) refl

map_before_last : (f : Block → ℕ) (blocks new : List Block) → map f (before_last blocks new) ≡ before_last (map f blocks) (map f new)
map_before_last f blocks new = simp (map-append, take-map, drop-map, length-map)

pub blocks_are : (bundle : Contents) (items : List Item) (ring : List NamedKey) → (secured_bundle bundle items ring).blocks ≡ before_last (map (kept (facts_of bundle items ring)) bundle.blocks) (map (added (facts_of bundle items ring)) items)
unfolding secured_bundle secured facts_of
blocks_are bundle items ring = refl

pub numbers_are : (bundle : Contents) (items : List Item) (ring : List NamedKey) → map (λ (b : Block). b.number) (secured_bundle bundle items ring).blocks ≡ before_last (map (λ (b : Block). b.number) bundle.blocks) (map block_number items)
numbers_are bundle items ring =
    let facts = facts_of bundle items ring in
    rw (blocks_are bundle items ring, map_before_last (λ (b : Block). b.number) (map (kept facts) bundle.blocks) (map (added facts) items), kept_numbers facts bundle.blocks, added_numbers facts items) refl

-- ---- the limit

next_none : (first next : Option Refusal) → or_next first next ≡ None → next ≡ None
next_none None next none = none
next_none (Some refusal) next none = absurd cc

within_by : (n : ℕ) (b : Bool) → nat_lt BUNDLE_LIMIT n ≡ b → (refusal : Refusal) → ◌≡◌ {A = Option Refusal} (cond b (Some refusal) None) None → n ≤ BUNDLE_LIMIT
within_by n true is refusal none = absurd cc
within_by n false is refusal none = ltb-false BUNDLE_LIMIT n is

pub within : (bundle : Contents) (items : List Item) (ring : List NamedKey) → refusal bundle items ring ≡ None → length (spelling (secured_bundle bundle items ring)) ≤ BUNDLE_LIMIT
unfolding refusal secured_bundle
within bundle items ring none = within_by (length (spelling (secured (facts_of bundle items ring)))) _ refl (nowhere TooLong) (next_none _ _ none)

-- ---- the least index

pub none_before : (holds : List Item → Item → Bool) (before items : List Item) → first_at holds before items ≡ None → (k : ℕ) (d : Item) → k < length items → holds (before ++ take k items) (get_or items k d) ≡ false
none_before holds before [] none k d within = absurd (omega arith)
none_before holds before (item ∷ more) none zero d within = rw append-nil (here_not (holds before item) (length before) _ none).0
none_before holds before (item ∷ more) none (suc k) d within =
    rw append_assoc at (none_before holds (before ++ item ∷ []) more (here_not (holds before item) (length before) _ none).1 k d (omega arith))

pub record LeastAt (holds : List Item → Item → Bool) (before items : List Item) (at : ℕ) : Type 0 where
  pub index : ℕ
  pub at_is : at ≡ length before + index
  pub within : index < length items
  pub here : (d : Item) → holds (before ++ take index items) (get_or items index d) ≡ true
  pub not_before : (k : ℕ) (d : Item) → k < index → holds (before ++ take k items) (get_or items k d) ≡ false

least_here : (holds : List Item → Item → Bool) (before : List Item) (item : Item) (more : List Item) (at : ℕ) → holds before item ≡ true → length before ≡ at → LeastAt holds before (item ∷ more) at
least_here holds before item more at is same = record {
  index = zero;
  at_is = omega arith;
  within = omega arith;
  here = λ d. rw append-nil is;
  not_before = λ k d below. absurd (omega arith);
}

later_not : (holds : List Item → Item → Bool) (before : List Item) (item : Item) (more : List Item) (index : ℕ) → holds before item ≡ false → ((k : ℕ) (d : Item) → k < index → holds ((before ++ item ∷ []) ++ take k more) (get_or more k d) ≡ false) → (k : ℕ) (d : Item) → k < suc index → holds (before ++ take k (item ∷ more)) (get_or (item ∷ more) k d) ≡ false
later_not holds before item more index is rest zero d below = rw append-nil is
later_not holds before item more index is rest (suc k) d below = rw append_assoc at (rest k d (omega arith))

least_later : (holds : List Item → Item → Bool) (before : List Item) (item : Item) (more : List Item) (at : ℕ) → holds before item ≡ false → LeastAt holds (before ++ item ∷ []) more at → LeastAt holds before (item ∷ more) at
least_later holds before item more at is rest = record {
  index = suc rest.index;
  at_is = omega (arith, rest.at_is, length-append before (item ∷ []));
  within = omega (arith, rest.within);
  here = λ d. rw append_assoc at (rest.here d);
  not_before = later_not holds before item more rest.index is rest.not_before;
}

least_by : (holds : List Item → Item → Bool) (before : List Item) (item : Item) (more : List Item) (at : ℕ) (b : Bool) → holds before item ≡ b → cond b (Some (length before)) (first_at holds (before ++ item ∷ []) more) ≡ Some at → (first_at holds (before ++ item ∷ []) more ≡ Some at → LeastAt holds (before ++ item ∷ []) more at) → LeastAt holds before (item ∷ more) at
least_by holds before item more at true here is rest = least_here holds before item more at here cc
least_by holds before item more at false here is rest = least_later holds before item more at here (rest is)

pub least_at : (holds : List Item → Item → Bool) (before items : List Item) (at : ℕ) → first_at holds before items ≡ Some at → LeastAt holds before items at
least_at holds before [] at is = absurd cc
least_at holds before (item ∷ more) at is = least_by holds before item more at (holds before item) refl is (least_at holds (before ++ item ∷ []) more at)
