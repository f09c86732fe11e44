-- A bundle's rules hold exactly where there is no fault.
use Rattle.std.proofs.Common.{◌≡◌, ◌≢◌, ◌↔◌, ℕ, zero, suc, ◌+◌, ◌-◌, ◌<◌, ◌≤◌, Bool, true, false, not, cond, ltb, eqb, IsTrue, ◌&&◌, List, [], ◌∷◌, ◌++◌, length, get_or, Option, Some, None, refl, sym, subst, ◌∙◌, arith, append_assoc}
use Rattle.std.specs.List.{All, AllPairs, HoldsAt, list_any, position, prefix_len, slice_get}
use Rattle.std.proofs.lemmas.Bool.{or_parts, and_parts, eqb-false, eqb-true, eq-eqb, ltb-false}
use Rattle.std.proofs.lemmas.List.{append-nil}
use Rattle.std.proofs.lemmas.List.Quantifiers.{all_pairs_push}
use Rattle.std.proofs.lemmas.Option.{get_or_from_slice_get}
use Rattle.cbor_profile.specs.declared.TheConstants.{BUNDLE_LIMIT}
use Rattle.bp_blocks.specs.declared.block.Block.{Block}
use Rattle.bp_bundle.specs.declared.shape.ShapeFault.{ShapeFault}
use Rattle.bp_bundle.specs.declared.shape.ShapeFault.TheVariants as faults
use Rattle.bp_bundle.specs.Spelling.{IsPayload, IsNumbered, is_single}
use Rattle.bp_bundle.specs.Faults.{exactly, may_have, is_misnumbered, has_number, has_single, is_repeated, repeated_from, is_payload, is_payload_there, ends_in_payload, or_else, shape_fault_of}

abbrev pub Differ : Block → Block → Type 0
Differ a b = a.number ≢ b.number

abbrev pub Once : Block → Block → Type 0
Once a b = IsTrue (is_single a.kind) → a.kind ≢ b.kind

-- the rules on the blocks
pub record Keeps (size : ℕ) (blocks : List Block) : Type 0 where
  pub some : 1 ≤ length blocks
  pub few : length blocks ≤ 64
  pub numbered : All IsNumbered blocks
  pub distinct : AllPairs Differ blocks
  pub once : AllPairs Once blocks
  pub payload_last : HoldsAt IsPayload blocks (length blocks - 1)
  pub within : size ≤ BUNDLE_LIMIT

-- ---- tests

not_true : (b : Bool) → not b ≡ true → b ≡ false
not_true true is = absurd cc
not_true false is = refl

not_false : (b : Bool) → not b ≡ false → b ≡ true
not_false true is = refl
not_false false is = absurd cc

single_by : (a b : Bool) → (a && b) ≡ false → a ≡ true → b ≡ false
single_by true b is single = is
single_by false b is single = absurd cc

pub any_false : {X : Type 0} (p : X → Bool) (xs : List X) → list_any p xs ≡ false → (k : ℕ) (d : X) → k < length xs → p (get_or xs k d) ≡ false
any_false p [] none k d within = absurd (omega arith)
any_false p (x ∷ xs) none zero d within = (or_parts (p x) (list_any p xs) none).0
any_false p (x ∷ xs) none (suc k) d within = any_false p xs (or_parts (p x) (list_any p xs) none).1 k d (omega arith)

not_found_by : {X : Type 0} (b : Bool) (p : X → Bool) (x : X) (xs : List X) → p x ≡ b → length xs + 1 ≤ cond (not b) (1 + prefix_len (λ y. not (p y)) xs) 0 → (b ≡ false) × (length xs ≤ prefix_len (λ y. not (p y)) xs)
not_found_by true p x xs is long = absurd (omega arith)
not_found_by false p x xs is long = (refl, omega arith)

not_found : {X : Type 0} (p : X → Bool) (xs : List X) → length xs ≤ prefix_len (λ y. not (p y)) xs → (k : ℕ) (d : X) → k < length xs → p (get_or xs k d) ≡ false
not_found p [] long k d within = absurd (omega arith)
not_found p (x ∷ xs) long zero d within = (not_found_by (p x) p x xs refl (omega arith)).0
not_found p (x ∷ xs) long (suc k) d within = not_found p xs (not_found_by (p x) p x xs refl (omega arith)).1 k d (omega arith)

position_by : (n len : ℕ) (b : Bool) → ltb n len ≡ b → ◌≡◌ {A = Option ℕ} (cond b (Some n) None) None → len ≤ n
position_by n len true is none = absurd cc
position_by n len false is none = ltb-false n len is

pub position_none : {X : Type 0} (p : X → Bool) (xs : List X) → position p xs ≡ None → (k : ℕ) (d : X) → k < length xs → p (get_or xs k d) ≡ false
position_none p xs none = not_found p xs (position_by (prefix_len (λ y. not (p y)) xs) (length xs) (ltb (prefix_len (λ y. not (p y)) xs) (length xs)) refl none)

-- ---- the rules on a block

exactly_is : (a b : Bool) → exactly a b ≡ true → a ≡ b
exactly_is true true is = refl
exactly_is true false is = absurd cc
exactly_is false true is = absurd cc
exactly_is false false is = refl

pub numbered_is : (kind number : ℕ) → may_have kind number ≡ true → (number ≢ 0) × ((kind ≡ 1) ↔ (number ≡ 1))
numbered_is kind number is =
    let parts = and_parts (not (eqb number 0)) (exactly (eqb kind 1) (eqb number 1)) is in
    let same : eqb kind 1 ≡ eqb number 1 = exactly_is (eqb kind 1) (eqb number 1) parts.1 in
    let other : eqb number 0 ≡ false = not_true (eqb number 0) parts.0 in
    (eqb-false number 0 other, ((λ h. eqb-true number 1 (sym same ∙ eq-eqb kind 1 h)), (λ h. eqb-true kind 1 (same ∙ eq-eqb number 1 h))))

misnumbered_not : (block : Block) → is_misnumbered block ≡ false → IsNumbered block
misnumbered_not block is = numbered_is block.kind block.number (not_false (may_have block.kind block.number) is)

-- ---- blocks that differ

pub unrepeated : (before : List Block) (block : Block) → is_repeated before block ≡ false → (k : ℕ) (d : Block) → k < length before → Differ (get_or before k d) block × Once (get_or before k d) block
unrepeated before block is k d within =
    let parts = or_parts (has_number before block.number) (has_single before block.kind) is in
    let number : eqb (get_or before k d).number block.number ≡ false = any_false (λ (b : Block). eqb b.number block.number) before parts.0 k d within in (
      eqb-false (get_or before k d).number block.number number,
      λ single same.
          let kind : eqb (get_or before k d).kind block.kind ≡ false = any_false (λ (b : Block). eqb b.kind block.kind) before (single_by (is_single block.kind) (list_any (λ (b : Block). eqb b.kind block.kind) before) parts.1 (subst (λ (n : ℕ). IsTrue (is_single n)) same single)) k d within in
          eqb-false (get_or before k d).kind block.kind kind same,
    )

repeated_by : (b : Bool) (n : ℕ) (next : Option ℕ) → cond b (Some n) next ≡ None → (b ≡ false) × (next ≡ None)
repeated_by true n next is = absurd cc
repeated_by false n next is = (refl, is)

pub all_differ : (before blocks : List Block) → repeated_from before blocks ≡ None → AllPairs Differ before → AllPairs Once before → AllPairs Differ (before ++ blocks) × AllPairs Once (before ++ blocks)
all_differ before [] none differ once = rw append-nil (differ, once)
all_differ before (block ∷ more) none differ once =
    let parts = repeated_by (is_repeated before block) (length before) (repeated_from (before ++ block ∷ []) more) none in
    let fits = unrepeated before block parts.0 in
    let all = all_differ (before ++ block ∷ []) more parts.1 (all_pairs_push Differ before block differ (λ k d within. (fits k d within).0)) (all_pairs_push Once before block once (λ k d within. (fits k d within).1)) in
    rw append_assoc at all

-- ---- the payload block

pub payload_is : (block : Block) → is_payload block ≡ true → IsPayload block
payload_is block is =
    let parts = and_parts (eqb block.kind 1) (eqb block.number 1) is in
    (eqb-true block.kind 1 parts.0, eqb-true block.number 1 parts.1)

last_by : (blocks : List Block) (o : Option Block) → slice_get blocks (length blocks - 1) ≡ o → is_payload_there o ≡ true → (1 ≤ length blocks) × HoldsAt IsPayload blocks (length blocks - 1)
last_by [] (Some block) at is = absurd cc
last_by (first ∷ more) (Some block) at is = (omega arith, λ d. rw (get_or_from_slice_get (first ∷ more) (length (first ∷ more) - 1) block d at) (payload_is block is))
last_by blocks None at is = absurd cc

pub ends_is : (blocks : List Block) → ends_in_payload blocks ≡ true → (1 ≤ length blocks) × HoldsAt IsPayload blocks (length blocks - 1)
ends_is blocks is = last_by blocks (slice_get blocks (length blocks - 1)) refl is

-- ---- all together

if_none : (b : Bool) (fault : ShapeFault) (next : Option ShapeFault) → cond b (Some fault) next ≡ None → (b ≡ false) × (next ≡ None)
if_none true fault next is = absurd cc
if_none false fault next is = (refl, is)

else_none : (fault : ℕ → ShapeFault) (o : Option ℕ) (next : Option ShapeFault) → or_else fault o next ≡ None → (o ≡ None) × (next ≡ None)
else_none fault (Some n) next is = absurd cc
else_none fault None next is = (refl, is)

pub no_fault_keeps : (size : ℕ) (blocks : List Block) → shape_fault_of size blocks ≡ None → Keeps size blocks
unfolding shape_fault_of
no_fault_keeps size blocks is =
    let a = if_none (ltb 64 (length blocks)) faults.TooManyBlocks _ is in
    let b = else_none faults.BadNumber (position is_misnumbered blocks) _ a.1 in
    let c = else_none faults.Repeated (repeated_from [] blocks) _ b.1 in
    let d = if_none (not (ends_in_payload blocks)) faults.NoPayloadLast _ c.1 in
    let e = if_none (ltb BUNDLE_LIMIT size) faults.TooLong _ d.1 in
    let apart = all_differ [] blocks c.0 (λ i j d below within. absurd (omega arith)) (λ i j d below within. absurd (omega arith)) in
    let last = ends_is blocks (not_false (ends_in_payload blocks) d.0) in
    record {
      some = last.0;
      few = ltb-false 64 (length blocks) a.0;
      numbered = λ k d within. misnumbered_not (get_or blocks k d) (position_none is_misnumbered blocks b.0 k d within);
      distinct = apart.0;
      once = apart.1;
      payload_last = last.1;
      within = ltb-false BUNDLE_LIMIT size e.0;
    }
