-- Bodies and bundles that are too long.
use Rattle.std.proofs.Common.{◌≡◌, ℕ, zero, suc, ◌-◌, ◌<◌, ◌≤◌, ◌||◌, Bool, true, false, List, [], ◌∷◌, ◌++◌, length, map, take, drop, get_or, refl, sym, ap, ◌∙◌, arith}
use Rattle.std.specs.Prelude.{Option, Some, None, nat_lt}
use Rattle.std.specs.List.{list_any, flat_map}
use Rattle.std.proofs.lemmas.Bool.{or_parts, ltb-true, ltb-false, lt-ltb}
use Rattle.std.proofs.lemmas.List.{length-append, take-append-drop}
use Rattle.std.proofs.lemmas.List.Folds.{list_any-append}
use Rattle.gcm_core.proofs.SizeLemmas.{length-ciphered}
use Rattle.cbor_profile.specs.declared.TheConstants.{BUNDLE_LIMIT}
use Rattle.bp_blocks.specs.declared.block.Block.{Block}
use Rattle.bp_blocks.specs.Spelling as canonical
use Rattle.bp_bundle.specs.Shape.{Contents}
use Rattle.bp_bundle.specs.Spelling.{spelling}
use Rattle.bpsec_context.specs.Calls.{Protected}
use Rattle.bpsec_scope.specs.declared.header.Header.{Header}
use Rattle.bpsec_plan.specs.declared.item.Item.{Item}
use Rattle.bpsec_plan.specs.declared.item.Item.TheVariants.{Bib, Bcb, Split}
use Rattle.bpsec_facts.specs.Facts.{Facts}
use Rattle.bpsec_facts.specs.Left.{is_long, AreShort}
use Rattle.bpsec_facts.proofs.ShortLemmas.{longer, spelled_longer}
use Rattle.bpsec_facts.specs.Left.{header_of, new_header, primary_left, block_left, new_block, before_last}
use Rattle.bpsec_secure.specs.Secured.{sealed_parts, block_cipher, protected, with_tag, body_sealed, sealed_by, sealing_item, sealed, plain_block, kept, added, secured}

-- ---- blocks that aren't long

pub short_each : (blocks : List Block) → list_any is_long blocks ≡ false → AreShort blocks
short_each blocks none = λ k d within. omega (arith, each blocks none k d within)
  where
    each : (blocks : List Block) → list_any is_long blocks ≡ false → (k : ℕ) (d : Block) → k < length blocks → length (get_or blocks k d).body ≤ BUNDLE_LIMIT
    each [] none k d within = absurd (omega arith)
    each (block ∷ blocks) none zero d within = ltb-false BUNDLE_LIMIT (length block.body) (or_parts (is_long block) (list_any is_long blocks) none).0
    each (block ∷ blocks) none (suc k) d within = each blocks (or_parts (is_long block) (list_any is_long blocks) none).1 k d (omega arith)

-- ---- a long block makes the bundle long

long_by : (block : Block) (blocks : List Block) (b : Bool) → is_long block ≡ b → (b || list_any is_long blocks) ≡ true → (list_any is_long blocks ≡ true → BUNDLE_LIMIT < length (flat_map canonical.spelling blocks)) → BUNDLE_LIMIT < length (canonical.spelling block ++ flat_map canonical.spelling blocks)
long_by block blocks true is any rest =
    simp length-append (omega (arith, ltb-true BUNDLE_LIMIT (length block.body) is, longer block))
long_by block blocks false is any rest = simp length-append (omega (arith, rest any))

long_spelled : (blocks : List Block) → list_any is_long blocks ≡ true → BUNDLE_LIMIT < length (flat_map canonical.spelling blocks)
long_spelled [] any = absurd cc
long_spelled (block ∷ blocks) any = long_by block blocks (is_long block) refl any (long_spelled blocks)

-- ---- sealing makes no body shorter

with_tag_longer : (tag_in_body : Bool) (made : Protected) → length made.ciphertext ≤ length (with_tag tag_in_body made)
with_tag_longer true made = simp length-append (omega arith)
with_tag_longer false made = omega arith

sealed_longer_by : (facts : Facts) (item : Item) (target : Header) (body : List ℕ) → length body ≤ length (body_sealed facts item target body)
unfolding protected
sealed_longer_by facts (Bib cover) target body = omega arith
sealed_longer_by facts (Bcb cover iv shared_iv tag_in_body) target body =
    let made : Protected = protected facts.ring cover iv (sealed_parts (primary_left facts) (new_header (Bcb cover iv shared_iv tag_in_body)) target) body in
    let same : length made.ciphertext ≡ length body = length-ciphered (block_cipher facts.ring cover) iv body in
    omega (arith, with_tag_longer tag_in_body made)
sealed_longer_by facts (Split split) target body = omega arith

sealed_longer_where : (facts : Facts) (item : Option Item) (block : Block) → length block.body ≤ length (sealed_by facts item block)
sealed_longer_where facts None block = omega arith
sealed_longer_where facts (Some item) block = sealed_longer_by facts item (header_of block) block.body

sealed_longer : (facts : Facts) (block : Block) → length block.body ≤ length (sealed facts block).body
unfolding sealed
sealed_longer facts block = sealed_longer_where facts (sealing_item facts block) block

long_sealed : (facts : Facts) (block : Block) → is_long block ≡ true → is_long (sealed facts block) ≡ true
long_sealed facts block is =
    lt-ltb BUNDLE_LIMIT (length (sealed facts block).body) (omega (arith, ltb-true BUNDLE_LIMIT (length block.body) is, sealed_longer facts block))

-- ---- the blocks of the secured bundle

long_kept : (facts : Facts) (block : Block) → is_long (block_left facts block) ≡ true → is_long (kept facts block) ≡ true
unfolding kept
long_kept facts block is = long_sealed facts (block_left facts block) is

long_added : (facts : Facts) (item : Item) → is_long (plain_block facts item) ≡ true → is_long (added facts item) ≡ true
unfolding added plain_block new_block
long_added facts (Bib cover) is = long_sealed facts _ is
long_added facts (Bcb cover iv shared_iv tag_in_body) is = absurd cc
long_added facts (Split split) is = long_sealed facts _ is

any_by : {X Y : Type 0} (p : X → Bool) (q : Y → Bool) (x : X) (y : Y) (xs : List X) (ys : List Y) (b : Bool) → p x ≡ b → (b ≡ true → q y ≡ true) → (b || list_any p xs) ≡ true → (list_any p xs ≡ true → list_any q ys ≡ true) → (q y || list_any q ys) ≡ true
any_by p q x y xs ys true is here any rest = rw (here refl) refl
any_by p q x y xs ys false is here any rest = or_right (q y) (list_any q ys) (rest any)
  where
    or_right : (a b : Bool) → b ≡ true → (a || b) ≡ true
    or_right true b is = refl
    or_right false b is = is

long_all_kept : (facts : Facts) (blocks : List Block) → list_any is_long (map (block_left facts) blocks) ≡ true → list_any is_long (map (kept facts) blocks) ≡ true
long_all_kept facts [] any = any
long_all_kept facts (block ∷ blocks) any =
    any_by is_long is_long (block_left facts block) (kept facts block) (map (block_left facts) blocks) (map (kept facts) blocks) (is_long (block_left facts block)) refl (long_kept facts block) any (long_all_kept facts blocks)

long_all_added : (facts : Facts) (items : List Item) → list_any is_long (map (plain_block facts) items) ≡ true → list_any is_long (map (added facts) items) ≡ true
long_all_added facts [] any = any
long_all_added facts (item ∷ items) any =
    any_by is_long is_long (plain_block facts item) (added facts item) (map (plain_block facts) items) (map (added facts) items) (is_long (plain_block facts item)) refl (long_added facts item) any (long_all_added facts items)

or_cases : (a b c d : Bool) → (a || b) ≡ true → (a ≡ true → c ≡ true) → (b ≡ true → d ≡ true) → (c || d) ≡ true
or_cases true b c d any left right = rw (left refl) refl
or_cases false b true d any left right = refl
or_cases false b false d any left right = right any

-- a list, with another before its last element
any_before_last : (p : Block → Bool) (xs new : List Block) → list_any p (before_last xs new) ≡ (list_any p xs || list_any p new)
any_before_last p xs new =
    let n : ℕ = length xs - 1 in
    let whole : (list_any p (take n xs) || list_any p (drop n xs)) ≡ list_any p xs = sym (list_any-append p (take n xs) (drop n xs)) ∙ ap (list_any p) (take-append-drop n xs) in
    list_any-append p (take n xs) (new ++ drop n xs) ∙ (ap (λ (b : Bool). list_any p (take n xs) || b) (list_any-append p new (drop n xs)) ∙ (moved (list_any p (take n xs)) (list_any p new) (list_any p (drop n xs)) ∙ ap (λ (b : Bool). b || list_any p new) whole))
  where
    moved : (a b c : Bool) → (a || (b || c)) ≡ ((a || c) || b)
    moved true b c = refl
    moved false true true = refl
    moved false true false = refl
    moved false false true = refl
    moved false false false = refl

pub long_bundle : (facts : Facts) → (list_any is_long (map (block_left facts) facts.blocks) || list_any is_long (map (plain_block facts) facts.items)) ≡ true → nat_lt BUNDLE_LIMIT (length (spelling (secured facts))) ≡ true
unfolding secured
long_bundle facts any =
    let here : list_any is_long (before_last (map (kept facts) facts.blocks) (map (added facts) facts.items)) ≡ true =
    any_before_last is_long (map (kept facts) facts.blocks) (map (added facts) facts.items) ∙ or_cases (list_any is_long (map (block_left facts) facts.blocks)) (list_any is_long (map (plain_block facts) facts.items)) (list_any is_long (map (kept facts) facts.blocks)) (list_any is_long (map (added facts) facts.items)) any (long_all_kept facts facts.blocks) (long_all_added facts facts.items)
    in
    lt-ltb BUNDLE_LIMIT (length (spelling (secured facts))) (omega (arith, long_spelled (before_last (map (kept facts) facts.blocks) (map (added facts) facts.items)) here, spelled_longer (secured facts)))
