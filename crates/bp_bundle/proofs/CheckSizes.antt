-- How many bytes a block has with another check.
use Rattle.std.proofs.Common.{◌≡◌, ◌≢◌, ℕ, zero, suc, ◌+◌, ◌<◌, ◌≤◌, Bool, true, false, cond, eqb, List, [], ◌∷◌, length, map, get_or, Some, refl, sym, ◌∙◌, ap, arith, eq-eqb, length-append}
use Rattle.std.specs.List.{All, AllPairs, slice_get}
use Rattle.std.proofs.lemmas.Bool.{eqb-true, false_from_ne_true}
use Rattle.bp_crc.specs.declared.kind.CheckKind.{CheckKind}
use Rattle.bp_crc.specs.declared.kind.CheckKind.TheVariants as kinds
use Rattle.bp_primary.specs.declared.primary.Primary.{Primary}
use Rattle.bp_primary.specs.Spelling as primaries
use Rattle.bp_primary.specs.Spelling.{nodes, times}
use Rattle.bp_blocks.specs.declared.block.Block.{Block}
use Rattle.bp_blocks.specs.Spelling as blocks
use Rattle.bp_bundle.specs.Shape.{Contents}
use Rattle.bp_bundle.specs.Spelling.{IsNumbered, IsBundle, spelling}
use Rattle.bp_bundle.specs.Edits.{check_size, crc_if, with_crc}
use Rattle.bp_bundle.proofs.Sizes.{spelled, spelled_cons, whole_size}
use Rattle.bp_bundle.proofs.BlockSizes.{block_size, primary_size}

other_number : (a b : ℕ) → a ≢ b → eqb a b ≡ false
other_number a b other = false_from_ne_true (eqb a b) (λ e. other (eqb-true a b e))

-- ---- one block

block_changed : (block : Block) (crc : CheckKind) → length (blocks.spelling (record block { crc = crc })) + check_size block.crc ≡ length (blocks.spelling block) + check_size crc
block_changed block crc = omega (arith, block_size block, block_size (record block { crc = crc }))

-- ---- the primary block

primary_changed : (primary : Primary) (crc : CheckKind) → length (primaries.spelling (record primary { crc = crc })) + check_size primary.crc ≡ length (primaries.spelling primary) + check_size crc
unfolding nodes times
primary_changed primary crc = omega (arith, primary_size primary, primary_size (record primary { crc = crc }))

pub primary_check_size : (bundle : Contents) (crc : CheckKind) → length (spelling (with_crc 0 crc bundle)) + check_size bundle.primary.crc ≡ length (spelling bundle) + check_size crc
primary_check_size bundle crc =
    omega (arith, whole_size bundle, whole_size (record bundle { primary = record bundle.primary { crc = crc } }), primary_changed bundle.primary crc)

-- ---- the block of a number

-- no block has the number
others_same : (number : ℕ) (crc : CheckKind) (bs : List Block) → ((k : ℕ) (d : Block) → k < length bs → (get_or bs k d).number ≢ number) → map (crc_if number crc) bs ≡ bs
others_same number crc [] others = refl
others_same number crc (b ∷ bs) others =
    let other : eqb b.number number ≡ false = other_number _ _ (others 0 b (omega arith)) in
    rw other (ap (λ (t : List Block). b ∷ t) (others_same number crc bs (λ k d inside. others (suc k) d (omega arith))))

within : (bs : List Block) (index : ℕ) (block : Block) → slice_get bs index ≡ Some block → index < length bs
within [] index block there = absurd cc
within (b ∷ bs) zero block there = omega arith
within (b ∷ bs) (suc index) block there = let less = within bs index block there in omega arith

got : (bs : List Block) (index : ℕ) (block d : Block) → slice_get bs index ≡ Some block → get_or bs index d ≡ block
got [] index block d there = absurd cc
got (b ∷ bs) zero block d there = cc
got (b ∷ bs) (suc index) block d there = got bs index block d there

changed_at : (bs : List Block) (index : ℕ) (block : Block) (crc : CheckKind) → AllPairs (λ a b. a.number ≢ b.number) bs → slice_get bs index ≡ Some block
    → length (spelled (map (crc_if block.number crc) bs)) + check_size block.crc ≡ length (spelled bs) + check_size crc
changed_at [] index block crc distinct there = absurd cc
changed_at (b ∷ bs) zero block crc distinct there =
    let is : b ≡ block = cc in
    let rest : map (crc_if block.number crc) bs ≡ bs = others_same block.number crc bs (λ k d inside e. distinct 0 (suc k) d (omega arith) (omega arith) (ap (λ (x : Block). x.number) is ∙ sym e)) in
    let own : crc_if block.number crc b ≡ record block { crc = crc } = ap (crc_if block.number crc) is ∙ rw (eq-eqb block.number block.number refl) refl in
    let one = block_changed block crc in
    let size = ap (λ (x : Block). length (blocks.spelling x)) is in
    rw (own, rest) (omega (arith, spelled_cons (record block { crc = crc }) bs, spelled_cons b bs))
changed_at (b ∷ bs) (suc index) block crc distinct there =
    let other : eqb b.number block.number ≡ false = other_number _ _ (λ e. distinct 0 (suc index) b (omega arith) (omega (arith, within bs index block there)) (e ∙ ap (λ (x : Block). x.number) (sym (got bs index block b there)))) in
    let more = changed_at bs index block crc (λ i j d below inside. distinct (suc i) (suc j) d (omega arith) (omega arith)) there in
    rw other (omega (arith, spelled_cons b (map (crc_if block.number crc) bs), spelled_cons b bs))

numbered_at : (bs : List Block) (index : ℕ) (block : Block) → All IsNumbered bs → slice_get bs index ≡ Some block → block.number ≢ 0
numbered_at bs index block all there e = (all index block (within bs index block there)).0 (ap (λ (x : Block). x.number) (got bs index block block there) ∙ e)

not_zero : (number : ℕ) → number ≢ 0 → eqb number 0 ≡ false
not_zero number is = other_number number 0 is

pub block_check_size : (bundle : Contents) (index : ℕ) (block : Block) (crc : CheckKind) → IsBundle bundle → slice_get bundle.blocks index ≡ Some block
    → length (spelling (with_crc block.number crc bundle)) + check_size block.crc ≡ length (spelling bundle) + check_size crc
block_check_size bundle index block crc is there =
    rw (not_zero block.number (numbered_at bundle.blocks index block is.numbered there))
    (omega (arith, whole_size bundle, whole_size (record bundle { blocks = map (crc_if block.number crc) bundle.blocks }), changed_at bundle.blocks index block crc is.distinct there))

-- ---- no check is shortest

crc_if_less : (b : Bool) (block : Block) → length (blocks.spelling (cond b (record block { crc = kinds.None }) block)) ≤ length (blocks.spelling block)
crc_if_less true block = omega (arith, block_changed block kinds.None)
crc_if_less false block = omega arith

blocks_less : (number : ℕ) (bs : List Block) → length (spelled (map (crc_if number kinds.None) bs)) ≤ length (spelled bs)
blocks_less number [] = omega arith
blocks_less number (b ∷ bs) =
    let one = crc_if_less (eqb b.number number) b in
    let more = blocks_less number bs in
    omega (arith, spelled_cons (crc_if number kinds.None b) (map (crc_if number kinds.None) bs), spelled_cons b bs)

less_by : (b : Bool) (number : ℕ) (bundle : Contents)
    → length (spelling (cond b (record bundle { primary = record bundle.primary { crc = kinds.None } }) (record bundle { blocks = map (crc_if number kinds.None) bundle.blocks }))) ≤ length (spelling bundle)
less_by true number bundle = omega (arith, primary_check_size bundle kinds.None)
less_by false number bundle =
    omega (arith, whole_size bundle, whole_size (record bundle { blocks = map (crc_if number kinds.None) bundle.blocks }), blocks_less number bundle.blocks)

pub no_check_is_shortest : (bundle : Contents) (number : ℕ) → length (spelling (with_crc number kinds.None bundle)) ≤ length (spelling bundle)
no_check_is_shortest bundle number = less_by (eqb number 0) number bundle
