-- The block with a number is given an opened body.
use Rattle.std.proofs.Common.{◌≡◌, ℕ, zero, suc, ◌+◌, ◌<◌, ◌≤◌, ◌↔◌, Bool, true, false, cond, eqb, ltb, not, List, [], ◌∷◌, map, length, get_or, Option, Some, None, Result, Ok, Err, refl, sym, ◌∙◌, ap, arith}
use Rattle.std.specs.Prelude.{IsErr, OnOk, position}
use Rattle.std.specs.List.{prefix_len}
use borrow.Author.Tests.{ltb-false, ltb-true}
use Rattle.std.proofs.lemmas.Bool.{eq-eqb, ne_eqb}
use Rattle.cbor_profile.specs.declared.TheConstants.{BUNDLE_LIMIT}
use Rattle.bp_blocks.specs.declared.block.Block.{Block}
use Rattle.bp_bundle.specs.Shape.{Contents}
use Rattle.bp_bundle.specs.Edits.{body_at, with_body}
use Rattle.bpsec_asb.specs.Operations.{NumbersAreDistinct}
use Rattle.bpsec_node.specs.Change.{opened_block, opened_bundle}

opened_none : (number : ℕ) (blocks : List Block) → map (opened_block number None) blocks ≡ blocks
opened_none number [] = refl
opened_none number (block ∷ blocks) = ap (λ bs. block ∷ bs) (opened_none number blocks)

pub bundle_none : (number : ℕ) (bundle : Contents) → opened_bundle number None bundle ≡ bundle
bundle_none number bundle = ap (λ (bs : List Block). record { primary = bundle.primary; blocks = bs }) (opened_none number bundle.blocks)

opened_others : (number : ℕ) (body : List ℕ) (blocks : List Block) → ((i : ℕ) (d : Block) → i < length blocks → eqb (get_or blocks i d).number number ≡ false) → map (opened_block number (Some body)) blocks ≡ blocks
opened_others number body [] others = refl
opened_others number body (block ∷ blocks) others =
    ap (λ b. cond b (record block { body = body }) block ∷ map (opened_block number (Some body)) blocks) (others 0 block (omega arith))
    ∙ ap (λ bs. block ∷ bs) (opened_others number body blocks (λ i d lt. others (suc i) d (omega arith)))

pub bundle_others : (number : ℕ) (body : List ℕ) (bundle : Contents) → ((i : ℕ) (d : Block) → i < length bundle.blocks → eqb (get_or bundle.blocks i d).number number ≡ false) → opened_bundle number (Some body) bundle ≡ bundle
bundle_others number body bundle others = ap (λ (bs : List Block). record { primary = bundle.primary; blocks = bs }) (opened_others number body bundle.blocks others)

pairs_tail : (block : Block) (blocks : List Block) → NumbersAreDistinct (block ∷ blocks) → NumbersAreDistinct blocks
pairs_tail block blocks distinct i j d lt in' = distinct (suc i) (suc j) d (omega arith) (omega arith)

-- the one at the index, and no other
opened_here : (blocks : List Block) (index number : ℕ) (body : List ℕ) → NumbersAreDistinct blocks → index < length blocks → ((d : Block) → (get_or blocks index d).number ≡ number) → body_at index body blocks ≡ map (opened_block number (Some body)) blocks
opened_here [] index number body distinct lt is = absurd (omega arith)
opened_here (block ∷ blocks) zero number body distinct lt is =
    sym (ap (λ b. cond b (record block { body = body }) block ∷ map (opened_block number (Some body)) blocks) (eq-eqb block.number number (is block))
    ∙ ap (λ bs. record block { body = body } ∷ bs) (opened_others number body blocks (λ i d lt'. ne_eqb (get_or blocks i d).number number (λ e. distinct 0 (suc i) d (omega arith) (omega arith) (is block ∙ sym e)))))
opened_here (block ∷ blocks) (suc index) number body distinct lt is =
    ap (λ bs. block ∷ bs) (opened_here blocks index number body (pairs_tail block blocks distinct) (omega arith) is)
    ∙ sym (ap (λ b. cond b (record block { body = body }) block ∷ map (opened_block number (Some body)) blocks) (ne_eqb block.number number (λ e. distinct 0 (suc index) block (omega arith) (omega arith) (e ∙ sym (is block)))))

pub bundle_here : (bundle : Contents) (index number : ℕ) (body : List ℕ) → NumbersAreDistinct bundle.blocks → index < length bundle.blocks → ((d : Block) → (get_or bundle.blocks index d).number ≡ number) → with_body index body bundle ≡ opened_bundle number (Some body) bundle
bundle_here bundle index number body distinct lt is = ap (λ (bs : List Block). record { primary = bundle.primary; blocks = bs }) (opened_here bundle.blocks index number body distinct lt is)

-- what fits is put
pub if_fits : {A E : Type 0} (result : Result A E) (P : Type 0) (size : ℕ) → OnOk result P → IsErr result ↔ (BUNDLE_LIMIT < size) → size ≤ BUNDLE_LIMIT → P
if_fits (Ok x) P size ok exact fits = ok
if_fits (Err e) P size ok exact fits = let over : BUNDLE_LIMIT < size = exact.0 refl in absurd (omega arith)

-- ---- where a block stands

not_found_by : {X : Type 0} (b : Bool) (p : X → Bool) (x : X) (xs : List X) → p x ≡ b → length xs + 1 ≤ cond (not b) (1 + prefix_len (λ y. not (p y)) xs) 0 → (b ≡ false) × (length xs ≤ prefix_len (λ y. not (p y)) xs)
not_found_by true p x xs is long = absurd (omega arith)
not_found_by false p x xs is long = (refl, omega arith)

not_found : {X : Type 0} (p : X → Bool) (xs : List X) → length xs ≤ prefix_len (λ y. not (p y)) xs → (k : ℕ) (d : X) → k < length xs → p (get_or xs k d) ≡ false
not_found p [] long k d within = absurd (omega arith)
not_found p (x ∷ xs) long zero d within = (not_found_by (p x) p x xs refl (omega arith)).0
not_found p (x ∷ xs) long (suc k) d within = not_found p xs (not_found_by (p x) p x xs refl (omega arith)).1 k d (omega arith)

position_by : (n len : ℕ) (b : Bool) → ltb n len ≡ b → ◌≡◌ {A = Option ℕ} (cond b (Some n) None) None → len ≤ n
position_by n len true is none = absurd cc
position_by n len false is none = ltb-false n len is

pub position_none : {X : Type 0} (p : X → Bool) (xs : List X) → position p xs ≡ None → (k : ℕ) (d : X) → k < length xs → p (get_or xs k d) ≡ false
position_none p xs none = not_found p xs (position_by (prefix_len (λ y. not (p y)) xs) (length xs) (ltb (prefix_len (λ y. not (p y)) xs) (length xs)) refl none)

within_by : (n len i : ℕ) (b : Bool) → ltb n len ≡ b → ◌≡◌ {A = Option ℕ} (cond b (Some n) None) (Some i) → i < len
within_by n len i true is some = let lt : n < len = ltb-true n len is in let e : n ≡ i = cc in omega arith
within_by n len i false is some = absurd cc

pub position_within : {X : Type 0} (p : X → Bool) (xs : List X) (i : ℕ) → position p xs ≡ Some i → i < length xs
position_within p xs i some = within_by (prefix_len (λ y. not (p y)) xs) (length xs) i (ltb (prefix_len (λ y. not (p y)) xs) (length xs)) refl some
