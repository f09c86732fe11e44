-- A number that no block has.
use Rattle.std.proofs.Common.{◌≡◌, ◌≢◌, ℕ, zero, suc, ◌+◌, ◌^◌, ◌<◌, ◌≤◌, Bool, true, false, not, cond, eqb, ◌||◌, ◌&&◌, List, [], ◌∷◌, ◌++◌, length, refl, sym, ◌∙◌, arith}
use Rattle.std.specs.Prelude.{filter}
use Rattle.std.proofs.lemmas.Bool.{eqb-true, ne_eqb, or_parts, or_from}
use Rattle.std.proofs.lemmas.List.Folds.{list_any-append}
use Rattle.bp_blocks.specs.declared.block.Block.{Block}
use Rattle.bp_bundle.specs.Faults.{may_have, has_number, exactly, is_payload}

-- the blocks with another number
abbrev others : ℕ → List Block → List Block
others n blocks = filter (λ block. not (eqb block.number n)) blocks

kept_or_not : (b : Bool) (block : Block) (kept : List Block) (k : ℕ) → length kept ≤ k → length (cond b (block ∷ kept) kept) ≤ suc k
kept_or_not true block kept k le = omega arith
kept_or_not false block kept k le = omega arith

length-others : (n : ℕ) (blocks : List Block) → length (others n blocks) ≤ length blocks
length-others n [] = omega arith
length-others n (block ∷ more) = kept_or_not (not (eqb block.number n)) block (others n more) (length more) (length-others n more)

fewer_by : (b : Bool) (n : ℕ) (block : Block) (more : List Block) → (b || has_number more n) ≡ true → (has_number more n ≡ true → length (others n more) < length more)
    → length (cond (not b) (block ∷ others n more) (others n more)) < suc (length more)
fewer_by true n block more e less = omega (arith, length-others n more)
fewer_by false n block more e less = omega (arith, less e)

fewer : (n : ℕ) (blocks : List Block) → has_number blocks n ≡ true → length (others n blocks) < length blocks
fewer n [] e = absurd cc
fewer n (block ∷ more) e = fewer_by (eqb block.number n) n block more e (fewer n more)

absent_by : (b : Bool) (n m : ℕ) (block : Block) (more : List Block) → eqb block.number n ≡ b → n ≢ m → has_number (cond (not b) (block ∷ others n more) (others n more)) m ≡ false → (has_number (others n more) m ≡ false → has_number more m ≡ false)
    → (eqb block.number m || has_number more m) ≡ false
absent_by true n m block more is apart e rest = or_from (eqb block.number m) (has_number more m) (ne_eqb block.number m (λ same. apart (sym (eqb-true block.number n is) ∙ same))) (rest e)
absent_by false n m block more is apart e rest =
    let parts = or_parts (eqb block.number m) (has_number (others n more) m) e in
    or_from (eqb block.number m) (has_number more m) parts.0 (rest parts.1)

absent : (n m : ℕ) (blocks : List Block) → n ≢ m → has_number (others n blocks) m ≡ false → has_number blocks m ≡ false
absent n m [] apart e = refl
absent n m (block ∷ more) apart e = absent_by (eqb block.number n) n m block more refl apart e (absent n m more apart)

-- a number from n on that no block has
record IsFresh (n k : ℕ) (blocks : List Block) : Type 0 where
  number : ℕ
  low : n ≤ number
  high : number ≤ n + k
  absent : has_number blocks number ≡ false

fresh_by : (k n : ℕ) (blocks : List Block) (b : Bool) → has_number blocks n ≡ b → length blocks ≤ suc k → ((more : List Block) → length more ≤ k → IsFresh (suc n) k more) → IsFresh n (suc k) blocks
fresh_by k n blocks false is le later = record { number = n; low = omega arith; high = omega arith; absent = is }
fresh_by k n blocks true is le later =
    let f = later (others n blocks) (omega (arith, fewer n blocks is)) in
    let low = f.low in
    let high = f.high in
    record { number = f.number; low = omega arith; high = omega arith; absent = absent n f.number blocks (λ same. omega (arith, same)) f.absent }

fresh_from : (k n : ℕ) (blocks : List Block) → length blocks ≤ k → IsFresh n k blocks
fresh_from zero n [] le = record { number = n; low = omega arith; high = omega arith; absent = refl }
fresh_from zero n (block ∷ more) le = absurd (omega arith)
fresh_from (suc k) n blocks le = fresh_by k n blocks (has_number blocks n) refl le (fresh_from k (suc n))

-- a number for the next block, of this type
pub record NumberFor (before : List Block) (kind : ℕ) : Type 0 where
  pub number : ℕ
  pub small : number < 2 ^ 64
  pub permitted : may_have kind number ≡ true
  pub new : has_number before number ≡ false

permitted_by : (b none first : Bool) → none ≡ false → first ≡ b → (not none && exactly b first) ≡ true
permitted_by true none first n f = rw (n, f) refl
permitted_by false none first n f = rw (n, f) refl

number_by : (b : Bool) (before : List Block) (kind : ℕ) → eqb kind 1 ≡ b → length before ≤ 64 → has_number before 1 ≡ false → NumberFor before kind
number_by true before kind is few free = record { number = 1; small = omega arith; permitted = rw is refl; new = free }
number_by false before kind is few free =
    let f = fresh_from (length before) 2 before (omega arith) in
    let low = f.low in
    let high = f.high in
    record {
      number = f.number;
      small = omega arith;
      permitted = permitted_by (eqb kind 1) (eqb f.number 0) (eqb f.number 1) (ne_eqb f.number 0 (λ same. omega (arith, same))) (ne_eqb f.number 1 (λ same. omega (arith, same)) ∙ sym is);
      new = f.absent;
    }

pub number_for : (before : List Block) (kind : ℕ) → length before ≤ 64 → has_number before 1 ≡ false → NumberFor before kind
number_for before kind few free = number_by (eqb kind 1) before kind refl few free

-- The number 1 stays free until the payload block comes.
other_by : (payload first none : Bool) → (not none && exactly payload first) ≡ true → (payload && first) ≡ false → first ≡ false
other_by true true none numbered other = absurd cc
other_by true false none numbered other = refl
other_by false true true numbered other = absurd cc
other_by false true false numbered other = absurd cc
other_by false false none numbered other = refl

pub still_free : (before : List Block) (block : Block) → has_number before 1 ≡ false → may_have block.kind block.number ≡ true → is_payload block ≡ false → has_number (before ++ block ∷ []) 1 ≡ false
still_free before block free numbered other =
    let one : eqb block.number 1 ≡ false = other_by (eqb block.kind 1) (eqb block.number 1) (eqb block.number 0) numbered other in
    list_any-append (λ (b : Block). eqb b.number 1) before (block ∷ []) ∙ rw (free, one) refl
