-- Blocks that are changed in place.
use Rattle.std.proofs.Common.{◌≡◌, ℕ, zero, suc, ◌+◌, ◌<◌, ◌≤◌, Bool, true, false, cond, eqb, List, [], ◌∷◌, ◌++◌, length, map, take, drop, get_or, refl, sym, ap, ◌∙◌, arith}
use Rattle.std.proofs.lemmas.List.{take_all, take-append-le, length-set}
use Rattle.std.proofs.Math.ListN.{set}
use native.Mathlib.Numerals.{unary_clauses}
use Rattle.cbor_profile.specs.Overwritten.{overwritten}
use Rattle.bp_crc.specs.declared.kind.CheckKind.{CheckKind}
use Rattle.bp_blocks.specs.declared.block.Block.{Block}
use Rattle.bp_bundle.specs.Edits.{crc_if, body_at}

pub overwritten_whole : {A : Type 0} (old front : List A) → length front ≡ length old → overwritten old front ≡ front
overwritten_whole old front same =
    let long : length old ≤ length front = omega arith in
    let all : length front ≤ length old = omega arith in
    take-append-le (length old) front (drop (length front) old) long ∙ take_all (length old) front all

-- the block with another body
abbrev pub with_body_of : Block → List ℕ → Block
with_body_of block body = record { kind = block.kind; number = block.number; flags = block.flags; crc = block.crc; body = body }

pub body_set : (blocks : List Block) (index : ℕ) (d : Block) (body : List ℕ) → index < length blocks → set blocks index (with_body_of (get_or blocks index d) body) ≡ body_at index body blocks
body_set [] index d body within = absurd (omega arith)
body_set (block ∷ more) zero d body within = refl
body_set (block ∷ more) (suc index) d body within = ap (λ (bs : List Block). block ∷ bs) (body_set more index d body (omega arith))

pub body_written : (blocks : List Block) (index : ℕ) (d : Block) (body : List ℕ) → index < length blocks → overwritten blocks (set blocks index (with_body_of (get_or blocks index d) body)) ≡ body_at index body blocks
body_written blocks index d body within =
    overwritten_whole blocks (set blocks index (with_body_of (get_or blocks index d) body)) (length-set blocks index (with_body_of (get_or blocks index d) body)) ∙ body_set blocks index d body within

pub map_step : {A : Type 0} (f : A → A) (xs : List A) (i : ℕ) (d : A) → i < length xs → set (map f (take i xs) ++ drop i xs) i (f (get_or xs i d)) ≡ map f (take (i + 1) xs) ++ drop (i + 1) xs
map_step f [] i d within = absurd (omega arith)
map_step f (x ∷ xs) zero d within = refl
map_step f (x ∷ xs) (suc i) d within = simp unary_clauses (ap (λ ys. f x ∷ ys) (simp unary_clauses at (map_step f xs i d (omega arith))))

at_seam : {A : Type 0} (f : A → A) (xs : List A) (i : ℕ) (d : A) → i < length xs → get_or (map f (take i xs) ++ drop i xs) i d ≡ get_or xs i d
at_seam f [] i d within = absurd (omega arith)
at_seam f (x ∷ xs) zero d within = refl
at_seam f (x ∷ xs) (suc i) d within = at_seam f xs i d (omega arith)

pub step_by : {A : Type 0} (f : A → A) (xs items : List A) (i : ℕ) (d item : A) → items ≡ map f (take i xs) ++ drop i xs → i < length xs → item ≡ f (get_or items i d) → set items i item ≡ map f (take (i + 1) xs) ++ drop (i + 1) xs
step_by f xs items i d item are within is =
    let here : item ≡ f (get_or xs i d) = is ∙ (ap (λ ys. f (get_or ys i d)) are ∙ ap f (at_seam f xs i d within)) in
    rw (here, are) (map_step f xs i d within)
