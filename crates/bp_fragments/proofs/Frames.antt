-- The payload's body is exchanged.
use Rattle.std.proofs.Common.{◌≡◌, ℕ, zero, suc, ◌-◌, ◌<◌, ◌≤◌, List, [], ◌∷◌, length, drop, get_or, refl, ap, ◌∙◌, arith}
use Rattle.std.proofs.lemmas.List.{take_all, take-append-le, length-set}
use Rattle.std.proofs.Math.ListN.{set}
use Rattle.cbor_profile.specs.Overwritten.{overwritten}
use Rattle.bp_blocks.specs.declared.block.Block.{Block}
use Rattle.bp_bundle.specs.Edits.{body_at}
use Rattle.bp_fragments.specs.Fragment.{with_payload}

overwritten_whole : {A : Type 0} (old front : List A) → length front ≡ length old → overwritten old front ≡ front
overwritten_whole old front same =
    let long : length old ≤ length front = omega arith in
    let all : length front ≤ length old = omega arith in
    take-append-le (length old) front (drop (length front) old) long ∙ take_all (length old) front all

-- the block with another body
abbrev pub with_body_of : Block → List ℕ → Block
with_body_of block body = record { kind = block.kind; number = block.number; flags = block.flags; crc = block.crc; body = body }

body_set : (blocks : List Block) (index : ℕ) (d : Block) (body : List ℕ) → index < length blocks → set blocks index (with_body_of (get_or blocks index d) body) ≡ body_at index body blocks
body_set [] index d body within = absurd (omega arith)
body_set (block ∷ more) zero d body within = refl
body_set (block ∷ more) (suc index) d body within = ap (λ (bs : List Block). block ∷ bs) (body_set more index d body (omega arith))

pub body_written : (blocks : List Block) (d : Block) (body : List ℕ) → 0 < length blocks → overwritten blocks (set blocks (length blocks - 1) (with_body_of (get_or blocks (length blocks - 1) d) body)) ≡ with_payload body blocks
body_written blocks d body some =
    overwritten_whole blocks (set blocks (length blocks - 1) (with_body_of (get_or blocks (length blocks - 1) d) body)) (length-set blocks (length blocks - 1) (with_body_of (get_or blocks (length blocks - 1) d) body))
    ∙ body_set blocks (length blocks - 1) d body (omega arith)
