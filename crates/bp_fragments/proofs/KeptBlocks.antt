-- The blocks of a fragment, of which the last gets another body.
use Rattle.std.proofs.Common.{◌≡◌, ℕ, ◌+◌, ◌-◌, ◌<◌, Bool, true, List, [], ◌∷◌, ◌++◌, ◌==◌, length, take, get_or, cond, refl, sym, ◌∙◌, ap, arith, length-append}
use Rattle.std.specs.Prelude.{filter}
use Rattle.std.proofs.lemmas.List.{take_all, take_more}
use Rattle.std.proofs.lemmas.List.Elements.{filter-append}
use Rattle.std.proofs.lemmas.Option.{slice_get-get_or}
use Rattle.bp_blocks.specs.declared.block.Block.{Block}
use Rattle.bp_bundle.specs.Shape.{Contents}
use Rattle.bp_bundle.specs.Spelling.{IsBundle}
use Rattle.bp_bundle.specs.Edits.{body_at}
use Rattle.bp_bundle.specs.Faults.{is_payload}
use Rattle.bp_fragments.specs.Fragment.{with_payload, is_replicated}
use Rattle.bp_fragments.specs.Cut.{is_kept}
use Rattle.bp_fragments.proofs.Cutting.{payload_last, kept_if}

-- the body of the last of some blocks
body_behind : (front : List Block) (block : Block) (body : List ℕ) → body_at (length front) body (front ++ block ∷ []) ≡ front ++ record block { body = body } ∷ []
body_behind [] block body = refl
body_behind (b ∷ front) block body = ap (λ (bs : List Block). b ∷ bs) (body_behind front block body)

payload_behind : (front : List Block) (block : Block) (body : List ℕ) → with_payload body (front ++ block ∷ []) ≡ front ++ record block { body = body } ∷ []
payload_behind front block body =
    let at : length (front ++ block ∷ []) - 1 ≡ length front = omega (arith, length-append front (block ∷ [])) in
    ap (λ (i : ℕ). body_at i body (front ++ block ∷ [])) at ∙ body_behind front block body

-- the last block is kept
one_kept : (p : Block → Bool) (block : Block) → p block ≡ true → filter p (block ∷ []) ≡ block ∷ []
one_kept p block is = ap (λ (t : Bool). cond t (block ∷ []) []) is

split_last : (blocks : List Block) (d : Block) → 0 < length blocks → blocks ≡ take (length blocks - 1) blocks ++ get_or blocks (length blocks - 1) d ∷ []
split_last blocks d some =
    let at : length blocks ≡ length blocks - 1 + 1 = omega arith in
    sym (take_all (length blocks) blocks (omega arith)) ∙ (ap (λ (n : ℕ). take n blocks) at ∙ take_more blocks (length blocks - 1) d (omega arith))

kept_split : (p : Block → Bool) (blocks : List Block) (d : Block) → 0 < length blocks → p (get_or blocks (length blocks - 1) d) ≡ true → filter p blocks ≡ filter p (take (length blocks - 1) blocks) ++ get_or blocks (length blocks - 1) d ∷ []
kept_split p blocks d some is =
    ap (filter p) (split_last blocks d some)
    ∙ (filter-append p (take (length blocks - 1) blocks) (get_or blocks (length blocks - 1) d ∷ [])
    ∙ ap (λ (bs : List Block). filter p (take (length blocks - 1) blocks) ++ bs) (one_kept p (get_or blocks (length blocks - 1) d) is))

last_is_kept : (bundle : Contents) (index : ℕ) (d : Block) → IsBundle bundle → is_kept index (get_or bundle.blocks (length bundle.blocks - 1) d) ≡ true
last_is_kept bundle index d is =
    let some = is.some in
    let last = get_or bundle.blocks (length bundle.blocks - 1) d in
    kept_if (index == 0) (is_replicated last) (is_payload last) (payload_last bundle is last (slice_get-get_or bundle.blocks (length bundle.blocks - 1) d (omega arith)))

-- the blocks that are kept, of which the last is made with the payload
made_last : (bundle : Contents) (index : ℕ) (d : Block) (body : List ℕ) → IsBundle bundle → filter (is_kept index) (take (length bundle.blocks - 1) bundle.blocks) ++ record (get_or bundle.blocks (length bundle.blocks - 1) d) { body = body } ∷ [] ≡ with_payload body (filter (is_kept index) bundle.blocks)
made_last bundle index d body is =
    let some = is.some in
    sym (ap (with_payload body) (kept_split (is_kept index) bundle.blocks d (omega arith) (last_is_kept bundle index d is))
    ∙ payload_behind (filter (is_kept index) (take (length bundle.blocks - 1) bundle.blocks)) (get_or bundle.blocks (length bundle.blocks - 1) d) body)

-- the same of what each step made
pub blocks_made : (bundle : Contents) (blocks copies made : List Block) (index : ℕ) (last new : Block) (body : List ℕ) → IsBundle bundle → blocks ≡ bundle.blocks
    → copies ≡ filter (is_kept index) (take (length blocks - 1) blocks) → last ≡ get_or blocks (length blocks - 1) last → new ≡ record last { body = body }
    → made ≡ copies ++ new ∷ [] → made ≡ with_payload body (filter (is_kept index) bundle.blocks)
blocks_made bundle blocks copies made index last new body is same copied there with_body pushed =
    pushed
    ∙ (ap (λ (front : List Block). front ++ new ∷ []) copied
    ∙ (ap (λ (block : Block). filter (is_kept index) (take (length blocks - 1) blocks) ++ block ∷ []) (with_body ∙ ap (λ (block : Block). record block { body = body }) there)
    ∙ (ap (λ (bs : List Block). filter (is_kept index) (take (length bs - 1) bs) ++ record (get_or bs (length bs - 1) last) { body = body } ∷ []) same
    ∙ made_last bundle index last body is)))
