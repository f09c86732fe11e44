-- How many bytes spell a bundle.
use Rattle.std.proofs.Common.{◌≡◌, ℕ, ◌+◌, ◌<◌, List, [], ◌∷◌, ◌++◌, length, take, get_or, sym, ap, ◌∙◌, arith, length-append}
use Rattle.std.specs.List.{flat_map}
use Rattle.std.proofs.lemmas.List.{take_more, append-nil}
use Rattle.std.proofs.lemmas.Grind.{flat_map-append}
use Rattle.bp_primary.specs.Spelling as primaries
use Rattle.bp_blocks.specs.declared.block.Block.{Block}
use Rattle.bp_blocks.specs.Spelling as blocks
use Rattle.bp_bundle.specs.Shape.{Contents}
use Rattle.bp_bundle.specs.Spelling.{spelling}

abbrev pub spelled : List Block → List ℕ
spelled bs = flat_map blocks.spelling bs

pub spelled_cons : (b : Block) (bs : List Block) → length (spelled (b ∷ bs)) ≡ length (blocks.spelling b) + length (spelled bs)
spelled_cons b bs = length-append (blocks.spelling b) (spelled bs)

spelled_one : (b : Block) → spelled (b ∷ []) ≡ blocks.spelling b
spelled_one b = append-nil (blocks.spelling b)

pub size_step : (bs : List Block) (i : ℕ) (b : Block) → i < length bs → b ≡ get_or bs i b → length (spelled (take (i + 1) bs)) ≡ length (spelled (take i bs)) + length (blocks.spelling b)
size_step bs i b within is =
    let more : take (i + 1) bs ≡ take i bs ++ b ∷ [] = take_more bs i b within ∙ ap (λ (x : Block). take i bs ++ x ∷ []) (sym is) in
    ap (λ (xs : List Block). length (spelled xs)) more ∙ (ap length (flat_map-append blocks.spelling (take i bs) (b ∷ []) ∙ ap (λ (y : List ℕ). spelled (take i bs) ++ y) (spelled_one b)) ∙ length-append (spelled (take i bs)) (blocks.spelling b))

pub whole_size : (bundle : Contents) → length (spelling bundle) ≡ 2 + length (primaries.spelling bundle.primary) + length (spelled bundle.blocks)
unfolding spelling
whole_size bundle =
    let p = primaries.spelling bundle.primary in
    let b = spelled bundle.blocks in
    omega (arith, length-append (p ++ b) (0xff ∷ []), length-append p b)
