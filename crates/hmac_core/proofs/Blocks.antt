-- Keys as blocks, and what stands at the front of an array.
use Rattle.std.proofs.Common.{◌≡◌, ℕ, ◌+◌, ◌-◌, ◌<◌, ◌≤◌, List, ◌++◌, length, take, drop, refl, ap, ◌∙◌, arith, length-take}
use Rattle.std.specs.Prelude.{replicate}
use Rattle.std.proofs.lemmas.Bool.{lt-ltb, le-ltb}
use Rattle.std.proofs.lemmas.List.{take_at, take-replicate, drop-replicate, length-map}
use Rattle.std.proofs.Math.Seq.{take-append-add}
use Rattle.hmac_core.specs.Hmac.{block_key, padded}

-- a short key in an array of zeros, filled to a block
pub filled_front : (block : ℕ) (short : List ℕ) → length short ≤ block → block ≤ 128 → take block (short ++ drop (length short) (replicate 128 0)) ≡ short ++ replicate (block - length short) 0
filled_front block short fits small =
    let zeros : ℕ → List ℕ = λ n. replicate n 0 in
    let rest : drop (length short) (zeros 128) ≡ zeros (128 - length short) = drop-replicate (length short) 128 0 in
    let split : block ≡ length short + (block - length short) = omega arith in
    let front : take (length short + (block - length short)) (short ++ zeros (128 - length short)) ≡ short ++ take (block - length short) (zeros (128 - length short)) =
    take-append-add short (zeros (128 - length short)) (block - length short)
    in
    let last : take (block - length short) (zeros (128 - length short)) ≡ zeros (block - length short) =
    take-replicate (block - length short) (128 - length short) 0 (omega arith)
    in
    ap (λ more. take block (short ++ more)) rest
    ∙ (ap (λ n. take n (short ++ zeros (128 - length short))) split ∙ (front ∙ ap (λ more. short ++ more) last))

pub long_key : (hash : List ℕ → List ℕ) (block : ℕ) (key : List ℕ) → block < length key → block_key hash block key ≡ hash key ++ replicate (block - length (hash key)) 0
unfolding block_key
long_key hash block key long = rw (lt-ltb _ _ long) refl

pub short_key : (hash : List ℕ → List ℕ) (block : ℕ) (key : List ℕ) → length key ≤ block → block_key hash block key ≡ key ++ replicate (block - length key) 0
unfolding block_key
short_key hash block key short = rw (le-ltb _ _ short) refl

-- what is written at the front is read there
pub front_again : (bytes rest digest : List ℕ) (n : ℕ) → length digest ≡ n → bytes ≡ digest → take n (bytes ++ rest) ≡ digest
front_again bytes rest digest n len same = take_at bytes rest n (ap length same ∙ len) ∙ same

-- a front, padded, is no longer than it was cut
pub length-padded : (pad n : ℕ) (bytes : List ℕ) → length (padded pad (take n bytes)) ≤ n
length-padded pad n bytes = simp (length-map, length-take) (omega arith)
