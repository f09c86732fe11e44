-- How many bytes blocks have with another payload, and where some are left out.
use Rattle.std.proofs.Common.{◌≡◌, ℕ, suc, ◌+◌, ◌-◌, ◌<◌, ◌≤◌, Bool, true, false, cond, List, [], ◌∷◌, length, Some, refl, sym, ◌∙◌, ap, arith, length-append}
use Rattle.std.specs.Prelude.{filter}
use Rattle.std.specs.List.{slice_get}
use Rattle.cbor_profile.specs.Put.{byte_string}
use Rattle.bp_blocks.specs.declared.block.Block.{Block}
use Rattle.bp_blocks.specs.Spelling as blocks
use Rattle.bp_bundle.specs.Edits.{body_at}
use Rattle.bp_bundle.proofs.Sizes.{spelled, spelled_cons}
use Rattle.bp_bundle.proofs.BlockSizes.{block_size}
use Rattle.bp_bundle.specs.Shape.{body_of}
use Rattle.bp_fragments.specs.Fragment.{with_payload}

-- ---- the payload of blocks

-- the last block with another body
block_with : (block : Block) (body : List ℕ) → length (blocks.spelling (record block { body = body })) + length (byte_string block.body) ≡ length (blocks.spelling block) + length (byte_string body)
block_with block body = omega (arith, block_size block, block_size (record block { body = body }))

-- the blocks with another payload have as many bytes fewer and more as the payloads' strings
pub payload_changed : (bs : List Block) (body : List ℕ) → 0 < length bs
    → length (spelled (with_payload body bs)) + length (byte_string (body_of (slice_get bs (length bs - 1)))) ≡ length (spelled bs) + length (byte_string body)
payload_changed [] body some = absurd (omega arith)
payload_changed (b ∷ []) body some = omega (arith, spelled_cons (record b { body = body }) [], spelled_cons b [], block_with b body)
payload_changed (b ∷ c ∷ bs) body some =
    let more = payload_changed (c ∷ bs) body (omega arith) in
    let at : length (b ∷ c ∷ bs) - 1 ≡ suc (length (c ∷ bs) - 1) = omega arith in
    let one : with_payload body (b ∷ c ∷ bs) ≡ b ∷ with_payload body (c ∷ bs) = ap (λ (i : ℕ). body_at i body (b ∷ c ∷ bs)) at in
    let same : slice_get (b ∷ c ∷ bs) (length (b ∷ c ∷ bs) - 1) ≡ slice_get (c ∷ bs) (length (c ∷ bs) - 1) = ap (λ (i : ℕ). slice_get (b ∷ c ∷ bs) i) at in
    rw (one, same) (omega (arith, spelled_cons b (with_payload body (c ∷ bs)), spelled_cons b (c ∷ bs)))

-- ---- blocks that are kept

pub kept_less : (p : Block → Bool) (bs : List Block) → length (spelled (filter p bs)) ≤ length (spelled bs)
kept_less p [] = omega arith
kept_less p (b ∷ bs) = by_test (p b) (kept_less p bs)
  where
    by_test : (t : Bool) → length (spelled (filter p bs)) ≤ length (spelled bs) → length (spelled (cond t (b ∷ filter p bs) (filter p bs))) ≤ length (spelled (b ∷ bs))
    by_test true more = omega (arith, spelled_cons b (filter p bs), spelled_cons b bs)
    by_test false more = omega (arith, spelled_cons b bs)

-- the last block is kept, so it is the last of those that are
pub record LastKept (p : Block → Bool) (bs : List Block) : Type 0 where
  pub some : 0 < length (filter p bs)
  pub same : slice_get (filter p bs) (length (filter p bs) - 1) ≡ slice_get bs (length bs - 1)

last_by : (p : Block → Bool) (b c : Block) (bs : List Block) (t : Bool) → p b ≡ t → LastKept p (c ∷ bs) → LastKept p (b ∷ c ∷ bs)
last_by p b c bs true is more =
    let some = more.some in
    let one : filter p (b ∷ c ∷ bs) ≡ b ∷ filter p (c ∷ bs) = ap (λ (t : Bool). cond t (b ∷ filter p (c ∷ bs)) (filter p (c ∷ bs))) is in
    let at : slice_get (b ∷ filter p (c ∷ bs)) (length (b ∷ filter p (c ∷ bs)) - 1) ≡ slice_get (filter p (c ∷ bs)) (length (filter p (c ∷ bs)) - 1) = behind b (filter p (c ∷ bs)) some in
    record {
      some = rw one (omega arith);
      same = ap (λ (xs : List Block). slice_get xs (length xs - 1)) one ∙ (at ∙ (more.same ∙ sym (behind b (c ∷ bs) (omega arith))));
    }
  where
    behind : (x : Block) (xs : List Block) → 0 < length xs → slice_get (x ∷ xs) (length (x ∷ xs) - 1) ≡ slice_get xs (length xs - 1)
    behind x [] none = absurd (omega arith)
    behind x (y ∷ ys) some = ap (λ (i : ℕ). slice_get (x ∷ y ∷ ys) i) (let e : length (x ∷ y ∷ ys) - 1 ≡ suc (length (y ∷ ys) - 1) = omega arith in e)
last_by p b c bs false is more =
    let one : filter p (b ∷ c ∷ bs) ≡ filter p (c ∷ bs) = ap (λ (t : Bool). cond t (b ∷ filter p (c ∷ bs)) (filter p (c ∷ bs))) is in
    record {
      some = rw one more.some;
      same = ap (λ (xs : List Block). slice_get xs (length xs - 1)) one ∙ (more.same ∙ further);
    }
  where
    further : slice_get (c ∷ bs) (length (c ∷ bs) - 1) ≡ slice_get (b ∷ c ∷ bs) (length (b ∷ c ∷ bs) - 1)
    further = ap (λ (i : ℕ). slice_get (b ∷ c ∷ bs) i) (let e : suc (length (c ∷ bs) - 1) ≡ length (b ∷ c ∷ bs) - 1 = omega arith in e)

pub last_kept : (p : Block → Bool) (bs : List Block) → 0 < length bs → ((block : Block) → slice_get bs (length bs - 1) ≡ Some block → p block ≡ true) → LastKept p bs
last_kept p [] some last = absurd (omega arith)
last_kept p (b ∷ []) some last =
    let is : p b ≡ true = last b refl in
    let one : filter p (b ∷ []) ≡ b ∷ [] = ap (λ (t : Bool). cond t (b ∷ []) []) is in
    record {
      some = rw one (omega arith);
      same = ap (λ (xs : List Block). slice_get xs (length xs - 1)) one;
    }
last_kept p (b ∷ c ∷ bs) some last =
    last_by p b c bs (p b) refl (last_kept p (c ∷ bs) (omega arith) (λ block is. last block (ap (λ (i : ℕ). slice_get (b ∷ c ∷ bs) i) (let e : length (b ∷ c ∷ bs) - 1 ≡ suc (length (c ∷ bs) - 1) = omega arith in e) ∙ is)))
