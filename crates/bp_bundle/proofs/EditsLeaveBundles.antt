-- An edit leaves a bundle.
use Rattle.std.proofs.Common.{◌≡◌, ◌≢◌, ◌↔◌, ◌⊎◌, inl, inr, ℕ, zero, suc, ◌+◌, ◌-◌, ◌^◌, ◌<◌, ◌≤◌, min, Bool, true, false, cond, eqb, ltb, IsTrue, List, [], ◌∷◌, ◌++◌, length, map, take, drop, get_or, Option, Some, None, refl, sym, ap, subst, ◌∙◌, arith}
use Rattle.std.specs.List.{All, AllPairs, HoldsAt, remove, insert, flat_map, sum_by}
use Rattle.std.proofs.lemmas.List.Concat.{length-flat_map}
use Rattle.std.proofs.lemmas.Bool.{ltb-true, ltb-false}
use Rattle.std.proofs.lemmas.List.Edits.{get_or-remove_below, get_or-remove_above, length-remove}
use Rattle.std.proofs.lemmas.List.Sums.{sum_by-remove}
use Rattle.std.proofs.lemmas.List.Quantifiers.{all_pairs_remove}
use Rattle.cbor_profile.specs.declared.TheConstants.{BUNDLE_LIMIT}
use Rattle.bp_crc.specs.declared.kind.CheckKind.{CheckKind}
use Rattle.bp_primary.specs.declared.primary.Primary.{Primary}
use Rattle.bp_primary.specs.Spelling.{IsPrimary}
use Rattle.bp_primary.specs.Spelling as primaries
use Rattle.bp_blocks.specs.declared.block.Block.{Block}
use Rattle.bp_blocks.specs.Spelling.{IsBlock}
use Rattle.bp_blocks.specs.Spelling as blocks
use Rattle.bp_bundle.specs.Shape.{Contents}
use Rattle.bp_bundle.specs.Spelling.{IsPayload, IsNumbered, IsBundle, spelling}
use Rattle.bp_bundle.specs.Edits.{crc_if, with_crc, body_at}
use Rattle.bp_bundle.proofs.Sizes.{spelled, whole_size}
use Rattle.bp_bundle.proofs.ShapeRules.{Differ, Once, Keeps}
use Rattle.bp_bundle.proofs.NoFaultOfShape.{keeps_of, bundle_of}

-- ---- a block that is removed

spelled_sum : (bs : List Block) → length (spelled bs) ≡ sum_by (λ b. length (blocks.spelling b)) bs
spelled_sum bs = length-flat_map blocks.spelling bs

pub smaller : (bundle : Contents) (i : ℕ) (d : Block) → i < length bundle.blocks → length (spelling (record { primary = bundle.primary; blocks = remove bundle.blocks i })) ≤ length (spelling bundle)
smaller bundle i d within =
    omega (arith, whole_size (record { primary = bundle.primary; blocks = remove bundle.blocks i }), whole_size bundle, spelled_sum (remove bundle.blocks i), spelled_sum bundle.blocks, sum_by-remove (λ (b : Block). length (blocks.spelling b)) bundle.blocks i d within)

limit_by : (primary : Primary) (bs : List Block) (i : ℕ) → i < length bs → length (spelling (record { primary = primary; blocks = bs })) ≤ BUNDLE_LIMIT → length (spelling (record { primary = primary; blocks = remove bs i })) ≤ BUNDLE_LIMIT
limit_by primary [] i within limit = absurd (omega arith)
limit_by primary (b ∷ bs) i within limit = let less = smaller (record { primary = primary; blocks = b ∷ bs }) i b within in omega arith

all_by : (P : Block → Type 0) (bs : List Block) (i : ℕ) → i < length bs → All P bs → (k : ℕ) (d : Block) → k < length (remove bs i) → (k < i) ⊎ (i ≤ k) → P (get_or (remove bs i) k d)
all_by P bs i within all k d inside (inl below) = rw (get_or-remove_below bs i d k below within) (all k d (omega arith))
all_by P bs i within all k d inside (inr above) = rw (get_or-remove_above bs i d k above within) (all (k + 1) d (omega (arith, length-remove bs i within)))

below_by : (k i : ℕ) (b : Bool) → ltb k i ≡ b → (k < i) ⊎ (i ≤ k)
below_by k i true is = inl (ltb-true k i is)
below_by k i false is = inr (ltb-false k i is)

below_or_not : (k i : ℕ) → (k < i) ⊎ (i ≤ k)
below_or_not k i = below_by k i (ltb k i) refl

all_remove : (P : Block → Type 0) (bs : List Block) (i : ℕ) → i < length bs → All P bs → All P (remove bs i)
all_remove P bs i within all k d inside = all_by P bs i within all k d inside (below_or_not k i)

last_stays : (bs : List Block) (i : ℕ) → i + 1 < length bs → HoldsAt IsPayload bs (length bs - 1) → HoldsAt IsPayload (remove bs i) (length (remove bs i) - 1)
last_stays bs i within last d =
    let len = length-remove bs i (omega arith) in
    let next : length (remove bs i) - 1 + 1 ≡ length bs - 1 = omega (arith, len) in
    rw (get_or-remove_above bs i d (length (remove bs i) - 1) (omega (arith, len)) (omega arith), next) (last d)

pub removed : (bundle : Contents) (i : ℕ) → i + 1 < length bundle.blocks → IsBundle bundle → IsBundle (record { primary = bundle.primary; blocks = remove bundle.blocks i })
removed bundle i within is =
    let inside : i < length bundle.blocks = omega arith in
    let len = length-remove bundle.blocks i inside in
    let some = is.some in
    let few = is.few in
    record {
      primary = is.primary;
      blocks = all_remove IsBlock bundle.blocks i inside is.blocks;
      some = omega (arith, len);
      few = omega (arith, len);
      numbered = all_remove IsNumbered bundle.blocks i inside is.numbered;
      distinct = all_pairs_remove Differ bundle.blocks i inside is.distinct;
      once = all_pairs_remove Once bundle.blocks i inside is.once;
      payload_last = last_stays bundle.blocks i within is.payload_last;
      within = limit_by bundle.primary bundle.blocks i inside is.within;
    }

-- ---- blocks that keep their types and numbers

pub record SameKeys (xs ys : List Block) : Type 0 where
  pub len : length ys ≡ length xs
  pub kind : (k : ℕ) (d : Block) → (get_or ys k d).kind ≡ (get_or xs k d).kind
  pub number : (k : ℕ) (d : Block) → (get_or ys k d).number ≡ (get_or xs k d).number

pub kept : (xs ys : List Block) (n m : ℕ) → SameKeys xs ys → Keeps n xs → m ≤ BUNDLE_LIMIT → Keeps m ys
kept xs ys n m same keeps within = record {
  some = let h = keeps.some in omega (arith, same.len);
  few = let h = keeps.few in omega (arith, same.len);
  numbered = λ k d inside. rw (same.number k d, same.kind k d) (keeps.numbered k d (omega (arith, same.len)));
  distinct = λ i j d below inside. rw (same.number i d, same.number j d) (keeps.distinct i j d below (omega (arith, same.len)));
  once = λ i j d below inside. rw (same.kind i d, same.kind j d) (keeps.once i j d below (omega (arith, same.len)));
  payload_last = λ d. rw (same.len, same.kind (length xs - 1) d, same.number (length xs - 1) d) (keeps.payload_last d);
  within = within;
}

cons_kind : (x y : Block) (xs ys : List Block) → y.kind ≡ x.kind → SameKeys xs ys → (k : ℕ) (d : Block) → (get_or (y ∷ ys) k d).kind ≡ (get_or (x ∷ xs) k d).kind
cons_kind x y xs ys kind same zero d = kind
cons_kind x y xs ys kind same (suc k) d = same.kind k d

cons_number : (x y : Block) (xs ys : List Block) → y.number ≡ x.number → SameKeys xs ys → (k : ℕ) (d : Block) → (get_or (y ∷ ys) k d).number ≡ (get_or (x ∷ xs) k d).number
cons_number x y xs ys number same zero d = number
cons_number x y xs ys number same (suc k) d = same.number k d

keys_cons : (x y : Block) (xs ys : List Block) → y.kind ≡ x.kind → y.number ≡ x.number → SameKeys xs ys → SameKeys (x ∷ xs) (y ∷ ys)
keys_cons x y xs ys kind number same = record {
  len = omega (arith, same.len);
  kind = cons_kind x y xs ys kind same;
  number = cons_number x y xs ys number same;
}

pub same_keys : (xs : List Block) → SameKeys xs xs
same_keys xs = record { len = refl; kind = λ k d. refl; number = λ k d. refl }

crc_kind : (b : Bool) (crc : CheckKind) (x : Block) → (cond b (record x { crc = crc }) x).kind ≡ x.kind
crc_kind true crc x = refl
crc_kind false crc x = refl

crc_number : (b : Bool) (crc : CheckKind) (x : Block) → (cond b (record x { crc = crc }) x).number ≡ x.number
crc_number true crc x = refl
crc_number false crc x = refl

pub keys_of_crc : (number : ℕ) (crc : CheckKind) (xs : List Block) → SameKeys xs (map (crc_if number crc) xs)
keys_of_crc number crc [] = same_keys []
keys_of_crc number crc (x ∷ xs) = keys_cons x (crc_if number crc x) xs (map (crc_if number crc) xs) (crc_kind (eqb x.number number) crc x) (crc_number (eqb x.number number) crc x) (keys_of_crc number crc xs)

pub keys_of_body : (index : ℕ) (body : List ℕ) (xs : List Block) → SameKeys xs (body_at index body xs)
keys_of_body index body [] = same_keys []
keys_of_body zero body (x ∷ xs) = keys_cons x (record x { body = body }) xs xs refl refl (same_keys xs)
keys_of_body (suc index) body (x ∷ xs) = keys_cons x x xs (body_at index body xs) refl refl (keys_of_body index body xs)

-- a bundle whose blocks keep their types and numbers is one, and its size is what was counted
pub changed : (old new : Contents) (size : ℕ) → IsBundle old → SameKeys old.blocks new.blocks → IsPrimary new.primary → All IsBlock new.blocks → size ≡ min (length (spelling new)) 18446744073709551615 → length (spelling new) ≤ BUNDLE_LIMIT
    → IsBundle new × (size ≡ length (spelling new))
changed old new size is same primary all counted within =
    (bundle_of new primary all (kept old.blocks new.blocks (length (spelling old)) (length (spelling new)) same (keeps_of old is) within), omega arith)

crc_keys_by : (b : Bool) (number : ℕ) (crc : CheckKind) (bundle : Contents) → SameKeys bundle.blocks (cond b (record bundle { primary = record bundle.primary { crc = crc } }) (record bundle { blocks = map (crc_if number crc) bundle.blocks })).blocks
crc_keys_by true number crc bundle = same_keys bundle.blocks
crc_keys_by false number crc bundle = keys_of_crc number crc bundle.blocks

pub crc_keys : (number : ℕ) (crc : CheckKind) (bundle : Contents) → SameKeys bundle.blocks (with_crc number crc bundle).blocks
crc_keys number crc bundle = crc_keys_by (eqb number 0) number crc bundle

-- ---- an edit that is taken back

pub body_back : (bs : List Block) (index : ℕ) (body old : List ℕ) → index < length bs → ((d : Block) → old ≡ (get_or bs index d).body) → body_at index old (body_at index body bs) ≡ bs
body_back [] index body old within is = absurd (omega arith)
body_back (b ∷ bs) zero body old within is = ap (λ (x : List ℕ). record b { body = x } ∷ bs) (is b)
body_back (b ∷ bs) (suc index) body old within is = ap (λ (xs : List Block). b ∷ xs) (body_back bs index body old (omega arith) is)

pub body_there : (bs : List Block) (index : ℕ) (body back : List ℕ) → index < length bs → ((d : Block) → back ≡ (get_or (body_at index body bs) index d).body) → back ≡ body
body_there [] index body back within is = absurd (omega arith)
body_there (b ∷ bs) zero body back within is = is b
body_there (b ∷ bs) (suc index) body back within is = body_there bs index body back (omega arith) is
