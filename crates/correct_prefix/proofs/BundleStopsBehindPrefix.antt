-- Where reading a bundle stops, what stands before begins one.
use Rattle.std.proofs.Common.{◌≡◌, ◌≢◌, ℕ, Bool, true, false, cond, eqb, List, [], ◌∷◌, ◌++◌, length, take, drop, Result, Ok, Err, refl, sym, ◌∙◌, ap, subst, arith}
use Rattle.std.proofs.lemmas.List.{length-append, take_at, drop_at}
use Rattle.cbor_profile.specs.declared.fault.Fault.{Fault}
use Rattle.cbor_profile.specs.declared.fault.Reason.TheVariants as reasons
use Rattle.cbor_profile.specs.Step.{◌>>=◌}
use Rattle.bp_primary.specs.declared.primary.Primary.{Primary}
use Rattle.bp_primary.specs.Spelling as primaries
use Rattle.bp_primary.specs.Spelling.{IsPrimary}
use Rattle.bp_blocks.specs.declared.block.Block.{Block}
use Rattle.bp_bundle.specs.Shape.{Contents}
use Rattle.bp_bundle.specs.Spelling.{IsBundle}
use Rattle.bp_bundle.specs.Tokens.{Cursor, stops}
use Rattle.bp_bundle.specs.FirstFault.{past, after_byte, begin_at, primary_at, blocks_at, front_at, bundle_at, read_bundle}
use Rattle.correct_prefix.specs.Prefix.{IsUnfinished}
use Rattle.correct_prefix.specs.Bundles.{IsUnlimited, IsSpelled, IsCorrect, IsCut}
use Rattle.bp_bundle.proofs.HeadsAsSpelled.{IsBytes, here}
use Rattle.bp_bundle.proofs.ReadPrimaryIsSpelled.{Laws, primary_means}
use Rattle.bp_bundle.proofs.ReadBundleIsSpelled.{begin_means, regrouped}
use Rattle.bp_bundle.proofs.ShapeRules.{all_differ}
use Rattle.correct_prefix.proofs.StopsBehindPrefix.{Some_of, Reached, StopsAt, reached_at, reached_behind, reached_more, reached_then, stopped_at}
use Rattle.correct_prefix.proofs.BlocksStopBehindPrefix.{FitsTail, IsTail, some_tail, blocks_reached}
use Rattle.correct_prefix.proofs.PrimaryStopsBehindPrefix.{IsPrimaryText, some_primary, primary_reached}

-- ---- a bundle of its parts

unlimited : (primary : Primary) (tail : List Block) → IsPrimary primary → FitsTail [] tail → IsUnlimited (record { primary = primary; blocks = tail })
unlimited primary tail fits kept =
    let apart = all_differ [] tail kept.unrepeated (λ i j d below within. absurd (omega arith)) (λ i j d below within. absurd (omega arith)) in
    record { primary = fits; blocks = kept.fits; some = kept.some; numbered = kept.numbered; distinct = apart.0; once = apart.1; payload_last = kept.payload_last }

-- Every bundle is one aside from the limits.
pub bundle_unlimited : (bundle : Contents) → IsBundle bundle → IsUnlimited bundle
bundle_unlimited bundle is = record { primary = is.primary; blocks = is.blocks; some = is.some; numbered = is.numbered; distinct = is.distinct; once = is.once; payload_last = is.payload_last }

-- a primary block, the canonical blocks and the end
abbrev AreParts : List ℕ → Type 0
AreParts text = (primary : Primary) × (rest : List ℕ) × IsPrimary primary × IsTail [] rest × (text ≡ primaries.spelling primary ++ rest)

whole : (text : List ℕ) → AreParts text → IsSpelled ((0x9f ∷ []) ++ text)
whole text (primary, rest, fits, (tail, kept, e2), e1) = (
  record { primary = primary; blocks = tail },
  unlimited primary tail fits kept,
  ap (λ (t : List ℕ). (0x9f ∷ []) ++ t) (e1 ∙ ap (λ (t : List ℕ). primaries.spelling primary ++ t) e2) ∙ regrouped primary tail,
)

parts_go_on : (text : List ℕ) → IsPrimaryText text → (more : List ℕ) × AreParts (text ++ more)
parts_go_on text (primary, fits, is) = let r = some_tail [] refl in (r.0, (primary, r.0, fits, r.1, ap (λ (t : List ℕ). t ++ r.0) is))

some_parts : Some_of AreParts
some_parts = let p = some_primary in let r = parts_go_on p.0 p.1 in (p.0 ++ r.0, r.1)

-- ---- where reading stops

begin_stop : (cursor : Cursor) (fault : Fault) → begin_at cursor ≡ Err fault → StopsAt cursor fault
unfolding begin_at
begin_stop cursor fault e = by cursor.rest refl e
  where
    other_by : (b : Bool) → cond b (Ok (past 1 cursor)) (stops cursor reasons.NotBundle) ≡ Err fault → StopsAt cursor fault
    other_by true e = absurd cc
    other_by false e = stopped_at {A = Cursor} cursor reasons.NotBundle fault (λ early. absurd cc) e

    by : (rest : List ℕ) → cursor.rest ≡ rest → after_byte 0x9f (stops cursor reasons.NotBundle) cursor rest ≡ Err fault → StopsAt cursor fault
    by [] none e = stopped_at {A = Cursor} cursor reasons.Truncated fault (λ early. none) e
    by (first ∷ rest) is e = other_by (eqb first 0x9f) e

abbrev with_blocks : Primary → List Block × Cursor → Result (Contents × Cursor) Fault
with_blocks primary blocks = Ok (record { primary = primary; blocks = blocks.0 }, blocks.1)

-- where the primary block stops, or the blocks behind it
parts_stop : (laws : Laws) (cursor : Cursor) (fault : Fault) → IsBytes cursor.rest
    → (primary_at cursor >>= λ primary. blocks_at 65 [] primary.1 >>= with_blocks primary.0) ≡ Err fault → Reached AreParts cursor fault
parts_stop laws cursor fault fits e =
    reached_then AreParts cursor (primary_at cursor) _ fault e (λ is. reached_more IsPrimaryText AreParts cursor fault parts_go_on (primary_reached laws cursor fault fits is))
    (λ x is k.
    let m = primary_means laws cursor x fits is in
    reached_behind (IsTail []) AreParts (primaries.spelling x.0) cursor x.1 fault m.took (λ t tail. (x.0, t, m.fits, tail, refl))
    (reached_then (IsTail []) x.1 (blocks_at 65 [] x.1) (with_blocks x.0) fault k (λ stop. blocks_reached laws 65 [] x.1 fault m.took.fits refl stop) (λ y found none. absurd cc)))

then_assoc : {A B C : Type 0} (r : Result A Fault) (f : A → Result B Fault) (g : B → Result C Fault) → ((r >>= f) >>= g) ≡ (r >>= λ x. f x >>= g)
then_assoc (Ok x) f g = refl
then_assoc (Err fault) f g = refl

bundle_reached : (laws : Laws) (cursor : Cursor) (fault : Fault) → IsBytes cursor.rest → bundle_at cursor ≡ Err fault → Reached IsSpelled cursor fault
unfolding bundle_at front_at
bundle_reached laws cursor fault fits e =
    let some = some_parts in
    reached_then IsSpelled cursor (begin_at cursor) _ fault (sym (then_assoc (begin_at cursor) primary_at _) ∙ e)
    (λ is. reached_at IsSpelled cursor fault ((0x9f ∷ []) ++ some.0, whole some.0 some.1) (begin_stop cursor fault is))
    (λ after is k.
    let took = begin_means cursor after fits is in
    reached_behind AreParts IsSpelled (0x9f ∷ []) cursor after fault took whole (parts_stop laws after fault took.fits k))

-- ---- the law

abbrev front_cut : (bytes front rest : List ℕ) → bytes ≡ front ++ rest → (take (length front) bytes ≡ front) × (drop (length front) bytes ≡ rest)
front_cut bytes front rest parts = (ap (take (length front)) parts ∙ take_at front rest (length front) refl, ap (drop (length front)) parts ∙ drop_at front rest (length front) refl)

pub correct_before : (laws : Laws) (bytes : List ℕ) (fault : Fault) → IsBytes bytes → read_bundle bytes ≡ Err fault → fault.reason ≢ reasons.Truncated → IsCorrect (take fault.place bytes)
unfolding read_bundle
correct_before laws bytes fault fits e other =
    let r = bundle_reached laws (here 0 bytes) fault fits e in
    let place : fault.place ≡ length r.front = omega (arith, r.place other) in
    let front : take fault.place bytes ≡ r.front = ap (λ (n : ℕ). take n bytes) place ∙ (front_cut bytes r.front r.rest r.parts).0 in
    subst IsCorrect (sym front) r.begins

pub cut_short : (laws : Laws) (bytes : List ℕ) (fault : Fault) → IsBytes bytes → read_bundle bytes ≡ Err fault → fault.reason ≡ reasons.Truncated → IsCut bytes
unfolding read_bundle
cut_short laws bytes fault fits e early =
    let r = bundle_reached laws (here 0 bytes) fault fits e in
    let c = front_cut bytes r.front r.rest r.parts in
    let all = ap length r.parts ∙ length-append r.front r.rest in
    let unfinished = r.unfinished early in (
      length r.front,
      omega arith,
      subst IsCorrect (sym c.0) r.begins,
      subst (λ (f : List ℕ). IsUnfinished IsSpelled f (drop (length r.front) bytes)) (sym c.0) (subst (IsUnfinished IsSpelled r.front) (sym c.1) unfinished),
    )
