-- Reading goes on from one state of the decoder to the next.
use Rattle.std.proofs.Common.{◌≡◌, ◌≢◌, ℕ, ◌+◌, ◌-◌, ◌≤◌, List, ◌++◌, length, Result, Ok, Err, refl, ◌∙◌, ap, subst, arith}
use Rattle.cbor_profile.specs.Step.{◌>>=◌}
use Rattle.cbor_profile.specs.declared.fault.Reason.{Reason}
use Rattle.cbor_profile.specs.declared.fault.Reason.TheVariants as reasons
use Rattle.cbor_profile.specs.declared.fault.Fault.{Fault}
use Rattle.cbor_profile.specs.declared.fault.SpellError.TheVariants as errors
use Rattle.bp_primary.specs.declared.primary.Primary.{Primary}
use Rattle.bp_blocks.specs.declared.block.Block.{Block}
use Rattle.bp_bundle.specs.declared.header.Header.{Header}
use Rattle.bp_bundle.specs.declared.stage.Begun.{Begun}
use Rattle.bp_bundle.specs.declared.stage.Stage.{Stage}
use Rattle.bp_bundle.specs.declared.stage.Stage.TheVariants as stages
use Rattle.bp_bundle.specs.Tokens.{Cursor}
use Rattle.bp_bundle.specs.FirstFault.{content_at, block_of, blocks_at, read_bundle}
use Rattle.bp_bundle.specs.Machine.{more_at, with_primary, rest_at, resume, Follows, Waits, StopsBy}
use Rattle.bp_bundle.proofs.ReadingStays.{GrowthLaws, with_more, Stays, Grows, then_grows, ok_grows, content_grows, closed_grows, blocks_grow, bundle_grows}
use Rattle.bp_bundle.proofs.FaultsWithin.{given, Ends, second, then_ends, ok_ends, content_ends, closed_ends, blocks_end, bundle_ends}

-- ---- steps

pub bind_assoc : {A B C : Type 0} (r : Result A Fault) (f : A → Result B Fault) (g : B → Result C Fault) → ((r >>= f) >>= g) ≡ (r >>= λ x. f x >>= g)
bind_assoc (Ok x) f g = refl
bind_assoc (Err fault) f g = refl

pub ends_ok : {A : Type 0} (end : A → Cursor) (total : ℕ) (r : Result A Fault) (x : A) → Ends end total r → r ≡ Ok x → given (end x) ≡ total
unfolding Ends
ends_ok end total r x ends is = subst (Ends end total) is ends

pub ends_err : {A : Type 0} (end : A → Cursor) (total : ℕ) (r : Result A Fault) (fault : Fault) → Ends end total r → r ≡ Err fault → fault.reason ≡ reasons.Truncated → fault.place ≡ total
unfolding Ends
ends_err end total r fault ends is = (subst (Ends end total) is ends).0

pub within_err : {A : Type 0} (end : A → Cursor) (total : ℕ) (r : Result A Fault) (fault : Fault) → Ends end total r → r ≡ Err fault → fault.place ≤ total
unfolding Ends
within_err end total r fault ends is = (subst (Ends end total) is ends).1

pub grows_ok : {A : Type 0} (e : A → A) (r r' : Result A Fault) (x : A) → Grows e r r' → r ≡ Ok x → r' ≡ Ok (e x)
unfolding Stays
grows_ok e r r' x grows is = subst (λ s. Grows e s r') is grows tt

pub grows_err : {A : Type 0} (e : A → A) (r r' : Result A Fault) (fault : Fault) → Grows e r r' → r ≡ Err fault → fault.reason ≢ reasons.Truncated → r' ≡ Err fault
unfolding Stays
grows_err e r r' fault grows is other = subst (λ s. Grows e s r') is grows other

-- ---- each state

with_primary_grows : (primary : Primary) (r r' : Result (List Block × Cursor) Fault) (more : List ℕ) → Grows (with_more more) r r' → Grows (with_more more) (with_primary primary r) (with_primary primary r')
with_primary_grows primary r r' more grows =
    then_grows (with_more more) (with_more more) r r' (λ x. Ok (record { primary = primary; blocks = x.0 }, x.1)) (λ x. Ok (record { primary = primary; blocks = x.0 }, x.1)) grows (λ x. ok_grows (with_more more) (record { primary = primary; blocks = x.0 }, x.1))

with_primary_ends : (primary : Primary) (total : ℕ) (r : Result (List Block × Cursor) Fault) → Ends second total r → Ends second total (with_primary primary r)
with_primary_ends primary total r ends =
    then_ends second second total r (λ x. Ok (record { primary = primary; blocks = x.0 }, x.1)) ends (λ x at. ok_ends second total (record { primary = primary; blocks = x.0 }, x.1) at)

rest_grows : (laws : GrowthLaws) (begun : Begun) (block : Block) (cursor : Cursor) (more : List ℕ) → Grows (with_more more) (rest_at begun block cursor) (rest_at begun block (more_at more cursor))
unfolding rest_at
rest_grows laws begun block cursor more =
    with_primary_grows begun.primary _ _ more (closed_grows laws (blocks_at (64 - length begun.blocks)) (blocks_grow laws (64 - length begun.blocks)) begun.blocks block cursor more)

rest_ends : (begun : Begun) (block : Block) (total : ℕ) (cursor : Cursor) → given cursor ≡ total → Ends second total (rest_at begun block cursor)
unfolding rest_at
rest_ends begun block total cursor is =
    with_primary_ends begun.primary total _ (closed_ends (blocks_at (64 - length begun.blocks)) (blocks_end (64 - length begun.blocks)) begun.blocks block total cursor is)

pub resume_grows : (laws : GrowthLaws) (stage : Stage) (cursor : Cursor) (more : List ℕ) → Grows (with_more more) (resume stage cursor) (resume stage (more_at more cursor))
unfolding resume
resume_grows laws stages.Front cursor more = bundle_grows laws cursor more
resume_grows laws (stages.Header begun) cursor more = with_primary_grows begun.primary _ _ more (blocks_grow laws (65 - length begun.blocks) begun.blocks cursor more)
resume_grows laws (stages.Body opened) cursor more =
    then_grows (with_more more) (with_more more) (content_at (opened.header.len - length opened.body) cursor) (content_at (opened.header.len - length opened.body) (more_at more cursor)) _ _ (content_grows (opened.header.len - length opened.body) cursor more)
    (λ x. rest_grows laws opened.begun (block_of opened.header (opened.body ++ x.0)) x.1 more)
resume_grows laws (stages.Tail closing) cursor more = rest_grows laws closing.begun closing.block cursor more
resume_grows laws (stages.Done begun) cursor more = ok_grows (with_more more) (record { primary = begun.primary; blocks = begun.blocks }, cursor)

pub resume_ends : (stage : Stage) (total : ℕ) (cursor : Cursor) → given cursor ≡ total → Ends second total (resume stage cursor)
unfolding resume
resume_ends stages.Front total cursor is = bundle_ends total cursor is
resume_ends (stages.Header begun) total cursor is = with_primary_ends begun.primary total _ (blocks_end (65 - length begun.blocks) begun.blocks total cursor is)
resume_ends (stages.Body opened) total cursor is =
    then_ends second second total (content_at (opened.header.len - length opened.body) cursor) _ (content_ends (opened.header.len - length opened.body) total cursor is)
    (λ x at. rest_ends opened.begun (block_of opened.header (opened.body ++ x.0)) total x.1 at)
resume_ends (stages.Tail closing) total cursor is = rest_ends closing.begun closing.block total cursor is
resume_ends (stages.Done begun) total cursor is = ok_ends second total (record { primary = begun.primary; blocks = begun.blocks }, cursor) is

-- ---- where reading stops

pub stops_for_good : (laws : GrowthLaws) (stage : Stage) (cursor : Cursor) (fault : Fault) → resume stage cursor ≡ Err fault → fault.reason ≢ reasons.Truncated → StopsBy (errors.Fault fault) stage cursor
stops_for_good laws stage cursor fault is other =
    (other, λ more. grows_err (with_more more) (resume stage cursor) (resume stage (more_at more cursor)) fault (resume_grows laws stage cursor more) is other)

fault_of : ℕ → Reason → Fault
fault_of place reason = record { place = place; reason = reason }

fault_is : (fault : Fault) (place : ℕ) → fault.place ≡ place → fault.reason ≡ reasons.Truncated → fault ≡ record { place = place; reason = reasons.Truncated }
unfolding fault_of
fault_is fault place at early = ap (λ (p : ℕ). fault_of p fault.reason) at ∙ ap (fault_of place) early

pub waits_there : (stage : Stage) (cursor : Cursor) (fault : Fault) → resume stage cursor ≡ Err fault → fault.reason ≡ reasons.Truncated → resume stage cursor ≡ Err (record { place = given cursor; reason = reasons.Truncated })
waits_there stage cursor fault is early =
    let place = ends_err second (given cursor) (resume stage cursor) fault (resume_ends stage (given cursor) cursor refl) is early in
    is ∙ ap (λ (f : Fault). Err f) (fault_is fault (given cursor) place early)

pub waits_so : (stage : Stage) (cursor : Cursor) → resume stage cursor ≡ Err (record { place = given cursor; reason = reasons.Truncated }) → Waits stage cursor
waits_so stages.Front cursor is = is
waits_so (stages.Header begun) cursor is = is
waits_so (stages.Body opened) cursor is = is
waits_so (stages.Tail closing) cursor is = is
waits_so (stages.Done begun) cursor is = tt

pub same_follows : (stage : Stage) (cursor : Cursor) → Follows stage cursor stage cursor
same_follows stage cursor = record { same = λ more. refl; given = refl }

-- bytes that end too early do so at their end
pub early_place : (bytes : List ℕ) (fault : Fault) → read_bundle bytes ≡ Err fault → fault.reason ≡ reasons.Truncated → fault.place ≡ length bytes
unfolding read_bundle
early_place bytes fault is early =
    ends_err second (length bytes) (read_bundle bytes) fault (bundle_ends (length bytes) (record { at = 0; rest = bytes }) (omega arith)) is early

-- no fault stands behind all the bytes
pub fault_within : (bytes : List ℕ) (fault : Fault) → read_bundle bytes ≡ Err fault → fault.place ≤ length bytes
unfolding read_bundle
fault_within bytes fault is =
    within_err second (length bytes) (read_bundle bytes) fault (bundle_ends (length bytes) (record { at = 0; rest = bytes }) (omega arith)) is
