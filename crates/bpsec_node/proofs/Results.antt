-- Bundles that a node makes are bundles.
use Rattle.std.proofs.Common.{◌≡◌, ◌≢◌, ℕ, zero, suc, ◌+◌, ◌-◌, ◌<◌, ◌≤◌, inl, inr, Bool, true, false, ◌&&◌, ◌||◌, not, cond, eqb, List, [], ◌∷◌, ◌++◌, length, map, get_or, Option, Some, None, Result, Ok, Err, refl, sym, ◌∙◌, ap, subst, arith, length-append}
use Rattle.std.specs.Prelude.{filter}
use Rattle.std.specs.List.{flat_map}
use Rattle.std.proofs.lemmas.Bool.{eqb-true}
use Rattle.cbor_profile.specs.declared.fault.Fault.{Fault}
use Rattle.cbor_profile.specs.Put.{uint, array_head}
use Rattle.cbor_profile.specs.declared.TheConstants.{BUNDLE_LIMIT}
use Rattle.cbor_profile.proofs.Sizes.{head_grows}
use Rattle.bp_eid.proofs.Steps.{IsBytes}
use Rattle.bp_blocks.specs.declared.block.Block.{Block}
use Rattle.bp_bundle.specs.Shape.{Contents}
use Rattle.bp_bundle.specs.Spelling.{IsNumbered, IsBundle, spelling}
use Rattle.bp_bundle.specs.Edits.{body_at, with_body}
use Rattle.bpsec_asb.specs.declared.asb.Asb.{Asb}
use Rattle.bpsec_asb.specs.declared.asb.Pair.{Pair}
use Rattle.bpsec_asb.specs.declared.operation.Service.{Service}
use Rattle.bpsec_asb.specs.declared.operation.Service.TheVariants.{Bib, Bcb}
use Rattle.bpsec_asb.specs.declared.operation.OpId.{OpId}
use Rattle.bpsec_asb.specs.SecurityBlock as security
use Rattle.bpsec_asb.specs.Operations.{NumbersAreDistinct, BodiesAreBytes}
use Rattle.bpsec_asb.specs.Reading.{read_body}
use Rattle.bpsec_asb.specs.Known.{operation}
use Rattle.bpsec_asb.proofs.Blocks.{read_means}
use Rattle.bpsec_asb.proofs.Members.{Among, contains}
use Rattle.std.proofs.lemmas.List.Elements.{All-contains}
use Rattle.bpsec_node.specs.Situation.{Meaning, Situation}
use Rattle.bpsec_node.specs.Site.{Site, block_at, site, asb_in, body_in, open_by, open_over}
use Rattle.bpsec_node.specs.Plain.{cover, opens, plain_by, plain_body, plain_block, plain}
use Rattle.bpsec_node.specs.AllOperations.{is_open}
use Rattle.bpsec_node.specs.Order.{is_free, shown_block, shown}
use Rattle.bpsec_node.specs.Events.{events}
use Rattle.bpsec_node.specs.Outcome.{is_removed, is_discarded, is_dropped, results_without, without, with_targets, remaining_asb, remaining_kind, remaining, resulting}
use Rattle.bpsec_node.proofs.Members.{cover_found, both}
use Rattle.bpsec_node.proofs.Operations.{at_itself}
use Rattle.bpsec_node.specs.Longer.{NeverLonger}
use Rattle.bpsec_node.specs.Shrunk.{Shrinks, Shrunk}
use Rattle.bpsec_node.proofs.Shrinking.{shrinks_itself, shrinks_body, shrinks_on, shrunk_map, shrunk_bundle, shrunk_spelling}

-- ---- opened bodies

open_shorter : (suite : Meaning) (at : Site) (op : OpId) (key : Option (List ℕ)) (asb : Option Asb) → NeverLonger suite → length (open_by suite at op key asb) ≤ length (body_in at.target)
open_shorter suite at op key None never = omega arith
open_shorter suite at op key (Some asb) never = never asb.context key _ _ _ (body_in at.target)

body_of_target : (s : Situation) (op : OpId) (block : Block) → NumbersAreDistinct s.bundle.blocks → Among block s.bundle.blocks → op.target ≡ block.number → body_in (site s.bundle op).target ≡ block.body
unfolding site
body_of_target s op block distinct there target = ap (λ n. body_in (block_at s.bundle.blocks n)) target ∙ ap body_in (at_itself s.bundle.blocks block distinct there)

plain_shorter_if : (s : Situation) (block : Block) (op : OpId) (b : Bool) → NeverLonger s.suite → body_in (site s.bundle op).target ≡ block.body → length (cond b (open_over s.suite (site s.bundle op) op (s.key op)) block.body) ≤ length block.body
unfolding open_over
plain_shorter_if s block op true never body =
    let short = open_shorter s.suite (site s.bundle op) op (s.key op) (asb_in (site s.bundle op).security) never in
    subst (λ (x : List ℕ). length (open_by s.suite (site s.bundle op) op (s.key op) (asb_in (site s.bundle op).security)) ≤ length x) body short
plain_shorter_if s block op false never body = omega arith

plain_shorter : (s : Situation) (block : Block) (c : Option OpId) → NeverLonger s.suite → NumbersAreDistinct s.bundle.blocks → Among block s.bundle.blocks → cover s.bundle.blocks block.number ≡ c → length (plain_by s block c) ≤ length block.body
plain_shorter s block None never distinct there is = omega arith
plain_shorter s block (Some op) never distinct there is =
    plain_shorter_if s block op (opens s op) never (body_of_target s op block distinct there (cover_found s.bundle.blocks block.number op is).1)

-- a plain block has the same header, and a body that isn't longer
pub plain_shrinks : (s : Situation) (block : Block) → NeverLonger s.suite → NumbersAreDistinct s.bundle.blocks → Among block s.bundle.blocks → Shrinks block (plain_block s block)
unfolding plain_block plain_body
plain_shrinks s block never distinct there = shrinks_body block (plain_by s block (cover s.bundle.blocks block.number)) (plain_shorter s block (cover s.bundle.blocks block.number) never distinct there refl)

shown_shrinks_if : (s : Situation) (block : Block) (b : Bool) → Shrinks block (plain_block s block) → Shrinks block (cond b (plain_block s block) block)
shown_shrinks_if s block true is = is
shown_shrinks_if s block false is = shrinks_itself block

-- the bundle as it is shown is a bundle
pub shown_shrunk : (s : Situation) (done : List OpId) → NeverLonger s.suite → NumbersAreDistinct s.bundle.blocks → Shrunk s.bundle.blocks (shown s done).blocks
unfolding shown
shown_shrunk s done never distinct =
    shrunk_map (shown_block s done) s.bundle.blocks (λ block there. shown_shrinks_if s block (is_free s.bundle.blocks done block.number) (plain_shrinks s block never distinct there))

pub shown_bundle : (s : Situation) (done : List OpId) → NeverLonger s.suite → IsBundle s.bundle → IsBundle (shown s done)
unfolding shown
shown_bundle s done never is = shrunk_bundle s.bundle (map (shown_block s done) s.bundle.blocks) is (shown_shrunk s done never is.distinct)

pub plain_shrunk : (s : Situation) → NeverLonger s.suite → NumbersAreDistinct s.bundle.blocks → Shrunk s.bundle.blocks (plain s).blocks
unfolding plain
plain_shrunk s never distinct = shrunk_map (plain_block s) s.bundle.blocks (λ block there. plain_shrinks s block never distinct there)

pub plain_bundle : (s : Situation) → NeverLonger s.suite → IsBundle s.bundle → IsBundle (plain s)
unfolding plain
plain_bundle s never is = shrunk_bundle s.bundle (map (plain_block s) s.bundle.blocks) is (plain_shrunk s never is.distinct)

-- ---- one body in place

shrunk_itself : (all : List Block) → Shrunk all all
shrunk_itself [] = refl
shrunk_itself (block ∷ more) = inr (block, more, refl, shrinks_itself block, shrunk_itself more)

pub body_at_shrunk : (all : List Block) (index : ℕ) (body : List ℕ) → index < length all → ((d : Block) → length body ≤ length (get_or all index d).body) → Shrunk all (body_at index body all)
body_at_shrunk [] index body within less = absurd (omega arith)
body_at_shrunk (block ∷ more) zero body within less = inr (record block { body = body }, more, refl, shrinks_body block body (less block), shrunk_itself more)
body_at_shrunk (block ∷ more) (suc index) body within less = inr (block, body_at index body more, refl, shrinks_itself block, body_at_shrunk more index body (omega arith) less)

-- a body that isn't longer than the one in its place leaves a bundle within the limit
pub with_body_within : (bundle : Contents) (index : ℕ) (body : List ℕ) → IsBundle bundle → index < length bundle.blocks → ((d : Block) → length body ≤ length (get_or bundle.blocks index d).body) → length (spelling (with_body index body bundle)) ≤ BUNDLE_LIMIT
with_body_within bundle index body is within less =
    let size = shrunk_spelling bundle (body_at index body bundle.blocks) (body_at_shrunk bundle.blocks index body within less) in
    let limit = is.within in
    omega arith

-- ---- security blocks without some of their operations

filter_count : {A : Type 0} (p : A → Bool) (xs : List A) → length (filter p xs) ≤ length xs
filter_count p [] = omega arith
filter_count p (x ∷ xs) = one (p x) (filter_count p xs)
  where
    one : (b : Bool) → length (filter p xs) ≤ length xs → length (cond b (x ∷ filter p xs) (filter p xs)) ≤ suc (length xs)
    one true le = omega arith
    one false le = omega arith

filter_size : {A : Type 0} (f : A → List ℕ) (p : A → Bool) (xs : List A) → length (flat_map f (filter p xs)) ≤ length (flat_map f xs)
filter_size f p [] = omega arith
filter_size f p (x ∷ xs) = rw (length-append (f x) (flat_map f xs)) (one (p x) (filter_size f p xs))
  where
    one : (b : Bool) → length (flat_map f (filter p xs)) ≤ length (flat_map f xs) → length (flat_map f (cond b (x ∷ filter p xs) (filter p xs))) ≤ length (f x) + length (flat_map f xs)
    one true le = rw (length-append (f x) (flat_map f (filter p xs))) (omega arith)
    one false le = omega arith

results_count : (p : ℕ → Bool) (targets : List ℕ) (results : List (List Pair)) → length (results_without p targets results) ≤ length results
results_count p [] results = omega arith
results_count p (target ∷ targets) [] = omega arith
results_count p (target ∷ targets) (result ∷ results) = one (p target) (results_count p targets results)
  where
    one : (b : Bool) → length (results_without p targets results) ≤ length results → length (cond b (results_without p targets results) (result ∷ results_without p targets results)) ≤ suc (length results)
    one true le = omega arith
    one false le = omega arith

results_size : (f : List Pair → List ℕ) (p : ℕ → Bool) (targets : List ℕ) (results : List (List Pair)) → length (flat_map f (results_without p targets results)) ≤ length (flat_map f results)
results_size f p [] results = omega arith
results_size f p (target ∷ targets) [] = omega arith
results_size f p (target ∷ targets) (result ∷ results) = rw (length-append (f result) (flat_map f results)) (one (p target) (results_size f p targets results))
  where
    one : (b : Bool) → length (flat_map f (results_without p targets results)) ≤ length (flat_map f results) → length (flat_map f (cond b (results_without p targets results) (result ∷ results_without p targets results))) ≤ length (f result) + length (flat_map f results)
    one true le = omega arith
    one false le = rw (length-append (f result) (flat_map f (results_without p targets results))) (omega arith)

pub without_shorter : (p : ℕ → Bool) (asb : Asb) → length (security.spelling (without p asb)) ≤ length (security.spelling asb)
unfolding security.spelling without array_head
without_shorter p asb =
    let kept = filter (λ target. not (p target)) asb.targets in
    let results = results_without p asb.targets asb.results in
    let a = head_grows 4 (length kept) (length asb.targets) (filter_count (λ target. not (p target)) asb.targets) in
    let b = filter_size uint (λ target. not (p target)) asb.targets in
    let c = head_grows 4 (length results) (length asb.results) (results_count p asb.targets asb.results) in
    let d = results_size security.pairs p asb.targets asb.results in
    simp length-append (omega arith)

-- ---- what remains of a block

Remains : Block → List Block → Type 0
Remains block [] = block.number ≢ 1
Remains block (first ∷ []) = Shrinks block first
Remains block (first ∷ second ∷ more) = ⊥

targets_remain : (block : Block) (asb : Asb) (targets : List ℕ) → block.number ≢ 1 → length (security.spelling asb) ≤ length block.body → Remains block (with_targets block asb targets)
unfolding Remains
targets_remain block asb [] other less = other
targets_remain block asb (target ∷ targets) other less = shrinks_body block (security.spelling asb) less

asb_remains : (s : Situation) (block : Block) (service : Service) (read : Result Asb Fault) → read_body block.body ≡ read → IsBytes block.body → block.number ≢ 1 → Remains block (remaining_asb s block service read)
unfolding Remains
asb_remains s block service (Err fault) is small other = shrinks_itself block
asb_remains s block service (Ok asb) is small other =
    let p : ℕ → Bool = λ target. is_dropped s (operation service block.number target) in
    let spelled = (read_means block.body asb small is).1 in
    let less = without_shorter p asb in
    targets_remain block (without p asb) (without p asb).targets other (subst (λ (x : List ℕ). length (security.spelling (without p asb)) ≤ length x) (sym spelled) less)

kind_remains : (s : Situation) (block : Block) (bib bcb : Bool) → IsBytes block.body → (bib ≡ true → block.number ≢ 1) → (bcb ≡ true → block.number ≢ 1)
    → Remains block (cond bib (remaining_asb s block Bib (read_body block.body)) (cond bcb (remaining_asb s block Bcb (read_body block.body)) (block ∷ [])))
unfolding Remains
kind_remains s block true bcb small first second = asb_remains s block Bib (read_body block.body) refl small (first refl)
kind_remains s block false true small first second = asb_remains s block Bcb (read_body block.body) refl small (second refl)
kind_remains s block false false small first second = shrinks_itself block

not_payload : (block : Block) (kind : ℕ) → IsNumbered block → kind ≢ 1 → eqb block.kind kind ≡ true → block.number ≢ 1
not_payload block kind numbered other e one = other (sym (eqb-true block.kind kind e) ∙ numbered.1.1 one)

block_remains : (s : Situation) (block : Block) (b : Bool) → IsBytes block.body → IsNumbered block → (b ≡ true → block.number ≢ 1) → Remains block (cond b [] (remaining_kind s block))
unfolding Remains
block_remains s block true small numbered out = out refl
block_remains s block false small numbered out =
    kind_remains s block (eqb block.kind 11 && is_open s block.number) (eqb block.kind 12) small
    (λ e. not_payload block 11 numbered (λ h. omega arith) (both (eqb block.kind 11) (is_open s block.number) e).0)
    (λ e. not_payload block 12 numbered (λ h. omega arith) e)

-- ---- the resulting bundle

made_shrunk : (block mid : Block) (made more rest : List Block) → Shrinks block mid → Remains mid made → Shrunk more rest → Shrunk (block ∷ more) (made ++ rest)
unfolding Remains
made_shrunk block mid [] more rest s remains shrunk = inl (λ one. remains (s.number ∙ one), shrunk)
made_shrunk block mid (first ∷ []) more rest s remains shrunk = inr (first, rest, refl, shrinks_on block mid first s remains, shrunk)
made_shrunk block mid (first ∷ second ∷ others) more rest s remains shrunk = absurd remains

flat_shrunk : (all : List Block) (f : Block → List Block) (g : Block → Block) → ((block : Block) → Among block all → Shrinks block (g block) × Remains (g block) (f (g block))) → Shrunk all (flat_map f (map g all))
flat_shrunk [] f g each = refl
flat_shrunk (block ∷ more) f g each =
    let here = each block (inl refl) in
    made_shrunk block (g block) (f (g block)) more (flat_map f (map g more)) here.0 here.1 (flat_shrunk more f g (λ b there. each b (inr there)))

not_removed : (s : Situation) (number : ℕ) → is_discarded (events s) ≡ false → is_removed (events s) number ≡ true → number ≢ 1
unfolding is_discarded
not_removed s number kept removed one =
    let payload : is_removed (events s) 1 ≡ true = subst (λ n. is_removed (events s) n ≡ true) one removed in
    let t : true ≡ false = sym (or_last _ _ _ payload) ∙ kept in
    absurd cc
  where
    or_last : (a b c : Bool) → c ≡ true → (a || (b || c)) ≡ true
    or_last true b c e = refl
    or_last false true c e = refl
    or_last false false c e = e

remaining_remains : (s : Situation) (block : Block) → is_discarded (events s) ≡ false → IsBytes block.body → IsNumbered block → Remains block (remaining s block)
unfolding remaining
remaining_remains s block kept small numbered =
    block_remains s block (is_removed (events s) block.number) small numbered (λ removed. not_removed s block.number kept removed)

pub resulting_shrunk : (s : Situation) → NeverLonger s.suite → IsBundle s.bundle → BodiesAreBytes (plain s).blocks → is_discarded (events s) ≡ false → Shrunk s.bundle.blocks (resulting s).blocks
unfolding resulting plain
resulting_shrunk s never is small kept =
    flat_shrunk s.bundle.blocks (remaining s) (plain_block s)
    (λ block there.
    let shrinks = plain_shrinks s block never is.distinct there in
    let numbered = All-contains IsNumbered s.bundle.blocks block is.numbered (contains s.bundle.blocks block there) in
    let there' = mapped s block s.bundle.blocks there in
    let bytes : IsBytes (plain_block s block).body = All-contains (λ (b : Block). IsBytes b.body) (map (plain_block s) s.bundle.blocks) (plain_block s block) small (contains (map (plain_block s) s.bundle.blocks) (plain_block s block) there') in
    (shrinks, remaining_remains s (plain_block s block) kept bytes (rw (shrinks.kind, shrinks.number) numbered)))
  where
    mapped : (s : Situation) (block : Block) (blocks : List Block) → Among block blocks → Among (plain_block s block) (map (plain_block s) blocks)
    mapped s block [] there = absurd there
    mapped s block (first ∷ more) (inl e) = inl (ap (plain_block s) e)
    mapped s block (first ∷ more) (inr there) = inr (mapped s block more there)

-- a bundle that isn't discarded is a bundle of the profile: its blocks are blocks of the received bundle, in their order, with
-- their headers and bodies that aren't longer
pub resulting_bundle : (s : Situation) → NeverLonger s.suite → IsBundle s.bundle → BodiesAreBytes (plain s).blocks → is_discarded (events s) ≡ false → IsBundle (resulting s)
unfolding resulting
resulting_bundle s never is small kept = shrunk_bundle s.bundle (resulting s).blocks is (resulting_shrunk s never is small kept)
