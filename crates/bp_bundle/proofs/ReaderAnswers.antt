-- What a reader answers to one more piece.
use Rattle.std.proofs.Common.{◌≡◌, ◌≢◌, ℕ, zero, suc, ◌+◌, ◌-◌, ◌^◌, ◌<◌, ◌≤◌, min, Bool, true, false, ltb, List, [], ◌∷◌, ◌++◌, length, take, drop, get_or, Option, Some, None, Result, Ok, Err, refl, sym, ◌∙◌, ap, subst, arith, append_assoc}
use Rattle.std.proofs.lemmas.Bool.{ltb-true, ltb-false}
use Rattle.std.proofs.lemmas.List.{length-append, append-nil, take-append-le, take_all, take_at, take-append-drop, length-take, length-drop}
use Rattle.std.proofs.Math.Seq.{take-append-add}
use Rattle.cbor_profile.specs.declared.TheConstants.{BUNDLE_LIMIT}
use Rattle.cbor_profile.specs.declared.fault.Reason.TheVariants as reasons
use Rattle.cbor_profile.specs.declared.fault.Fault.{Fault}
use Rattle.cbor_profile.specs.declared.fault.SpellError.{SpellError}
use Rattle.cbor_profile.specs.declared.fault.SpellError.TheVariants as errors
use Rattle.bp_bundle.specs.Shape.{Contents}
use Rattle.bp_bundle.specs.Spelling.{IsBundle, spelling}
use Rattle.bp_bundle.specs.Tokens.{Cursor}
use Rattle.bp_bundle.specs.FirstFault.{begin_at, front_at, bundle_at, read_bundle}
use Rattle.bp_bundle.specs.Step.{seen}
use Rattle.bp_bundle.specs.declared.stage.Begun.{Begun}
use Rattle.bp_bundle.specs.declared.stage.Stage.{Stage}
use Rattle.bp_bundle.specs.declared.stage.Stage.TheVariants as stages
use Rattle.bp_bundle.specs.declared.stage.Outcome.{Outcome}
use Rattle.bp_bundle.specs.declared.stage.Outcome.TheVariants as outcomes
use Rattle.bp_bundle.specs.declared.reader.Fed.{Fed}
use Rattle.bp_bundle.specs.declared.reader.Reader.{Reader}
use Rattle.bp_bundle.specs.Machine.{more_at, resume, Follows, Waits, StopsBy, Ran}
use Rattle.bp_bundle.specs.declared.bundle.Bundle.{Bundle}
use Rattle.bp_bundle.specs.Taking.{Kept, Took, early, Ends, GoesOn, Answers, Faults, Feeds, Finishes, Settles, Concludes}
use Rattle.bp_bundle.proofs.WithinTheLimit.{early_is_small}
use Rattle.bp_bundle.proofs.StatesGoOn.{waits_so}

abbrev pub IsBytes : List ℕ → Type 0
IsBytes bytes = (i : ℕ) → get_or bytes i 0 < 256

-- the laws of bundles
pub record BundleLaws : Type 0 where
  pub again : (bundle : Contents) (rest : List ℕ) → IsBundle bundle → read_bundle (spelling bundle ++ rest) ≡ Ok (bundle, record { at = length (spelling bundle); rest = rest })
  pub means : (bytes : List ℕ) (bundle : Contents) (after : Cursor) → IsBytes bytes → read_bundle bytes ≡ Ok (bundle, after) → IsBundle bundle × (bytes ≡ spelling bundle ++ after.rest) × (after.at ≡ length (spelling bundle))

-- ---- at first

front_waits : resume stages.Front (record { at = 0; rest = [] }) ≡ Err (record { place = 0; reason = reasons.Truncated })
unfolding resume bundle_at front_at begin_at
front_waits = refl

pub begins : (reader : Reader) → reader.stage ≡ stages.Front → reader.place ≡ 0 → reader.pending ≡ [] → reader.met ≡ None → Took reader []
unfolding read_bundle resume
begins reader stage place pending none = record {
  none = none;
  bytes = λ i. omega arith;
  place = omega (arith, place, ap (λ (xs : List ℕ). length xs) pending);
  reads = λ more. rw (stage, place, pending) refl;
  waits = rw (stage, place, pending) front_waits;
  kept = rw stage tt;
}

-- ---- bytes

bytes_append : (xs ys : List ℕ) → IsBytes xs → IsBytes ys → IsBytes (xs ++ ys)
bytes_append [] ys p q i = q i
bytes_append (x ∷ xs) ys p q zero = p zero
bytes_append (x ∷ xs) ys p q (suc i) = bytes_append xs ys (λ k. p (suc k)) q i

bytes_take : (n : ℕ) (xs : List ℕ) → IsBytes xs → IsBytes (take n xs)
bytes_take zero xs p i = omega arith
bytes_take (suc n) [] p i = omega arith
bytes_take (suc n) (x ∷ xs) p zero = p zero
bytes_take (suc n) (x ∷ xs) p (suc i) = bytes_take n xs (λ k. p (suc k)) i

-- ---- where reading stands

no_more : (cursor : Cursor) → more_at [] cursor ≡ cursor
no_more cursor = ap (λ (xs : List ℕ). record { at = cursor.at; rest = xs }) (append-nil cursor.rest)

abbrev here : Reader → List ℕ → Cursor
here reader piece = record { at = reader.place; rest = reader.pending ++ piece }

-- with nothing more, the reader's own bytes are read
reads_own : (reader : Reader) (taken : List ℕ) → Took reader taken → read_bundle taken ≡ resume reader.stage (record { at = reader.place; rest = reader.pending })
reads_own reader taken took = sym (ap read_bundle (append-nil taken)) ∙ (took.reads [] ∙ ap (λ (xs : List ℕ). resume reader.stage (record { at = reader.place; rest = xs })) (append-nil reader.pending))

-- ---- it stops

pub faults_so : (taken piece : List ℕ) (reader : Reader) (error : SpellError) → Took reader taken → StopsBy error reader.stage (here reader piece) → Faults (taken ++ piece) error
faults_so taken piece reader errors.NoMemory took stops = tt
faults_so taken piece reader (errors.Fault fault) took stops =
    (took.reads piece ∙ (ap (resume reader.stage) (sym (no_more (here reader piece))) ∙ stops.1 []), stops.0)

-- ---- it goes on

reads_on : (taken piece : List ℕ) (old : Reader) (stage : Stage) (then : Cursor) → Took old taken → Follows old.stage (here old piece) stage then → (more : List ℕ) → read_bundle ((taken ++ piece) ++ more) ≡ resume stage (more_at more then)
reads_on taken piece old stage then took follows more =
    ap read_bundle (append_assoc taken piece more)
    ∙ (took.reads (piece ++ more)
    ∙ (ap (λ (xs : List ℕ). resume old.stage (record { at = old.place; rest = xs })) (sym (append_assoc old.pending piece more))
    ∙ follows.same more))

reads_here : (taken piece : List ℕ) (old : Reader) (stage : Stage) (then : Cursor) → Took old taken → Follows old.stage (here old piece) stage then → read_bundle (taken ++ piece) ≡ resume stage then
reads_here taken piece old stage then took follows =
    sym (ap read_bundle (append-nil (taken ++ piece))) ∙ (reads_on taken piece old stage then took follows [] ∙ ap (resume stage) (no_more then))

total_is : (taken piece : List ℕ) (old : Reader) (stage : Stage) (then : Cursor) → Took old taken → Follows old.stage (here old piece) stage then → then.at + length then.rest ≡ length (taken ++ piece)
total_is taken piece old stage then took follows = let place = took.place in let given = follows.given in omega (arith, length-append taken piece, length-append old.pending piece)

abbrev place_early : ℕ → Fault
place_early place = record { place = place; reason = reasons.Truncated }

kept_so : (stage : Stage) (pending : List ℕ) → ((begun : Begun) → stage ≡ stages.Done begun → ⊥) → Kept stage pending
kept_so stages.Front pending never = tt
kept_so (stages.Header begun) pending never = tt
kept_so (stages.Body opened) pending never = tt
kept_so (stages.Tail closing) pending never = tt
kept_so (stages.Done begun) pending never = absurd (never begun refl)

done_reads : (begun : Begun) (cursor : Cursor) (fault : Fault) → resume (stages.Done begun) cursor ≡ Err fault → ⊥
unfolding resume
done_reads begun cursor fault e = cc

not_done : (stage : Stage) (cursor : Cursor) (fault : Fault) → resume stage cursor ≡ Err fault → (begun : Begun) → stage ≡ stages.Done begun → ⊥
not_done stage cursor fault e begun is = done_reads begun cursor fault (sym (ap (λ (s : Stage). resume s cursor) is) ∙ e)

pub goes_on : (taken piece : List ℕ) (old new : Reader) (stage : Stage) (then : Cursor) → IsBytes piece → Took old taken → Follows old.stage (here old piece) stage then → resume stage then ≡ Err (record { place = then.at + length then.rest; reason = reasons.Truncated })
    → new.met ≡ None → new.stage ≡ stage → new.place ≡ min then.at 4611686018427387904 → new.pending ≡ then.rest → GoesOn taken piece new (length piece)
goes_on taken piece old new stage then fits took follows waits none s p q =
    let total = total_is taken piece old stage then took follows in
    let reads : read_bundle (taken ++ piece) ≡ Err (early (taken ++ piece)) = reads_here taken piece old stage then took follows ∙ (waits ∙ ap (λ (n : ℕ). Err (place_early n)) total) in
    let small = early_is_small (taken ++ piece) (early (taken ++ piece)) reads refl in
    let place : new.place ≡ then.at = omega (arith, p, small, total) in
    record {
      early = reads;
      all = refl;
      took = record {
        none = none;
        bytes = bytes_append taken piece took.bytes fits;
        place = omega (arith, place, ap (λ (xs : List ℕ). length xs) q, total);
        reads = λ more. rw (s, place, q) (reads_on taken piece old stage then took follows more);
        waits = rw (s, place, q) (waits_so stage then waits);
        kept = rw (s, q) (kept_so stage then.rest (not_done stage then _ waits));
      };
    }

-- ---- it ends

done_is : (begun : Begun) (cursor : Cursor) → resume (stages.Done begun) cursor ≡ Ok (record { primary = begun.primary; blocks = begun.blocks }, cursor)
unfolding resume
done_is begun cursor = refl

front_is : (whole rest taken piece : List ℕ) → taken ++ piece ≡ whole ++ rest → length whole ≤ length taken → take (length whole) taken ≡ whole
front_is whole rest taken piece same short = sym (take-append-le (length whole) taken piece short) ∙ (ap (take (length whole)) same ∙ take_at whole rest (length whole) refl)

-- bytes that begin with a whole bundle don't end too early
begins_whole : (laws : BundleLaws) (bundle : Contents) (rest taken piece : List ℕ) (fault : Fault) → IsBundle bundle → taken ++ piece ≡ spelling bundle ++ rest → length (spelling bundle) ≤ length taken → read_bundle taken ≡ Err fault → ⊥
begins_whole laws bundle rest taken piece fault is same short e =
    let whole = spelling bundle in
    let front : taken ≡ whole ++ drop (length whole) taken = sym (take-append-drop (length whole) taken) ∙ ap (λ (xs : List ℕ). xs ++ drop (length whole) taken) (front_is whole rest taken piece same short) in
    let read = ap read_bundle front ∙ laws.again bundle (drop (length whole) taken) is in
    cc

ok_pair : {E : Type 0} (x y : Contents × Cursor) → ◌≡◌ {A = Result (Contents × Cursor) E} (Ok x) (Ok y) → x ≡ y
ok_pair x y e = cc

ok_rest : {E : Type 0} (a b : Contents) (p q : Cursor) → ◌≡◌ {A = Result (Contents × Cursor) E} (Ok (a, p)) (Ok (b, q)) → p ≡ q
ok_rest {E} a b p q e = ap (λ (x : Contents × Cursor). x.1) (ok_pair {E = E} (a, p) (b, q) e)

-- what follows the end is no more than the new piece
within_by : (laws : BundleLaws) (stage : Stage) (taken piece pending : List ℕ) (place : ℕ) (bundle : Contents) (begun : Begun) (then : Cursor) → IsBundle bundle → taken ++ piece ≡ spelling bundle ++ then.rest → place + length pending ≡ length taken → then.at ≡ length (spelling bundle)
    → read_bundle taken ≡ resume stage (record { at = place; rest = pending }) → Waits stage (record { at = place; rest = pending }) → Kept stage pending → resume stage (record { at = place; rest = pending ++ piece }) ≡ resume (stages.Done begun) then → length then.rest ≤ length piece
within_by laws stage taken piece pending place bundle begun then is same placed at reads waits kept follows = by_test (ltb (length piece) (length then.rest)) refl
  where
    ended : (stage : Stage) → read_bundle taken ≡ resume stage (record { at = place; rest = pending }) → Waits stage (record { at = place; rest = pending }) → Kept stage pending → resume stage (record { at = place; rest = pending ++ piece }) ≡ resume (stages.Done begun) then → length piece < length then.rest → ⊥
    ended stages.Front reads waits kept follows more = begins_whole laws bundle then.rest taken piece _ is same (let l = ap (λ (xs : List ℕ). length xs) same in omega (arith, length-append taken piece, length-append (spelling bundle) then.rest)) (reads ∙ waits)
    ended (stages.Header b) reads waits kept follows more = begins_whole laws bundle then.rest taken piece _ is same (let l = ap (λ (xs : List ℕ). length xs) same in omega (arith, length-append taken piece, length-append (spelling bundle) then.rest)) (reads ∙ waits)
    ended (stages.Body b) reads waits kept follows more = begins_whole laws bundle then.rest taken piece _ is same (let l = ap (λ (xs : List ℕ). length xs) same in omega (arith, length-append taken piece, length-append (spelling bundle) then.rest)) (reads ∙ waits)
    ended (stages.Tail b) reads waits kept follows more = begins_whole laws bundle then.rest taken piece _ is same (let l = ap (λ (xs : List ℕ). length xs) same in omega (arith, length-append taken piece, length-append (spelling bundle) then.rest)) (reads ∙ waits)
    ended (stages.Done b) reads waits kept follows more =
        let at_end = ok_rest _ _ (record { at = place; rest = pending ++ piece }) then (sym (done_is b (record { at = place; rest = pending ++ piece })) ∙ (follows ∙ done_is begun then)) in
        let left : pending ++ piece ≡ then.rest = ap (λ (c : Cursor). c.rest) at_end in
        let size = ap (λ (xs : List ℕ). length xs) left in
        let none = ap (λ (xs : List ℕ). length xs) kept in
        omega (arith, length-append pending piece)

    by_test : (b : Bool) → ltb (length piece) (length then.rest) ≡ b → length then.rest ≤ length piece
    by_test true test = absurd (ended stage reads waits kept follows (ltb-true _ _ test))
    by_test false test = ltb-false _ _ test

pub taken_is : (whole rest taken piece : List ℕ) (count : ℕ) → taken ++ piece ≡ whole ++ rest → count + length rest ≡ length piece → taken ++ take count piece ≡ whole
taken_is whole rest taken piece count same size =
    let l = ap (λ (xs : List ℕ). length xs) same in
    let len : length taken + count ≡ length whole = omega (arith, length-append taken piece, length-append whole rest) in
    sym (take-append-add taken piece count) ∙ (ap (λ (n : ℕ). take n (taken ++ piece)) len ∙ (ap (take (length whole)) same ∙ take_at whole rest (length whole) refl))

pub it_ends : (laws : BundleLaws) (taken piece : List ℕ) (old new : Reader) (begun : Begun) (then : Cursor) → IsBytes piece → Took old taken → Follows old.stage (here old piece) (stages.Done begun) then
    → new.met ≡ None → new.stage ≡ stages.Done begun → new.place ≡ min then.at 4611686018427387904 → new.pending ≡ [] → Ends taken piece new (length piece - length then.rest)
it_ends laws taken piece old new begun then fits took follows none s p q =
    let bundle : Contents = record { primary = begun.primary; blocks = begun.blocks } in
    let read : read_bundle (taken ++ piece) ≡ Ok (bundle, then) = reads_here taken piece old (stages.Done begun) then took follows ∙ done_is begun then in
    let m = laws.means (taken ++ piece) bundle then (bytes_append taken piece took.bytes fits) read in
    let first : resume old.stage (here old piece) ≡ resume (stages.Done begun) then = ap (resume old.stage) (sym (no_more (here old piece))) ∙ (follows.same [] ∙ ap (resume (stages.Done begun)) (no_more then)) in
    let less : length then.rest ≤ length piece = within_by laws old.stage taken piece old.pending old.place bundle begun then m.0 m.1 took.place m.2 (reads_own old taken took) took.waits took.kept first in
    let count = length piece - length then.rest in
    let size : count + length then.rest ≡ length piece = omega arith in
    let whole : taken ++ take count piece ≡ spelling bundle = taken_is (spelling bundle) then.rest taken piece count m.1 size in
    let limit = m.0.within in
    let place : new.place ≡ length (spelling bundle) = omega (arith, p, m.2) in
    record {
      bundle = bundle;
      rest = then.rest;
      is = m.0;
      spells = m.1;
      within = size;
      took = record {
        none = none;
        bytes = bytes_append taken (take count piece) took.bytes (bytes_take count piece fits);
        place = omega (arith, place, ap (λ (xs : List ℕ). length xs) q, ap (λ (xs : List ℕ). length xs) whole);
        reads = λ more. ap (λ (xs : List ℕ). read_bundle (xs ++ more)) whole ∙ (laws.again bundle more m.0 ∙ rw (s, place, q) (sym (done_is begun (record { at = length (spelling bundle); rest = more }))));
        waits = rw s tt;
        kept = rw (s, q) refl;
      };
    }

-- ---- all together

answers_by : (taken piece : List ℕ) (reader : Reader) (fed : Fed) (count : ℕ) (done : Bool) → fed ≡ record { taken = count; done = done } → Answers taken piece reader count done → Answers taken piece reader fed.taken fed.done
answers_by taken piece reader fed count done is answers = subst (λ (f : Fed). Answers taken piece reader f.taken f.done) (sym is) answers

fed_is : (r : Result Fed SpellError) (fed : Fed) (taken piece : List ℕ) (reader : Reader) → r ≡ Ok fed → Answers taken piece reader fed.taken fed.done → Feeds taken piece reader r
fed_is r fed taken piece reader is answers = subst (Feeds taken piece reader) (sym is) answers

failed_is : (r : Result Fed SpellError) (error : SpellError) (taken piece : List ℕ) (reader : Reader) → r ≡ Err error → Faults (taken ++ piece) error → reader.met ≡ Some error → Feeds taken piece reader r
failed_is r error taken piece reader is faults met = subst (Feeds taken piece reader) (sym is) (faults, met)

wait_by : (taken piece : List ℕ) (old other new : Reader) (stage : Stage) (then : Outcome) (r : Result Fed SpellError) → IsBytes piece → Took old taken → other.met ≡ None → Ran old.stage (here old piece) then → Settles then (length piece) other new r → (laws : BundleLaws) → Feeds taken piece new r
wait_by taken piece old other new stage (outcomes.Stop error) r fits took none ran settles laws = failed_is r error taken piece new settles.0 (faults_so taken piece old error took ran) settles.1
wait_by taken piece old other new stage (outcomes.End begun then) r fits took none ran settles laws =
    fed_is r (record { taken = length piece - length then.rest.now; done = true }) taken piece new settles.0 (it_ends laws taken piece old new begun (seen then) fits took ran (settles.1 ∙ none) settles.2 settles.3 settles.4)
wait_by taken piece old other new stage (outcomes.Wait after then) (Ok fed) fits took none ran settles laws =
    answers_by taken piece new fed (length piece) false settles.0 (goes_on taken piece old new after (seen then) fits took ran.0 ran.1 (settles.1 ∙ none) settles.2 settles.3 settles.4)
wait_by taken piece old other new stage (outcomes.Wait after then) (Err error) fits took none ran settles laws =
    failed_is (Err error) error taken piece new refl (subst (Faults (taken ++ piece)) (sym settles.0) tt) (settles.1 ∙ ap (λ (e : SpellError). Some e) (sym settles.0))

pub feeds_so : (laws : BundleLaws) (taken piece : List ℕ) (old other new : Reader) (outcome : Outcome) (r : Result Fed SpellError) → IsBytes piece → Took old taken → other.met ≡ None → Ran old.stage (here old piece) outcome → Settles outcome (length piece) other new r → Feeds taken piece new r
feeds_so laws taken piece old other new outcome r fits took none ran settles = wait_by taken piece old other new old.stage outcome r fits took none ran settles laws

pub feeds_from : (laws : BundleLaws) (taken piece : List ℕ) (old other new : Reader) (stage : Stage) (bytes : List ℕ) (outcome : Outcome) (r : Result Fed SpellError) → stage ≡ old.stage → bytes ≡ old.pending ++ piece → IsBytes piece → Took old taken → other.met ≡ None
    → Ran stage (record { at = old.place; rest = bytes }) outcome → Settles outcome (length piece) other new r → Feeds taken piece new r
feeds_from laws taken piece old other new stage bytes outcome r s b fits took none ran settles =
    let there : Ran old.stage (here old piece) outcome = subst (λ (x : Stage). Ran x (here old piece) outcome) s (subst (λ (xs : List ℕ). Ran stage (record { at = old.place; rest = xs }) outcome) b ran) in
    feeds_so laws taken piece old other new outcome r fits took none there settles

pub none_pending : (pending piece : List ℕ) → length pending ≡ 0 → piece ≡ pending ++ piece
none_pending [] piece none = refl
none_pending (x ∷ xs) piece none = absurd (omega arith)

-- ---- the end of all bytes

waits_finish : (taken : List ℕ) (result : Result Bundle SpellError) (stage : Stage) (cursor : Cursor) (place : ℕ) → read_bundle taken ≡ resume stage cursor → resume stage cursor ≡ Err (place_early (cursor.at + length cursor.rest)) → cursor.at + length cursor.rest ≡ length taken → place ≡ length taken
    → result ≡ Err (errors.Fault (place_early place)) → Finishes taken result
waits_finish taken result stage cursor place reads waits total at is =
    subst (Finishes taken) (sym is) (reads ∙ (waits ∙ ap (λ (n : ℕ). Err (place_early n)) total), ap (λ (n : ℕ). errors.Fault (place_early n)) at)

done_finishes : (laws : BundleLaws) (taken : List ℕ) (result : Result Bundle SpellError) (begun : Begun) (cursor : Cursor) (place : ℕ) → IsBytes taken → read_bundle taken ≡ resume (stages.Done begun) cursor → cursor.rest ≡ [] → Concludes (stages.Done begun) place result → Finishes taken result
done_finishes laws taken (Ok bundle) begun cursor place fits reads none is =
    let m = laws.means taken (record { primary = begun.primary; blocks = begun.blocks }) cursor fits (reads ∙ done_is begun cursor) in
    m.1 ∙ (ap (λ (xs : List ℕ). spelling (record { primary = begun.primary; blocks = begun.blocks }) ++ xs) none ∙ (append-nil (spelling (record { primary = begun.primary; blocks = begun.blocks })) ∙ ap spelling (sym is)))
done_finishes laws taken (Err error) begun cursor place fits reads none is =
    absurd (is (laws.means taken (record { primary = begun.primary; blocks = begun.blocks }) cursor fits (reads ∙ done_is begun cursor)).0)

finish_by : (laws : BundleLaws) (taken : List ℕ) (result : Result Bundle SpellError) (stage : Stage) (cursor : Cursor) (place : ℕ) → IsBytes taken → read_bundle taken ≡ resume stage cursor → Waits stage cursor → Kept stage cursor.rest → cursor.at + length cursor.rest ≡ length taken → place ≡ length taken → Concludes stage place result → Finishes taken result
finish_by laws taken result stages.Front cursor place fits reads waits kept total at is = waits_finish taken result stages.Front cursor place reads waits total at is
finish_by laws taken result (stages.Header b) cursor place fits reads waits kept total at is = waits_finish taken result (stages.Header b) cursor place reads waits total at is
finish_by laws taken result (stages.Body b) cursor place fits reads waits kept total at is = waits_finish taken result (stages.Body b) cursor place reads waits total at is
finish_by laws taken result (stages.Tail b) cursor place fits reads waits kept total at is = waits_finish taken result (stages.Tail b) cursor place reads waits total at is
finish_by laws taken result (stages.Done b) cursor place fits reads waits kept total at is = done_finishes laws taken result b cursor place fits reads kept is

pub finishes_so : (laws : BundleLaws) (taken : List ℕ) (reader : Reader) (place : ℕ) (result : Result Bundle SpellError) → Took reader taken → place ≡ reader.place + length reader.pending → Concludes reader.stage place result → Finishes taken result
finishes_so laws taken reader place result took at is =
    let total = took.place in
    finish_by laws taken result reader.stage (record { at = reader.place; rest = reader.pending }) place took.bytes (reads_own reader taken took) took.waits took.kept total (at ∙ total) is
