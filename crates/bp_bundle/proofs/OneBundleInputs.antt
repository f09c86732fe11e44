-- What reading one bundle and the end of an input comes to.
use Rattle.std.proofs.Common.{◌≡◌, ◌≢◌, ℕ, ◌+◌, ◌-◌, ◌<◌, ◌≤◌, Bool, true, false, not, eqb, List, [], ◌∷◌, ◌++◌, length, take, Option, Some, None, Result, Ok, Err, refl, sym, ◌∙◌, ap, subst, append_assoc, append-nil, arith}
use Rattle.std.specs.Prelude.{option_map, IfOk, IfSome}
use Rattle.std.proofs.lemmas.Bool.{eqb-true, eqb-false}
use Rattle.std.proofs.lemmas.List.{length-append, take_at}
use Rattle.std.proofs.Math.Seq.{take-append-add}
use Rattle.bp_outside.specs.Outside.{Taken}
use Rattle.cbor_profile.specs.declared.TheConstants.{BUNDLE_LIMIT}
use Rattle.cbor_profile.specs.declared.fault.Fault.{Fault}
use Rattle.cbor_profile.specs.declared.fault.Reason.TheVariants as reasons
use Rattle.cbor_profile.specs.declared.fault.SpellError.{SpellError}
use Rattle.cbor_profile.specs.declared.fault.SpellError.TheVariants as errors
use Rattle.bp_bundle.specs.Shape.{Contents}
use Rattle.bp_bundle.specs.Spelling.{IsBundle, spelling}
use Rattle.bp_bundle.specs.FirstFault.{read_bundle, read_only}
use Rattle.bp_bundle.specs.Taking.{Took, Feeds, early}
use Rattle.bp_bundle.specs.declared.reader.Fed.{Fed}
use Rattle.bp_bundle.specs.declared.reader.Reader.{Reader}
use Rattle.bp_bundle.specs.declared.whole_input.InputFault.TheVariants as inputs
use Rattle.bp_bundle.specs.WholeInput.{IsInput, Answered, HasTaken, HasEnded, TakesAtMost, count, trailing_at, fault_of_error}
use Rattle.bp_bundle.proofs.WithinTheLimit.{early_is_small}

-- ---- what is taken

pub taken_then : (a b c : Option (List ℕ)) (xs ys : List ℕ) → Taken a xs b → Taken b ys c → Taken a (xs ++ ys) c
taken_then a b None xs ys first then = first ∙ ap (option_map (λ rest. xs ++ rest)) then
taken_then a b (Some rest) xs ys first then =
    first ∙ (ap (option_map (λ rest. xs ++ rest)) then ∙ ap (λ v. Some v) (sym (append_assoc xs ys rest)))

-- the whole input, of which this is the front
pub input_of : (P : List ℕ → Type 0) (before now : Option (List ℕ)) (xs : List ℕ) → Taken before xs now → ((more : List ℕ) → P (xs ++ more)) → (bytes : List ℕ) × IsInput before bytes × P bytes
input_of P before None xs given all = (xs ++ [], subst (λ (o : Option (List ℕ)). IsInput o (xs ++ [])) (sym given) tt, all [])
input_of P before (Some rest) xs given all = (xs ++ rest, subst (λ (o : Option (List ℕ)). IsInput o (xs ++ rest)) (sym given) refl, all rest)

-- nothing follows it
pub input_whole : (before now : Option (List ℕ)) (xs : List ℕ) → Taken before xs now → IfSome now (λ rest. rest ≡ []) → IsInput before xs
input_whole before None xs given none = subst (λ (o : Option (List ℕ)). IsInput o xs) (sym given) tt
input_whole before (Some rest) xs given none = subst (λ (o : Option (List ℕ)). IsInput o xs) (sym given) (ap (λ (t : List ℕ). xs ++ t) none ∙ append-nil xs)

-- ---- what is read

pub record Laws : Type 0 where
  pub again : (bundle : Contents) (rest : List ℕ) → IsBundle bundle → read_bundle (spelling bundle ++ rest) ≡ Ok (bundle, record { at = length (spelling bundle); rest = rest })
  pub fault : (bytes more : List ℕ) (fault : Fault) → read_bundle bytes ≡ Err fault → fault.reason ≢ reasons.Truncated → read_bundle (bytes ++ more) ≡ Err fault

only_fault : (bytes : List ℕ) (fault : Fault) → read_bundle bytes ≡ Err fault → read_only bytes ≡ Err fault
unfolding read_only
only_fault bytes fault e = rw e refl

trailing_after : ((bundle : Contents) (rest : List ℕ) → IsBundle bundle → read_bundle (spelling bundle ++ rest) ≡ Ok (bundle, record { at = length (spelling bundle); rest = rest }))
    → (bundle : Contents) (extra : List ℕ) → IsBundle bundle → 0 < length extra → read_only (spelling bundle ++ extra) ≡ Err (trailing_at bundle)
unfolding read_only
trailing_after again bundle [] is some = absurd (omega arith)
trailing_after again bundle (byte ∷ extra) is some = rw (again bundle (byte ∷ extra) is) refl

only_ok : ((bundle : Contents) (rest : List ℕ) → IsBundle bundle → read_bundle (spelling bundle ++ rest) ≡ Ok (bundle, record { at = length (spelling bundle); rest = rest }))
    → (bundle : Contents) → IsBundle bundle → read_only (spelling bundle) ≡ Ok bundle
unfolding read_only
only_ok again bundle is = rw (ap read_bundle (sym (append-nil (spelling bundle))) ∙ again bundle [] is) refl

-- ---- one more piece

pub step_most : (before old now : Option (List ℕ)) (reader : Reader) (piece : List ℕ) → length piece ≤ 65536 → HasTaken before old reader → Taken old piece now → TakesAtMost (BUNDLE_LIMIT + 65544) before now
step_most before old now reader piece few has moved =
    let small = has.small in
    (has.taken ++ piece, omega (arith, length-append has.taken piece), taken_then before old now has.taken piece has.given moved)

pub step_more : (before old now : Option (List ℕ)) (reader after : Reader) (piece : List ℕ) (fed : Fed) → HasTaken before old reader → Taken old piece now
    → ((taken : List ℕ) → Took reader taken → Feeds taken piece after (Ok fed)) → fed.done ≡ false → HasTaken before now after
step_more before old now reader after piece fed has moved feeds undone =
    let goes = rw undone at (feeds has.taken has.took) in
    record {
      taken = has.taken ++ piece;
      took = goes.took;
      given = taken_then before old now has.taken piece has.given moved;
      small = early_is_small (has.taken ++ piece) _ goes.early refl;
    }

pub step_fault : ((bytes more : List ℕ) (fault : Fault) → read_bundle bytes ≡ Err fault → fault.reason ≢ reasons.Truncated → read_bundle (bytes ++ more) ≡ Err fault)
    → (before old now : Option (List ℕ)) (reader after : Reader) (piece : List ℕ) (error : SpellError) → HasTaken before old reader → Taken old piece now
    → ((taken : List ℕ) → Took reader taken → Feeds taken piece after (Err error)) → Answered before (Err (fault_of_error error))
step_fault stays before old now reader after piece (errors.Fault fault) has moved feeds =
    let faults = (feeds has.taken has.took).0 in
    input_of (λ bytes. read_only bytes ≡ Err fault) before now (has.taken ++ piece) (taken_then before old now has.taken piece has.given moved)
    (λ more. only_fault ((has.taken ++ piece) ++ more) fault (stays (has.taken ++ piece) more fault faults.0 faults.1))
step_fault stays before old now reader after piece errors.NoMemory has moved feeds = tt

empty_of : (xs : List ℕ) → length xs ≡ 0 → xs ≡ []
empty_of [] e = refl
empty_of (x ∷ xs) e = absurd (omega arith)

some_of : (xs : List ℕ) → (length xs ≡ 0 → ⊥) → 0 < length xs
some_of [] some = absurd (some refl)
some_of (x ∷ xs) some = omega arith

pub step_done : (before old now : Option (List ℕ)) (reader after : Reader) (piece : List ℕ) (fed : Fed) (n : ℕ) → length piece ≤ 65536 → length piece ≡ n → HasTaken before old reader → Taken old piece now
    → ((taken : List ℕ) → Took reader taken → Feeds taken piece after (Ok fed)) → fed.done ≡ true → HasEnded before now after (eqb fed.taken n)
step_done before old now reader after piece fed n few size has moved feeds done =
    let ends = rw done at (feeds has.taken has.took) in
    let all = ap length ends.spells in
    let left = length-append has.taken piece in
    let right = length-append (spelling ends.bundle) ends.rest in
    let within = ends.within in
    let small = has.small in
    let len : length has.taken + fed.taken ≡ length (spelling ends.bundle) = omega arith in
    let front : has.taken ++ take fed.taken piece ≡ spelling ends.bundle =
    sym (take-append-add has.taken piece fed.taken) ∙ (ap (λ (m : ℕ). take m (has.taken ++ piece)) len ∙ (ap (take (length (spelling ends.bundle))) ends.spells ∙ take_at (spelling ends.bundle) ends.rest _ refl)) in
    record {
      bundle = ends.bundle;
      rest = ends.rest;
      is = ends.is;
      given = subst (λ (t : List ℕ). Taken before t now) ends.spells (taken_then before old now has.taken piece has.given moved);
      small = omega arith;
      took = subst (Took after) front ends.took;
      nothing_more = λ e. let same : fed.taken ≡ n = eqb-true _ _ e in empty_of ends.rest (omega arith);
      something_more = λ e. some_of ends.rest (λ none. absurd (eqb-false _ _ e (omega arith)));
    }

-- ---- the end

abbrev pub Again : Type 0
Again = (bundle : Contents) (rest : List ℕ) → IsBundle bundle → read_bundle (spelling bundle ++ rest) ≡ Ok (bundle, record { at = length (spelling bundle); rest = rest })

abbrev pub trailing_in : ℕ → Fault
trailing_in place = record { place = place; reason = reasons.Trailing }

more_trails : Again → (bundle : Contents) (rest : List ℕ) (size : ℕ) → IsBundle bundle → size ≡ length (spelling bundle) → 0 < length rest → (more : List ℕ) → read_only ((spelling bundle ++ rest) ++ more) ≡ Err (trailing_in size)
more_trails again bundle rest size is same some more =
    ap read_only (append_assoc (spelling bundle) rest more) ∙ (trailing_after again bundle (rest ++ more) is (omega (arith, length-append rest more)) ∙ ap (λ (n : ℕ). Err (trailing_in n)) (sym same))

-- bytes of the last piece follow the bundle
pub piece_trails : Again → (before old : Option (List ℕ)) (reader : Reader) (all : Bool) (size : ℕ) → (has : HasEnded before old reader all) → size ≡ length (spelling has.bundle) → all ≡ false → Answered before (Err (inputs.Fault (trailing_in size)))
piece_trails again before old reader all size has same some =
    input_of (λ bytes. read_only bytes ≡ Err (trailing_in size)) before old (spelling has.bundle ++ has.rest) has.given
    (more_trails again has.bundle has.rest size has.is same (has.something_more some))

-- a further piece follows it
pub next_trails : Again → (before old now : Option (List ℕ)) (reader : Reader) (all : Bool) (size : ℕ) (piece : List ℕ) → (has : HasEnded before old reader all) → size ≡ length (spelling has.bundle) → Taken old piece now → 0 < length piece
    → Answered before (Err (inputs.Fault (trailing_in size)))
next_trails again before old now reader all size piece has same moved some =
    input_of (λ bytes. read_only bytes ≡ Err (trailing_in size)) before now (spelling has.bundle ++ (has.rest ++ piece))
    (subst (λ (t : List ℕ). Taken before t now) (append_assoc (spelling has.bundle) has.rest piece) (taken_then before old now (spelling has.bundle ++ has.rest) piece has.given moved))
    (more_trails again has.bundle (has.rest ++ piece) size has.is same (omega (arith, length-append has.rest piece)))

pub next_most : (before old now : Option (List ℕ)) (reader : Reader) (all : Bool) (piece : List ℕ) → HasEnded before old reader all → Taken old piece now → length piece ≤ 1 → TakesAtMost (BUNDLE_LIMIT + 65545) before now
next_most before old now reader all piece has moved few =
    let small = has.small in
    ((spelling has.bundle ++ has.rest) ++ piece, omega (arith, length-append (spelling has.bundle ++ has.rest) piece), taken_then before old now (spelling has.bundle ++ has.rest) piece has.given moved)

-- nothing follows it
pub nothing_follows : Again → (before old : Option (List ℕ)) (reader : Reader) (all : Bool) (bundle : Contents) → (has : HasEnded before old reader all) → has.bundle ≡ bundle → all ≡ true → IfSome old (λ rest. rest ≡ [])
    → (bytes : List ℕ) × IsInput before bytes × (read_only bytes ≡ Ok bundle)
nothing_follows again before old reader all bundle has same none end =
    let text : spelling has.bundle ++ has.rest ≡ spelling has.bundle = ap (λ (t : List ℕ). spelling has.bundle ++ t) (has.nothing_more none) ∙ append-nil (spelling has.bundle) in
    (spelling has.bundle, input_whole before old (spelling has.bundle) (subst (λ (t : List ℕ). Taken before t old) text has.given) end, only_ok again has.bundle has.is ∙ ap (λ (b : Contents). Ok b) same)

-- the input ends where the reader has taken a bundle whole
pub over_whole : Again → (before now : Option (List ℕ)) (reader : Reader) (bundle : Contents) → (has : HasTaken before now reader) → IsBundle bundle → has.taken ≡ spelling bundle → IfSome now (λ rest. rest ≡ [])
    → (bytes : List ℕ) × IsInput before bytes × (read_only bytes ≡ Ok bundle)
over_whole again before now reader bundle has is same end = (has.taken, input_whole before now has.taken has.given end, ap read_only same ∙ only_ok again bundle is)

-- the input ends before its bundle does
pub over_early : (before now : Option (List ℕ)) (reader : Reader) (error : SpellError) → (has : HasTaken before now reader) → (read_bundle has.taken ≡ Err (early has.taken)) × (error ≡ errors.Fault (early has.taken)) → IfSome now (λ rest. rest ≡ [])
    → Answered before (Err (fault_of_error error))
over_early before now reader error has ends end = rw ends.1 (has.taken, input_whole before now has.taken has.given end, only_fault has.taken (early has.taken) ends.0)

pub start : (before : Option (List ℕ)) (reader : Reader) → Took reader [] → HasTaken before before reader
start before reader took = record {
  taken = [];
  took = took;
  given = start_taken before;
  small = omega arith;
}
  where
    start_taken : (o : Option (List ℕ)) → Taken o [] o
    start_taken None = refl
    start_taken (Some xs) = refl

pub loop_most : (before now : Option (List ℕ)) (reader : Reader) → HasTaken before now reader → TakesAtMost (BUNDLE_LIMIT + 65545) before now
loop_most before now reader has = let small = has.small in (has.taken, omega arith, has.given)

-- each piece brings the limit nearer
pub nearer : (before now : Option (List ℕ)) (reader after : Reader) → HasTaken before now reader → count reader < count after → BUNDLE_LIMIT + 8 - count after < BUNDLE_LIMIT + 8 - count reader
nearer before now reader after has further =
    let small = has.small in
    let place = has.took.place in
    omega arith

pub most_more : (before now : Option (List ℕ)) → TakesAtMost (BUNDLE_LIMIT + 65544) before now → TakesAtMost (BUNDLE_LIMIT + 65545) before now
most_more before now most = let few = most.1 in (most.0, omega arith, most.2)

pub if_ok : {A B : Type 0} (P : Type 0) (r : Result A B) → P → IfOk r (λ _. P)
if_ok P (Ok x) p = p
if_ok P (Err e) p = tt

pub same_fed : (r : Result Fed SpellError) (x y : Fed) → r ≡ Ok x → r ≡ Ok y → x ≡ y
same_fed r x y e f = ok (sym e ∙ f)
  where
    ok : ◌≡◌ {A = Result Fed SpellError} (Ok x) (Ok y) → x ≡ y
    ok h = cc

pub not_true : (b : Bool) → not b ≡ true → b ≡ false
not_true true e = absurd cc
not_true false e = refl

pub not_false : (b : Bool) → not b ≡ false → b ≡ true
not_false true e = refl
not_false false e = absurd cc
