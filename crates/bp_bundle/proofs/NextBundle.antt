-- What reading the next of several bundles comes to.
use Rattle.std.proofs.Common.{◌≡◌, ◌≢◌, ℕ, zero, suc, ◌+◌, ◌-◌, ◌<◌, ◌≤◌, Bool, true, false, cond, eqb, List, [], ◌∷◌, ◌++◌, length, take, drop, Option, Some, None, Result, Ok, Err, refl, sym, ◌∙◌, ap, subst, append_assoc, append-nil, arith}
use Rattle.std.specs.Prelude.{IfSome, slice_range}
use Rattle.std.proofs.lemmas.Bool.{eqb-true, eqb-false}
use Rattle.std.proofs.lemmas.List.{length-append, take-append-drop, drop_all, drop-drop, drop-take}
use Rattle.bp_outside.specs.Outside.{Taken}
use Rattle.cbor_profile.specs.declared.TheConstants.{BUNDLE_LIMIT}
use Rattle.cbor_profile.specs.declared.fault.Fault.{Fault}
use Rattle.cbor_profile.specs.declared.fault.Reason.TheVariants as reasons
use Rattle.cbor_profile.specs.declared.fault.SpellError.{SpellError}
use Rattle.cbor_profile.specs.declared.fault.SpellError.TheVariants as errors
use Rattle.bp_bundle.specs.Shape.{Contents}
use Rattle.bp_bundle.specs.Spelling.{IsBundle, spelling}
use Rattle.bp_bundle.specs.Tokens.{Cursor}
use Rattle.bp_bundle.specs.FirstFault.{read_bundle}
use Rattle.bp_bundle.specs.Taking.{Took, Feeds, Faults, Ends, GoesOn, early}
use Rattle.bp_bundle.specs.WholeInput.{IsInput}
use Rattle.bp_bundle.specs.BackToBack.{Waiting, Answers, Reads, place, moved, next_of}
use Rattle.bp_bundle.specs.Window.{Fills, FitsThere, HasWhole, fault_there, over_there}
use Rattle.bp_bundle.specs.declared.bundle.Bundle.{Bundle}
use Rattle.bp_bundle.specs.declared.reader.Fed.{Fed}
use Rattle.bp_bundle.specs.declared.reader.Reader.{Reader}
use Rattle.bp_bundle.specs.declared.whole_input.InputFault.{InputFault}
use Rattle.bp_bundle.specs.declared.whole_input.InputFault.TheVariants as inputs
use Rattle.bp_bundle.proofs.WithinTheLimit.{early_is_small}
use Rattle.bp_bundle.proofs.StatesGoOn.{fault_within}
use Rattle.bp_bundle.proofs.ReaderAnswers.{taken_is}
use Rattle.bp_bundle.proofs.OneBundleInputs.{taken_then}

-- Bytes were read, the reader has taken some of those that waited then, and no bundle has ended.
pub record Going (before : Waiting) (left : Option (List ℕ)) (now : Waiting) (rest : Option (List ℕ)) (reader : Reader) (count : ℕ) : Type 0 where
  pub fed : List ℕ
  pub read : List ℕ
  pub took : Took reader fed
  pub given : Taken left read rest
  pub counted : now.taken ≡ before.taken + length read
  pub same : before.held ++ read ≡ fed ++ now.held
  pub size : length fed ≡ count
  pub small : count < BUNDLE_LIMIT + 8
  pub few : length now.held ≤ 65536
  pub ends_early : 0 < count → read_bundle fed ≡ Err (early fed)

none_taken : (left : Option (List ℕ)) → Taken left [] left
none_taken None = refl
none_taken (Some rest) = refl

pub start : (before : Waiting) (left : Option (List ℕ)) (reader : Reader) → length before.held ≤ 65536 → Took reader [] → Going before left before left reader 0
start before left reader few took = record {
  fed = [];
  read = [];
  took = took;
  given = none_taken left;
  counted = omega arith;
  same = append-nil before.held;
  size = refl;
  small = omega arith;
  few = few;
  ends_early = λ some. absurd (omega arith);
}

pub filled : (before : Waiting) (left : Option (List ℕ)) (now : Waiting) (rest : Option (List ℕ)) (reader : Reader) (count : ℕ) (then : Waiting) (then_rest : Option (List ℕ)) → Going before left now rest reader count → Fills now rest then then_rest → length then.held ≤ 65536
    → Going before left then then_rest reader count
filled before left now rest reader count then then_rest going fills few = record {
  fed = going.fed;
  read = going.read ++ fills.read;
  took = going.took;
  given = taken_then left rest then_rest going.read fills.read going.given fills.given;
  counted = let a = going.counted in let b = fills.counted in omega (arith, length-append going.read fills.read);
  same = sym (append_assoc before.held going.read fills.read) ∙ (ap (λ (t : List ℕ). t ++ fills.read) going.same ∙ (append_assoc going.fed now.held fills.read ∙ ap (λ (t : List ℕ). going.fed ++ t) (sym fills.held)));
  size = going.size;
  small = going.small;
  few = few;
  ends_early = going.ends_early;
}

-- ---- answers

pub few_read : (before : Waiting) (left : Option (List ℕ)) (now : Waiting) (rest : Option (List ℕ)) (reader : Reader) (count : ℕ) (going : Going before left now rest reader count) → length going.read ≤ BUNDLE_LIMIT + 65543
few_read before left now rest reader count going =
    let all = ap (λ (t : List ℕ). length t) going.same in
    let size = going.size in
    let small = going.small in
    let few = going.few in
    omega (arith, length-append before.held going.read, length-append going.fed now.held)

pub reads_so : (before : Waiting) (left : Option (List ℕ)) (now : Waiting) (rest : Option (List ℕ)) (reader : Reader) (count : ℕ) (after : Waiting) (result : Result (Option Bundle) InputFault) → (going : Going before left now rest reader count) → after.taken ≡ now.taken → Answers before going.read after rest result
    → Reads before left after rest result
reads_so before left now rest reader count after result going same answer = record {
  read = going.read;
  given = going.given;
  counted = same ∙ going.counted;
  few = few_read before left now rest reader count going;
  answer = answer;
}

empty_of : (xs : List ℕ) → length xs ≡ 0 → xs ≡ []
empty_of [] none = refl
empty_of (x ∷ xs) none = absurd (omega arith)

next_err : (place : ℕ) (bytes : List ℕ) (fault : Fault) → 0 < length bytes → read_bundle bytes ≡ Err fault → next_of place bytes ≡ Err (moved place fault)
next_err place [] fault some is = absurd (omega arith)
next_err place (byte ∷ bytes) fault some is = rw is refl

-- no bytes that are told to be left
none_left : (rest : Option (List ℕ)) → IfSome rest (λ r. r ≡ []) → IsInput rest []
none_left None is = tt
none_left (Some r) is = is

over_by : (before : Waiting) (left : Option (List ℕ)) (now : Waiting) (rest : Option (List ℕ)) (reader : Reader) (count : ℕ) (b : Bool) → eqb count 0 ≡ b → (going : Going before left now rest reader count) → now.held ≡ [] → IfSome rest (λ r. r ≡ [])
    → Answers before going.read now rest (cond b (Ok None) (Err (inputs.Fault (record { place = place before + count; reason = reasons.Truncated }))))
over_by before left now rest reader count true is going none end =
    (going.same ∙ (ap (λ (t : List ℕ). going.fed ++ t) none ∙ (append-nil going.fed ∙ empty_of going.fed (going.size ∙ eqb-true count 0 is))), none, end)
over_by before left now rest reader count false is going none end =
    let some : 0 < count = some_of count (eqb-false count 0 is) in
    let all : before.held ++ going.read ++ [] ≡ going.fed = append-nil (before.held ++ going.read) ∙ (going.same ∙ (ap (λ (t : List ℕ). going.fed ++ t) none ∙ append-nil going.fed)) in
    let size = going.size in
    let fault : early going.fed ≡ record { place = count; reason = reasons.Truncated } = ap (λ (n : ℕ). record { place = n; reason = reasons.Truncated }) size in
    ([], none_left rest end, ap (next_of (place before)) all ∙ (next_err (place before) going.fed (early going.fed) (omega arith) (going.ends_early some) ∙ ap (λ (f : Fault). Err (moved (place before) f)) fault))
  where
    some_of : (n : ℕ) → (n ≡ 0 → ⊥) → 0 < n
    some_of zero some = absurd (some refl)
    some_of (suc n) some = omega arith

pub over_so : (before : Waiting) (left : Option (List ℕ)) (now : Waiting) (rest : Option (List ℕ)) (reader : Reader) (count : ℕ) → Going before left now rest reader count → now.held ≡ [] → IfSome rest (λ r. r ≡ []) → Reads before left now rest (over_there (place before) count)
over_so before left now rest reader count going none end =
    reads_so before left now rest reader count now (over_there (place before) count) going refl (over_by before left now rest reader count (eqb count 0) refl going none end)

-- a read failed, or memory ran out
pub error_so : (before : Waiting) (left : Option (List ℕ)) (now : Waiting) (rest : Option (List ℕ)) (reader : Reader) (count : ℕ) (error : InputFault) → Going before left now rest reader count → ((fault : Fault) → error ≡ inputs.Fault fault → ⊥) → Reads before left now rest (Err error)
error_so before left now rest reader count (inputs.Fault fault) going other = absurd (other fault refl)
error_so before left now rest reader count inputs.Failed going other = reads_so before left now rest reader count now (Err inputs.Failed) going refl tt
error_so before left now rest reader count inputs.NoMemory going other = reads_so before left now rest reader count now (Err inputs.NoMemory) going refl tt

-- few bytes are read in all
pub few_in_all : (before : Waiting) (left : Option (List ℕ)) (now : Waiting) (rest : Option (List ℕ)) (reader : Reader) (count : ℕ) → Going before left now rest reader count → before.taken < 1152921504606846976 → now.taken < 4611686018427387904
few_in_all before left now rest reader count going small =
    let few = few_read before left now rest reader count going in
    let counted = going.counted in
    omega arith

-- bytes that may be left
some_left : (rest : Option (List ℕ)) → (more : List ℕ) × IsInput rest more
some_left None = ([], tt)
some_left (Some r) = (r, refl)

fault_by : ((bytes more : List ℕ) (fault : Fault) → read_bundle bytes ≡ Err fault → fault.reason ≢ reasons.Truncated → read_bundle (bytes ++ more) ≡ Err fault)
    → (before : Waiting) (left : Option (List ℕ)) (now : Waiting) (rest : Option (List ℕ)) (reader : Reader) (count : ℕ) (error : SpellError) → (going : Going before left now rest reader count) → 0 < length now.held → Faults (going.fed ++ now.held) error
    → Answers before going.read now rest (Err (fault_there (place before) error))
fault_by stays before left now rest reader count (errors.Fault fault) going some faults =
    let more = some_left rest in
    let all : before.held ++ going.read ++ more.0 ≡ going.fed ++ now.held ++ more.0 = ap (λ (t : List ℕ). t ++ more.0) going.same in
    (more.0, more.1, ap (next_of (place before)) all ∙ next_err (place before) (going.fed ++ now.held ++ more.0) fault (omega (arith, length-append (going.fed ++ now.held) more.0, length-append going.fed now.held)) (stays (going.fed ++ now.held) more.0 fault faults.0 faults.1))
fault_by stays before left now rest reader count errors.NoMemory going some faults = tt

pub fault_so : ((bytes more : List ℕ) (fault : Fault) → read_bundle bytes ≡ Err fault → fault.reason ≢ reasons.Truncated → read_bundle (bytes ++ more) ≡ Err fault)
    → (before : Waiting) (left : Option (List ℕ)) (now : Waiting) (rest : Option (List ℕ)) (reader after : Reader) (count : ℕ) (error : SpellError) → Going before left now rest reader count → 0 < length now.held
    → ((taken : List ℕ) → Took reader taken → Feeds taken now.held after (Err error)) → Reads before left now rest (Err (fault_there (place before) error))
fault_so stays before left now rest reader after count error going some feeds =
    reads_so before left now rest reader count now (Err (fault_there (place before) error)) going refl (fault_by stays before left now rest reader count error going some (feeds going.fed going.took).0)

fits_by : (before : Waiting) (left : Option (List ℕ)) (now : Waiting) (rest : Option (List ℕ)) (reader : Reader) (count : ℕ) (error : SpellError) → (going : Going before left now rest reader count) → before.taken < 1152921504606846976 → Faults (going.fed ++ now.held) error → FitsThere (place before) error
fits_by before left now rest reader count (errors.Fault fault) going small faults =
    let within = fault_within (going.fed ++ now.held) fault faults.0 in
    let size = going.size in
    let few = going.few in
    let limit = going.small in
    omega (arith, length-append going.fed now.held)
fits_by before left now rest reader count errors.NoMemory going small faults = tt

-- the place of a fault is a number of 64 bits
pub fits_so : (before : Waiting) (left : Option (List ℕ)) (now : Waiting) (rest : Option (List ℕ)) (reader after : Reader) (count : ℕ) (error : SpellError) → Going before left now rest reader count → before.taken < 1152921504606846976
    → ((taken : List ℕ) → Took reader taken → Feeds taken now.held after (Err error)) → FitsThere (place before) error
fits_so before left now rest reader after count error going small feeds = fits_by before left now rest reader count error going small (feeds going.fed going.took).0

-- the piece that was fed is what waited
pub fed_here : (reader after : Reader) (piece held : List ℕ) (r : Result Fed SpellError) → piece ≡ held → ((taken : List ℕ) → Took reader taken → Feeds taken piece after r) → (taken : List ℕ) → Took reader taken → Feeds taken held after r
fed_here reader after piece held r same feeds taken took = subst (λ (p : List ℕ). Feeds taken p after r) same (feeds taken took)

-- ---- a bundle ends

pub has_whole : (before : Waiting) (left : Option (List ℕ)) (now : Waiting) (rest : Option (List ℕ)) (reader after : Reader) (count : ℕ) (fed : Fed) → Going before left now rest reader count
    → ((taken : List ℕ) → Took reader taken → Feeds taken now.held after (Ok fed)) → fed.done ≡ true → HasWhole after
has_whole before left now rest reader after count fed going feeds done =
    let ends : Ends going.fed now.held after fed.taken = rw done at (feeds going.fed going.took) in
    let spelled = taken_is (spelling ends.bundle) ends.rest going.fed now.held fed.taken ends.spells ends.within in
    (ends.bundle, ends.is, subst (Took after) spelled ends.took)

pub whole_so : (before : Waiting) (left : Option (List ℕ)) (now : Waiting) (rest : Option (List ℕ)) (reader after : Reader) (count : ℕ) (fed : Fed) (bundle : Bundle) → Going before left now rest reader count
    → ((taken : List ℕ) → Took reader taken → Feeds taken now.held after (Ok fed)) → fed.done ≡ true → IsBundle bundle → ((taken : List ℕ) → Took after taken → taken ≡ spelling bundle)
    → Reads before left (record now { held = drop fed.taken now.held }) rest (Ok (Some bundle))
whole_so before left now rest reader after count fed bundle going feeds done is whole =
    let ends : Ends going.fed now.held after fed.taken = rw done at (feeds going.fed going.took) in
    let spelled = whole (going.fed ++ take fed.taken now.held) ends.took in
    let split = ap (λ (t : List ℕ). going.fed ++ t) (sym (take-append-drop fed.taken now.held)) in
    let own = sym (append_assoc going.fed (take fed.taken now.held) (drop fed.taken now.held)) in
    let same = going.same ∙ (split ∙ (own ∙ ap (λ (t : List ℕ). t ++ drop fed.taken now.held) spelled)) in
    reads_so before left now rest reader count (record now { held = drop fed.taken now.held }) (Ok (Some bundle)) going refl (is, same)

-- ---- a bundle goes on

goes_on_of : (before : Waiting) (left : Option (List ℕ)) (now : Waiting) (rest : Option (List ℕ)) (reader after : Reader) (count : ℕ) (fed : Fed) → (going : Going before left now rest reader count)
    → ((taken : List ℕ) → Took reader taken → Feeds taken now.held after (Ok fed)) → fed.done ≡ false → GoesOn going.fed now.held after fed.taken
goes_on_of before left now rest reader after count fed going feeds undone = rw undone at (feeds going.fed going.took)

pub goes_on_so : (before : Waiting) (left : Option (List ℕ)) (now : Waiting) (rest : Option (List ℕ)) (reader after : Reader) (count : ℕ) (fed : Fed) → Going before left now rest reader count
    → ((taken : List ℕ) → Took reader taken → Feeds taken now.held after (Ok fed)) → fed.done ≡ false → Going before left (record now { held = drop fed.taken now.held }) rest after (count + fed.taken)
goes_on_so before left now rest reader after count fed going feeds undone =
    let goes = goes_on_of before left now rest reader after count fed going feeds undone in
    let all = goes.all in
    let small = early_is_small (going.fed ++ now.held) (early (going.fed ++ now.held)) goes.early refl in
    let none : drop fed.taken now.held ≡ [] = drop_all fed.taken now.held (omega arith) in
    let size : length (going.fed ++ now.held) ≡ count + fed.taken = let s = going.size in omega (arith, length-append going.fed now.held) in
    record {
      fed = going.fed ++ now.held;
      read = going.read;
      took = goes.took;
      given = going.given;
      counted = going.counted;
      same = going.same ∙ (sym (append-nil (going.fed ++ now.held)) ∙ ap (λ (t : List ℕ). going.fed ++ now.held ++ t) (sym none));
      size = size;
      small = omega arith;
      few = let l = ap (λ (t : List ℕ). length t) none in omega arith;
      ends_early = λ some. goes.early;
    }

-- ---- what waits

-- some of the bytes that wait are taken
pub taken_of : (bytes : List ℕ) (from to count taken : ℕ) → count < to - from
    → ◌≡◌ {A = Waiting} (record { held = slice_range bytes (from + count) to; taken = taken }) (record { held = drop count (slice_range bytes from to); taken = taken })
taken_of bytes from to count taken less =
    let split : to - from ≡ count + (to - (from + count)) = omega arith in
    let e : slice_range bytes (from + count) to ≡ drop count (slice_range bytes from to) =
    ap (take (to - (from + count))) (sym (drop-drop count from bytes)) ∙ (sym (drop-take count (to - (from + count)) (drop from bytes)) ∙ ap (λ (n : ℕ). drop count (take n (drop from bytes))) (sym split)) in
    ap (λ (h : List ℕ). record { held = h; taken = taken }) e
