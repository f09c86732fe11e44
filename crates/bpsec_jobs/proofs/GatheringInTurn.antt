-- Fragments that are read one after the other.
use Rattle.std.proofs.Common.{◌≡◌, ℕ, zero, suc, ◌+◌, ◌-◌, ◌*◌, ◌<◌, ◌≤◌, List, [], ◌∷◌, ◌++◌, length, Option, Some, None, Result, Ok, Err, refl, sym, ◌∙◌, ap, subst, arith, append_assoc, length-append}
use Rattle.std.proofs.Math.Nat.{suc-mul}
use Rattle.std.specs.Prelude.{IfSome, IfOk, unwrap_or, option_map}
use Rattle.bp_outside.specs.Outside.{Taken}
use Rattle.cbor_profile.specs.declared.fault.Fault.{Fault}
use Rattle.bp_bundle.specs.Shape.{Contents}
use Rattle.bp_bundle.specs.Spelling.{IsBundle, spelling}
use Rattle.bp_bundle.specs.FirstFault.{read_bundle}
use Rattle.bp_bundle.specs.WholeInput.{IsInput, TakesAtMost}
use Rattle.bp_bundle.specs.BackToBack.{Waiting, Reads, Answers, place, next_of, bundle_and_rest}
use Rattle.bp_bundle.specs.declared.bundle.Bundle.{Bundle}
use Rattle.bp_bundle.specs.declared.whole_input.InputFault.{InputFault}
use Rattle.bp_bundle.specs.declared.whole_input.InputFault.TheVariants as inputs
use Rattle.bp_fragments.specs.declared.fault.AddFault.{AddFault}
use Rattle.bp_fragments.specs.declared.fault.AddFault.TheVariants as adds
use Rattle.bp_fragments.specs.Agreement.{refusal, IsRefusal}
use Rattle.bp_fragments.specs.Joined.{joined}
use Rattle.bpsec_answer.specs.declared.answer.Answer.{Answer}
use Rattle.bpsec_answer.specs.declared.status.PiecesReason.TheVariants as reasons
use Rattle.bpsec_jobs.specs.Refusals.{bundle_refused, pieces_refused}
use Rattle.bpsec_jobs.specs.Reassembled.{add_refused, joined_answer, unless_add_fault, on_next, gathering}

-- ---- inputs

-- what was read, and any input behind it
pub input_before : (left now : Option (List ℕ)) (read bytes : List ℕ) → Taken left read now → IsInput now bytes → IsInput left (read ++ bytes)
input_before left None read bytes given is = subst (λ (o : Option (List ℕ)). IsInput o (read ++ bytes)) (sym given) tt
input_before left (Some rest) read bytes given is = subst (λ (o : Option (List ℕ)). IsInput o (read ++ bytes)) (sym given) (ap (λ (r : List ℕ). read ++ r) is)

pub some_input : (left : Option (List ℕ)) → IsInput left (unwrap_or left [])
some_input None = tt
some_input (Some told) = refl

-- an input of which nothing is left
pub no_input : (left : Option (List ℕ)) → IfSome left (λ rest. rest ≡ []) → IsInput left []
no_input None h = tt
no_input (Some told) h = h

pub taken_on : (a b c : Option (List ℕ)) (x y : List ℕ) → Taken a x b → Taken b y c → Taken a (x ++ y) c
taken_on a b None x y h k = h ∙ ap (option_map (λ rest. x ++ rest)) k
taken_on a b (Some rest) x y h k = h ∙ (ap (option_map (λ r. x ++ r)) k ∙ ap Some (sym (append_assoc x y rest)))

pub takes_on : (one more : ℕ) (a b c : Option (List ℕ)) (read : List ℕ) → Taken a read b → length read ≤ one → 0 < more → TakesAtMost ((more - 1) * one) b c → TakesAtMost (more * one) a c
takes_on one zero a b c read given few some rest = absurd (omega arith)
takes_on one (suc more) a b c read given few some rest =
    let less : suc more - 1 ≡ more = omega arith in
    let small : length rest.0 ≤ more * one = subst (λ (n : ℕ). length rest.0 ≤ n * one) less rest.1 in
    (read ++ rest.0, omega (arith, length-append read rest.0, suc-mul more one), taken_on a b c read rest.0 given rest.2)

-- ---- the next bundle

-- a bundle is read from the front of its spelling, whatever follows
abbrev pub Again : Type 0
Again = (bundle : Contents) (rest : List ℕ) → IsBundle bundle → read_bundle (spelling bundle ++ rest) ≡ Ok (bundle, record { at = length (spelling bundle); rest = rest })

next_is : Again → (at : ℕ) (piece : Contents) (rest : List ℕ) → IsBundle piece → next_of at (spelling piece ++ rest) ≡ Ok (Some (piece, rest))
unfolding spelling
next_is again at piece rest is = ap (bundle_and_rest at) (again piece rest is)

-- where the next bundle begins
place_after : (before after : Waiting) (read : List ℕ) (piece : Contents) → length before.held ≤ before.taken → after.taken ≡ before.taken + length read
    → before.held ++ read ≡ spelling piece ++ after.held → place after ≡ place before + length (spelling piece)
place_after before after read piece within counted is =
    omega (arith, length-append before.held read, length-append (spelling piece) after.held, ap length is)

-- one more bundle is read
step : (more at : ℕ) (pieces : List Contents) (bytes : List ℕ) → 0 < more
    → gathering more at pieces bytes ≡ on_next pieces (λ piece rest. gathering (more - 1) (at + length (spelling piece)) (pieces ++ piece ∷ []) rest) (next_of at bytes)
unfolding gathering
step zero at pieces bytes some = absurd (omega arith)
step (suc more) at pieces bytes some =
    let less : more ≡ suc more - 1 = omega arith in
    ap (λ (n : ℕ). on_next pieces (λ piece rest. gathering n (at + length (spelling piece)) (pieces ++ piece ∷ []) rest) (next_of at bytes)) less

-- what comes of a bundle that is read
stepped : Again → (more at : ℕ) (pieces : List Contents) (piece : Contents) (bytes rest : List ℕ) → 0 < more → IsBundle piece → bytes ≡ spelling piece ++ rest
    → gathering more at pieces bytes ≡ unless_add_fault (refusal pieces piece) (gathering (more - 1) (at + length (spelling piece)) (pieces ++ piece ∷ []) rest)
stepped again more at pieces piece bytes rest some is same =
    step more at pieces bytes some
    ∙ ap (on_next pieces (λ p r. gathering (more - 1) (at + length (spelling p)) (pieces ++ p ∷ []) r)) (ap (next_of at) same ∙ next_is again at piece rest is)

regrouped : (held read bytes front after : List ℕ) → held ++ read ≡ front ++ after → held ++ (read ++ bytes) ≡ front ++ (after ++ bytes)
regrouped held read bytes front after same = sym (append_assoc held read bytes) ∙ (ap (λ (l : List ℕ). l ++ bytes) same ∙ append_assoc front after bytes)

-- A fragment that is added leads on to the next.
pub goes_on : Again → (more : ℕ) (before after : Waiting) (read bytes : List ℕ) (pieces : List Contents) (piece : Contents) → 0 < more → length before.held ≤ before.taken → after.taken ≡ before.taken + length read
    → IsBundle piece → before.held ++ read ≡ spelling piece ++ after.held → refusal pieces piece ≡ None
    → gathering (more - 1) (place after) (pieces ++ piece ∷ []) (after.held ++ bytes) ≡ gathering more (place before) pieces (before.held ++ (read ++ bytes))
goes_on again more before after read bytes pieces piece some within counted is same none =
    let moved : place after ≡ place before + length (spelling piece) = place_after before after read piece within counted same in
    let whole = stepped again more (place before) pieces piece (before.held ++ (read ++ bytes)) (after.held ++ bytes) some is (regrouped before.held read bytes (spelling piece) after.held same) in
    sym (whole ∙ ap (λ (r : Option AddFault). unless_add_fault r (gathering (more - 1) (place before + length (spelling piece)) (pieces ++ piece ∷ []) (after.held ++ bytes))) none
    ∙ ap (λ (n : ℕ). gathering (more - 1) n (pieces ++ piece ∷ []) (after.held ++ bytes)) (sym moved))

refused_by : (fault : AddFault) (r : Option AddFault) → IsRefusal fault r → (fault ≡ adds.NoMemory → ⊥) → r ≡ Some fault
refused_by adds.NotFragment r is met = is
refused_by adds.OtherBundle r is met = is
refused_by adds.PastTotal r is met = is
refused_by adds.OverLimit r is met = is
refused_by adds.OtherBlocks r is met = is
refused_by (adds.Disagree place kept given) r is met = is
refused_by adds.TooMany r is met = is
refused_by adds.NoMemory r is met = absurd (met refl)

-- A fragment that isn't added ends it.
pub ends_added : Again → (more : ℕ) (before : Waiting) (held read bytes : List ℕ) (pieces : List Contents) (piece : Contents) (fault : AddFault) → 0 < more
    → IsBundle piece → before.held ++ read ≡ spelling piece ++ held → IsRefusal fault (refusal pieces piece) → (fault ≡ adds.NoMemory → ⊥)
    → add_refused fault ≡ gathering more (place before) pieces (before.held ++ (read ++ bytes))
ends_added again more before held read bytes pieces piece fault some is same refused met =
    let whole = stepped again more (place before) pieces piece (before.held ++ (read ++ bytes)) (held ++ bytes) some is (regrouped before.held read bytes (spelling piece) held same) in
    sym (whole ∙ ap (λ (r : Option AddFault). unless_add_fault r (gathering (more - 1) (place before + length (spelling piece)) (pieces ++ piece ∷ []) (held ++ bytes))) (refused_by fault (refusal pieces piece) refused met))

-- The end of the input ends it.
pub ends_whole : (more : ℕ) (before : Waiting) (read : List ℕ) (pieces : List Contents) → 0 < more → before.held ++ read ≡ []
    → joined_answer (joined pieces) ≡ gathering more (place before) pieces (before.held ++ (read ++ []))
ends_whole more before read pieces some none =
    let bare : before.held ++ (read ++ []) ≡ [] = sym (append_assoc before.held read []) ∙ ap (λ (l : List ℕ). l ++ []) none in
    sym (ap (gathering more (place before) pieces) bare ∙ step more (place before) pieces [] some)

-- A fault ends it.
pub ends_faulty : (more : ℕ) (before : Waiting) (read bytes : List ℕ) (pieces : List Contents) (fault : Fault) → 0 < more → next_of (place before) (before.held ++ read ++ bytes) ≡ Err fault
    → bundle_refused fault ≡ gathering more (place before) pieces (before.held ++ (read ++ bytes))
ends_faulty more before read bytes pieces fault some is =
    let same : before.held ++ (read ++ bytes) ≡ before.held ++ read ++ bytes = sym (append_assoc before.held read bytes) in
    sym (ap (gathering more (place before) pieces) same ∙ (step more (place before) pieces (before.held ++ read ++ bytes) some
    ∙ ap (on_next pieces (λ p r. gathering (more - 1) (place before + length (spelling p)) (pieces ++ p ∷ []) r)) is))

-- ---- one turn

-- what is known of an answer: some input leads to it
abbrev pub Comes : Option (List ℕ) → ℕ → Waiting → List Contents → Answer → Type 0
Comes left more before pieces answer = (bytes : List ℕ) × IsInput left bytes × (answer ≡ gathering more (place before) pieces (before.held ++ bytes))

pub if_ok_map : {T E : Type 0} (r : Result T E) (P Q : T → Type 0) → ((x : T) → P x → Q x) → IfOk r P → IfOk r Q
if_ok_map (Ok x) P Q f p = f x p
if_ok_map (Err e) P Q f p = tt

pub comes_none : (left : Option (List ℕ)) (more : ℕ) (before : Waiting) (pieces : List Contents) (answer : Answer) → more ≡ 0 → answer ≡ pieces_refused reasons.TooMany None → Comes left more before pieces answer
unfolding gathering
comes_none left zero before pieces answer none is = (unwrap_or left [], some_input left, is)
comes_none left (suc more) before pieces answer none is = absurd (omega arith)

pub comes_next : Again → (left now : Option (List ℕ)) (more : ℕ) (before after : Waiting) (found : Option Bundle) (pieces : List Contents) (piece : Bundle) → 0 < more → length before.held ≤ before.taken
    → Reads before left after now (Ok found) → found ≡ Some piece → refusal pieces piece ≡ None → (answer : Answer) → Comes now (more - 1) after (pieces ++ piece ∷ []) answer → Comes left more before pieces answer
comes_next again left now more before after found pieces piece some within reads is none answer comes =
    let found_is = subst (λ (f : Option Bundle). Answers before reads.read after now (Ok f)) is reads.answer in (
      reads.read ++ comes.0,
      input_before left now reads.read comes.0 reads.given comes.1,
      comes.2 ∙ goes_on again more before after reads.read comes.0 pieces piece some within reads.counted found_is.0 found_is.1 none,
    )

pub comes_refused : Again → (left now : Option (List ℕ)) (more : ℕ) (before after : Waiting) (found : Option Bundle) (pieces : List Contents) (piece : Bundle) (fault : AddFault) (answer : Answer) → 0 < more
    → Reads before left after now (Ok found) → found ≡ Some piece → IsRefusal fault (refusal pieces piece) → (fault ≡ adds.NoMemory → ⊥) → answer ≡ add_refused fault → Comes left more before pieces answer
comes_refused again left now more before after found pieces piece fault answer some reads is refused met same =
    let found_is = subst (λ (f : Option Bundle). Answers before reads.read after now (Ok f)) is reads.answer in (
      reads.read ++ unwrap_or now [],
      input_before left now reads.read (unwrap_or now []) reads.given (some_input now),
      same ∙ ends_added again more before after.held reads.read (unwrap_or now []) pieces piece fault some found_is.0 found_is.1 refused met,
    )

pub comes_whole : (left now : Option (List ℕ)) (more : ℕ) (before after : Waiting) (found : Option Bundle) (pieces : List Contents) (answer : Answer) → 0 < more
    → Reads before left after now (Ok found) → found ≡ None → answer ≡ joined_answer (joined pieces) → Comes left more before pieces answer
comes_whole left now more before after found pieces answer some reads is same =
    let end_is = subst (λ (f : Option Bundle). Answers before reads.read after now (Ok f)) is reads.answer in
    (reads.read ++ [], input_before left now reads.read [] reads.given (no_input now end_is.2), same ∙ ends_whole more before reads.read pieces some end_is.0)

pub comes_faulty : (left now : Option (List ℕ)) (more : ℕ) (before after : Waiting) (error : InputFault) (pieces : List Contents) (fault : Fault) (answer : Answer) → 0 < more
    → Reads before left after now (Err error) → error ≡ inputs.Fault fault → answer ≡ bundle_refused fault → Comes left more before pieces answer
comes_faulty left now more before after error pieces fault answer some reads is same =
    let fault_is = subst (λ (e : InputFault). Answers before reads.read after now (Err e)) is reads.answer in
    (reads.read ++ fault_is.0, input_before left now reads.read fault_is.0 reads.given fault_is.1, same ∙ ends_faulty more before reads.read fault_is.0 pieces fault some fault_is.2)
