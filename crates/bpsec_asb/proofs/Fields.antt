-- The fields of a security block are read as they are spelled.
use Rattle.std.proofs.Common.{◌≡◌, ℕ, ℤ, pos, negsuc, ◌^◌, ◌<◌, inl, inr, Bool, true, false, cond, ltb, eqb, ◌||◌, List, [], ◌∷◌, ◌++◌, length, take, drop, Option, Some, None, Result, Ok, refl, sym, ◌∙◌, ap, subst, append_assoc, arith}
use Rattle.std.specs.Prelude.{All, is_some, FitsSigned}
use Rattle.std.specs.Int.{w64}
use Rattle.std.proofs.lemmas.Int.{ints}
use Rattle.std.specs.List.{list_any}
use Rattle.std.specs.Option.{ForSome}
use Rattle.std.proofs.lemmas.Bool.{lt-ltb, ltb-true, eqb-true}
use Rattle.std.proofs.lemmas.Bool.Decides.{nat_tests}
use Rattle.std.proofs.lemmas.List.{take_at, drop_at, take-append-drop}
use Rattle.std.proofs.lemmas.List.Elements.{All-cons, All-head, All-tail, All-nil}
use Rattle.cbor_profile.specs.declared.fault.Reason.TheVariants as reasons
use Rattle.cbor_profile.specs.declared.item.ItemRead.{ItemRead}
use Rattle.cbor_profile.specs.declared.item.ItemRead.TheVariants as items
use Rattle.cbor_profile.specs.Head.{spelling, head_spelling}
use Rattle.cbor_profile.specs.Put.{uint, int, array_head}
use Rattle.cbor_profile.specs.Item.{IsItem, most_levels, read_item}
use Rattle.cbor_profile.specs.Step.{◌>>=◌}
use Rattle.cbor_profile.proofs.ItemGrammar.{item_read_again, item_read_means}
use Rattle.bp_eid.specs.declared.stop.Stop.{Stop}
use Rattle.bp_eid.specs.Reading.{stops, head_at, pair_at, number_at}
use Rattle.bp_eid.proofs.Steps.{IsBytes, IsBytes-drop, bind_ok, passed, let_through, ok_is, Takes, Takes-then}
use Rattle.bp_eid.proofs.Tokens.{head_again, head_means, spelled, took, pair_again, pair_means, number_again, number_means}
use Rattle.bp_eid.proofs.Ids.{chosen}
use Rattle.bpsec_asb.specs.declared.asb.Pair.{Pair}
use Rattle.bpsec_asb.specs.SecurityBlock.{pair, pairs, parameters_item, has_parameters, IsPair, ArePairs}
use Rattle.bpsec_asb.specs.Reading.{target_at, context_at, after_item, value_at, pair_of, pairs_at, parameters_at}
use Rattle.bpsec_asb.proofs.Arrays.{laws, AllAfter, ReadsItems, array_again, array_means}

-- ---- targets

abbrev pub FitsTarget : List ℕ → ℕ → Type 0
FitsTarget before target = (target < 2 ^ 64) × (list_any (λ listed. eqb listed target) before ≡ false)

target_again : (before : List ℕ) (target : ℕ) (rest : List ℕ) → FitsTarget before target → target_at before (uint target ++ rest) ≡ Ok (target, rest)
unfolding target_at
target_again before target rest fits = rw (number_again laws target rest fits.0, fits.1) refl

target_means : (before bytes : List ℕ) (x : ℕ × List ℕ) → IsBytes bytes → target_at before bytes ≡ Ok x → Takes bytes (uint x.0) x.1 × FitsTarget before x.0
unfolding target_at
target_means before bytes x small e =
    let b = bind_ok (number_at bytes) (λ target. cond (list_any (λ listed. eqb listed target.0) before) (stops bytes reasons.Repeated) (Ok target)) x e in
    let g = passed (list_any (λ listed. eqb listed b.0.0) before) bytes reasons.Repeated (Ok b.0) x b.2 in
    let m = number_means laws bytes b.0 small b.1 in
    subst (λ (y : ℕ × List ℕ). Takes bytes (uint y.0) y.1 × FitsTarget before y.0) (ok_is b.0 x g.1) (m.0, (m.1, g.0))

pub reads_targets : ReadsItems uint FitsTarget target_at
reads_targets = record { again = target_again; means = target_means }

-- ---- the id of the security context

small_pos : (n : ℕ) → FitsSigned w64 (pos n) → n < 2 ^ 63
small_pos n fits = omega (arith, ints)

small_negsuc : (n : ℕ) → FitsSigned w64 (negsuc n) → n < 2 ^ 63
small_negsuc n fits = omega (arith, ints)

fits_pos : (n : ℕ) → n < 2 ^ 63 → FitsSigned w64 (pos n)
fits_pos n small = omega (arith, ints)

fits_negsuc : (n : ℕ) → n < 2 ^ 63 → FitsSigned w64 (negsuc n)
fits_negsuc n small = omega (arith, ints)

context_again : (z : ℤ) (rest : List ℕ) → FitsSigned w64 z → context_at (int z ++ rest) ≡ Ok (z, rest)
unfolding context_at int spelling
context_again (pos n) rest fits =
    let small = small_pos n fits in
    let h = head_again laws (0 ∷ 1 ∷ []) (record { major = 0; value = n }) rest (omega arith, inl (omega arith)) refl in
    rw (h, lt-ltb _ _ small) refl
context_again (negsuc n) rest fits =
    let small = small_negsuc n fits in
    let h = head_again laws (0 ∷ 1 ∷ []) (record { major = 1; value = n }) rest (omega arith, inl (omega arith)) refl in
    rw (h, lt-ltb _ _ small) refl

signed : ℕ → ℕ → ℤ
signed major n = cond (eqb major 0) (pos n) (negsuc n)

zero_or_one : (major : ℕ) → ((eqb 0 major || (eqb 1 major || false)) ≡ true) → eqb major 0 ≡ false → major ≡ 1
zero_or_one major among other = grind (arith, nat_tests)

context_of : (bytes : List ℕ) (major n : ℕ) (b : Bool) (rest : List ℕ) → eqb major 0 ≡ b → ((eqb 0 major || (eqb 1 major || false)) ≡ true) → n < 2 ^ 63 → Takes bytes (head_spelling major n) rest
    → Takes bytes (int (cond b (pos n) (negsuc n))) rest × FitsSigned w64 (cond b (pos n) (negsuc n))
unfolding int
context_of bytes major n true rest e among small takes = (subst (λ (m : ℕ). Takes bytes (head_spelling m n) rest) (eqb-true _ _ e) takes, fits_pos n small)
context_of bytes major n false rest e among small takes = (subst (λ (m : ℕ). Takes bytes (head_spelling m n) rest) (zero_or_one major among e) takes, fits_negsuc n small)

pub context_means : (bytes : List ℕ) (x : ℤ × List ℕ) → IsBytes bytes → context_at bytes ≡ Ok x → Takes bytes (int x.0) x.1 × FitsSigned w64 x.0
unfolding context_at
context_means bytes x small e =
    let b = bind_ok (head_at (0 ∷ 1 ∷ []) bytes) (λ head. cond (ltb head.0.value (2 ^ 63)) (Ok (cond (eqb head.0.major 0) (pos head.0.value) (negsuc head.0.value), head.1)) (stops bytes reasons.WrongValue)) x e in
    let g = let_through (ltb b.0.0.value (2 ^ 63)) bytes reasons.WrongValue (Ok (cond (eqb b.0.0.major 0) (pos b.0.0.value) (negsuc b.0.0.value), b.0.1)) x b.2 in
    let h = head_means laws (0 ∷ 1 ∷ []) bytes b.0 small b.1 in
    let text = spelled b.0.0 b.0.0.major b.0.0.value refl refl in
    let takes = took (0 ∷ 1 ∷ []) bytes b.0.0 b.0.1 (head_spelling b.0.0.major b.0.0.value) text h in
    subst (λ (y : ℤ × List ℕ). Takes bytes (int y.0) y.1 × FitsSigned w64 y.0) (ok_is (cond (eqb b.0.0.major 0) (pos b.0.0.value) (negsuc b.0.0.value), b.0.1) x g.1)
    (context_of bytes b.0.0.major b.0.0.value (eqb b.0.0.major 0) b.0.1 refl h.among (ltb-true _ _ g.0) takes)

pub context_read : (z : ℤ) (rest : List ℕ) → FitsSigned w64 z → context_at (int z ++ rest) ≡ Ok (z, rest)
context_read = context_again

-- ---- pairs

value_again : (value rest : List ℕ) → IsItem most_levels value → value_at (value ++ rest) ≡ Ok (value, rest)
unfolding value_at
value_again value rest item = rw (item_read_again value rest item, take_at value rest (length value) refl, drop_at value rest (length value) refl) refl

abbrev Valued : List ℕ → List ℕ × List ℕ → Type 0
Valued bytes x = Takes bytes x.0 x.1 × IsItem most_levels x.0

after_item_means : (bytes : List ℕ) (read : ItemRead) (x : List ℕ × List ℕ) → IsBytes bytes → read ≡ read_item bytes → after_item bytes read ≡ Ok x → Valued bytes x
after_item_means bytes (items.Whole len) x small is e =
    let m = item_read_means bytes (items.Whole len) small is in
    subst (Valued bytes) (ok_is (take len bytes, drop len bytes) x e) (record { parts = sym (take-append-drop len bytes); rest_fits = IsBytes-drop len bytes small }, m.1)
after_item_means bytes items.Short x small is e = absurd cc
after_item_means bytes items.NotShortest x small is e = absurd cc
after_item_means bytes items.Bad x small is e = absurd cc
after_item_means bytes items.Deep x small is e = absurd cc

value_means : (bytes : List ℕ) (x : List ℕ × List ℕ) → IsBytes bytes → value_at bytes ≡ Ok x → Valued bytes x
unfolding value_at
value_means bytes x small e = after_item_means bytes (read_item bytes) x small refl e

pair_of_again : (p : Pair) (rest : List ℕ) → IsPair p → pair_of (pair p ++ rest) ≡ Ok (p, rest)
unfolding pair_of pair
pair_of_again p rest fits =
    let regrouped : pair p ++ rest ≡ array_head 2 ++ (uint p.id ++ (p.value ++ rest)) = append_assoc (array_head 2) (uint p.id ++ p.value) rest ∙ ap (λ (l : List ℕ). array_head 2 ++ l) (append_assoc (uint p.id) p.value rest) in
    ap pair_of regrouped ∙ rw (pair_again laws (uint p.id ++ (p.value ++ rest)), number_again laws p.id (p.value ++ rest) fits.id, value_again p.value rest fits.value) refl

abbrev Paired : List ℕ → Pair × List ℕ → Type 0
Paired bytes x = Takes bytes (pair x.0) x.1 × IsPair x.0

paired : (bytes : List ℕ) (id : ℕ) (value rest : List ℕ) (x : Pair × List ℕ) → Takes bytes (array_head 2 ++ (uint id ++ value)) rest → id < 2 ^ 64 → IsItem most_levels value → (record { id = id; value = value }, rest) ≡ x → Paired bytes x
unfolding pair
paired bytes id value rest x takes small item is = subst (Paired bytes) is (takes, record { id = small; value = item })

pair_of_means : (bytes : List ℕ) (x : Pair × List ℕ) → IsBytes bytes → pair_of bytes ≡ Ok x → Paired bytes x
unfolding pair_of pair
pair_of_means bytes x small e =
    let a = bind_ok (pair_at bytes) (λ rest. number_at rest >>= λ id. value_at id.1 >>= λ value. Ok (record { id = id.0; value = value.0 }, value.1)) x e in
    let b = bind_ok (number_at a.0) (λ id. value_at id.1 >>= λ value. Ok (record { id = id.0; value = value.0 }, value.1)) x a.2 in
    let c = bind_ok (value_at b.0.1) (λ value. Ok (record { id = b.0.0; value = value.0 }, value.1)) x b.2 in
    let head = pair_means laws bytes a.0 small a.1 in
    let id = number_means laws a.0 b.0 head.rest_fits b.1 in
    let value = value_means b.0.1 c.0 id.0.rest_fits c.1 in
    let both = Takes-then a.0 (uint b.0.0) b.0.1 c.0.0 c.0.1 id.0 value.0 in
    let all = Takes-then bytes (array_head 2) a.0 (uint b.0.0 ++ c.0.0) c.0.1 head both in
    paired bytes b.0.0 c.0.0 c.0.1 x all id.1 value.1 (ok_is (record { id = b.0.0; value = c.0.0 }, c.0.1) x c.2)

abbrev pub FitsAlone : {A : Type 0} → (A → Type 0) → List A → A → Type 0
FitsAlone Fits before x = Fits x

pub reads_pairs : ReadsItems pair (FitsAlone IsPair) (λ before. pair_of)
reads_pairs = record { again = λ before p rest fits. pair_of_again p rest fits; means = λ before bytes x small e. pair_of_means bytes x small e }

-- where what stands before doesn't matter
pub after-all : {A : Type 0} (Fits : A → Type 0) (before xs : List A) → All Fits xs → AllAfter (FitsAlone Fits) before xs
after-all Fits before [] fits = tt
after-all Fits before (x ∷ xs) fits = (All-head Fits x xs fits, after-all Fits (before ++ x ∷ []) xs (All-tail Fits x xs fits))

pub all-after : {A : Type 0} (Fits : A → Type 0) (before xs : List A) → AllAfter (FitsAlone Fits) before xs → All Fits xs
all-after Fits before [] fits = All-nil Fits
all-after Fits before (x ∷ xs) fits = All-cons Fits x xs fits.0 (all-after Fits (before ++ x ∷ []) xs fits.1)

pub pairs_again : (ps : List Pair) (rest : List ℕ) → ArePairs ps → pairs_at (pairs ps ++ rest) ≡ Ok (ps, rest)
pairs_again ps rest fits = array_again pair (FitsAlone IsPair) (λ before. pair_of) reads_pairs 0 16 ps rest (omega arith) fits.0 (omega (arith, fits.0)) (after-all IsPair [] ps fits.1)

pub pairs_means : (bytes : List ℕ) (x : List Pair × List ℕ) → IsBytes bytes → pairs_at bytes ≡ Ok x → Takes bytes (pairs x.0) x.1 × ArePairs x.0
pairs_means bytes x small e =
    let m = array_means pair (FitsAlone IsPair) (λ before. pair_of) reads_pairs 0 16 bytes x small e in
    (m.takes, (m.high, all-after IsPair [] x.0 m.fits))

pub reads_results : ReadsItems pairs (FitsAlone ArePairs) (λ before. pairs_at)
reads_results = record { again = λ before ps rest fits. pairs_again ps rest fits; means = λ before bytes x small e. pairs_means bytes x small e }

-- ---- parameters

pub parameters_again : (flags : ℕ) (parameters : Option (List Pair)) (rest : List ℕ) → is_some parameters ≡ has_parameters flags → ForSome parameters ArePairs → parameters_at flags (parameters_item parameters ++ rest) ≡ Ok (parameters, rest)
unfolding parameters_at
parameters_again flags None rest flag fits = rw (← flag) refl
parameters_again flags (Some ps) rest flag fits = rw (← flag, pairs_again ps rest (fits ps refl)) refl

-- parameters that were read
pub record ReadsParameters (flags : ℕ) (bytes : List ℕ) (x : Option (List Pair) × List ℕ) : Type 0 where
  pub takes : Takes bytes (parameters_item x.0) x.1
  pub flag : is_some x.0 ≡ has_parameters flags
  pub fits : ForSome x.0 ArePairs

some_means : (flags : ℕ) (bytes : List ℕ) (x : Option (List Pair) × List ℕ) → IsBytes bytes → has_parameters flags ≡ true → (pairs_at bytes >>= λ parameters. Ok (Some parameters.0, parameters.1)) ≡ Ok x → ReadsParameters flags bytes x
some_means flags bytes x small flag e =
    let b = bind_ok (pairs_at bytes) (λ parameters. Ok (Some parameters.0, parameters.1)) x e in
    let m = pairs_means bytes b.0 small b.1 in
    subst (ReadsParameters flags bytes) (ok_is (Some b.0.0, b.0.1) x b.2)
    (record { takes = m.0; flag = sym flag; fits = λ ps is. let same : b.0.0 ≡ ps = cc in subst ArePairs same m.1 })

abbrev nothing_at : List ℕ → Result (Option (List Pair) × List ℕ) Stop
nothing_at bytes = Ok (None, bytes)

none_means : (flags : ℕ) (bytes : List ℕ) (x : Option (List Pair) × List ℕ) → IsBytes bytes → has_parameters flags ≡ false → nothing_at bytes ≡ Ok x → ReadsParameters flags bytes x
none_means flags bytes x small flag e =
    subst (ReadsParameters flags bytes) (ok_is (None, bytes) x e) (record { takes = record { parts = refl; rest_fits = small }; flag = sym flag; fits = λ ps is. absurd cc })

pub parameters_means : (flags : ℕ) (bytes : List ℕ) (x : Option (List Pair) × List ℕ) → IsBytes bytes → parameters_at flags bytes ≡ Ok x → ReadsParameters flags bytes x
unfolding parameters_at
parameters_means flags bytes x small e =
    elim (chosen (has_parameters flags) (pairs_at bytes >>= λ parameters. Ok (Some parameters.0, parameters.1)) (Ok (None, bytes)) (Ok x) e) [
      | inl there ↦ some_means flags bytes x small there.0 there.1
      | inr absent ↦ none_means flags bytes x small absent.0 absent.1
    ]
