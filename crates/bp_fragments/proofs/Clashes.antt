-- The first byte of a piece that isn't the one that is known.
use Rattle.std.proofs.Common.{◌≡◌, ◌≢◌, ◌⊎◌, inl, inr, ℕ, zero, suc, ◌+◌, ◌-◌, ◌<◌, ◌≤◌, min, max, Bool, true, false, eqb, List, [], ◌∷◌, length, take, drop, get_or, Option, Some, None, refl, sym, ◌∙◌, ap, subst, arith, eq-eqb, length-drop}
use Rattle.std.specs.Prelude.{slice_range}
use Rattle.std.specs.List.{slice_get}
use Rattle.std.specs.Option.{option_flatten}
use Rattle.std.proofs.lemmas.Bool.{cases_lt, eqb-true, false_from_ne_true}
use Rattle.std.proofs.lemmas.List.{length-take}
use Rattle.bp_fragments.specs.Spans.{is_in, is_covered, seen}
use Rattle.bp_fragments.specs.Agreement.{clash_with, clash_from}
use Rattle.bp_fragments.specs.declared.span.Span.{Span}
use Rattle.bp_fragments.specs.declared.fault.AddFault.{AddFault}
use Rattle.bp_fragments.specs.declared.fault.AddFault.TheVariants.{Disagree}
use Rattle.bp_fragments.proofs.Lists.{get_behind, get_or_range}
use Rattle.bp_fragments.proofs.Covered.{inside, is_inside, or_true, or_left, or_right, covered_more, length-seen, get_seen, covered_seen, uncovered_seen}

-- ---- the first byte that differs

known_at : (spans : List Span) (bytes : List ℕ) (place : ℕ) → Option ℕ
known_at spans bytes place = option_flatten (slice_get (seen spans bytes) place)

known_here : (spans : List Span) (bytes : List ℕ) (place : ℕ) → is_covered spans place ≡ true → place < length bytes → option_flatten (slice_get (seen spans bytes) place) ≡ Some (get_or bytes place 0)
known_here spans bytes place covered within = rw (get_seen spans bytes place within) (covered_seen spans bytes place covered within)

-- where nothing is known, or the same byte, reading goes on
goes_on : (known : Option ℕ) (place given : ℕ) (next : Option AddFault) → ((kept : ℕ) → known ≡ Some kept → kept ≡ given) → clash_with known place given next ≡ next
goes_on None place given next same = refl
goes_on (Some kept) place given next same = let is = same kept refl in rw (eq-eqb kept given is) refl

pub clash_none : (known : List (Option ℕ)) (place : ℕ) (piece : List ℕ) → ((j kept : ℕ) → j < length piece → option_flatten (slice_get known (place + j)) ≡ Some kept → kept ≡ get_or piece j 0) → clash_from known place piece ≡ None
clash_none known place [] same = refl
clash_none known place (given ∷ more) same =
    goes_on (option_flatten (slice_get known place)) place given (clash_from known (place + 1) more) (λ kept is. same 0 kept (omega arith) (ap (λ (n : ℕ). option_flatten (slice_get known n)) (omega arith) ∙ is))
    ∙ clash_none known (place + 1) more (λ j kept less is. same (suc j) kept (omega arith) (ap (λ (n : ℕ). option_flatten (slice_get known n)) (omega arith) ∙ is))

stops_here : (known : Option ℕ) (place given kept : ℕ) (next : Option AddFault) → known ≡ Some kept → kept ≢ given → clash_with known place given next ≡ Some (Disagree place kept given)
stops_here None place given kept next is other = absurd cc
stops_here (Some found) place given kept next is other =
    let same : found ≡ kept = cc in
    rw (other_number found given (λ e. other (sym same ∙ e))) (ap (λ (k : ℕ). Some (Disagree place k given)) same)
  where
    other_number : (a b : ℕ) → a ≢ b → eqb a b ≡ false
    other_number a b differ = false_from_ne_true (eqb a b) (λ e. differ (eqb-true a b e))

pub clash_some : (known : List (Option ℕ)) (place : ℕ) (piece : List ℕ) (i kept : ℕ) → i < length piece → ((j kept : ℕ) → j < i → option_flatten (slice_get known (place + j)) ≡ Some kept → kept ≡ get_or piece j 0)
    → option_flatten (slice_get known (place + i)) ≡ Some kept → kept ≢ get_or piece i 0 → clash_from known place piece ≡ Some (Disagree (place + i) kept (get_or piece i 0))
clash_some known place [] i kept within same is other = absurd (omega arith)
clash_some known place (given ∷ more) zero kept within same is other =
    stops_here (option_flatten (slice_get known place)) place given kept (clash_from known (place + 1) more) (ap (λ (n : ℕ). option_flatten (slice_get known n)) (omega arith) ∙ is) other ∙ ap (λ (n : ℕ). Some (Disagree n kept given)) (omega arith)
clash_some known place (given ∷ more) (suc i) kept within same is other =
    goes_on (option_flatten (slice_get known place)) place given (clash_from known (place + 1) more) (λ found e. same 0 found (omega arith) (ap (λ (n : ℕ). option_flatten (slice_get known n)) (omega arith) ∙ e))
    ∙ (clash_some known (place + 1) more i kept (omega arith) (λ j found less e. same (suc j) found (omega arith) (ap (λ (n : ℕ). option_flatten (slice_get known n)) (omega arith) ∙ e)) (ap (λ (n : ℕ). option_flatten (slice_get known n)) (omega arith) ∙ is) other
    ∙ ap (λ (n : ℕ). Some (Disagree n kept (get_or more i 0))) (omega arith))

-- ---- one span beside the piece

-- what a look at one span's part of the piece tells
pub record Looked (bytes piece : List ℕ) (span : Span) (offset end from to d : ℕ) : Type 0 where
  pub low : from ≡ max span.from offset
  pub high : to ≡ min span.to end
  pub some : from < to
  pub within : d ≤ to - from
  pub same : (k : ℕ) → k < d → get_or (slice_range bytes from to) k 0 ≡ get_or (slice_range piece (from - offset) (to - offset)) k 0
  pub differs : d < to - from → get_or (slice_range bytes from to) d 0 ≢ get_or (slice_range piece (from - offset) (to - offset)) d 0

length-range : (xs : List ℕ) (a b : ℕ) → b ≤ length xs → length (slice_range xs a b) ≡ b - a
length-range xs a b within = omega (arith, length-take (b - a) (drop a xs), length-drop a xs)

pub look : (bytes piece : List ℕ) (span : Span) (offset end from to d : ℕ) → from ≡ max span.from offset → to ≡ min span.to end → from < to → span.to ≤ length bytes → d ≤ length (slice_range bytes from to)
    → ((k : ℕ) → k < d → get_or (slice_range bytes from to) k 0 ≡ get_or (slice_range piece (from - offset) (to - offset)) k 0)
    → (d < length (slice_range bytes from to) → get_or (slice_range bytes from to) d 0 ≢ get_or (slice_range piece (from - offset) (to - offset)) d 0)
    → Looked bytes piece span offset end from to d
look bytes piece span offset end from to d low high some inside_bytes within same differs =
    let size : length (slice_range bytes from to) ≡ to - from = length-range bytes from to (omega arith) in
    record {
      low = low;
      high = high;
      some = some;
      within = omega arith;
      same = same;
      differs = λ less. differs (omega arith);
    }

looked_at : (bytes piece : List ℕ) (span : Span) (offset end from to d : ℕ) → Looked bytes piece span offset end from to d → (k : ℕ) → from + k < to
    → (get_or (slice_range bytes from to) k 0 ≡ get_or bytes (from + k) 0) × (get_or (slice_range piece (from - offset) (to - offset)) k 0 ≡ get_or piece (from + k - offset) 0)
looked_at bytes piece span offset end from to d look k less =
    let a = look.low in
    let place : from - offset + k ≡ from + k - offset = omega arith in
    (get_or_range bytes from to k less, get_or_range piece (from - offset) (to - offset) k (omega arith) ∙ ap (λ (i : ℕ). get_or piece i 0) place)

pub looked_same : (bytes piece : List ℕ) (span : Span) (offset end from to d : ℕ) → Looked bytes piece span offset end from to d → (place : ℕ) → offset ≤ place → place < from + d → is_in span place ≡ true → get_or bytes place 0 ≡ get_or piece (place - offset) 0
looked_same bytes piece span offset end from to d look place low high is =
    let here = inside span place is in
    let a = look.low in
    let w = look.within in
    let s = look.some in
    let at : from + (place - from) ≡ place = omega (arith, here.0) in
    let values = looked_at bytes piece span offset end from to d look (place - from) (omega arith) in
    ap (λ (i : ℕ). get_or bytes i 0) (sym at) ∙ (sym values.0 ∙ (look.same (place - from) (omega (arith, here.0)) ∙ (values.1 ∙ ap (λ (i : ℕ). get_or piece (i - offset) 0) at)))

-- all of it is the same, so it is up to the end
pub looked_all : (bytes piece : List ℕ) (span : Span) (offset end from to d : ℕ) → Looked bytes piece span offset end from to d → to ≤ from + d → (place : ℕ) → offset ≤ place → place < end → is_in span place ≡ true → get_or bytes place 0 ≡ get_or piece (place - offset) 0
looked_all bytes piece span offset end from to d look all place low high is =
    let here = inside span place is in
    let t = look.high in
    looked_same bytes piece span offset end from to d look place low (omega (arith, here.1)) is

pub looked_differs : (bytes piece : List ℕ) (span : Span) (offset end from to d : ℕ) → Looked bytes piece span offset end from to d → from + d < to → (is_in span (from + d) ≡ true) × (get_or bytes (from + d) 0 ≢ get_or piece (from + d - offset) 0)
looked_differs bytes piece span offset end from to d look less =
    let f = look.low in
    let t = look.high in
    let values = looked_at bytes piece span offset end from to d look d less in
    (is_inside span (from + d) (omega arith) (omega arith), λ e. look.differs (omega arith) (values.0 ∙ (e ∙ sym values.1)))

-- nothing of the span is looked for
pub nothing_there : (span : Span) (offset end place : ℕ) → min span.to end ≤ max span.from offset → offset ≤ place → place < end → is_in span place ≡ true → ⊥
nothing_there span offset end place none low high is = let here = inside span place is in omega (arith, here.0, here.1)

-- ---- all spans

pub record Clashing (bytes : List ℕ) (spans : List Span) (offset : ℕ) (piece : List ℕ) (end : ℕ) : Type 0 where
  pub within : end ≤ offset + length piece
  pub behind : offset ≤ end
  pub same : (place : ℕ) → offset ≤ place → place < end → is_covered spans place ≡ true → get_or bytes place 0 ≡ get_or piece (place - offset) 0
  pub differs : end < offset + length piece → (is_covered spans end ≡ true) × (get_or bytes end 0 ≢ get_or piece (end - offset) 0) × (end < length bytes)

pub clashing_none : (bytes : List ℕ) (spans : List Span) (offset : ℕ) (piece : List ℕ) → Clashing bytes (take 0 spans) offset piece (offset + length piece)
clashing_none bytes spans offset piece = record {
  within = omega arith;
  behind = omega arith;
  same = λ place low high is. absurd cc;
  differs = λ less. absurd (omega arith);
}

pub clashing_more : (bytes : List ℕ) (spans : List Span) (offset : ℕ) (piece : List ℕ) (end i result : ℕ) (span : Span) → i < length spans → span ≡ get_or spans i span → span.to ≤ length bytes → Clashing bytes (take i spans) offset piece end
    → result ≤ end → offset ≤ result
    → ((place : ℕ) → offset ≤ place → place < result → is_in span place ≡ true → get_or bytes place 0 ≡ get_or piece (place - offset) 0)
    → (result < end → (is_in span result ≡ true) × (get_or bytes result 0 ≢ get_or piece (result - offset) 0))
    → Clashing bytes (take (i + 1) spans) offset piece result
clashing_more bytes spans offset piece end i result span inside_spans is to before low behind same differs =
    let old = before.within in
    record {
      within = omega arith;
      behind = behind;
      same = λ place from less covered. elim (or_true (is_covered (take i spans) place) (is_in span place) (sym (covered_more spans i span place inside_spans is) ∙ covered)) [
        | inl earlier ↦ before.same place from (omega arith) earlier
        | inr here ↦ same place from less here
      ];
      differs = λ less. elim (cases_lt result end) [
        | inl lower ↦ (let d = differs lower in let here = inside span result d.0 in (covered_more spans i span result inside_spans is ∙ or_right (is_covered (take i spans) result) (is_in span result) d.0, d.1, omega (arith, here.1)))
        | inr higher ↦ (let e : result ≡ end = omega arith in let d = before.differs (omega arith) in subst (λ (n : ℕ). (is_covered (take (i + 1) spans) n ≡ true) × (get_or bytes n 0 ≢ get_or piece (n - offset) 0) × (n < length bytes)) (sym e) (covered_more spans i span end inside_spans is ∙ or_left (is_covered (take i spans) end) (is_in span end) d.0, d.1, d.2))
      ];
    }

-- what is known at a place of the piece
known_same : (bytes : List ℕ) (spans : List Span) (offset : ℕ) (piece : List ℕ) (end : ℕ) → Clashing bytes spans offset piece end → (j kept : ℕ) → offset + j < end → option_flatten (slice_get (seen spans bytes) (offset + j)) ≡ Some kept → kept ≡ get_or piece j 0
known_same bytes spans offset piece end clashing j kept less is = by_length (cases_lt (offset + j) (length bytes))
  where
    by_test : (b : Bool) → is_covered spans (offset + j) ≡ b → offset + j < length bytes → kept ≡ get_or piece j 0
    by_test true covered within =
        let here : Some (get_or bytes (offset + j) 0) ≡ Some kept = sym (known_here spans bytes (offset + j) covered within) ∙ is in
        let value : get_or bytes (offset + j) 0 ≡ kept = cc in
        sym value ∙ (clashing.same (offset + j) (omega arith) less covered ∙ ap (λ (i : ℕ). get_or piece i 0) (omega arith))
    by_test false covered within = absurd (none_is (ap option_flatten (get_seen spans bytes (offset + j) within ∙ ap (λ (o : Option ℕ). Some o) (uncovered_seen spans bytes (offset + j) covered))))
      where
        none_is : option_flatten (slice_get (seen spans bytes) (offset + j)) ≡ None → ⊥
        none_is none = cc

    by_length : (offset + j < length bytes) ⊎ (length bytes ≤ offset + j) → kept ≡ get_or piece j 0
    by_length (inl within) = by_test (is_covered spans (offset + j)) refl within
    by_length (inr behind) = absurd (past (ap option_flatten (get_behind (seen spans bytes) (offset + j) (omega (arith, length-seen spans bytes)))))
      where
        past : option_flatten (slice_get (seen spans bytes) (offset + j)) ≡ None → ⊥
        past none = cc

pub no_clash : (bytes : List ℕ) (spans : List Span) (offset : ℕ) (piece : List ℕ) (end : ℕ) → Clashing bytes spans offset piece end → end ≡ offset + length piece → None ≡ clash_from (seen spans bytes) offset piece
no_clash bytes spans offset piece end clashing all =
    sym (clash_none (seen spans bytes) offset piece (λ j kept less is. known_same bytes spans offset piece end clashing j kept (omega arith) is))

pub one_clash : (bytes : List ℕ) (spans : List Span) (offset : ℕ) (piece : List ℕ) (end : ℕ) → Clashing bytes spans offset piece end → end < offset + length piece → Some (Disagree end (get_or bytes end 0) (get_or piece (end - offset) 0)) ≡ clash_from (seen spans bytes) offset piece
one_clash bytes spans offset piece end clashing less =
    let d = clashing.differs less in
    let low = clashing.behind in
    let at : offset + (end - offset) ≡ end = omega arith in
    let here : option_flatten (slice_get (seen spans bytes) (offset + (end - offset))) ≡ Some (get_or bytes end 0) = ap (λ (n : ℕ). option_flatten (slice_get (seen spans bytes) n)) at ∙ known_here spans bytes end d.0 d.2 in
    ap (λ (n : ℕ). Some (Disagree n (get_or bytes end 0) (get_or piece (end - offset) 0))) (sym at)
    ∙ sym (clash_some (seen spans bytes) offset piece (end - offset) (get_or bytes end 0) (omega arith) (λ j kept inside_piece is. known_same bytes spans offset piece end clashing j kept (omega arith) is) here d.1)
