-- Bytes of which spans are known.
use Rattle.std.proofs.Common.{◌≡◌, ◌⊎◌, inl, inr, ℕ, zero, suc, ◌+◌, ◌<◌, ◌≤◌, min, max, Bool, true, false, cond, ◌&&◌, ◌||◌, leb, ltb, List, [], ◌∷◌, ◌++◌, length, map, take, drop, get_or, Option, Some, None, refl, sym, ◌∙◌, ap, subst, arith}
use Rattle.std.specs.Prelude.{is_none, unwrap_or}
use Rattle.std.specs.List.{slice_get, find, position}
use Rattle.std.specs.Option.{option_map}
use Rattle.std.proofs.lemmas.Bool.{cases_lt, lt-ltb, ltb-true, leb-true, le-leb, false_from_ne_true}
use Rattle.std.proofs.lemmas.List.{take_more, take_all, take-append-le}
use Rattle.std.proofs.lemmas.List.Folds.{list_any-append}
use Rattle.std.proofs.lemmas.Option.{slice_get-get_or, slice_get-map, get_or_from_slice_get, slice_get_within}
use Rattle.bp_bundle.proofs.ShapeRules.{position_none}
use Rattle.bp_fragments.specs.Cut.{below}
use Rattle.bp_fragments.specs.Spans.{is_in, is_covered, seen_at, seen, AreWithin}
use Rattle.bp_fragments.specs.Overlaid.{Overlaid}
use Rattle.bp_fragments.specs.Joined.{whole_payload}
use Rattle.bp_fragments.specs.declared.span.Span.{Span}
use Rattle.bp_fragments.proofs.Lists.{same_list, get_behind, length_map_below, get_map_below, written, length-written, written_before, written_here, written_behind, first_is, none_is}

-- ---- spans

and_true : (a b : Bool) → (a && b) ≡ true → (a ≡ true) × (b ≡ true)
and_true true b is = (refl, is)
and_true false b is = absurd cc

pub or_true : (a b : Bool) → (a || b) ≡ true → (a ≡ true) ⊎ (b ≡ true)
or_true true b is = inl refl
or_true false b is = inr is

pub or_left : (a b : Bool) → a ≡ true → (a || b) ≡ true
or_left true b is = refl
or_left false b is = absurd cc

pub or_right : (a b : Bool) → b ≡ true → (a || b) ≡ true
or_right true b is = refl
or_right false b is = is

le_true : (a b : ℕ) → leb a b ≡ true → a ≤ b
le_true a b is = leb-true a b is

true_le : (a b : ℕ) → a ≤ b → leb a b ≡ true
true_le a b le = le-leb a b le

pub inside : (span : Span) (place : ℕ) → is_in span place ≡ true → (span.from ≤ place) × (place < span.to)
inside span place is = let both = and_true (leb span.from place) (ltb place span.to) is in (le_true _ _ both.0, ltb-true _ _ both.1)

pub is_inside : (span : Span) (place : ℕ) → span.from ≤ place → place < span.to → is_in span place ≡ true
is_inside span place from to = rw (true_le _ _ from, lt-ltb _ _ to) refl

bool_same : (a b : Bool) → (a ≡ true → b ≡ true) → (b ≡ true → a ≡ true) → a ≡ b
bool_same true b to back = sym (to refl)
bool_same false true to back = back refl
bool_same false false to back = refl

-- two spans that touch, and the span over both
pub hull_is : (a b whole : Span) (place : ℕ) → a.from ≤ b.to → b.from ≤ a.to → whole.from ≡ min a.from b.from → whole.to ≡ max a.to b.to → is_in whole place ≡ (is_in a place || is_in b place)
hull_is a b whole place left right from to =
    bool_same (is_in whole place) (is_in a place || is_in b place)
    (λ is. let here = inside whole place is in one_of here.0 here.1)
    (λ is. elim (or_true (is_in a place) (is_in b place) is) [
      | inl in_a ↦ (let here = inside a place in_a in is_inside whole place (omega (arith, here.0, from)) (omega (arith, here.1, to)))
      | inr in_b ↦ (let here = inside b place in_b in is_inside whole place (omega (arith, here.0, from)) (omega (arith, here.1, to)))
    ])
  where
    one_of : whole.from ≤ place → place < whole.to → (is_in a place || is_in b place) ≡ true
    one_of low high =
        let a_ordered = a.ordered in
        let b_ordered = b.ordered in
        elim (cases_lt place a.from) [
          | inl before ↦ or_right (is_in a place) (is_in b place) (is_inside b place (omega arith) (omega arith))
          | inr behind ↦ (elim (cases_lt place a.to) [
            | inl within ↦ or_left (is_in a place) (is_in b place) (is_inside a place behind within)
            | inr past ↦ or_right (is_in a place) (is_in b place) (is_inside b place (omega arith) (omega arith))
          ])
        ]

pub or_joined : (a b c d : Bool) → d ≡ (b || c) → (a || d) ≡ ((a || b) || c)
or_joined true b c d is = refl
or_joined false b c d is = is

pub or_pushed : (a b c : Bool) → ((a || (c || false)) || b) ≡ ((a || b) || c)
or_pushed true b c = refl
or_pushed false true true = refl
or_pushed false true false = refl
or_pushed false false true = refl
or_pushed false false false = refl

pub or_through : (a b c d e : Bool) → a ≡ (b || c) → c ≡ (d || e) → a ≡ ((b || d) || e)
or_through a b c d e first then = first ∙ or_joined b d e c then

-- one more span
pub covered_more : (spans : List Span) (i : ℕ) (span : Span) (place : ℕ) → i < length spans → span ≡ get_or spans i span → is_covered (take (i + 1) spans) place ≡ (is_covered (take i spans) place || is_in span place)
covered_more spans i span place within is =
    ap (λ (s : List Span). is_covered s place) (take_more spans i span within) ∙ (list_any-append (λ s. is_in s place) (take i spans) (get_or spans i span ∷ []) ∙ ap (λ (b : Bool). is_covered (take i spans) place || b) (or_false (is_in (get_or spans i span) place) ∙ ap (λ (s : Span). is_in s place) (sym is)))
  where
    or_false : (b : Bool) → (b || false) ≡ b
    or_false true = refl
    or_false false = refl

pub covered_pushed : (spans : List Span) (span : Span) (place : ℕ) → is_covered (spans ++ span ∷ []) place ≡ (is_covered spans place || (is_in span place || false))
covered_pushed spans span place = list_any-append (λ s. is_in s place) spans (span ∷ [])

pub within_pushed : (spans : List Span) (span : Span) (len : ℕ) → AreWithin spans len → span.to ≤ len → AreWithin (spans ++ span ∷ []) len
within_pushed [] span len all here zero d inside = here
within_pushed [] span len all here (suc k) d inside = absurd (omega arith)
within_pushed (s ∷ spans) span len all here zero d inside = all 0 d (omega arith)
within_pushed (s ∷ spans) span len all here (suc k) d inside = within_pushed spans span len (λ i e less. all (suc i) e (omega arith)) here k d (omega arith)

-- what is looked at next is covered, apart or by the span that grows
pub merged_step : (apart apart' spans : List Span) (i : ℕ) (whole whole' span more : Span) (place : ℕ) → i < length spans → span ≡ get_or spans i span
    → (is_covered apart place || is_in whole place) ≡ (is_covered (take i spans) place || is_in more place)
    → (is_covered apart' place || is_in whole' place) ≡ ((is_covered apart place || is_in whole place) || is_in span place)
    → (is_covered apart' place || is_in whole' place) ≡ (is_covered (take (i + 1) spans) place || is_in more place)
merged_step apart apart' spans i whole whole' span more place within is before step =
    step ∙ (ap (λ (b : Bool). b || is_in span place) before ∙ (or_swap (is_covered (take i spans) place) (is_in more place) (is_in span place) ∙ ap (λ (b : Bool). b || is_in more place) (sym (covered_more spans i span place within is))))
  where
    or_swap : (a b c : Bool) → ((a || b) || c) ≡ ((a || c) || b)
    or_swap true b c = refl
    or_swap false true true = refl
    or_swap false true false = refl
    or_swap false false true = refl
    or_swap false false false = refl

pub span_within : (spans : List Span) (i len : ℕ) (span : Span) → AreWithin spans len → i < length spans → span ≡ get_or spans i span → span.to ≤ len
span_within spans i len span all within is = let le = all i span within in subst (λ (s : Span). s.to ≤ len) (sym is) le

-- ---- the first gap

record Found (spans : List Span) (place : ℕ) (span : Span) : Type 0 where
  here : is_in span place ≡ true
  covers : (k : ℕ) → is_in span k ≡ true → is_covered spans k ≡ true
  within : (len : ℕ) → AreWithin spans len → span.to ≤ len

found_by : (s : Span) (spans : List Span) (place : ℕ) (span : Span) (b : Bool) → is_in s place ≡ b → cond b (Some s) (find (λ x. is_in x place) spans) ≡ Some span → (find (λ x. is_in x place) spans ≡ Some span → Found spans place span) → Found (s ∷ spans) place span
found_by s spans place span true test e more =
    let same : s ≡ span = cc in
    record {
      here = ap (λ (x : Span). is_in x place) (sym same) ∙ test;
      covers = λ k here. or_left (is_in s k) (is_covered spans k) (ap (λ (x : Span). is_in x k) same ∙ here);
      within = λ len all. subst (λ (x : Span). x.to ≤ len) same (all 0 s (omega arith));
    }
found_by s spans place span false test e more =
    let found = more e in
    record {
      here = found.here;
      covers = λ k here. or_right (is_in s k) (is_covered spans k) (found.covers k here);
      within = λ len all. found.within len (λ i d less. all (suc i) d (omega arith));
    }

found_in : (spans : List Span) (place : ℕ) (span : Span) → find (λ s. is_in s place) spans ≡ Some span → Found spans place span
found_in [] place span is = absurd cc
found_in (s ∷ spans) place span is = found_by s spans place span (is_in s place) refl is (λ e. found_in spans place span e)

none_by : (s : Span) (spans : List Span) (place : ℕ) (b : Bool) → is_in s place ≡ b → cond b (Some s) (find (λ x. is_in x place) spans) ≡ None → (find (λ x. is_in x place) spans ≡ None → is_covered spans place ≡ false) → (is_in s place || is_covered spans place) ≡ false
none_by s spans place true test e more = absurd cc
none_by s spans place false test e more = rw test (more e)

pub none_covers : (spans : List Span) (place : ℕ) → find (λ s. is_in s place) spans ≡ None → is_covered spans place ≡ false
none_covers [] place is = refl
none_covers (s ∷ spans) place is = none_by s spans place (is_in s place) refl is (λ e. none_covers spans place e)

pub record Further (spans : List Span) (len place to : ℕ) : Type 0 where
  pub within : to ≤ len
  pub further : place < to
  pub covered : (k : ℕ) → k < to → is_covered spans k ≡ true

pub gap_step : (spans : List Span) (len place : ℕ) (span : Span) → AreWithin spans len → find (λ s. is_in s place) spans ≡ Some span → ((k : ℕ) → k < place → is_covered spans k ≡ true) → Further spans len place span.to
gap_step spans len place span all found before =
    let is = found_in spans place span found in
    let here = inside span place is.here in
    record {
      within = is.within len all;
      further = here.1;
      covered = λ k less. elim (cases_lt k place) [
        | inl low ↦ before k low
        | inr high ↦ is.covers k (is_inside span k (omega (arith, here.0)) less)
      ];
    }

-- ---- what is seen

pub length-seen : (spans : List Span) (bytes : List ℕ) → length (seen spans bytes) ≡ length bytes
unfolding seen
length-seen spans bytes = length_map_below (seen_at spans bytes) (length bytes)

pub get_seen : (spans : List Span) (bytes : List ℕ) (k : ℕ) → k < length bytes → slice_get (seen spans bytes) k ≡ Some (seen_at spans bytes k)
unfolding seen
get_seen spans bytes k within = get_map_below (seen_at spans bytes) (length bytes) k within

pub seen_nothing : (bytes : List ℕ) (n : ℕ) → length bytes ≡ n → seen [] bytes ≡ map (λ _. None) (below n)
unfolding seen
seen_nothing bytes n is = ap (λ (len : ℕ). map (seen_at [] bytes) (below len)) is

pub seen_empty : (spans : List Span) (bytes : List ℕ) → spans ≡ [] → bytes ≡ [] → seen spans bytes ≡ []
seen_empty spans bytes none empty = ap (λ (s : List Span). seen s bytes) none ∙ (ap (λ (xs : List ℕ). seen [] xs) empty ∙ seen_nothing [] 0 refl)

pub seen_new : (spans : List Span) (bytes : List ℕ) (n : ℕ) → spans ≡ [] → length bytes ≡ n → seen spans bytes ≡ map (λ _. None) (below n)
seen_new spans bytes n none size = ap (λ (s : List Span). seen s bytes) none ∙ seen_nothing bytes n size

pub covered_seen : (spans : List Span) (bytes : List ℕ) (k : ℕ) → is_covered spans k ≡ true → k < length bytes → seen_at spans bytes k ≡ Some (get_or bytes k 0)
covered_seen spans bytes k covered within = rw covered (slice_get-get_or bytes k 0 within)

pub uncovered_seen : (spans : List Span) (bytes : List ℕ) (k : ℕ) → is_covered spans k ≡ false → seen_at spans bytes k ≡ None
uncovered_seen spans bytes k covered = rw covered refl

-- ---- a piece is written

overlaid_at : (spans merged : List Span) (bytes piece : List ℕ) (offset place : ℕ) → offset + length piece ≤ length bytes → is_covered merged place ≡ is_covered spans place → slice_get (written bytes offset piece) place ≡ slice_get bytes place
    → (place < length bytes) ⊎ (length bytes ≤ place) → slice_get (seen merged (written bytes offset piece)) place ≡ slice_get (seen spans bytes) place
overlaid_at spans merged bytes piece offset place within covered same (inl inside_bytes) =
    get_seen merged (written bytes offset piece) place (omega (arith, length-written bytes offset piece within))
    ∙ (ap (λ (o : Option ℕ). Some o) (ap (λ (b : Bool). cond b (slice_get (written bytes offset piece) place) None) covered ∙ ap (λ (o : Option ℕ). cond (is_covered spans place) o None) same) ∙ sym (get_seen spans bytes place inside_bytes))
overlaid_at spans merged bytes piece offset place within covered same (inr behind) =
    get_behind (seen merged (written bytes offset piece)) place (omega (arith, length-written bytes offset piece within, length-seen merged (written bytes offset piece)))
    ∙ sym (get_behind (seen spans bytes) place (omega (arith, length-seen spans bytes)))

outside : (spans : List Span) (more : Span) (offset len place : ℕ) → more.from ≡ offset → more.to ≡ offset + len → (place < offset) ⊎ (offset + len ≤ place) → (is_covered spans place || is_in more place) ≡ is_covered spans place
outside spans more offset len place from to where_ = or_false (is_covered spans place) (is_in more place) (false_from_ne_true (is_in more place) (λ is. not_there (inside more place is) where_))
  where
    or_false : (a b : Bool) → b ≡ false → (a || b) ≡ a
    or_false true b is = refl
    or_false false b is = is

    not_there : (more.from ≤ place) × (place < more.to) → (place < offset) ⊎ (offset + len ≤ place) → ⊥
    not_there here (inl before) = omega (arith, here.0)
    not_there here (inr behind) = omega (arith, here.1)

pub overlaid_so : (spans merged : List Span) (bytes piece : List ℕ) (offset : ℕ) (more : Span) → offset + length piece ≤ length bytes → more.from ≡ offset → more.to ≡ offset + length piece
    → ((place : ℕ) → is_covered merged place ≡ (is_covered spans place || is_in more place)) → Overlaid (seen spans bytes) offset piece (seen merged (written bytes offset piece))
overlaid_so spans merged bytes piece offset more within from to covers = record {
  len = length-seen merged (written bytes offset piece) ∙ (length-written bytes offset piece within ∙ sym (length-seen spans bytes));
  there = λ k byte is.
      let less = slice_get_within piece k byte is in
      let covered : is_covered merged (offset + k) ≡ true = covers (offset + k) ∙ or_right (is_covered spans (offset + k)) (is_in more (offset + k)) (is_inside more (offset + k) (omega arith) (omega arith)) in
      get_seen merged (written bytes offset piece) (offset + k) (omega (arith, length-written bytes offset piece within))
      ∙ ap (λ (o : Option ℕ). Some o) (ap (λ (b : Bool). cond b (slice_get (written bytes offset piece) (offset + k)) None) covered ∙ (written_here bytes offset piece k within less ∙ is));
  others = λ place other. overlaid_at spans merged bytes piece offset place within (covers place ∙ outside spans more offset (length piece) place from to other) (same_there place other) (cases_lt place (length bytes));
}
  where
    same_there : (place : ℕ) → (place < offset) ⊎ (offset + length piece ≤ place) → slice_get (written bytes offset piece) place ≡ slice_get bytes place
    same_there place (inl before) = written_before bytes offset piece place within before
    same_there place (inr behind) = written_behind bytes offset piece place within behind

-- the bytes once the piece is written into the slice over them
pub put_bytes : (old front written_bytes : List ℕ) (offset : ℕ) (piece : List ℕ) → front ≡ old → written_bytes ≡ written front offset piece → offset + length piece ≤ length old
    → take (length old) (written_bytes ++ drop (length written_bytes) old) ≡ written old offset piece
put_bytes old front written_bytes offset piece same is within =
    let all : written_bytes ≡ written old offset piece = is ∙ ap (λ (xs : List ℕ). written xs offset piece) same in
    let size : length written_bytes ≡ length old = ap (λ (xs : List ℕ). length xs) all ∙ length-written old offset piece within in
    take-append-le (length old) written_bytes (drop (length written_bytes) old) (omega arith) ∙ (take_all (length old) written_bytes (omega arith) ∙ all)

-- ---- all is known

seen_or : (spans : List Span) (bytes : List ℕ) (k : ℕ) (d : Option ℕ) → k < length bytes → get_or (seen spans bytes) k d ≡ seen_at spans bytes k
seen_or spans bytes k d within = get_or_from_slice_get (seen spans bytes) k (seen_at spans bytes k) d (get_seen spans bytes k within)

whole_at : (spans : List Span) (bytes : List ℕ) (k : ℕ) (b : Bool) → is_covered spans k ≡ b → k < length bytes → is_none (seen_at spans bytes k) ≡ false → unwrap_or (seen_at spans bytes k) 0 ≡ get_or bytes k 0
whole_at spans bytes k true covered within some = ap (λ (o : Option ℕ). unwrap_or o 0) (covered_seen spans bytes k covered within)
whole_at spans bytes k false covered within some = absurd (missing (ap is_none (uncovered_seen spans bytes k covered)))
  where
    missing : is_none (seen_at spans bytes k) ≡ true → ⊥
    missing none = cc

pub whole_seen : (spans : List Span) (bytes : List ℕ) → position is_none (seen spans bytes) ≡ None → bytes ≡ whole_payload (seen spans bytes)
whole_seen spans bytes all = same_list bytes (whole_payload (seen spans bytes)) (λ k. by_length k (cases_lt k (length bytes)))
  where
    by_length : (k : ℕ) → (k < length bytes) ⊎ (length bytes ≤ k) → slice_get bytes k ≡ slice_get (whole_payload (seen spans bytes)) k
    by_length k (inl within) =
        let some : is_none (seen_at spans bytes k) ≡ false = ap is_none (sym (seen_or spans bytes k None within)) ∙ position_none is_none (seen spans bytes) all k None (omega (arith, length-seen spans bytes)) in
        slice_get-get_or bytes k 0 within
        ∙ (ap (λ (n : ℕ). Some n) (sym (whole_at spans bytes k (is_covered spans k) refl within some))
        ∙ (ap (option_map (λ byte. unwrap_or byte 0)) (sym (get_seen spans bytes k within)) ∙ sym (slice_get-map (λ byte. unwrap_or byte 0) (seen spans bytes) k)))
    by_length k (inr behind) =
        get_behind bytes k behind
        ∙ sym (slice_get-map (λ byte. unwrap_or byte 0) (seen spans bytes) k ∙ ap (option_map (λ byte. unwrap_or byte 0)) (get_behind (seen spans bytes) k (omega (arith, length-seen spans bytes))))

some_seen : (spans : List Span) (bytes : List ℕ) (k : ℕ) → is_covered spans k ≡ true → k < length bytes → is_none (get_or (seen spans bytes) k None) ≡ false
some_seen spans bytes k covered within = ap is_none (seen_or spans bytes k None within ∙ covered_seen spans bytes k covered within)

pub gap_none : (spans : List Span) (bytes : List ℕ) (place : ℕ) → length bytes ≤ place → ((k : ℕ) → k < place → is_covered spans k ≡ true) → None ≡ position is_none (seen spans bytes)
gap_none spans bytes place all covered = sym (none_is is_none (seen spans bytes) None (λ k less. some_seen spans bytes k (covered k (omega (arith, length-seen spans bytes))) (omega (arith, length-seen spans bytes))))

pub gap_some : (spans : List Span) (bytes : List ℕ) (place : ℕ) → place < length bytes → is_covered spans place ≡ false → ((k : ℕ) → k < place → is_covered spans k ≡ true) → Some place ≡ position is_none (seen spans bytes)
gap_some spans bytes place within gap covered =
    sym (first_is is_none (seen spans bytes) place None (omega (arith, length-seen spans bytes)) (ap is_none (seen_or spans bytes place None within ∙ uncovered_seen spans bytes place gap)) (λ k less. some_seen spans bytes k (covered k less) (omega arith)))
