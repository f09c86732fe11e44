-- Reading a list entry by entry.
use Rattle.std.proofs.Common.{◌≡◌, ℕ, ◌+◌, ◌<◌, ◌≤◌, List, [], ◌∷◌, ◌++◌, map, length, get_or, take, drop, Some, Result, Ok, Err, refl, sym, ◌∙◌, ap, append_assoc, add-one, arith}
use Rattle.std.proofs.Math.Seq.{drop-cons}
use Rattle.std.proofs.lemmas.List.{length-map, get_or-map, take_more, append-nil, at_drop_all}
use Rattle.cbor_profile.specs.Step.{◌>>=◌}
use Rattle.serde_json.specs.Data.{Data}
use Rattle.bp_text.specs.declared.fault.TextReason.{TextReason}
use Rattle.bp_text.specs.declared.fault.TextFault.{TextFault}
use Rattle.bp_text.specs.Fault.{at_entry}
use Rattle.bp_text.specs.Entries.{name_of, taking, taken_by, entry_at, entries_at}

-- what is read, with these before it
abbrev pub with_front : {A : Type 0} → List A → Result (List A) TextFault → Result (List A) TextFault
with_front xs r = r >>= λ ys. Ok (xs ++ ys)

module _ {X : Type 0} (f : X → Data) (xs : List X) (i : ℕ) (x : X) (lt : i < length xs) (is : x ≡ get_or xs i x) where
  item : get_or (map f xs) i (f x) ≡ f x
  item = get_or-map f xs i x (f x) lt ∙ ap f (sym is)

  long : i < length (map f xs)
  long = omega (arith, length-map xs f)

  -- the values that are left at a turn
  pub left_at : drop i (map f xs) ≡ f x ∷ drop (i + 1) (map f xs)
  left_at = drop-cons (map f xs) i (f x) long ∙ rw (item, add-one) refl

  -- the values that were read after it
  pub read_by : take (i + 1) (map f xs) ≡ take i (map f xs) ++ f x ∷ []
  read_by = take_more (map f xs) i (f x) long ∙ rw item refl

pub taken_by-append : (taken : List (List ℕ)) (ds : List Data) (d : Data) → taken_by taken (ds ++ d ∷ []) ≡ taking (name_of d) (taken_by taken ds)
taken_by-append taken [] d = refl
taken_by-append taken (e ∷ ds) d = taken_by-append (taking (name_of e) taken) ds d

longer : {A : Type 0} (xs : List A) (x : A) (r : Result (List A) TextFault) → with_front (xs ++ x ∷ []) r ≡ with_front xs (r >>= λ ys. Ok (x ∷ ys))
longer xs x (Ok ys) = ap Ok (append_assoc xs (x ∷ []) ys)
longer xs x (Err fault) = refl

module _ {A : Type 0} (read : Data → Result A TextReason) (index : ℕ) (taken : List (List ℕ)) (d : Data) (ds : List Data) (xs : List A) where
  pub goes_on : (x : A) → at_entry (Some index) (entry_at read taken d) ≡ Ok x
      → with_front (xs ++ x ∷ []) (entries_at read (index + 1) (taking (name_of d) taken) ds) ≡ with_front xs (entries_at read index taken (d ∷ ds))
  goes_on x e = rw e (longer xs x (entries_at read (index + 1) (taking (name_of d) taken) ds))

  pub stops : (fault : TextFault) → at_entry (Some index) (entry_at read taken d) ≡ Err fault → with_front xs (entries_at read index taken (d ∷ ds)) ≡ Err fault
  stops fault e = rw e refl

pub ends : {A : Type 0} (read : Data → Result A TextReason) (index : ℕ) (taken : List (List ℕ)) (ds : List Data) (i : ℕ) (xs : List A) → length ds ≤ i
    → with_front xs (entries_at read index taken (drop i ds)) ≡ Ok xs
ends read index taken ds i xs le = ap (with_front xs) (at_drop_all (entries_at read index taken) ds i le) ∙ ap Ok (append-nil xs)
