-- The names of entries, and which entry a fault is of.
use Rattle.std.proofs.Common.{◌≡◌, ℕ, suc, ◌+◌, ◌<◌, Bool, true, false, not, ◌||◌, List, [], ◌∷◌, length, map, take, Option, Some, None, Result, Ok, Err, refl, sym, ◌∙◌, ap, arith}
use Rattle.std.specs.Prelude.{IsOk}
use Rattle.std.specs.List.{IsDistinct, AllByRecursion, list_all}
use Rattle.std.specs.Str.{bytes_eq}
use Rattle.std.proofs.lemmas.Map.Keys.{IsDistinct-cons}
use Rattle.cbor_profile.specs.Step.{◌>>=◌}
use Rattle.serde_json.specs.Data.{Data}
use Rattle.bp_text.specs.declared.fault.TextReason.{TextReason}
use Rattle.bp_text.specs.declared.fault.TextReason.TheVariants.{RepeatedName}
use Rattle.bp_text.specs.declared.fault.TextFault.{TextFault}
use Rattle.bp_text.specs.Fault.{unless, at_entry}
use Rattle.bp_text.specs.Shape.{is_listed}
use Rattle.bp_text.specs.Entries.{name_of, is_taken, taking, names_of, entry_at, entries_at}

-- the step before one that gave a value
pub bind_ok : {A B E : Type 0} (r : Result A E) (f : A → Result B E) (y : B) → (r >>= f) ≡ Ok y → (x : A) × (r ≡ Ok x) × (f x ≡ Ok y)
bind_ok (Ok x) f y e = (x, refl, e)
bind_ok (Err d) f y e = absurd cc

pub at_entry_ok : {A : Type 0} (entry : Option ℕ) (r : Result A TextReason) (x : A) → at_entry entry r ≡ Ok x → r ≡ Ok x
at_entry_ok entry (Ok y) x e = cc
at_entry_ok entry (Err reason) x e = absurd cc

pub unless_ok : (b : Bool) (reason : TextReason) (u : Unit {0}) → unless b reason ≡ Ok u → b ≡ true
unless_ok true reason u e = refl
unless_ok false reason u e = absurd cc

ok_is : {A E : Type 0} (x y : A) → (let r : Result A E = Ok x in r ≡ Ok y) → x ≡ y
ok_is x y e = cc

-- ---- entries that are all read

module _ {A : Type 0} (read : Data → Result A TextReason) where
  -- the entry is read, its name is new, and the others are read
  step : (index : ℕ) (taken : List (List ℕ)) (d : Data) (ds : List Data) (xs : List A) → entries_at read index taken (d ∷ ds) ≡ Ok xs
      → (x : A) × (others : List A) × (read d ≡ Ok x) × (is_taken taken (name_of d) ≡ false) × (entries_at read (index + 1) (taking (name_of d) taken) ds ≡ Ok others) × (xs ≡ x ∷ others)
  step index taken d ds xs e =
      let a = bind_ok (at_entry (Some index) (entry_at read taken d)) _ xs e in
      let b = bind_ok (entries_at read (index + 1) (taking (name_of d) taken) ds) (λ ys. Ok (a.0 ∷ ys)) xs a.2 in
      let c = bind_ok (read d) _ a.0 (at_entry_ok (Some index) (entry_at read taken d) a.0 a.1) in
      let f = bind_ok (unless (not (is_taken taken (name_of d))) RepeatedName) (λ _. Ok c.0) a.0 c.2 in
      let same : c.0 ≡ a.0 = ok_is c.0 a.0 f.2 in
      (a.0, b.0, c.1 ∙ ap Ok same, not_true _ (unless_ok _ RepeatedName f.0 f.1), b.1, sym (ok_is (a.0 ∷ b.0) xs b.2))
    where
      not_true : (b : Bool) → not b ≡ true → b ≡ false
      not_true true e = absurd cc
      not_true false e = refl

  pub all_are_read : (index : ℕ) (taken : List (List ℕ)) (ds : List Data) (xs : List A) → entries_at read index taken ds ≡ Ok xs → length xs ≡ length ds
  all_are_read index taken [] xs e = ap length (sym (ok_is [] xs e))
  all_are_read index taken (d ∷ ds) xs e =
      let s = step index taken d ds xs e in
      ap length s.5 ∙ ap suc (all_are_read (index + 1) (taking (name_of d) taken) ds s.1 s.4)

  neither : (a b : Bool) → (a || b) ≡ false → (a ≡ false) × (b ≡ false)
  neither true b e = absurd cc
  neither false b e = (refl, e)

  -- of names that differ from this one and from those before
  apart : (name : List ℕ) (taken names : List (List ℕ)) → AllByRecursion (λ n. is_listed (name ∷ taken) n ≡ false) names
      → AllByRecursion (λ n. bytes_eq name n ≡ false) names × AllByRecursion (λ n. is_listed taken n ≡ false) names
  apart name taken [] h = (tt, tt)
  apart name taken (n ∷ names) h =
      let a = neither (bytes_eq name n) (is_listed taken n) h.0 in
      let b = apart name taken names h.1 in
      ((a.0, b.0), (a.1, b.1))

  more : (name : Option (List ℕ)) (taken names : List (List ℕ)) → is_taken taken name ≡ false → AllByRecursion (λ n. is_listed (taking name taken) n ≡ false) names
      → IsDistinct bytes_eq names → IsDistinct bytes_eq (taking name names) × AllByRecursion (λ n. is_listed taken n ≡ false) (taking name names)
  more None taken names free h distinct = (distinct, h)
  more (Some name) taken names free h distinct =
      let a = apart name taken names h in
      (IsDistinct-cons bytes_eq name names a.0 distinct, (free, a.1))

  pub names_once : (index : ℕ) (taken : List (List ℕ)) (ds : List Data) (xs : List A) → entries_at read index taken ds ≡ Ok xs
      → IsDistinct bytes_eq (names_of ds) × AllByRecursion (λ n. is_listed taken n ≡ false) (names_of ds)
  unfolding IsDistinct
  names_once index taken [] xs e = (tt, tt)
  names_once index taken (d ∷ ds) xs e =
      let s = step index taken d ds xs e in
      let h = names_once (index + 1) (taking (name_of d) taken) ds s.1 s.4 in
      more (name_of d) taken (names_of ds) s.3 h.1 h.0

  pub all_pass : (index : ℕ) (taken : List (List ℕ)) (ds : List Data) (xs : List A) (test : A → Bool) → ((d : Data) (x : A) → read d ≡ Ok x → test x ≡ true)
      → entries_at read index taken ds ≡ Ok xs → list_all test xs ≡ true
  all_pass index taken [] xs test h e = ap (list_all test) (sym (ok_is [] xs e))
  all_pass index taken (d ∷ ds) xs test h e =
      let s = step index taken d ds xs e in
      rw (s.5, h d s.0 s.2) (all_pass (index + 1) (taking (name_of d) taken) ds s.1 test h s.4)

  pub all_named : (index : ℕ) (taken : List (List ℕ)) (ds : List Data) (xs : List A) (name : A → List ℕ) → ((d : Data) (x : A) → read d ≡ Ok x → name_of d ≡ Some (name x))
      → entries_at read index taken ds ≡ Ok xs → names_of ds ≡ map name xs
  all_named index taken [] xs name h e = ap (map name) (ok_is [] xs e)
  all_named index taken (d ∷ ds) xs name h e =
      let s = step index taken d ds xs e in
      rw (s.5, h d s.0 s.2) (ap (λ (ns : List (List ℕ)). name s.0 ∷ ns) (all_named (index + 1) (taking (name_of d) taken) ds s.1 name h s.4))

  -- ---- a fault

  -- the entry with this index, the values before which are read
  abbrev pub IsFirst : ℕ → List (List ℕ) → List Data → TextFault → Type 0
  IsFirst index taken ds fault = (k : ℕ) × (k < length ds) × (fault.entry ≡ Some (index + k)) × IsOk (entries_at read index taken (take k ds))

  err_is : {B : Type 0} (x y : TextFault) → (let r : Result B TextFault = Err x in r ≡ Err y) → x ≡ y
  err_is x y e = cc

  at_entry_err : (entry : Option ℕ) (r : Result A TextReason) (fault : TextFault) → at_entry entry r ≡ Err fault → fault.entry ≡ entry
  at_entry_err entry (Ok y) fault e = absurd cc
  at_entry_err entry (Err reason) fault e = ap (λ (f : TextFault). f.entry) (sym (err_is {B = A} (record { entry = entry; reason = reason }) fault e))

  on_ok : {B : Type 0} (r : Result (List B) TextFault) (x : B) → IsOk r → IsOk (r >>= λ ys. Ok (x ∷ ys))
  on_ok (Ok ys) x h = refl
  on_ok (Err fault) x h = h

  later : (index : ℕ) (taken : List (List ℕ)) (d : Data) (ds : List Data) (fault : TextFault) (r : Result A TextFault) → at_entry (Some index) (entry_at read taken d) ≡ r
      → (others : Result (List A) TextFault) → entries_at read (index + 1) (taking (name_of d) taken) ds ≡ others
      → (r >>= λ x. others >>= λ xs. Ok (x ∷ xs)) ≡ Err fault
      → (others ≡ Err fault → IsFirst (index + 1) (taking (name_of d) taken) ds fault) → IsFirst index taken (d ∷ ds) fault
  later index taken d ds fault (Err f) is others are e h = (0, omega arith, ap (λ (g : TextFault). g.entry) (sym (err_is {B = List A} f fault e)) ∙ (at_entry_err (Some index) (entry_at read taken d) f is ∙ ap Some (omega arith)), refl)
  later index taken d ds fault (Ok x) is (Ok xs) are e h = absurd cc
  later index taken d ds fault (Ok x) is (Err f) are e h =
      let w = h e in
      (suc w.0, omega (arith, w.1), w.2 ∙ ap Some (omega arith), rw is (on_ok (entries_at read (index + 1) (taking (name_of d) taken) (take w.0 ds)) x w.3))

  pub first_fault : (index : ℕ) (taken : List (List ℕ)) (ds : List Data) (fault : TextFault) → entries_at read index taken ds ≡ Err fault → IsFirst index taken ds fault
  first_fault index taken [] fault e = absurd cc
  first_fault index taken (d ∷ ds) fault e =
      later index taken d ds fault (at_entry (Some index) (entry_at read taken d)) refl (entries_at read (index + 1) (taking (name_of d) taken) ds) refl e
      (λ h. first_fault (index + 1) (taking (name_of d) taken) ds fault h)
