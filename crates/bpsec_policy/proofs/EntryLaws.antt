-- The laws of lists of entries, as a proof takes them from the calls that state them.
use Rattle.std.proofs.Common.{◌≡◌, ℕ, Bool, true, false, List, map, length, Some, Result, Ok}
use Rattle.std.specs.List.{IsDistinct, AllByRecursion, list_all}
use Rattle.std.specs.Str.{bytes_eq}
use Rattle.serde_json.specs.Data.{Data}
use Rattle.bp_text.specs.declared.fault.TextReason.{TextReason}
use Rattle.bp_text.specs.Shape.{is_listed}
use Rattle.bp_text.specs.Entries.{entries_at, name_of, names_of}

-- what the texts' laws say of entries that are read by `read`
pub record EntryLaws {A : Type 0} (read : Data → Result A TextReason) : Type 0 where
  pub all : (index : ℕ) (taken : List (List ℕ)) (ds : List Data) (xs : List A) → entries_at read index taken ds ≡ Ok xs → length xs ≡ length ds
  pub once : (index : ℕ) (taken : List (List ℕ)) (ds : List Data) (xs : List A) → entries_at read index taken ds ≡ Ok xs → IsDistinct bytes_eq (names_of ds)
  pub free : (index : ℕ) (taken : List (List ℕ)) (ds : List Data) (xs : List A) → entries_at read index taken ds ≡ Ok xs → AllByRecursion (λ name. is_listed taken name ≡ false) (names_of ds)
  pub pass : (index : ℕ) (taken : List (List ℕ)) (ds : List Data) (xs : List A) (test : A → Bool) → ((d : Data) (x : A) → read d ≡ Ok x → test x ≡ true)
      → entries_at read index taken ds ≡ Ok xs → list_all test xs ≡ true
  pub names : (index : ℕ) (taken : List (List ℕ)) (ds : List Data) (xs : List A) (name : A → List ℕ) → ((d : Data) (x : A) → read d ≡ Ok x → name_of d ≡ Some (name x))
      → entries_at read index taken ds ≡ Ok xs → names_of ds ≡ map name xs
