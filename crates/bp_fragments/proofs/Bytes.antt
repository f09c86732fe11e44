-- The byte at a place of the whole payload.
use Rattle.std.proofs.Common.{◌≡◌, ◌⊎◌, inl, inr, ℕ, zero, suc, ◌+◌, ◌-◌, ◌<◌, ◌≤◌, Bool, true, false, cond, ltb, eqb, List, [], ◌∷◌, ◌++◌, length, Option, Some, None, refl, sym, ◌∙◌, ap, arith}
use Rattle.std.specs.Prelude.{Contains}
use Rattle.std.specs.List.{slice_get}
use Rattle.std.specs.Option.{option_or, option_flatten}
use Rattle.std.proofs.lemmas.Bool.{lt-ltb, le-ltb, ltb-false, eqb-true}
use Rattle.std.proofs.lemmas.Option.{slice_get_within}
use Rattle.bp_bundle.specs.Shape.{Contents, payload}
use Rattle.bp_fragments.specs.Fragment.{offset_of}
use Rattle.bp_fragments.specs.Known.{byte_of, byte_at, whole_length, known}
use Rattle.bp_fragments.specs.Agreement.{clash_with, clash_from}
use Rattle.bp_fragments.specs.declared.fault.AddFault.{AddFault}
use Rattle.bp_fragments.specs.declared.fault.AddFault.TheVariants.{Disagree}
use Rattle.bp_fragments.proofs.Lists.{get_behind, get_map_below, length_map_below}
use Rattle.bp_fragments.proofs.Members.{contains_first, contains_later, contains_parts, contains_none}

-- ---- one fragment

pub byte_inside : (piece : Contents) (place byte : ℕ) → byte_of piece place ≡ Some byte → (offset_of piece ≤ place) × (slice_get (payload piece) (place - offset_of piece) ≡ Some byte)
byte_inside piece place byte is = by_test (ltb place (offset_of piece)) refl is
  where
    by_test : (b : Bool) → ltb place (offset_of piece) ≡ b → cond b None (slice_get (payload piece) (place - offset_of piece)) ≡ Some byte → (offset_of piece ≤ place) × (slice_get (payload piece) (place - offset_of piece) ≡ Some byte)
    by_test true test e = absurd cc
    by_test false test e = (ltb-false _ _ test, e)

pub inside_byte : (piece : Contents) (k byte : ℕ) → slice_get (payload piece) k ≡ Some byte → byte_of piece (offset_of piece + k) ≡ Some byte
inside_byte piece k byte is =
    let le : offset_of piece ≤ offset_of piece + k = omega arith in
    let back : offset_of piece + k - offset_of piece ≡ k = omega arith in
    ap (λ (b : Bool). cond b None (slice_get (payload piece) (offset_of piece + k - offset_of piece))) (le-ltb _ _ le) ∙ (ap (λ (n : ℕ). slice_get (payload piece) n) back ∙ is)

pub no_byte : (piece : Contents) (place : ℕ) → (place < offset_of piece) ⊎ (offset_of piece + length (payload piece) ≤ place) → byte_of piece place ≡ None
no_byte piece place (inl before) = ap (λ (b : Bool). cond b None (slice_get (payload piece) (place - offset_of piece))) (lt-ltb _ _ before)
no_byte piece place (inr behind) =
    let le : offset_of piece ≤ place = omega arith in
    ap (λ (b : Bool). cond b None (slice_get (payload piece) (place - offset_of piece))) (le-ltb _ _ le) ∙ get_behind (payload piece) (place - offset_of piece) (omega arith)

pub byte_within : (piece : Contents) (place byte : ℕ) → byte_of piece place ≡ Some byte → place < offset_of piece + length (payload piece)
byte_within piece place byte is = let at = byte_inside piece place byte is in let less = slice_get_within (payload piece) (place - offset_of piece) byte at.1 in omega (arith, at.0)

-- ---- several

pub byte_pushed : (pieces : List Contents) (piece : Contents) (place : ℕ) → byte_at (pieces ++ piece ∷ []) place ≡ option_or (byte_at pieces place) (byte_of piece place)
byte_pushed [] piece place = or_none (byte_of piece place)
  where
    or_none : (o : Option ℕ) → option_or o None ≡ o
    or_none None = refl
    or_none (Some x) = refl
byte_pushed (first ∷ more) piece place = ap (option_or (byte_of first place)) (byte_pushed more piece place) ∙ or_assoc (byte_of first place) (byte_at more place) (byte_of piece place)
  where
    or_assoc : (a b c : Option ℕ) → option_or a (option_or b c) ≡ option_or (option_or a b) c
    or_assoc None b c = refl
    or_assoc (Some x) b c = refl

-- the byte at a place is that of some fragment
pub byte_from : (pieces : List Contents) (place byte : ℕ) → byte_at pieces place ≡ Some byte → (piece : Contents) × Contains pieces piece × (byte_of piece place ≡ Some byte)
byte_from [] place byte is = absurd cc
byte_from (first ∷ more) place byte is = by_first (byte_of first place) refl is (byte_from more place byte)
  where
    by_first : (o : Option ℕ) → byte_of first place ≡ o → option_or o (byte_at more place) ≡ Some byte → (byte_at more place ≡ Some byte → (piece : Contents) × Contains more piece × (byte_of piece place ≡ Some byte)) → (piece : Contents) × Contains (first ∷ more) piece × (byte_of piece place ≡ Some byte)
    by_first None here e later = let found = later e in (found.0, contains_later first more found.0 found.1, found.2)
    by_first (Some x) here e later = (first, contains_first first more, here ∙ e)

some_by : (first : Contents) (more : List Contents) (piece : Contents) (place byte : ℕ) (o : Option ℕ) → byte_of first place ≡ o → (first ≡ piece) ⊎ Contains more piece → byte_of piece place ≡ Some byte → (Contains more piece → (x : ℕ) × (byte_at more place ≡ Some x)) → (x : ℕ) × (option_or o (byte_at more place) ≡ Some x)
some_by first more piece place byte (Some x) here where_ is later = (x, refl)
some_by first more piece place byte None here (inl same) is later = absurd (let e : byte_of first place ≡ Some byte = ap (λ (p : Contents). byte_of p place) same ∙ is in cc)
some_by first more piece place byte None here (inr in_more) is later = later in_more

-- where a fragment has a byte there is one
pub some_byte : (pieces : List Contents) (piece : Contents) (place byte : ℕ) → Contains pieces piece → byte_of piece place ≡ Some byte → (x : ℕ) × (byte_at pieces place ≡ Some x)
some_byte [] piece place byte in_pieces is = absurd (contains_none piece in_pieces)
some_byte (first ∷ more) piece place byte in_pieces is = some_by first more piece place byte (byte_of first place) refl (contains_parts first more piece in_pieces) is (λ later. some_byte more piece place byte later is)

-- ---- what is known

pub length-known : (pieces : List Contents) → length (known pieces) ≡ whole_length pieces
unfolding known
length-known pieces = length_map_below (byte_at pieces) (whole_length pieces)

pub get_known : (pieces : List Contents) (place : ℕ) → place < whole_length pieces → slice_get (known pieces) place ≡ Some (byte_at pieces place)
unfolding known
get_known pieces place within = get_map_below (byte_at pieces) (whole_length pieces) place within

-- ---- no byte differs

same_or_next : (known : Option ℕ) (place given : ℕ) (next : Option AddFault) → clash_with known place given next ≡ None → ((kept : ℕ) → known ≡ Some kept → kept ≡ given) × (next ≡ None)
same_or_next None place given next is = (λ kept e. absurd cc, is)
same_or_next (Some kept) place given next is = by_test (eqb kept given) refl is
  where
    by_test : (b : Bool) → eqb kept given ≡ b → cond b next (Some (Disagree place kept given)) ≡ None → ((found : ℕ) → Some kept ≡ Some found → found ≡ given) × (next ≡ None)
    by_test true test e = (λ found same. let is_kept : kept ≡ found = cc in sym is_kept ∙ eqb-true kept given test, e)
    by_test false test e = absurd cc

pub clash_free : (known : List (Option ℕ)) (place : ℕ) (piece : List ℕ) → clash_from known place piece ≡ None → (j given kept : ℕ) → slice_get piece j ≡ Some given → option_flatten (slice_get known (place + j)) ≡ Some kept → kept ≡ given
clash_free known place [] free j given kept here there = absurd cc
clash_free known place (first ∷ more) free zero given kept here there =
    let parts = same_or_next (option_flatten (slice_get known place)) place first (clash_from known (place + 1) more) free in
    let at : place + 0 ≡ place = omega arith in
    let is : first ≡ given = cc in
    parts.0 kept (ap (λ (n : ℕ). option_flatten (slice_get known n)) (sym at) ∙ there) ∙ is
clash_free known place (first ∷ more) free (suc j) given kept here there =
    let parts = same_or_next (option_flatten (slice_get known place)) place first (clash_from known (place + 1) more) free in
    let at : place + 1 + j ≡ place + suc j = omega arith in
    clash_free known (place + 1) more parts.1 j given kept here (ap (λ (n : ℕ). option_flatten (slice_get known n)) at ∙ there)
