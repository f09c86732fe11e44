-- Arrays and objects beside what a contract sees of them.
use Rattle.std.proofs.Common.{◌≡◌, ℕ, Bool, ◌||◌, List, [], ◌∷◌, map, Option, Some, None, option_map, String, Global, Bor, string_bytes, refl, ap}
use Rattle.std.specs.Prelude.{◌++◌, unwrap_or}
use Rattle.std.specs.Option.{option_to_list}
use Rattle.std.specs.List.{list_any, list_all}
use Rattle.std.specs.Map.{keys_of}
use Rattle.std.specs.Str.{bytes_eq}
use Rattle.serde_json.specs.Data.{Data}
use Rattle.serde_json.specs.View.{view, items_of, items_view, members_view}
use Rattle.serde_json.specs.declared.value.Value.{Value}
use Rattle.bp_text.specs.Tree.{list_of}
use Rattle.bp_text.specs.Shape.{is_listed, all_listed, whole, wholes}

list_of-items_of : (ds : List Data) → list_of (items_of ds) ≡ ds
list_of-items_of [] = refl
list_of-items_of (d ∷ ds) = ap (λ (xs : List Data). d ∷ xs) (list_of-items_of ds)

pub list_of-items_view : (vs : List Value) → list_of (items_view vs) ≡ map view vs
list_of-items_view vs = list_of-items_of (map view vs)

pub list_any-map : {A B : Type 0} (f : A → B) (p : B → Bool) (xs : List A) → list_any p (map f xs) ≡ list_any (λ x. p (f x)) xs
list_any-map f p [] = refl
list_any-map f p (x ∷ xs) = ap (λ (b : Bool). p (f x) || b) (list_any-map f p xs)

listed : (keys : List (Bor (List ℕ))) (key : List ℕ) → is_listed (map (λ (k : Bor (List ℕ)). k.now) keys) key ≡ list_any (λ (k : Bor (List ℕ)). bytes_eq k.now key) keys
listed keys key = list_any-map (λ (k : Bor (List ℕ)). k.now) (λ k. bytes_eq k key) keys

pub all_listed-members_view : (keys : List (Bor (List ℕ))) (es : List (String Global × Value))
    → all_listed (map (λ (k : Bor (List ℕ)). k.now) keys) (members_view es) ≡ list_all (λ key. list_any (λ (k : Bor (List ℕ)). bytes_eq k.now (string_bytes key)) keys) (keys_of es)
all_listed-members_view keys [] = refl
all_listed-members_view keys (e ∷ es) = rw (listed keys (string_bytes e.0), all_listed-members_view keys es) refl

-- the whole numbers among these and one more value
pub wholes-append : (ds : List Data) (d : Data) → wholes (ds ++ d ∷ []) ≡ wholes ds ++ option_to_list (whole d)
wholes-append [] d = go (whole d)
  where
    go : (n : Option ℕ) → unwrap_or (option_map (λ m. m ∷ []) n) [] ≡ option_to_list n
    go None = refl
    go (Some n) = refl
wholes-append (e ∷ ds) d = go (whole e) (wholes-append ds d)
  where
    go : (n : Option ℕ) → wholes (ds ++ d ∷ []) ≡ wholes ds ++ option_to_list (whole d)
        → unwrap_or (option_map (λ m. m ∷ wholes (ds ++ d ∷ [])) n) (wholes (ds ++ d ∷ [])) ≡ unwrap_or (option_map (λ m. m ∷ wholes ds) n) (wholes ds) ++ option_to_list (whole d)
    go None others = others
    go (Some n) others = ap (λ (ns : List ℕ). n ∷ ns) others
