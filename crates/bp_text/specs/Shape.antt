-- The shape of an object: which keys it may have, and of which kind their values are.
use Rattle.std.specs.Prelude.{ℕ, Bool, true, false, not, ◌==◌, ◌&&◌, nat_le, List, [], ◌∷◌, length, Option, Some, None, option_map, unwrap_or, is_some, option_and_then}
use Rattle.std.specs.List.{list_any, list_all}
use Rattle.std.specs.Str.{bytes_eq}
use Rattle.serde_json.specs.Data.{Data, Members, no_members, member}
use Rattle.serde_json.specs.Find.{get, as_bool, as_number, as_str, as_object, as_u64, as_i64}
use Rattle.bp_text.specs.declared.shape.Kind.{Kind}
use Rattle.bp_text.specs.declared.shape.Kind.TheVariants.{Text, Name, Number, Signed, Flag, Object, Array, Distinct}
use Rattle.bp_text.specs.Tree.{values_of}

-- 1 to 64 visible characters (0x21 to 0x7e)
unfoldable pub is_name : List ℕ → Bool
is_name text = nat_le 1 (length text) && (nat_le (length text) 64 && list_all (λ b. nat_le 33 b && nat_le b 126) text)

-- none stands twice
abbrev pub are_distinct : List ℕ → Bool
are_distinct [] = true
are_distinct (n ∷ ns) = not (list_any (λ m. m == n) ns) && are_distinct ns

-- the whole number from 0 to 18446744073709551615 that a value is
abbrev pub whole : Data → Option ℕ
whole d = option_and_then as_u64 (as_number d)

-- the whole numbers among the values
abbrev pub wholes : List Data → List ℕ
wholes [] = []
wholes (d ∷ ds) = unwrap_or (option_map (λ n. n ∷ wholes ds) (whole d)) (wholes ds)

-- 1 to `most` whole numbers, none of which stands twice
abbrev pub are_distinct_wholes : ℕ → List Data → Bool
are_distinct_wholes most ds =
    nat_le 1 (length ds) && (nat_le (length ds) most
    && (list_all (λ d. is_some (whole d)) ds && are_distinct (wholes ds)))

-- what passes, if it is there
abbrev pub passes : {A : Type 0} → (A → Bool) → Option A → Bool
passes test None = false
passes test (Some x) = test x

-- whether the value is of the kind
unfoldable pub is_of : Kind → Data → Bool
is_of Text d = is_some (as_str d)
is_of Name d = passes is_name (as_str d)
is_of (Number most) d = passes (λ n. nat_le n most) (whole d)
is_of Signed d = is_some (option_and_then as_i64 (as_number d))
is_of Flag d = is_some (as_bool d)
is_of Object d = is_some (as_object d)
is_of (Array least) d = passes (λ ds. nat_le least (length ds)) (values_of d)
is_of (Distinct most) d = passes (are_distinct_wholes most) (values_of d)

-- the key is there, and its value is of the kind
unfoldable pub has : Kind → List ℕ → Data → Bool
has kind key tree = passes (is_of kind) (get key tree)

-- the key isn't there, or its value is of the kind
unfoldable pub may_have : Kind → List ℕ → Data → Bool
may_have kind key tree = unwrap_or (option_map (is_of kind) (get key tree)) true

abbrev pub is_listed : List (List ℕ) → List ℕ → Bool
is_listed keys key = list_any (λ k. bytes_eq k key) keys

abbrev pub all_listed : List (List ℕ) → Members → Bool
all_listed keys no_members = true
all_listed keys (member k d ms) = is_listed keys k && all_listed keys ms

-- an object that has no other keys than these
unfoldable pub has_only : List (List ℕ) → Data → Bool
has_only keys tree = passes (all_listed keys) (as_object tree)
