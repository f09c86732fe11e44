-- What a list of parameters or results says of an id.
use Rattle.std.specs.Prelude.{ℕ, ◌%◌, Bool, true, false, ◌==◌, ◌&&◌, nat_le, nat_lt, if◌then◌else◌, List, length, count_by, find, option_map, Option, Some, None, Result, Ok, Err}
use Rattle.bpsec_asb.specs.declared.asb.Pair.{Pair}
use Rattle.bpsec_context.specs.declared.pairs.Malformed.{Malformed}
use Rattle.bpsec_context.specs.declared.pairs.Lengths.{Lengths}
use Rattle.bpsec_context.specs.Values.{content_of}

abbrev pub has_id : ℕ → Pair → Bool
has_id id pair = pair.id == id

-- ---- how an id stands in a list: not at all, or with a value that is read so; malformed where it stands twice, or its
-- value isn't read so

abbrev pub Given : Type 0 → Type 0
Given A = Result (Option A) Malformed

-- its value, as it is
unfoldable pub value_at : ℕ → List Pair → Given (List ℕ)
value_at id pairs = if nat_lt 1 (count_by (has_id id) pairs) then Err (record {}) else Ok (option_map (λ pair. pair.value) (find (has_id id) pairs))

abbrev pub well_formed : {A : Type 0} → Option A → Given A
well_formed None = Err (record {})
well_formed (Some value) = Ok (Some value)

abbrev pub read_by : {A : Type 0} → (List ℕ → Option A) → Given (List ℕ) → Given A
read_by read (Ok None) = Ok None
read_by read (Ok (Some value)) = well_formed (read value)
read_by read (Err e) = Err e

-- its value, as it is read
abbrev pub given : {A : Type 0} → (List ℕ → Option A) → ℕ → List Pair → Given A
given read id pairs = read_by read (value_at id pairs)

-- ---- what is made of it

abbrev pub is_malformed : {A : Type 0} → Given A → Bool
is_malformed (Ok value) = false
is_malformed (Err e) = true

-- the value, where there is one
abbrev pub value_of : {A : Type 0} → Given A → Option A
value_of (Ok value) = value
value_of (Err e) = None

-- the value, or this where there is none
abbrev pub value_or : {A : Type 0} → A → Given A → A
value_or default (Ok (Some value)) = value
value_or default (Ok None) = default
value_or default (Err e) = default

-- one stands there
abbrev pub is_given : {A : Type 0} → Given A → Bool
is_given (Ok (Some value)) = true
is_given (Ok None) = false
is_given (Err e) = false

-- ---- byte strings of certain lengths

-- from `least` to `most` bytes, in whole groups
abbrev pub has_length : Lengths → ℕ → Bool
has_length lengths n = nat_le lengths.least n && (nat_le n lengths.most && (n % lengths.group == 0))

abbrev pub where_fits : Lengths → Option (List ℕ) → Option (List ℕ)
where_fits lengths None = None
where_fits lengths (Some content) = if has_length lengths (length content) then Some content else None

abbrev pub bytes_of : Lengths → List ℕ → Option (List ℕ)
bytes_of lengths value = where_fits lengths (content_of value)

-- exactly so many bytes
abbrev pub exactly : ℕ → Lengths
exactly n = record { least = n; most = n; group = 1 }

-- an initialisation vector of AES-GCM: 8 to 16 bytes
abbrev pub vector_lengths : Lengths
vector_lengths = record { least = 8; most = 16; group = 1 }

-- a wrapped key: 24 to 72 bytes, in whole groups of 8 (RFC 3394, for keys of 16 to 64 bytes)
abbrev pub wrapped_lengths : Lengths
wrapped_lengths = record { least = 24; most = 72; group = 8 }

abbrev pub wrapped_key : List ℕ → Option (List ℕ)
wrapped_key value = bytes_of wrapped_lengths value
