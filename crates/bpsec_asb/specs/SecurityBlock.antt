-- Abstract security blocks: RFC 9172, section 3.6. The limits on how many targets, parameters and results there are, and
-- that an id of a security context has 64 bits, are this profile's.
use Rattle.std.specs.Prelude.{◌≡◌, ◌≢◌, ℕ, ◌%◌, ◌^◌, ◌<◌, ◌≤◌, Bool, ◌==◌, List, [], ◌++◌, length, Option, Some, None, is_some, All, AllPairs, FitsSigned}
use Rattle.std.specs.Int.{w64}
use Rattle.std.specs.List.{flat_map}
use Rattle.std.specs.Option.{ForSome}
use Rattle.cbor_profile.specs.Put.{uint, int, array_head}
use Rattle.cbor_profile.specs.Item.{IsItem, most_levels}
use Rattle.bp_eid.specs.EndpointId as ids
use Rattle.bpsec_asb.specs.declared.asb.Pair.{Pair}
use Rattle.bpsec_asb.specs.declared.asb.Asb.{Asb}

-- ---- spelling

-- an array: its head, and its items one after the other
abbrev pub array : {A : Type 0} → (A → List ℕ) → List A → List ℕ
array item items = array_head (length items) ++ flat_map item items

-- a parameter or a result: an array of its id and its value
unfoldable pub pair : Pair → List ℕ
pair p = array_head 2 ++ (uint p.id ++ p.value)

abbrev pub pairs : List Pair → List ℕ
pairs = array pair

-- the parameters, where there are some
abbrev pub parameters_item : Option (List Pair) → List ℕ
parameters_item None = []
parameters_item (Some parameters) = pairs parameters

-- The fields one after the other, without an array around them: targets, id of the security context, security context
-- flags, security source, parameters where there are some, and for each target an array of its results.
unfoldable pub spelling : Asb → List ℕ
spelling asb =
    array uint asb.targets
    ++ (int asb.context
    ++ (uint asb.flags
    ++ (ids.spelling asb.source
    ++ (parameters_item asb.parameters
    ++ array pairs asb.results))))

-- ---- what has a spelling

-- a value is one CBOR item
pub record IsPair (p : Pair) : Type 0 where
  pub id : p.id < 2 ^ 64
  pub value : IsItem most_levels p.value

-- at most 16 parameters, or results of one target
abbrev pub ArePairs : List Pair → Type 0
ArePairs ps = (length ps ≤ 16) × All IsPair ps

-- bit 0 of the flags: there are parameters
abbrev pub has_parameters : ℕ → Bool
has_parameters flags = flags % 2 == 1

pub record IsSecurityBlock (asb : Asb) : Type 0 where
  pub some_target : 1 ≤ length asb.targets
  pub most_targets : length asb.targets ≤ 64
  pub targets : All (λ target. target < 2 ^ 64) asb.targets
  pub distinct : AllPairs ◌≢◌ asb.targets
  pub context : FitsSigned w64 asb.context
  pub flags : asb.flags < 2 ^ 64
  pub source : ids.Fits asb.source
  pub parameters_flag : is_some asb.parameters ≡ has_parameters asb.flags
  pub parameters : ForSome asb.parameters ArePairs
  pub result_of_each : length asb.results ≡ length asb.targets
  pub results : All ArePairs asb.results

-- the body is the spelling of this security block
abbrev pub Reads : List ℕ → Asb → Type 0
Reads body asb = IsSecurityBlock asb × (body ≡ spelling asb)
