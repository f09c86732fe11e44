-- What the calls of contexts and suites are given, and what they return.
use Rattle.std.specs.Prelude.{◌≡◌, ◌≢◌, ℕ, ◌^◌, ◌≤◌, ◌⊎◌, List, [], ◌∷◌, length, take, Option, Result, Ok, Err, All}
use Rattle.std.specs.Option.{ForSome}
use Rattle.cbor_profile.specs.Put.{byte_string}
use Rattle.bpsec_asb.specs.declared.asb.Pair.{Pair}
use Rattle.bpsec_context.specs.declared.judgement.MissetReason.{MissetReason}
use Rattle.bpsec_context.specs.declared.judgement.MissetReason.TheVariants.{UnknownContext, OtherService, BadParameter, BadResult, NoKey, KeyLength, UnwrapRefused}

-- a ciphertext and its tag
pub record Protected : Type 0 where
  pub ciphertext : List ℕ
  pub tag : List ℕ

-- a key, where there is one, has at most 2^32 bytes
abbrev pub IsShort : Option (List ℕ) → Type 0
IsShort key = ForSome key (λ bytes. length bytes ≤ 2 ^ 32)

-- the one result [1, tag]
abbrev pub only_tag : List ℕ → List Pair
only_tag tag = record { id = 1; value = byte_string tag } ∷ []

-- no result of id 1
abbrev pub NoTag : List Pair → Type 0
NoTag results = All (λ pair. pair.id ≢ 1) results

-- What signing returned: the tag stands at the front of the array, or the reason is that of the definition.
abbrev pub Signs : Result ℕ MissetReason → List ℕ → Result (List ℕ) MissetReason → Type 0
Signs (Ok len) tag signed = (len ≤ 64) × (signed ≡ Ok (take len tag))
Signs (Err reason) tag signed = signed ≡ Err reason

-- What sealing returned: the body is the ciphertext and the tag stands at the front of the array, or the reason is that of
-- the definition and the body stays.
abbrev pub Seals : Result ℕ MissetReason → List ℕ → List ℕ → List ℕ → Result Protected MissetReason → Type 0
Seals (Ok len) old new tag sealed = (len ≤ 64) × (sealed ≡ Ok (record { ciphertext = new; tag = take len tag }))
Seals (Err reason) old new tag sealed = (sealed ≡ Err reason) × (new ≡ old)

-- the reasons that a context gives
abbrev pub IsContextReason : MissetReason → Type 0
IsContextReason reason =
    (reason ≡ BadParameter) ⊎ (reason ≡ BadResult) ⊎ (reason ≡ NoKey) ⊎ (reason ≡ KeyLength) ⊎ (reason ≡ UnwrapRefused)

-- the reasons that a suite gives
abbrev pub IsSuiteReason : MissetReason → Type 0
IsSuiteReason reason = (reason ≡ UnknownContext) ⊎ (reason ≡ OtherService) ⊎ IsContextReason reason
