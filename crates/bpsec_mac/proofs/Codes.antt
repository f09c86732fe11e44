-- Signing with the parameters of the new block gives its code.
use Rattle.std.proofs.Common.{◌≡◌, ℕ, ◌<◌, List, [], ◌∷◌, length, refl, eq-eqb, arith}
use Rattle.std.specs.Prelude.{Some, Result, Ok}
use Rattle.cbor_profile.specs.Put.{uint}
use Rattle.aes_core.specs.Cipher.{cipher}
use Rattle.cmac_core.specs.Cmac.{cmac}
use Rattle.bpsec_scope.specs.Parts.{Parts}
use Rattle.bpsec_scope.specs.Covered.{scoped, ippt}
use Rattle.bpsec_context.specs.declared.judgement.MissetReason.{MissetReason}
use Rattle.bpsec_context.specs.Pairs.{value_at}
use Rattle.bpsec_cmac.specs.Integrity.{flags_given, signed, tag_of}
use Rattle.bpsec_policy.specs.declared.ring.NamedKey.{NamedKey}
use Rattle.bpsec_plan.specs.declared.item.Cover.{Cover}
use Rattle.bpsec_facts.specs.Left.{flags_of, key_of_cover, number_pair}
use Rattle.bpsec_facts.proofs.Numbers.{NumbersAgain, number_given}
use Rattle.bpsec_mac.specs.Mac.{code_of, mac_parameters}

flags_at : (flags : ℕ) → value_at 3 (number_pair 3 flags ∷ []) ≡ Ok (Some (uint flags))
unfolding value_at
flags_at flags = refl

flags_are : NumbersAgain → (flags : ℕ) → flags < 8 → flags_given (number_pair 3 flags ∷ []) ≡ Ok (Some flags)
flags_are law flags small = number_given law 3 flags (number_pair 3 flags ∷ []) (omega arith) (flags_at flags)

signs : NumbersAgain → (key : List ℕ) (flags : ℕ) (parts : Parts) → length key ≡ 16 → flags < 8
    → signed key (number_pair 3 flags ∷ []) parts ≡ Ok (cmac (cipher 4 key) (ippt (scoped parts flags)))
unfolding signed tag_of
signs law key flags parts long small =
    rw (flags_are law flags small, eq-eqb (length key) 16 long) refl

pub signs_cover : NumbersAgain → (ring : List NamedKey) (cover : Cover) (parts : Parts)
    → length (key_of_cover ring cover) ≡ 16
    → signed (key_of_cover ring cover) (mac_parameters cover) parts ≡ Ok (code_of ring cover parts)
unfolding code_of
signs_cover law ring cover parts long =
    signs law (key_of_cover ring cover) (flags_of cover) parts long (omega arith)

pub same_code : (made : Result (List ℕ) MissetReason) (one other : List ℕ) → made ≡ Ok one → made ≡ Ok other → one ≡ other
same_code made one other is is' = cc
