-- A bundle with a code of AES-CMAC added (RFC 9172, section 3.7; RFC 4493): the reasons against it, and the bundle. Both are
-- those of a plan whose one item is a block integrity block on that target, but for the key's length and what the new block
-- says.
use Rattle.std.specs.Prelude.{ℕ, negsuc, if◌then◌else◌, List, [], ◌∷◌, map, Option, Some, None}
use Rattle.aes_core.specs.Cipher.{cipher}
use Rattle.cmac_core.specs.Cmac.{cmac}
use Rattle.bp_crc.specs.declared.kind.CheckKind.TheVariants as checks
use Rattle.bp_primary.specs.Flags.{is_fragment}
use Rattle.bp_blocks.specs.declared.block.Block.{Block}
use Rattle.bp_bundle.specs.Shape.{Contents}
use Rattle.bpsec_asb.specs.declared.asb.Pair.{Pair}
use Rattle.bpsec_asb.specs.declared.asb.Asb.{Asb}
use Rattle.bpsec_asb.specs.SecurityBlock.{spelling}
use Rattle.bpsec_scope.specs.Parts.{Parts}
use Rattle.bpsec_scope.specs.Covered.{scoped, ippt}
use Rattle.bpsec_context.specs.Calls.{only_tag}
use Rattle.bpsec_cmac.specs.Integrity.{wrong_length}
use Rattle.bpsec_policy.specs.declared.ring.NamedKey.{NamedKey}
use Rattle.bpsec_plan.specs.declared.item.Cover.{Cover}
use Rattle.bpsec_plan.specs.declared.item.Item.{Item}
use Rattle.bpsec_plan.specs.declared.item.Item.TheVariants.{Bib}
use Rattle.bpsec_facts.specs.declared.reason.PlanReason.{PlanReason}
use Rattle.bpsec_facts.specs.declared.reason.PlanReason.TheVariants as reasons
use Rattle.bpsec_facts.specs.declared.reason.Refusal.{Refusal}
use Rattle.bpsec_facts.specs.Facts.{Facts, facts_of}
use Rattle.bpsec_facts.specs.Refusal.{at_or, block_at, first_of, nowhere, too_many, unreadable}
use Rattle.bpsec_facts.specs.Left.{before_last, block_left, flags_of, key_of_cover, new_asb, new_block}
use Rattle.bpsec_facts.specs.Left.{new_header, number_pair, primary_left, signed_parts}
use Rattle.bpsec_facts.specs.Answer.{long_refusal, or_next}
use Rattle.bpsec_mac.specs.declared.item.MacItem.{MacItem}

-- ---- the item of a plan that it is read for; no reason looks at its variant

abbrev pub cover_of : MacItem → Cover
cover_of item = record {
  block = item.block;
  flags = 0;
  crc = checks.None;
  targets = item.target ∷ [];
  source = item.source;
  key = item.key;
  wrapped_with = None;
  variant = 5;
  scope = item.scope;
}

-- what it meets in a bundle
unfoldable pub mac_facts : Contents → MacItem → List NamedKey → Facts
mac_facts bundle item ring = facts_of bundle (Bib (cover_of item) ∷ []) ring

-- ---- the reasons

-- those that a block integrity block may have before its key's length is looked at, and after that
abbrev pub before_length : List PlanReason
before_length =
    reasons.NoTarget ∷ reasons.TargetForbidden ∷ reasons.AlreadyThere ∷ reasons.UnderCipher
    ∷ reasons.NumberTaken ∷ reasons.NoKey ∷ []

abbrev pub after_length : List PlanReason
after_length = reasons.PrimaryCovered ∷ []

-- KeyLength: the key isn't one of AES-128
abbrev pub length_or : List ℕ → Option Refusal → Option Refusal
length_or key next =
    if wrong_length key then Some (record { reason = reasons.KeyLength; at = Some 0 }) else next

-- the first reason that holds before anything is made: all of them but TooLong
unfoldable pub early_refusal : Facts → Cover → Option Refusal
early_refusal facts cover =
    if is_fragment facts.primary.flags then Some (nowhere reasons.IsFragment)
    else at_or reasons.Unreadable (unreadable facts)
    (first_of facts before_length
    (length_or (key_of_cover facts.ring cover) (first_of facts after_length (too_many facts))))

-- ---- the bundle: checks are left and the new block stands as those of plans do

-- the one parameter: the scope flags that have a meaning
abbrev pub mac_parameters : Cover → List Pair
mac_parameters cover = number_pair 3 (flags_of cover) ∷ []

-- the AES-CMAC of the integrity-protected plaintext (RFC 9173, section 3.7) in that bundle
unfoldable pub code_of : List NamedKey → Cover → Parts → List ℕ
code_of ring cover parts = cmac (cipher 4 (key_of_cover ring cover)) (ippt (scoped parts (flags_of cover)))

abbrev pub parts_of_target : Facts → Cover → ℕ → Parts
parts_of_target facts cover target =
    signed_parts (primary_left facts) (new_header (Bib cover)) (block_at facts.blocks target)

unfoldable pub mac_asb : Facts → Cover → ℕ → Asb
mac_asb facts cover target =
    new_asb (negsuc 0) cover (mac_parameters cover)
    (only_tag (code_of facts.ring cover (parts_of_target facts cover target)) ∷ [])

unfoldable pub mac_block : Facts → Cover → ℕ → Block
mac_block facts cover target = new_block facts (Bib cover) (spelling (mac_asb facts cover target))

unfoldable pub with_mac : Facts → Cover → ℕ → Contents
with_mac facts cover target = record {
  primary = primary_left facts;
  blocks = before_last (map (block_left facts) facts.blocks) (mac_block facts cover target ∷ []);
}

-- ---- what is answered

-- the first reason that holds, and where
unfoldable pub refusal : Contents → MacItem → List NamedKey → Option Refusal
refusal bundle item ring =
    let facts = mac_facts bundle item ring in
    or_next (early_refusal facts (cover_of item)) (long_refusal (with_mac facts (cover_of item) item.target))

-- the bundle with the code
unfoldable pub mac_bundle : Contents → MacItem → List NamedKey → Contents
mac_bundle bundle item ring = with_mac (mac_facts bundle item ring) (cover_of item) item.target
