-- The secured bundle of a plan that isn't refused, in five steps, of which Left has the first two: RFC 9172, section 3; RFC 9173, sections 3.8 and 4.8. Where
-- the new blocks stand is this project's own.
use Rattle.std.specs.Prelude.{ℕ, pos, ◌==◌, ◌&&◌, Bool, if◌then◌else◌, List, [], ◌++◌, map, find, Option, Some, None}
use Rattle.bp_primary.specs.declared.primary.Primary.{Primary}
use Rattle.bp_blocks.specs.declared.block.Block.{Block}
use Rattle.bp_bundle.specs.Shape.{Contents}
use Rattle.aes_core.specs.Cipher.{cipher}
use Rattle.gcm_core.specs.Gcm.{ciphered, tag_of}
use Rattle.hmac_core.specs.Hmac.{hmac}
use Rattle.sha2.specs.Sha256.{sha256}
use Rattle.sha2.specs.Sha512.{sha384, sha512}
use Rattle.bpsec_asb.specs.declared.asb.Pair.{Pair}
use Rattle.bpsec_asb.specs.declared.asb.Asb.{Asb}
use Rattle.bpsec_asb.specs.SecurityBlock.{spelling}
use Rattle.bpsec_scope.specs.declared.header.Header.{Header}
use Rattle.bpsec_scope.specs.Target.{Sealed}
use Rattle.bpsec_scope.specs.Parts.{Parts}
use Rattle.bpsec_scope.specs.Covered.{scoped, ippt, aad}
use Rattle.bpsec_context.specs.Calls.{Protected, only_tag}
use Rattle.bpsec_policy.specs.declared.ring.NamedKey.{NamedKey}
use Rattle.bpsec_plan.specs.declared.item.Cover.{Cover}
use Rattle.bpsec_plan.specs.declared.item.Item.{Item}
use Rattle.bpsec_plan.specs.declared.item.Item.TheVariants.{Bib, Bcb, Split}
use Rattle.bpsec_facts.specs.Items.{targets_of, is_cipher, is_in}
use Rattle.bpsec_facts.specs.Bibs.{shown_at}
use Rattle.bpsec_facts.specs.Refusal.{block_at, words_of}
use Rattle.bpsec_facts.specs.Left.{flags_of, key_of_cover}
use Rattle.bpsec_secure.specs.Parameters.{integrity_parameters, cipher_parameters}
use Rattle.bpsec_facts.specs.Facts.{Facts}
use Rattle.bpsec_facts.specs.Left.{narrowed_body, primary_left, block_left, header_of, new_header, new_block, new_asb, signed_parts, before_last}

-- ---- step 4: each result of a bib item is the HMAC of the integrity-protected plaintext in that bundle (RFC 9173, section
-- ---- 3.7). The target is no security block, so its body is still that of the bundle; block 0 is the primary block.

-- the variants of section 3.3.1
abbrev pub hmac_of : ℕ → List ℕ → List ℕ → List ℕ
hmac_of variant key message =
    if variant == 5 then hmac sha256 64 key message else if variant == 6 then hmac sha384 128 key message else hmac sha512 128 key message

unfoldable pub code_of : List NamedKey → Cover → Parts → List ℕ
code_of ring cover parts = hmac_of cover.variant (key_of_cover ring cover) (ippt (scoped parts (flags_of cover)))

unfoldable pub signed_result : Facts → Item → Cover → ℕ → List Pair
signed_result facts item cover target =
    only_tag (code_of facts.ring cover (signed_parts (primary_left facts) (new_header item) (block_at facts.blocks target)))

unfoldable pub signed_asb : Facts → Item → Cover → Asb
signed_asb facts item cover =
    new_asb (pos 1) cover (integrity_parameters facts.ring cover) (map (signed_result facts item cover) cover.targets)

-- the body of a new block before anything is sealed; that of a bcb item is made in step 5
abbrev pub plain_body : Facts → Item → List ℕ
plain_body facts (Bib cover) = spelling (signed_asb facts (Bib cover) cover)
plain_body facts (Bcb cover iv shared_iv tag_in_body) = []
plain_body facts (Split split) = narrowed_body split.targets (shown_at facts.shown split.from)

unfoldable pub plain_block : Facts → Item → Block
plain_block facts item = new_block facts item (plain_body facts item)

-- ---- step 5: each target of a bcb item is sealed by AES-GCM with the additional authenticated data in that bundle (RFC 9173,
-- ---- section 4.7); a block integrity block as spelled with its results

abbrev pub sealed_parts : Primary → Header → Header → Parts
sealed_parts primary header target = record { target = Sealed; primary = primary; target_header = Some target; security_header = header }

-- AES under the working key (section 4.3.2)
abbrev pub block_cipher : List NamedKey → Cover → List ℕ → List ℕ
block_cipher ring cover = cipher (words_of cover.variant) (key_of_cover ring cover)

-- the ciphertext of a body and its tag
unfoldable pub protected : List NamedKey → Cover → List ℕ → Parts → List ℕ → Protected
protected ring cover vector parts body =
    let ciphertext = ciphered (block_cipher ring cover) vector body in
    record {
      ciphertext = ciphertext;
      tag = tag_of (block_cipher ring cover) vector (aad (scoped parts (flags_of cover))) ciphertext;
    }

-- the bcb item that has the block of this number as a target
abbrev pub seals : ℕ → Item → Bool
seals number item = is_cipher item && is_in (targets_of item) number

abbrev pub sealing_item : Facts → Block → Option Item
sealing_item facts block = find (seals block.number) facts.items

-- the body as it stands in the bundle: with the tag behind it, where the item says so (that is this project's own)
abbrev pub with_tag : Bool → Protected → List ℕ
with_tag tag_in_body made = if tag_in_body then made.ciphertext ++ made.tag else made.ciphertext

-- a body after an item that seals it, and its tag
abbrev pub body_sealed : Facts → Item → Header → List ℕ → List ℕ
body_sealed facts (Bib cover) target body = body
body_sealed facts (Bcb cover iv shared_iv tag_in_body) target body =
    with_tag tag_in_body (protected facts.ring cover iv (sealed_parts (primary_left facts) (new_header (Bcb cover iv shared_iv tag_in_body)) target) body)
body_sealed facts (Split split) target body = body

abbrev pub body_tag : Facts → Item → Header → List ℕ → List ℕ
body_tag facts (Bib cover) target body = []
body_tag facts (Bcb cover iv shared_iv tag_in_body) target body =
    (protected facts.ring cover iv (sealed_parts (primary_left facts) (new_header (Bcb cover iv shared_iv tag_in_body)) target) body).tag
body_tag facts (Split split) target body = []

abbrev pub sealed_by : Facts → Option Item → Block → List ℕ
sealed_by facts None block = block.body
sealed_by facts (Some item) block = body_sealed facts item (header_of block) block.body

abbrev pub tag_by : Facts → Option Item → Block → List ℕ
tag_by facts None block = []
tag_by facts (Some item) block = body_tag facts item (header_of block) block.body

-- a block with its body sealed, where an item seals it
unfoldable pub sealed : Facts → Block → Block
sealed facts block = record block { body = sealed_by facts (sealing_item facts block) block }

unfoldable pub tag_over : Facts → Block → List ℕ
tag_over facts block = tag_by facts (sealing_item facts block) block

-- all blocks before anything is sealed
unfoldable pub plain_blocks : Facts → List Block
plain_blocks facts = map (block_left facts) facts.blocks ++ map (plain_block facts) facts.items

abbrev pub tag_from : Facts → Option Block → List ℕ
tag_from facts None = []
tag_from facts (Some block) = tag_over facts block

-- The entry of a target: the tag, or nothing where it stands in the body.
unfoldable pub sealed_result : Facts → Bool → ℕ → List Pair
sealed_result facts tag_in_body target =
    if tag_in_body then [] else only_tag (tag_from facts (block_at (plain_blocks facts) target))

unfoldable pub sealed_asb : Facts → Cover → List ℕ → Bool → Asb
sealed_asb facts cover vector tag_in_body =
    new_asb (pos 2) cover (cipher_parameters facts.ring cover vector) (map (sealed_result facts tag_in_body) cover.targets)

-- the new block of an item
abbrev pub finished : Facts → Item → Block → Block
finished facts (Bib cover) block = block
finished facts (Bcb cover iv shared_iv tag_in_body) block = record block { body = spelling (sealed_asb facts cover iv tag_in_body) }
finished facts (Split split) block = block

unfoldable pub added : Facts → Item → Block
added facts item = finished facts item (sealed facts (plain_block facts item))

-- ---- the whole: new blocks stand before the payload block, in the plan's order

unfoldable pub kept : Facts → Block → Block
kept facts block = sealed facts (block_left facts block)

unfoldable pub secured : Facts → Contents
secured facts = record {
  primary = primary_left facts;
  blocks = before_last (map (kept facts) facts.blocks) (map (added facts) facts.items);
}
