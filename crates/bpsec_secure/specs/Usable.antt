-- What is known of an item once no reason before `TooManyBlocks` holds.
use Rattle.std.specs.Prelude.{◌≡◌, ℕ, ◌*◌, ◌^◌, ◌≤◌, Bool, false, List, length, nat_lt, IsTrue, All}
use Rattle.cbor_profile.specs.declared.TheConstants.{BUNDLE_LIMIT}
use Rattle.bp_blocks.specs.declared.block.Block.{Block}
use Rattle.bpsec_policy.specs.declared.ring.NamedKey.{NamedKey}
use Rattle.bpsec_plan.specs.declared.item.Cover.{Cover}
use Rattle.bpsec_plan.specs.declared.item.Item.{Item}
use Rattle.bpsec_plan.specs.declared.item.Item.TheVariants.{Bib, Bcb, Split}
use Rattle.bpsec_plan.specs.Items.{is_integrity_variant, is_cipher_variant}
use Rattle.bpsec_facts.specs.Refusal.{words_of, cover_cannot_wrap}
use Rattle.bpsec_facts.specs.Left.{key_of_cover}

-- a key of a ring, which wraps or is wrapped where it must
pub record HasKeys (ring : List NamedKey) (cover : Cover) : Type 0 where
  pub short : length (key_of_cover ring cover) ≤ 64
  pub wraps : cover_cannot_wrap ring cover ≡ false

pub record Signs (ring : List NamedKey) (cover : Cover) : Type 0 where
  pub keys : HasKeys ring cover
  pub variant : IsTrue (is_integrity_variant cover.variant)

pub record Ciphers (ring : List NamedKey) (cover : Cover) (vector : List ℕ) : Type 0 where
  pub keys : HasKeys ring cover
  pub variant : IsTrue (is_cipher_variant cover.variant)
  pub key : length (key_of_cover ring cover) ≡ 4 * words_of cover.variant
  pub at_least : 8 ≤ length vector
  pub at_most : length vector ≤ 16

abbrev pub IsUsable : List NamedKey → Item → Type 0
IsUsable ring (Bib cover) = Signs ring cover
IsUsable ring (Bcb cover iv shared_iv tag_in_body) = Ciphers ring cover iv
IsUsable ring (Split split) = Unit {0}
