-- What a plan leaves of the blocks of a bundle (RFC 9172, section 3; RFC 9173, sections 3.8 and 4.8), and what its new blocks are made
-- of. Where the new blocks stand is this project's own.
use Rattle.std.specs.Prelude.{ℕ, ℤ, ◌-◌, ◌%◌, ◌^◌, ◌≤◌, ◌==◌, nat_lt, All, Bool, false, if◌then◌else◌, List, [], ◌++◌, length, take, drop, map, slice_get, Option, Some, None, unwrap_or}
use Rattle.std.specs.List.{list_any, position}
use Rattle.std.specs.Option.{option_and_then}
use Rattle.cbor_profile.specs.declared.TheConstants.{BUNDLE_LIMIT}
use Rattle.cbor_profile.specs.Put.{uint, byte_string}
use Rattle.bp_crc.specs.declared.kind.CheckKind.{CheckKind}
use Rattle.bp_crc.specs.declared.kind.CheckKind.TheVariants as checks
use Rattle.bp_primary.specs.declared.primary.Primary.{Primary}
use Rattle.bp_blocks.specs.declared.block.Block.{Block}
use Rattle.bpsec_asb.specs.declared.asb.Pair.{Pair}
use Rattle.bpsec_asb.specs.declared.asb.Asb.{Asb}
use Rattle.bpsec_asb.specs.SecurityBlock.{spelling}
use Rattle.bpsec_scope.specs.declared.header.Header.{Header}
use Rattle.bpsec_scope.specs.Target.{PrimaryBlock, Body}
use Rattle.bpsec_scope.specs.Parts.{Parts}
use Rattle.bpsec_policy.specs.declared.ring.NamedKey.{NamedKey}
use Rattle.bpsec_plan.specs.declared.item.Cover.{Cover}
use Rattle.bpsec_plan.specs.declared.item.Item.{Item}
use Rattle.bpsec_plan.specs.declared.item.Item.TheVariants.{Bib, Bcb, Split}
use Rattle.bpsec_facts.specs.declared.bibs.ShownBib.{ShownBib}
use Rattle.bpsec_facts.specs.Items.{block_number, block_kind, block_flags, block_check, is_target}
use Rattle.bpsec_facts.specs.Bibs.{shown_at, left_of}
use Rattle.bpsec_facts.specs.Refusal.{key_named}
use Rattle.bpsec_facts.specs.Facts.{Facts}

-- ---- step 1: each split moves the named targets with their results out of `from` into a new block integrity block, in the
-- ---- order of the item's targets; the rest keeps its order. No target moves twice, so the order of splits doesn't matter.

-- the results of a target
unfoldable pub results_for : Asb → ℕ → List Pair
results_for asb target =
    unwrap_or (option_and_then (slice_get asb.results) (position (λ listed. listed == target) asb.targets)) []

-- The security block with these of its targets, each with its results. All else stays.
unfoldable pub narrowed : Asb → List ℕ → Asb
narrowed asb targets = record asb { targets = targets; results = map (results_for asb) targets }

abbrev pub narrowed_body : List ℕ → Option ShownBib → List ℕ
narrowed_body targets None = []
narrowed_body targets (Some bib) = spelling (narrowed bib.asb targets)

abbrev pub splits_from : ℕ → Item → Bool
splits_from number (Bib cover) = false
splits_from number (Bcb cover iv shared_iv tag_in_body) = false
splits_from number (Split split) = split.from == number

-- what splits leave in the body of a block
abbrev pub left_in : List Item → Option ShownBib → List ℕ → List ℕ
left_in items None body = body
left_in items (Some bib) body = spelling (narrowed bib.asb (left_of items bib.number bib.asb.targets))

unfoldable pub body_left : Facts → Block → List ℕ
body_left facts block =
    if list_any (splits_from block.number) facts.items then left_in facts.items (shown_at facts.shown block.number) block.body
    else block.body

-- ---- step 2: the targets of bib and bcb items lose their checks

abbrev pub check_left : List Item → ℕ → CheckKind → CheckKind
check_left items number check = if is_target items number then checks.None else check

unfoldable pub primary_left : Facts → Primary
primary_left facts = record facts.primary { crc = check_left facts.items 0 facts.primary.crc }

-- a block of the bundle after both steps
unfoldable pub block_left : Facts → Block → Block
block_left facts block = record {
  kind = block.kind;
  number = block.number;
  flags = block.flags;
  crc = check_left facts.items block.number block.crc;
  body = body_left facts block;
}

-- ---- step 3: the new blocks, and their security blocks without results

abbrev pub header_of : Block → Header
header_of block = record { kind = block.kind; number = block.number; flags = block.flags }

abbrev pub new_header : Item → Header
new_header item = record { kind = block_kind item; number = block_number item; flags = block_flags item }

unfoldable pub new_block : Facts → Item → List ℕ → Block
new_block facts item body = record {
  kind = block_kind item;
  number = block_number item;
  flags = block_flags item;
  crc = check_left facts.items (block_number item) (block_check item);
  body = body;
}

-- of the context with this id, with parameters
abbrev pub new_asb : ℤ → Cover → List Pair → List (List Pair) → Asb
new_asb context cover parameters results = record {
  targets = cover.targets;
  context = context;
  flags = 1;
  source = cover.source;
  parameters = Some parameters;
  results = results;
}

-- ---- what a code covers in that bundle; block 0 is the primary block

abbrev pub signed_parts : Primary → Header → Option Block → Parts
signed_parts primary header None = record { target = PrimaryBlock; primary = primary; target_header = None; security_header = header }
signed_parts primary header (Some block) = record { target = Body block.body; primary = primary; target_header = Some (header_of block); security_header = header }

-- new blocks stand before the payload block, in the plan's order
abbrev pub before_last : {A : Type 0} → List A → List A → List A
before_last blocks new = take (length blocks - 1) blocks ++ (new ++ drop (length blocks - 1) blocks)

-- ---- what items say of keys, scopes and values

-- the working key
abbrev pub key_of_cover : List NamedKey → Cover → List ℕ
key_of_cover ring cover = key_named ring cover.key

-- the scope flags that have a meaning (RFC 9173, sections 3.3.3 and 4.3.4)
abbrev pub flags_of : Cover → ℕ
flags_of cover = cover.scope % 8

abbrev pub number_pair : ℕ → ℕ → Pair
number_pair id number = record { id = id; value = uint number }

abbrev pub bytes_pair : ℕ → List ℕ → Pair
bytes_pair id bytes = record { id = id; value = byte_string bytes }

-- ---- sizes

-- a body that alone is longer than a bundle may be
abbrev pub is_long : Block → Bool
is_long block = nat_lt BUNDLE_LIMIT (length block.body)

-- bodies that the contexts take
abbrev pub AreShort : List Block → Type 0
AreShort blocks = All (λ block. length block.body ≤ 2 ^ 32) blocks
