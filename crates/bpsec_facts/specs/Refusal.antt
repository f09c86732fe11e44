-- When a plan is refused. The order of the reasons is this project's own; each names where its rule comes from.
use Rattle.std.specs.Prelude.{ℕ, ◌+◌, ◌*◌, ◌%◌, Bool, true, false, not, ◌==◌, ◌&&◌, ◌||◌, nat_lt, nat_le, if◌then◌else◌, List, [], ◌∷◌, ◌++◌, length, map, filter, fold, find, min, Option, Some, None, is_none, unwrap_or, Result, Ok, Err}
use Rattle.std.specs.List.{list_any, list_all}
use Rattle.std.specs.Str.{bytes_eq}
use Rattle.cbor_profile.specs.declared.fault.Fault.{Fault}
use Rattle.bp_crc.specs.Item.{check_type}
use Rattle.bp_primary.specs.Flags.{is_fragment}
use Rattle.bp_blocks.specs.declared.block.Block.{Block}
use Rattle.bpsec_asb.specs.declared.asb.Asb.{Asb}
use Rattle.bpsec_asb.specs.Reading.{read_body}
use Rattle.bpsec_asb.specs.Known.{is_covered}
use Rattle.bpsec_scope.specs.Covered.{has_flag}
use Rattle.bpsec_policy.specs.declared.ring.NamedKey.{NamedKey}
use Rattle.bpsec_policy.specs.Ring.{key_of}
use Rattle.bpsec_plan.specs.declared.item.Cover.{Cover}
use Rattle.bpsec_plan.specs.declared.item.Split.{Split as SplitItem}
use Rattle.bpsec_plan.specs.declared.item.Item.{Item}
use Rattle.bpsec_plan.specs.declared.item.Item.TheVariants.{Bib, Bcb, Split}
use Rattle.bpsec_facts.specs.declared.bibs.ShownBib.{ShownBib}
use Rattle.bpsec_facts.specs.declared.bibs.ResultBib.{ResultBib}
use Rattle.bpsec_facts.specs.declared.reason.PlanReason.{PlanReason}
use Rattle.bpsec_facts.specs.declared.reason.PlanReason.TheVariants as reasons
use Rattle.bpsec_facts.specs.declared.reason.Refusal.{Refusal}
use Rattle.bpsec_facts.specs.Items.{block_number, block_kind, targets_of, is_cipher, service_of, same, is_in}
use Rattle.bpsec_facts.specs.Bibs.{is_visible_bib, shown_at, left_of}
use Rattle.bpsec_facts.specs.Facts.{Facts}

-- ---- numbers of blocks

abbrev pub block_at : List Block → ℕ → Option Block
block_at blocks number = find (λ block. block.number == number) blocks

abbrev pub has_block : List Block → ℕ → Bool
has_block blocks number = list_any (λ block. block.number == number) blocks

-- a planned number: that of an item's new block
abbrev pub item_at : List Item → ℕ → Option Item
item_at items number = find (λ item. block_number item == number) items

abbrev pub has_item : List Item → ℕ → Bool
has_item items number = list_any (λ item. block_number item == number) items

-- ---- Unreadable: a block confidentiality block isn't readable, or a block integrity block that no operation covers

abbrev pub is_fault : Result Asb Fault → Bool
is_fault (Ok asb) = false
is_fault (Err fault) = true

abbrev pub is_unreadable : Facts → Block → Bool
is_unreadable facts block =
    (block.kind == 12 || is_visible_bib facts.blocks facts.ops block) && is_fault (read_body block.body)

-- the least number
abbrev pub lesser : Option ℕ → ℕ → Option ℕ
lesser None n = Some n
lesser (Some m) n = Some (min m n)

unfoldable pub unreadable : Facts → Option ℕ
unreadable facts = fold lesser None (map (λ block. block.number) (filter (is_unreadable facts) facts.blocks))

-- ---- BadSplit: `from` isn't a block integrity block that is shown and can be split, or the targets aren't some but not all
-- ---- of those that earlier splits left it

abbrev pub is_part : List ℕ → List ℕ → Bool
is_part targets left = list_all (is_in left) targets && not (list_all (is_in targets) left)

unfoldable pub cannot_split : List Item → SplitItem → ShownBib → Bool
cannot_split before split bib = not (bib.divisible && is_part split.targets (left_of before split.from bib.asb.targets))

abbrev pub splits_badly : List Item → SplitItem → Option ShownBib → Bool
splits_badly before split None = true
splits_badly before split (Some bib) = cannot_split before split bib

abbrev pub bad_split : Facts → List Item → Item → Bool
bad_split facts before (Bib cover) = false
bad_split facts before (Bcb cover iv shared_iv tag_in_body) = false
bad_split facts before (Split split) = splits_badly before split (shown_at facts.shown split.from)

-- ---- NoTarget: a target isn't 0, a block's number or a planned number

abbrev pub is_there : Facts → ℕ → Bool
is_there facts number = number == 0 || (has_block facts.blocks number || has_item facts.items number)

unfoldable pub no_target : Facts → Item → Bool
no_target facts item = list_any (λ target. not (is_there facts target)) (targets_of item)

-- ---- TargetForbidden: integrity isn't for security blocks (RFC 9172, section 3.7), confidentiality not for the primary block
-- ---- and block confidentiality blocks (section 3.8)

-- the type of the bundle's block of this number, or else of the first item's
abbrev pub kind_of : Option Block → Option Item → ℕ
kind_of (Some block) item = block.kind
kind_of None (Some item) = block_kind item
kind_of None None = 0

abbrev pub kind_at : Facts → ℕ → ℕ
kind_at facts number = kind_of (block_at facts.blocks number) (item_at facts.items number)

abbrev pub forbids : Facts → Item → ℕ → Bool
forbids facts item target =
    if is_cipher item then target == 0 || kind_at facts target == 12
    else not (target == 0) && (kind_at facts target == 11 || kind_at facts target == 12)

unfoldable pub target_forbidden : Facts → Item → Bool
target_forbidden facts item = list_any (forbids facts item) (targets_of item)

-- ---- AlreadyThere: a known operation, or that of an earlier item, has that service on a target (RFC 9172, section 3.2)

abbrev pub is_taken : Facts → List Item → Item → ℕ → Bool
is_taken facts before item target =
    list_any (λ op. same op.service (service_of item) && op.target == target) facts.ops
    || list_any (λ earlier. same (service_of earlier) (service_of item) && is_in (targets_of earlier) target) before

unfoldable pub already_there : Facts → List Item → Item → Bool
already_there facts before item = list_any (is_taken facts before item) (targets_of item)

-- ---- UnderCipher: an operation of the bundle covers the target of a bib item (RFC 9172, section 3.9)

unfoldable pub under_cipher : Facts → Item → Bool
under_cipher facts item = not (is_cipher item) && list_any (is_covered facts.blocks facts.ops) (targets_of item)

-- ---- NumberTaken: the number is 0 or 1, a block's or an earlier item's (RFC 9171, section 4.1)

unfoldable pub number_taken : Facts → List Item → Item → Bool
number_taken facts before item =
    nat_le (block_number item) 1 || (has_block facts.blocks (block_number item) || has_item before (block_number item))

-- ---- NoKey: the ring has no key of a named name

abbrev pub lacks_if_any : List NamedKey → Option (List ℕ) → Bool
lacks_if_any ring None = false
lacks_if_any ring (Some name) = is_none (key_of ring name)

abbrev pub lacks_key : List NamedKey → Cover → Bool
lacks_key ring cover = is_none (key_of ring cover.key) || lacks_if_any ring cover.wrapped_with

unfoldable pub no_key : Facts → Item → Bool
no_key facts (Bib cover) = lacks_key facts.ring cover
no_key facts (Bcb cover iv shared_iv tag_in_body) = lacks_key facts.ring cover
no_key facts (Split split) = false

-- ---- KeyLength: a bcb key isn't of the variant's length (RFC 9173, section 4.3.2), a key to be wrapped isn't 16 to 64 bytes
-- ---- in whole groups of 8, or the key that wraps isn't one of AES (RFC 3394, section 2)

abbrev pub key_named : List NamedKey → List ℕ → List ℕ
key_named ring name = unwrap_or (key_of ring name) []

-- how many words the key of the variant has
abbrev pub words_of : ℕ → ℕ
words_of variant = if variant == 1 then 4 else 8

abbrev pub is_wrappable : List ℕ → Bool
is_wrappable key = nat_le 16 (length key) && (nat_le (length key) 64 && length key % 8 == 0)

abbrev pub is_wrapping : List ℕ → Bool
is_wrapping key = length key == 16 || length key == 32

abbrev pub cannot_wrap : List NamedKey → List ℕ → Option (List ℕ) → Bool
cannot_wrap ring key None = false
cannot_wrap ring key (Some name) = not (is_wrappable key) || not (is_wrapping (key_named ring name))

abbrev pub cover_cannot_wrap : List NamedKey → Cover → Bool
cover_cannot_wrap ring cover = cannot_wrap ring (key_named ring cover.key) cover.wrapped_with

unfoldable pub key_length : Facts → Item → Bool
key_length facts (Bib cover) = cover_cannot_wrap facts.ring cover
key_length facts (Bcb cover iv shared_iv tag_in_body) =
    not (length (key_named facts.ring cover.key) == 4 * words_of cover.variant) || cover_cannot_wrap facts.ring cover
key_length facts (Split split) = false

-- ---- IvShared: several targets under one initialisation vector (RFC 9173, section 4.3.1), which the item doesn't say

unfoldable pub iv_shared : Item → Bool
iv_shared (Bib cover) = false
iv_shared (Bcb cover iv shared_iv tag_in_body) = nat_lt 1 (length cover.targets) && not shared_iv
iv_shared (Split split) = false

-- ---- IvRepeated: an earlier item has the same key bytes and the same vector (RFC 9173, section 4.3.1)

abbrev pub is_used : List NamedKey → List ℕ → List ℕ → Item → Bool
is_used ring key vector (Bib cover) = false
is_used ring key vector (Bcb cover iv shared_iv tag_in_body) = bytes_eq (key_named ring cover.key) key && bytes_eq iv vector
is_used ring key vector (Split split) = false

unfoldable pub iv_repeated : Facts → List Item → Item → Bool
iv_repeated facts before (Bib cover) = false
iv_repeated facts before (Bcb cover iv shared_iv tag_in_body) =
    list_any (is_used facts.ring (key_named facts.ring cover.key) iv) before
iv_repeated facts before (Split split) = false

-- ---- how a bcb item and the block integrity blocks of the result go together (RFC 9172, section 3.9)

-- NoSharedTarget: it has the block, and none of its targets
abbrev pub shares_none : List ℕ → ResultBib → Bool
shares_none targets bib = is_in targets bib.number && not (list_any (is_in targets) bib.targets)

unfoldable pub no_shared_target : Facts → Item → Bool
no_shared_target facts item = is_cipher item && list_any (shares_none (targets_of item)) facts.bibs

-- PartialOverlap: it has some of the block's targets, and not all
abbrev pub overlaps : List ℕ → ResultBib → Bool
overlaps targets bib = list_any (is_in targets) bib.targets && not (list_all (is_in targets) bib.targets)

unfoldable pub partial_overlap : Facts → Item → Bool
partial_overlap facts item = is_cipher item && list_any (overlaps (targets_of item)) facts.bibs

-- BibLeftPlain: it has all of the block's targets, and not the block
abbrev pub leaves_plain : List ℕ → ResultBib → Bool
leaves_plain targets bib = list_all (is_in targets) bib.targets && not (is_in targets bib.number)

unfoldable pub bib_left_plain : Facts → Item → Bool
bib_left_plain facts item = is_cipher item && list_any (leaves_plain (targets_of item)) facts.bibs

-- ---- PrimaryCovered: a bib item has target 0, the primary block has a check, and the bundle has security blocks, which may
-- ---- cover it

abbrev pub is_security : Block → Bool
is_security block = block.kind == 11 || block.kind == 12

unfoldable pub primary_covered : Facts → Item → Bool
primary_covered facts item =
    not (is_cipher item)
    && (is_in (targets_of item) 0 && (not (check_type facts.primary.crc == 0) && list_any is_security facts.blocks))

-- ---- BadFlags: a block confidentiality block may not be discarded where it can't be processed (flag 0x10), and one on the
-- ---- payload stands in every fragment (flag 0x1): RFC 9172, section 3.8

abbrev pub has_bad_flags : ℕ → List ℕ → Bool
has_bad_flags flags targets = has_flag flags 0x10 || (is_in targets 1 && not (has_flag flags 0x1))

unfoldable pub bad_flags : Item → Bool
bad_flags (Bib cover) = false
bad_flags (Bcb cover iv shared_iv tag_in_body) = has_bad_flags cover.flags cover.targets
bad_flags (Split split) = false

-- ---- the table

-- the reason holds for an item, after those before it; those that aren't looked for here hold for none
abbrev pub refuses : PlanReason → Facts → List Item → Item → Bool
refuses reasons.IsFragment facts before item = false
refuses reasons.Unreadable facts before item = false
refuses reasons.BadSplit facts before item = false
refuses reasons.NoTarget facts before item = no_target facts item
refuses reasons.TargetForbidden facts before item = target_forbidden facts item
refuses reasons.AlreadyThere facts before item = already_there facts before item
refuses reasons.UnderCipher facts before item = under_cipher facts item
refuses reasons.NumberTaken facts before item = number_taken facts before item
refuses reasons.NoKey facts before item = no_key facts item
refuses reasons.KeyLength facts before item = key_length facts item
refuses reasons.IvShared facts before item = iv_shared item
refuses reasons.IvRepeated facts before item = iv_repeated facts before item
refuses reasons.NoSharedTarget facts before item = no_shared_target facts item
refuses reasons.PartialOverlap facts before item = partial_overlap facts item
refuses reasons.BibLeftPlain facts before item = bib_left_plain facts item
refuses reasons.PrimaryCovered facts before item = primary_covered facts item
refuses reasons.BadFlags facts before item = bad_flags item
refuses reasons.TooManyBlocks facts before item = false
refuses reasons.TooLong facts before item = false

-- the least index of an item for which the reason holds
abbrev pub first_at : (List Item → Item → Bool) → List Item → List Item → Option ℕ
first_at holds before [] = None
first_at holds before (item ∷ more) = if holds before item then Some (length before) else first_at holds (before ++ item ∷ []) more

abbrev pub first_item : Facts → PlanReason → Option ℕ
first_item facts reason = first_at (refuses reason facts) [] facts.items

-- the first of these reasons that holds for an item, and where; else what comes next
abbrev pub at_or : PlanReason → Option ℕ → Option Refusal → Option Refusal
at_or reason None next = next
at_or reason (Some at) next = Some (record { reason = reason; at = Some at })

unfoldable pub first_of : Facts → List PlanReason → Option Refusal → Option Refusal
first_of facts [] next = next
first_of facts (reason ∷ more) next = at_or reason (first_item facts reason) (first_of facts more next)

-- a reason that holds for no item
abbrev pub nowhere : PlanReason → Refusal
nowhere reason = record { reason = reason; at = None }

-- the reasons that hold for items, in their order, after BadSplit
abbrev pub item_reasons : List PlanReason
item_reasons =
    reasons.NoTarget ∷ reasons.TargetForbidden ∷ reasons.AlreadyThere ∷ reasons.UnderCipher ∷ reasons.NumberTaken
    ∷ reasons.NoKey ∷ reasons.KeyLength ∷ reasons.IvShared ∷ reasons.IvRepeated ∷ reasons.NoSharedTarget ∷ reasons.PartialOverlap
    ∷ reasons.BibLeftPlain ∷ reasons.PrimaryCovered ∷ reasons.BadFlags ∷ []

abbrev pub too_many : Facts → Option Refusal
too_many facts = if nat_lt 64 (length facts.blocks + length facts.items) then Some (nowhere reasons.TooManyBlocks) else None

-- The first reason that holds, before anything is made: all of them but TooLong.
unfoldable pub early_refusal : Facts → Option Refusal
early_refusal facts =
    if is_fragment facts.primary.flags then Some (nowhere reasons.IsFragment)
    else at_or reasons.Unreadable (unreadable facts)
    (at_or reasons.BadSplit (first_at (bad_split facts) [] facts.items)
    (first_of facts item_reasons (too_many facts)))
