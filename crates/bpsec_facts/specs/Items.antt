-- What the items of a plan say.
use Rattle.std.specs.Prelude.{ℕ, Bool, true, false, ◌==◌, List, []}
use Rattle.std.specs.List.{list_any}
use Rattle.bp_crc.specs.declared.kind.CheckKind.{CheckKind}
use Rattle.bpsec_asb.specs.declared.operation.Service.{Service}
use Rattle.bpsec_asb.specs.declared.operation.Service.TheVariants as services
use Rattle.bpsec_plan.specs.declared.item.Item.{Item}
use Rattle.bpsec_plan.specs.declared.item.Item.TheVariants.{Bib, Bcb, Split}

-- ---- the new block: its number, its type (RFC 9172, section 11.1), its flags and its check

abbrev pub block_number : Item → ℕ
block_number (Bib cover) = cover.block
block_number (Bcb cover iv shared_iv tag_in_body) = cover.block
block_number (Split split) = split.block

abbrev pub block_kind : Item → ℕ
block_kind (Bib cover) = 11
block_kind (Bcb cover iv shared_iv tag_in_body) = 12
block_kind (Split split) = 11

abbrev pub block_flags : Item → ℕ
block_flags (Bib cover) = cover.flags
block_flags (Bcb cover iv shared_iv tag_in_body) = cover.flags
block_flags (Split split) = split.flags

abbrev pub block_check : Item → CheckKind
block_check (Bib cover) = cover.crc
block_check (Bcb cover iv shared_iv tag_in_body) = cover.crc
block_check (Split split) = split.crc

-- ---- the operations that it makes; a split makes none

abbrev pub targets_of : Item → List ℕ
targets_of (Bib cover) = cover.targets
targets_of (Bcb cover iv shared_iv tag_in_body) = cover.targets
targets_of (Split split) = []

abbrev pub is_cipher : Item → Bool
is_cipher (Bib cover) = false
is_cipher (Bcb cover iv shared_iv tag_in_body) = true
is_cipher (Split split) = false

abbrev pub service_of : Item → Service
service_of (Bib cover) = services.Bib
service_of (Bcb cover iv shared_iv tag_in_body) = services.Bcb
service_of (Split split) = services.Bib

abbrev pub same : Service → Service → Bool
same services.Bib services.Bib = true
same services.Bib services.Bcb = false
same services.Bcb services.Bib = false
same services.Bcb services.Bcb = true

-- ---- numbers

abbrev pub is_in : List ℕ → ℕ → Bool
is_in numbers number = list_any (λ listed. listed == number) numbers

-- it is the target of an operation that some item makes
abbrev pub is_target : List Item → ℕ → Bool
is_target items number = list_any (λ item. is_in (targets_of item) number) items
