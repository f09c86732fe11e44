-- What an edit makes of a bundle.
use Rattle.std.specs.Prelude.{ℕ, zero, suc, ◌==◌, ◌⊎◌, ◌≡◌, if◌then◌else◌, List, [], ◌∷◌, map, IsSome}
use Rattle.std.specs.List.{position}
use Rattle.bp_crc.specs.declared.kind.CheckKind.{CheckKind}
use Rattle.bp_crc.specs.declared.kind.CheckKind.TheVariants.{None, Crc16, Crc32c}
use Rattle.bp_blocks.specs.declared.block.Block.{Block}
use Rattle.bp_bundle.specs.Shape.{Contents}

-- the number is that of the primary block, or of a canonical block
abbrev pub HasNumber : ℕ → Contents → Type 0
HasNumber number bundle = (number ≡ 0) ⊎ IsSome (position (λ block. block.number == number) bundle.blocks)

-- how many bytes a check is in a block's array: none, or a byte string of 2 or 4 bytes with its head
abbrev pub check_size : CheckKind → ℕ
check_size None = 0
check_size Crc16 = 3
check_size Crc32c = 5

-- the block with this number has this check
abbrev pub crc_if : ℕ → CheckKind → Block → Block
crc_if number crc block = if block.number == number then record block { crc = crc } else block

abbrev pub with_crc : ℕ → CheckKind → Contents → Contents
with_crc number crc bundle =
    if number == 0 then record bundle { primary = record bundle.primary { crc = crc } }
    else record bundle { blocks = map (crc_if number crc) bundle.blocks }

-- the block at this index has this body
abbrev pub body_at : ℕ → List ℕ → List Block → List Block
body_at index body [] = []
body_at zero body (block ∷ more) = record block { body = body } ∷ more
body_at (suc index) body (block ∷ more) = block ∷ body_at index body more

abbrev pub with_body : ℕ → List ℕ → Contents → Contents
with_body index body bundle = record bundle { blocks = body_at index body bundle.blocks }
