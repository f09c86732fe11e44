-- What a confidentiality operation changes in what a session keeps.
use Rattle.std.specs.Prelude.{ℕ, ◌==◌, Bool, if◌then◌else◌, List, ◌++◌, map, Option, Some, None}
use Rattle.bp_blocks.specs.declared.block.Block.{Block}
use Rattle.bp_bundle.specs.Shape.{Contents}
use Rattle.bpsec_asb.specs.declared.operation.OpId.{OpId}
use Rattle.bpsec_asb.specs.Reading.{read_body}
use Rattle.bpsec_node.specs.declared.held.Held.{Held}
use Rattle.std.specs.Prelude.{false, is_ok}

-- a security block was found under this number, and could be read
abbrev pub is_readable : Option Held → Bool
is_readable None = false
is_readable (Some held) = is_ok held.read

-- an integrity block that is opened is read
abbrev pub held_after : ℕ → ℕ → Option (List ℕ) → Option Held
held_after kind number None = None
held_after kind number (Some body) = if kind == 11 then Some (record { number = number; read = read_body body }) else None

-- a block that isn't opened is stuck
abbrev pub stuck_after : ℕ → Option (List ℕ) → Option ℕ
stuck_after number None = Some number
stuck_after number (Some body) = None

-- the block with this number has the opened body
abbrev pub opened_block : ℕ → Option (List ℕ) → Block → Block
opened_block number None block = block
opened_block number (Some body) block = if block.number == number then record block { body = body } else block

abbrev pub opened_bundle : ℕ → Option (List ℕ) → Contents → Contents
opened_bundle number body bundle = record bundle { blocks = map (opened_block number body) bundle.blocks }
