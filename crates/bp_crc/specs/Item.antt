-- A check as the last item of a block's array (RFC 9171, sections 4.3.1 and 4.3.2).
use Rattle.std.specs.Prelude.{ℕ, ◌==◌, if◌then◌else◌, List, [], ◌∷◌}
use Rattle.cbor_profile.specs.Put.{byte_string}
use Rattle.bp_crc.specs.declared.kind.CheckKind.{CheckKind}
use Rattle.bp_crc.specs.declared.kind.CheckKind.TheVariants.{None, Crc16, Crc32c}

-- the check type as a number (section 4.2.1)
abbrev pub check_type : CheckKind → ℕ
check_type None = 0
check_type Crc16 = 1
check_type Crc32c = 2

-- the check with a number; each number from 2 on is that of CRC-32C
abbrev pub check_of : ℕ → CheckKind
check_of number = if number == 0 then None else if number == 1 then Crc16 else Crc32c

-- how many items a check is
abbrev pub check_count : CheckKind → ℕ
check_count None = 0
check_count Crc16 = 1
check_count Crc32c = 1

-- the item that a check with these bytes is
abbrev pub check_item : CheckKind → List ℕ → List ℕ
check_item None check = []
check_item Crc16 check = byte_string check
check_item Crc32c check = byte_string check

-- the bytes of a check, all of them zero
abbrev pub zeros : CheckKind → List ℕ
zeros None = []
zeros Crc16 = 0 ∷ 0 ∷ []
zeros Crc32c = 0 ∷ 0 ∷ 0 ∷ 0 ∷ []
