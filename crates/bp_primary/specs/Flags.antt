-- Bundle processing control flags (RFC 9171, section 4.2.3).
use Rattle.std.specs.Prelude.{ℕ, ◌%◌, Bool, ◌==◌}

-- flag 0x1: the bundle is a fragment
abbrev pub is_fragment : ℕ → Bool
is_fragment flags = flags % 2 == 1
