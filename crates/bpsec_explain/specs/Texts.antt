-- Pieces of lines. The lines are this project's own.
use Rattle.std.specs.Prelude.{ℕ, ℤ, false, List, [], ◌∷◌, ◌++◌, codes}
use Rattle.std.specs.Fmt.{decimal, digits, signed_decimal}
use Rattle.cbor_profile.specs.declared.fault.Fault.{Fault}
use Rattle.cbor_profile.specs.Reasons.{reason_name}
use Rattle.bpsec_asb.specs.declared.operation.Service.{Service}
use Rattle.bpsec_asb.specs.declared.operation.Service.TheVariants.{Bib, Bcb}

-- a line ends with a newline
abbrev pub newline : List ℕ
newline = 10 ∷ []

-- a number in decimal behind its name
unfoldable pub number : List ℕ → ℕ → List ℕ
number name n = name ++ decimal n

-- the same of a number with a sign
unfoldable pub signed : List ℕ → ℤ → List ℕ
signed name z = name ++ signed_decimal z

-- flags, in lower-case hexadecimal behind `0x`
unfoldable pub flags_item : ℕ → List ℕ
flags_item n = codes " flags=0x" ++ digits 16 false n

abbrev pub service_name : Service → List ℕ
service_name Bib = codes "bib"
service_name Bcb = codes "bcb"

abbrev pub unreadable_line : List ℕ
unreadable_line = codes "unreadable" ++ newline

-- a body that isn't readable, with its first fault
unfoldable pub fault_line : Fault → List ℕ
fault_line fault = number (codes "unreadable place=") fault.place ++ (codes " reason=" ++ (reason_name fault.reason ++ newline))
