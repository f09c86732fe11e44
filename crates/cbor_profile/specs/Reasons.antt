-- The numbers and the names of the reasons against spelled bytes.
use Rattle.std.specs.Prelude.{ℕ, List, codes}
use Rattle.cbor_profile.specs.declared.fault.Reason.{Reason}
use Rattle.cbor_profile.specs.declared.fault.Reason.TheVariants.{NotBundle, Truncated, NotShortest, WrongKind, WrongCount, WrongValue, WrongText, WrongCheck, TooLong, Trailing, Repeated}

abbrev pub reason_number : Reason → ℕ
reason_number NotBundle = 1
reason_number Truncated = 2
reason_number NotShortest = 3
reason_number WrongKind = 4
reason_number WrongCount = 5
reason_number WrongValue = 6
reason_number WrongText = 7
reason_number WrongCheck = 8
reason_number TooLong = 9
reason_number Trailing = 10
reason_number Repeated = 11

abbrev pub reason_name : Reason → List ℕ
reason_name NotBundle = codes "NotBundle"
reason_name Truncated = codes "Truncated"
reason_name NotShortest = codes "NotShortest"
reason_name WrongKind = codes "WrongKind"
reason_name WrongCount = codes "WrongCount"
reason_name WrongValue = codes "WrongValue"
reason_name WrongText = codes "WrongText"
reason_name WrongCheck = codes "WrongCheck"
reason_name TooLong = codes "TooLong"
reason_name Trailing = codes "Trailing"
reason_name Repeated = codes "Repeated"
