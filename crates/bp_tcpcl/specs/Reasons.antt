-- The numbers and the names of the reasons against a stream.
use Rattle.std.specs.Prelude.{ℕ, List, codes}
use Rattle.bp_tcpcl.specs.declared.reason.LinkReason.{LinkReason}
use Rattle.bp_tcpcl.specs.declared.reason.LinkReason.TheVariants.{NotContact, Version, UnknownMessage, TooLong, TooMuch, Truncated, NotInit, SecondInit, NotStarted, StartedTwice, OtherTransfer, RepeatedTransfer, AfterTerm, TooMany, TransferTooLong, NotBundle, Unended}

abbrev pub reason_number : LinkReason → ℕ
reason_number NotContact = 1
reason_number Version = 2
reason_number UnknownMessage = 3
reason_number TooLong = 4
reason_number TooMuch = 5
reason_number Truncated = 6
reason_number NotInit = 7
reason_number SecondInit = 8
reason_number NotStarted = 9
reason_number StartedTwice = 10
reason_number OtherTransfer = 11
reason_number RepeatedTransfer = 12
reason_number AfterTerm = 13
reason_number TooMany = 14
reason_number TransferTooLong = 15
reason_number NotBundle = 16
reason_number Unended = 17

abbrev pub reason_name : LinkReason → List ℕ
reason_name NotContact = codes "NotContact"
reason_name Version = codes "Version"
reason_name UnknownMessage = codes "UnknownMessage"
reason_name TooLong = codes "TooLong"
reason_name TooMuch = codes "TooMuch"
reason_name Truncated = codes "Truncated"
reason_name NotInit = codes "NotInit"
reason_name SecondInit = codes "SecondInit"
reason_name NotStarted = codes "NotStarted"
reason_name StartedTwice = codes "StartedTwice"
reason_name OtherTransfer = codes "OtherTransfer"
reason_name RepeatedTransfer = codes "RepeatedTransfer"
reason_name AfterTerm = codes "AfterTerm"
reason_name TooMany = codes "TooMany"
reason_name TransferTooLong = codes "TransferTooLong"
reason_name NotBundle = codes "NotBundle"
reason_name Unended = codes "Unended"
