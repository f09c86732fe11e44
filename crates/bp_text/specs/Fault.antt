-- Reading step by step, up to the first fault. The reasons and their numbers are this project's own.
use Rattle.std.specs.Prelude.{◌≡◌, ℕ, Bool, if◌then◌else◌, Option, Some, None, Result, Ok, Err}
use Rattle.bp_text.specs.declared.fault.TextReason.{TextReason}
use Rattle.bp_text.specs.declared.fault.TextReason.TheVariants.{TooLong, NotJson, WrongShape, Version, TooMany, UnknownWord, BadHex, RepeatedName, NotABundle}
use Rattle.bp_text.specs.declared.fault.TextFault.{TextFault}
use Rattle.bp_text.specs.declared.fault.TextError.{TextError}
use Rattle.bp_text.specs.declared.fault.TextError.TheVariants as errors
use Rattle.bp_text.specs.declared.fault.FieldFault.{FieldFault}
use Rattle.bp_text.specs.declared.fault.FieldFault.TheVariants as fields

abbrev pub number_of : TextReason → ℕ
number_of TooLong = 1
number_of NotJson = 2
number_of WrongShape = 3
number_of Version = 4
number_of TooMany = 5
number_of UnknownWord = 6
number_of BadHex = 7
number_of RepeatedName = 8
number_of NotABundle = 9

-- ---- steps

-- nothing, where the test holds, else this reason
abbrev pub unless : Bool → TextReason → Result (Unit {0}) TextReason
unless holds reason = if holds then Ok tt else Err reason

-- what is there, else this reason
abbrev pub wanted : {A : Type 0} → TextReason → Option A → Result A TextReason
wanted reason (Some x) = Ok x
wanted reason None = Err reason

-- a step whose fault lies in the entry with this index, or in none
abbrev pub at_entry : {A : Type 0} → Option ℕ → Result A TextReason → Result A TextFault
at_entry entry (Ok x) = Ok x
at_entry entry (Err reason) = Err (record { entry = entry; reason = reason })

-- a step before or after all entries
abbrev pub top : {A : Type 0} → Result A TextReason → Result A TextFault
top step = at_entry None step

-- ---- what a function returned

-- a fault of a field is that of its definition; memory may run out in each case
abbrev pub IsFieldFault : {Y : Type 0} → FieldFault → Result Y TextReason → Type 0
IsFieldFault fields.WrongShape read = read ≡ Err WrongShape
IsFieldFault fields.UnknownWord read = read ≡ Err UnknownWord
IsFieldFault fields.BadHex read = read ≡ Err BadHex
IsFieldFault fields.NoMemory read = Unit {0}

-- a fault of a text is that of its definition; memory may run out in each case
abbrev pub IsTextError : {Y : Type 0} → TextError → Result Y TextFault → Type 0
IsTextError (errors.Fault fault) read = read ≡ Err fault
IsTextError errors.NoMemory read = Unit {0}

-- the error of a text whose field at this entry has this fault
abbrev pub error_at : Option ℕ → FieldFault → TextError
error_at entry fields.WrongShape = errors.Fault (record { entry = entry; reason = WrongShape })
error_at entry fields.UnknownWord = errors.Fault (record { entry = entry; reason = UnknownWord })
error_at entry fields.BadHex = errors.Fault (record { entry = entry; reason = BadHex })
error_at entry fields.NoMemory = errors.NoMemory
