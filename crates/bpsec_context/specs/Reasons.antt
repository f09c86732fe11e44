-- Tables of reasons, and what follows from them.
use Rattle.std.specs.Prelude.{ℕ, Bool, if◌then◌else◌, List, [], ◌∷◌, Option, Some, None, Result, Ok, Err}
use Rattle.bpsec_context.specs.declared.judgement.Judgement.{Judgement}
use Rattle.bpsec_context.specs.declared.judgement.Judgement.TheVariants.{Right, Wrong, Misset}
use Rattle.bpsec_context.specs.declared.judgement.MissetReason.{MissetReason}
use Rattle.bpsec_context.specs.declared.judgement.MissetReason.TheVariants.{NoTarget, TargetForbidden, UnknownContext, OtherService, BadParameter, BadResult, NoKey, KeyLength, UnwrapRefused, NarrowScope}

-- a table: reasons in their order, each with whether it holds
abbrev pub Table : Type 0
Table = List (Bool × MissetReason)

-- the first reason that holds
abbrev pub first : Table → Option MissetReason
first [] = None
first (line ∷ lines) = if line.0 then Some line.1 else first lines

-- Misset with the first reason that holds; else Right where the test holds, and else Wrong
abbrev pub judgement : Option MissetReason → Bool → Judgement
judgement (Some reason) right = Misset reason
judgement None right = if right then Right else Wrong

-- refused with the first reason that holds, else this
abbrev pub unless_refused : {A : Type 0} → Option MissetReason → A → Result A MissetReason
unless_refused (Some reason) made = Err reason
unless_refused None made = Ok made

-- the numbers of the reasons
abbrev pub reason_number : MissetReason → ℕ
reason_number NoTarget = 1
reason_number TargetForbidden = 2
reason_number UnknownContext = 3
reason_number OtherService = 4
reason_number BadParameter = 5
reason_number BadResult = 6
reason_number NoKey = 7
reason_number KeyLength = 8
reason_number UnwrapRefused = 9
reason_number NarrowScope = 10
