-- The first reason of a table.
use Rattle.std.proofs.Common.{◌≡◌, Bool, true, false, [], ◌∷◌, ◌++◌, refl, arith}
use Rattle.std.specs.Prelude.{Some, None, All}
use Rattle.std.proofs.lemmas.List.Elements.{All-head, All-tail, All-cons}
use Rattle.bpsec_context.specs.declared.judgement.MissetReason.{MissetReason}
use Rattle.bpsec_context.specs.Reasons.{Table, first}

abbrev pub Fails : Bool × MissetReason → Type 0
Fails line = line.0 ≡ false

pub first_some : (before after : Table) (holds : Bool) (reason : MissetReason) → All Fails before → holds ≡ true → first (before ++ (holds, reason) ∷ after) ≡ Some reason
first_some [] after holds reason fail e = rw e refl
first_some (line ∷ lines) after holds reason fail e =
    let here : line.0 ≡ false = All-head Fails line lines fail in
    rw here (first_some lines after holds reason (All-tail Fails line lines fail) e)

step : (holds : Bool) (reason : MissetReason) (lines : Table) → first ((holds, reason) ∷ lines) ≡ None → (holds ≡ false) × (first lines ≡ None)
step true reason lines e = absurd cc
step false reason lines e = (refl, e)

pub none_fails : (table : Table) → first table ≡ None → All Fails table
none_fails [] e = λ k d within. absurd (omega arith)
none_fails (line ∷ lines) e =
    let parts = step line.0 line.1 lines e in All-cons Fails line lines parts.0 (none_fails lines parts.1)

pub fails_none : (table : Table) → All Fails table → first table ≡ None
fails_none [] fail = refl
fails_none (line ∷ lines) fail =
    let here : line.0 ≡ false = All-head Fails line lines fail in
    rw here (fails_none lines (All-tail Fails line lines fail))
