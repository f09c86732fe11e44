-- None of a chain of reasons holds.
use Rattle.std.proofs.Common.{◌≡◌, ℕ, Bool, true, false, cond, List, [], ◌∷◌, refl}
use Rattle.std.specs.Prelude.{Option, Some, None}
use Rattle.bpsec_facts.specs.declared.reason.PlanReason.{PlanReason}
use Rattle.bpsec_facts.specs.declared.reason.Refusal.{Refusal}
use Rattle.bpsec_facts.specs.Facts.{Facts}
use Rattle.bpsec_facts.specs.Refusal.{at_or, first_item, first_of}

pub at_none : (reason : PlanReason) (at : Option ℕ) (next : Option Refusal) → at_or reason at next ≡ None → (at ≡ None) × (next ≡ None)
at_none reason None next none = (refl, none)
at_none reason (Some at) next none = absurd cc

pub of_none : (facts : Facts) (reason : PlanReason) (more : List PlanReason) (next : Option Refusal) → first_of facts (reason ∷ more) next ≡ None → (first_item facts reason ≡ None) × (first_of facts more next ≡ None)
unfolding first_of
of_none facts reason more next none = at_none reason (first_item facts reason) (first_of facts more next) none

pub of_end : (facts : Facts) (next : Option Refusal) → first_of facts [] next ≡ None → next ≡ None
unfolding first_of
of_end facts next none = none

pub if_none : (b : Bool) (refusal : Refusal) (next : Option Refusal) → cond b (Some refusal) next ≡ None → (b ≡ false) × (next ≡ None)
if_none true refusal next none = absurd cc
if_none false refusal next none = (refl, none)

pub here_not : (b : Bool) (n : ℕ) (next : Option ℕ) → cond b (Some n) next ≡ None → (b ≡ false) × (next ≡ None)
here_not true n next none = absurd cc
here_not false n next none = (refl, none)
