-- What follows where no reason before `TooLong` holds.
use Rattle.std.proofs.Common.{◌≡◌, ◌+◌, ◌==◌, Bool, true, false, not, [], length, refl}
use Rattle.std.specs.Prelude.{None, Some, nat_lt}
use Rattle.std.proofs.lemmas.Bool.{eqb-true}
use Rattle.bpsec_plan.specs.declared.item.Cover.{Cover}
use Rattle.bpsec_facts.specs.declared.reason.PlanReason.TheVariants as reasons
use Rattle.bpsec_facts.specs.Facts.{Facts}
use Rattle.bpsec_facts.specs.Refusal.{nowhere, too_many, unreadable}
use Rattle.bpsec_facts.specs.Left.{key_of_cover}
use Rattle.bpsec_facts.proofs.Chains.{at_none, if_none, of_end, of_none}
use Rattle.bpsec_facts.proofs.ShapeLemmas.{Passed}
use Rattle.bpsec_mac.specs.Mac.{early_refusal}

not_true : (b : Bool) → not b ≡ false → b ≡ true
not_true true is = refl
not_true false is = absurd cc

pub passed : (facts : Facts) (cover : Cover) → early_refusal facts cover ≡ None
    → Passed facts × (length (key_of_cover facts.ring cover) ≡ 16)
unfolding early_refusal
passed facts cover none =
    let a = if_none _ (nowhere reasons.IsFragment) _ none in
    let b = at_none reasons.Unreadable (unreadable facts) _ a.1 in
    let c = of_none facts reasons.NoTarget _ _ b.1 in
    let d = of_none facts reasons.TargetForbidden _ _ c.1 in
    let e = of_none facts reasons.AlreadyThere _ _ d.1 in
    let f = of_none facts reasons.UnderCipher _ _ e.1 in
    let g = of_none facts reasons.NumberTaken _ _ f.1 in
    let h = of_none facts reasons.NoKey _ _ g.1 in
    let i = if_none (not (length (key_of_cover facts.ring cover) == 16)) (record { reason = reasons.KeyLength; at = Some 0 }) _ (of_end facts _ h.1) in
    let j = of_none facts reasons.PrimaryCovered _ _ i.1 in
    let k = if_none (nat_lt 64 (length facts.blocks + length facts.items)) (nowhere reasons.TooManyBlocks) None (of_end facts (too_many facts) j.1) in
    (record { numbers = g.0; few = k.0 }, eqb-true _ _ (not_true _ i.0))
