use Rattle.std.proofs.Common.{◌≡◌, ◌+◌, List, map, drop, Result, Err, sym, ◌∙◌, ap, arith}
use Rattle.serde_json.specs.Data.{Data}
use Rattle.serde_json.specs.View.{view}
use Rattle.bp_text.specs.declared.fault.TextReason.{TextReason}
use Rattle.bp_text.specs.declared.fault.FieldFault.{FieldFault}
use Rattle.bp_text.specs.declared.fault.FieldFault.TheVariants as fields
use Rattle.bp_text.specs.declared.fault.TextReason.TheVariants as reasons
use Rattle.bp_text.specs.Fault.{IsFieldFault}
use Rattle.bpsec_policy.specs.RuleText.{targets_of}
use Rattle.bpsec_policy.proofs.Targets.{with_front, left_at, goes_on, stops}
use Rattle.bpsec_policy.proofs.rule_text.targets_of.Goals as goal

-- a fault of one step is that of all
is_fault_of : {A B : Type 0} (e : FieldFault) (r : Result A TextReason) (s : Result B TextReason) → ((reason : TextReason) → r ≡ Err reason → s ≡ Err reason) → IsFieldFault e r → IsFieldFault e s
is_fault_of fields.WrongShape r s h is = h reasons.WrongShape is
is_fault_of fields.UnknownWord r s h is = h reasons.UnknownWord is
is_fault_of fields.BadHex r s h is = h reasons.BadHex is
is_fault_of fields.NoMemory r s h is = tt

pub returns-in-Err : goal.returns-in-Err
returns-in-Err c =
    let values = c.args.values.now in
    let i = c.loop-value.value-index in
    let value = c.value-item.result in
    let kinds = c.loop-value.kinds in
    let left = left_at view values i value (omega arith) c.value-item.is in
    is_fault_of c.in-Err.fault _ _ (λ reason e. sym c.loop-value.invariant ∙ (ap (λ (rest : List Data). with_front kinds (targets_of rest)) left ∙ stops (view value) (drop (i + 1) (map view values)) kinds reason e)) c.in-Err.ensures

pub loop-value-preserved : goal.loop-value-preserved
loop-value-preserved c =
    let values = c.args.values.now in
    let i = c.loop-value.value-index in
    let value = c.value-item.result in
    let kinds = c.loop-value.kinds in
    let left = left_at view values i value (omega arith) c.value-item.is in
    let step = goes_on (view value) (drop (i + 1) (map view values)) kinds c.in-Ok.kind c.in-Ok.ensures in
    rw c.in-Ok-append.ensures.ok (step ∙ (ap (λ (rest : List Data). with_front kinds (targets_of rest)) (sym left) ∙ c.loop-value.invariant))
