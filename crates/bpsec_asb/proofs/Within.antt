-- What is left, after what was read or at a faulty token, is no more than what was given.
use Rattle.std.proofs.Common.{◌≡◌, ℕ, zero, suc, ◌≤◌, cond, ltb, leb, eqb, ◌&&◌, List, [], ◌∷◌, ◌++◌, length, take, drop, Some, None, pos, negsuc, ◌^◌, Result, Ok, Err, subst, arith}
use Rattle.std.specs.List.{list_any}
use Rattle.std.proofs.lemmas.List.{length-drop}
use Rattle.cbor_profile.specs.declared.fault.Reason.TheVariants as reasons
use Rattle.cbor_profile.specs.declared.item.ItemRead.{ItemRead}
use Rattle.cbor_profile.specs.declared.item.ItemRead.TheVariants as items
use Rattle.cbor_profile.specs.Item.{read_item}
use Rattle.bp_eid.specs.declared.stop.Stop.{Stop}
use Rattle.bp_eid.specs.Reading.{stops, head_at, pair_at, number_at, id_at}
use Rattle.bp_eid.proofs.Within.{IsWithin, rest_of, then_within, either_within, stops_within, ok_within, head_within, pair_within, number_within, id_within}
use Rattle.bpsec_asb.specs.declared.asb.Asb.{Asb}
use Rattle.bpsec_asb.specs.SecurityBlock.{has_parameters}
use Rattle.bpsec_asb.specs.Reading.{count_at, each_at, array_at, target_at, context_at, after_item, value_at, pair_of, pairs_at, parameters_at, results_at, asb_at, ends, body_at}

-- a reader leaves no more than it was given
abbrev pub StaysWithin : {A : Type 0} → (List ℕ → Result (A × List ℕ) Stop) → Type 0
StaysWithin read = (given : ℕ) (bytes : List ℕ) → length bytes ≤ given → IsWithin rest_of given (read bytes)

count_within : (least most : ℕ) → StaysWithin (count_at least most)
unfolding count_at
count_within least most given bytes le =
    then_within rest_of rest_of given (head_at (4 ∷ []) bytes) _ (head_within (4 ∷ []) given bytes le)
    (λ x h. either_within rest_of given (leb least x.0.value && leb x.0.value most) (Ok (x.0.value, x.1)) _ (ok_within rest_of given (x.0.value, x.1) h) (stops_within rest_of given bytes reasons.WrongCount le))

each_within : {A : Type 0} (item_at : List A → List ℕ → Result (A × List ℕ) Stop) → ((before : List A) → StaysWithin (item_at before)) → (count : ℕ) (before : List A) → StaysWithin (each_at item_at count before)
unfolding each_at
each_within item_at each zero before given bytes le = ok_within rest_of given (before, bytes) le
each_within item_at each (suc count) before given bytes le =
    then_within rest_of rest_of given (item_at before bytes) (λ item. each_at item_at count (before ++ item.0 ∷ []) item.1) (each before given bytes le)
    (λ x h. each_within item_at each count (before ++ x.0 ∷ []) given x.1 h)

array_within : {A : Type 0} (item_at : List A → List ℕ → Result (A × List ℕ) Stop) → ((before : List A) → StaysWithin (item_at before)) → (least most : ℕ) → StaysWithin (array_at item_at least most)
array_within item_at each least most given bytes le =
    then_within rest_of rest_of given (count_at least most bytes) (λ count. each_at item_at count.0 [] count.1) (count_within least most given bytes le) (λ x h. each_within item_at each x.0 [] given x.1 h)

target_within : (before : List ℕ) → StaysWithin (target_at before)
unfolding target_at
target_within before given bytes le =
    then_within rest_of rest_of given (number_at bytes) _ (number_within given bytes le)
    (λ x h. either_within rest_of given (list_any (λ listed. eqb listed x.0) before) (stops bytes reasons.Repeated) (Ok x) (stops_within rest_of given bytes reasons.Repeated le) (ok_within rest_of given x h))

context_within : StaysWithin context_at
unfolding context_at
context_within given bytes le =
    then_within rest_of rest_of given (head_at (0 ∷ 1 ∷ []) bytes) _ (head_within (0 ∷ 1 ∷ []) given bytes le)
    (λ x h. either_within rest_of given (ltb x.0.value (2 ^ 63)) (Ok (cond (eqb x.0.major 0) (pos x.0.value) (negsuc x.0.value), x.1)) _ (ok_within rest_of given (cond (eqb x.0.major 0) (pos x.0.value) (negsuc x.0.value), x.1) h) (stops_within rest_of given bytes reasons.WrongValue le))

after_item_within : (given : ℕ) (bytes : List ℕ) (read : ItemRead) → length bytes ≤ given → IsWithin rest_of given (after_item bytes read)
after_item_within given bytes (items.Whole len) le = ok_within rest_of given (take len bytes, drop len bytes) (omega (arith, length-drop len bytes))
after_item_within given bytes items.Short le = stops_within rest_of given bytes reasons.Truncated le
after_item_within given bytes items.NotShortest le = stops_within rest_of given bytes reasons.NotShortest le
after_item_within given bytes items.Bad le = stops_within rest_of given bytes reasons.WrongKind le
after_item_within given bytes items.Deep le = stops_within rest_of given bytes reasons.WrongValue le

value_within : StaysWithin value_at
unfolding value_at
value_within given bytes le = after_item_within given bytes (read_item bytes) le

pair_of_within : StaysWithin pair_of
unfolding pair_of
pair_of_within given bytes le =
    then_within length rest_of given (pair_at bytes) _ (pair_within given bytes le)
    (λ rest h. then_within rest_of rest_of given (number_at rest) _ (number_within given rest h)
    (λ id k. then_within rest_of rest_of given (value_at id.1) _ (value_within given id.1 k) (λ value l. ok_within rest_of given (record { id = id.0; value = value.0 }, value.1) l)))

pairs_within : StaysWithin pairs_at
pairs_within = array_within (λ before. pair_of) (λ before. pair_of_within) 0 16

parameters_within : (flags : ℕ) → StaysWithin (parameters_at flags)
unfolding parameters_at
parameters_within flags given bytes le =
    either_within rest_of given (has_parameters flags) _ (Ok (None, bytes))
    (then_within rest_of rest_of given (pairs_at bytes) _ (pairs_within given bytes le) (λ x h. ok_within rest_of given (Some x.0, x.1) h)) (ok_within rest_of given (None, bytes) le)

results_within : (targets : ℕ) → StaysWithin (results_at targets)
results_within targets = array_within (λ before. pairs_at) (λ before. pairs_within) targets targets

asb_within : StaysWithin asb_at
unfolding asb_at
asb_within given bytes le =
    then_within rest_of rest_of given (array_at target_at 1 64 bytes) _ (array_within target_at target_within 1 64 given bytes le)
    (λ targets h. then_within rest_of rest_of given (context_at targets.1) _ (context_within given targets.1 h)
    (λ context i. then_within rest_of rest_of given (number_at context.1) _ (number_within given context.1 i)
    (λ flags j. then_within rest_of rest_of given (id_at flags.1) _ (id_within given flags.1 j)
    (λ source k. then_within rest_of rest_of given (parameters_at flags.0 source.1) _ (parameters_within flags.0 given source.1 k)
    (λ parameters l. then_within rest_of rest_of given (results_at (length targets.0) parameters.1) _ (results_within (length targets.0) given parameters.1 l)
    (λ results m. ok_within rest_of given (record { targets = targets.0; context = context.0; flags = flags.0; source = source.0; parameters = parameters.0; results = results.0 }, results.1) m))))))

-- the two sides
pub asb_rest_within : (bytes : List ℕ) (x : Asb × List ℕ) → asb_at bytes ≡ Ok x → length x.1 ≤ length bytes
unfolding IsWithin
asb_rest_within bytes x e = subst (IsWithin rest_of (length bytes)) e (asb_within (length bytes) bytes (omega arith))

pub asb_stop_within : (bytes : List ℕ) (stop : Stop) → asb_at bytes ≡ Err stop → stop.left ≤ length bytes
unfolding IsWithin
asb_stop_within bytes stop e = subst (IsWithin rest_of (length bytes)) e (asb_within (length bytes) bytes (omega arith))
