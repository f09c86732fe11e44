-- Where reading a field of a security block stops.
use Rattle.std.proofs.Common.{◌≡◌, ℕ, zero, suc, ◌+◌, ◌≤◌, length-append, ℤ, pos, negsuc, ◌^◌, ◌<◌, Bool, true, false, cond, ltb, eqb, ◌||◌, List, [], ◌∷◌, ◌++◌, length, Result, Ok, Err, refl, ap, subst, append-nil, arith}
use Rattle.std.specs.Prelude.{All, FitsSigned}
use Rattle.std.proofs.lemmas.List.Elements.{All-nil}
use Rattle.std.specs.Int.{w64}
use Rattle.std.specs.List.{list_any}
use Rattle.std.proofs.lemmas.Int.{ints}
use Rattle.std.proofs.lemmas.Bool.{eqb-true}
use Rattle.cbor_profile.specs.declared.head.Head.{Head}
use Rattle.cbor_profile.specs.declared.fault.Reason.TheVariants as reasons
use Rattle.cbor_profile.specs.Head.{head_spelling}
use Rattle.cbor_profile.specs.Item.{IsItem, most_levels}
use Rattle.cbor_profile.specs.Put.{uint, int, array_head}
use Rattle.cbor_profile.specs.Step.{◌>>=◌}
use Rattle.bp_eid.specs.declared.stop.Stop.{Stop}
use Rattle.bp_eid.specs.Reading.{stops, head_at, pair_at, number_at}
use Rattle.bp_eid.proofs.Tokens.{pair_again, pair_means, number_again, number_means}
use Rattle.bp_bundle.proofs.HeadsAsSpelled.{IsBytes}
use Rattle.correct_prefix.proofs.StopsBehindPrefix.{Starting, started}
use Rattle.correct_prefix.proofs.ListStopsBehindPrefix.{Starts}
use Rattle.correct_prefix.proofs.FaultyHead.{SealLaws}
use Rattle.correct_prefix.proofs.FaultyId.{either}
use Rattle.bpsec_asb.specs.declared.asb.Pair.{Pair}
use Rattle.bpsec_asb.specs.SecurityBlock.{array, pair, pairs, IsPair, ArePairs}
use Rattle.bpsec_asb.specs.Reading.{target_at, context_at, value_at, pair_of, pairs_at, results_at}
use Rattle.bpsec_asb.proofs.Arrays as arrays
use Rattle.bpsec_asb.proofs.Fields.{FitsTarget, FitsAlone, reads_targets, reads_pairs, reads_results, all-after}
use Rattle.correct_prefix.proofs.FreshTarget.{fresh}
use Rattle.correct_prefix.proofs.Stopped.{Stopped, wider, same_kind, steps, into, first_stops, next_stops, whole_refused}
use Rattle.correct_prefix.proofs.Heads.{headed_stops, head_refused, number_stops, whole_number, pair_stops}
use Rattle.correct_prefix.proofs.Values.{zero_item, is_zero_item, value_stops}
use Rattle.correct_prefix.proofs.Arrays.{IsOne, IsArray, Filled, fill_alone, StopsItems, array_stops}

-- ---- targets

fill_targets : (count : ℕ) (before : List ℕ) → length before + count ≤ 64 → Filled FitsTarget count before
fill_targets zero before le = ([], refl, tt)
fill_targets (suc count) before le =
    let new = fresh before in
    let others = fill_targets count (before ++ new.number ∷ []) (omega (arith, length-append before (new.number ∷ []))) in
    (new.number ∷ others.0, ap suc others.1, ((omega (arith, new.high), new.absent), others.2))

starts_target : (before : List ℕ) → length before < 64 → Starting (IsOne uint FitsTarget before) 0
unfolding uint
starts_target before few = let new = fresh before in (new.number, [], (new.number, (omega (arith, new.high), new.absent), append-nil (head_spelling 0 new.number)))

one_target : (laws : SealLaws) (before bytes : List ℕ) (stop : Stop) → IsBytes bytes → target_at before bytes ≡ Err stop → length before < 64 → Stopped (IsOne uint FitsTarget before) (target_at before) bytes stop
unfolding target_at
one_target laws before bytes stop small e few =
    let Kind = IsOne uint FitsTarget before in
    let start = starts_target before few in
    let listed : ℕ → Bool = λ n. list_any (λ listed. eqb listed n) before in
    let f : List ℕ → ℕ × List ℕ → Result (ℕ × List ℕ) Stop = λ b target. cond (listed target.0) (stops b reasons.Repeated) (Ok target) in
    steps (Stopped Kind (target_at before) bytes stop) (number_at bytes) (f bytes) stop e (λ is. first_stops Kind Kind number_at f bytes stop (same_kind Kind) (number_stops laws Kind bytes stop small start is))
    (λ x is h.
    let m = number_means arrays.laws bytes x small is in
    either (listed x.0) (stops bytes reasons.Repeated) (Ok x) stop (Stopped Kind (target_at before) bytes stop) h
    (λ b k. whole_refused Kind (λ b. number_at b >>= f b) bytes (uint x.0) x.1 reasons.Repeated stop (started Kind 0 start) m.0.parts (whole_number laws x.0 m.1) (λ q. cc) k (λ t. rw (number_again arrays.laws x.0 t m.1, b) refl))
    (λ b k. absurd cc))

pub stops_targets : (laws : SealLaws) → StopsItems uint FitsTarget target_at 64
stops_targets laws = record { reads = reads_targets; one = one_target laws; fill = fill_targets }

-- ---- the id of the security context

abbrev pub IsContext : List ℕ → Type 0
IsContext text = (z : ℤ) × FitsSigned w64 z × (text ≡ int z)

zero_context : Starting IsContext 0
unfolding int
zero_context = (0, [], (pos 0, omega (arith, ints), append-nil (head_spelling 0 0)))

less_context : Starting IsContext 1
unfolding int
less_context = (0, [], (negsuc 0, omega (arith, ints), append-nil (head_spelling 1 0)))

starts_context : Starts IsContext (0 ∷ 1 ∷ [])
starts_context major among = by (eqb 0 major) (eqb 1 major) refl refl among
  where
    by : (a b : Bool) → eqb 0 major ≡ a → eqb 1 major ≡ b → (a || (b || false)) ≡ true → Starting IsContext major
    by true b is other e = subst (Starting IsContext) (eqb-true 0 major is) zero_context
    by false true other is e = subst (Starting IsContext) (eqb-true 1 major is) less_context
    by false false other others e = absurd cc

pub context_stops : (laws : SealLaws) (bytes : List ℕ) (stop : Stop) → IsBytes bytes → context_at bytes ≡ Err stop → Stopped IsContext context_at bytes stop
unfolding context_at
context_stops laws bytes stop small e =
    let z : Head → ℤ = λ head. cond (eqb head.major 0) (pos head.value) (negsuc head.value) in
    let f : List ℕ → Head × List ℕ → Result (ℤ × List ℕ) Stop = λ b head. cond (ltb head.0.value (2 ^ 63)) (Ok (z head.0, head.1)) (stops b reasons.WrongValue) in
    let some = started IsContext 0 zero_context in
    headed_stops laws IsContext (0 ∷ 1 ∷ []) bytes f stop small some starts_context e
    (λ x r h.
    either (ltb x.0.value (2 ^ 63)) (Ok (z x.0, x.1)) (stops bytes reasons.WrongValue) stop (Stopped IsContext (λ b. head_at (0 ∷ 1 ∷ []) b >>= f b) bytes stop) h (λ b k. absurd cc)
    (λ b k. head_refused laws IsContext (0 ∷ 1 ∷ []) bytes f reasons.WrongValue stop x some r (λ q. cc) k (λ t. rw b refl)))

-- ---- pairs

zero_pair : Pair
zero_pair = record { id = 0; value = zero_item }

is_zero_pair : IsPair zero_pair
unfolding zero_pair
is_zero_pair = record { id = omega arith; value = is_zero_item }

abbrev IsOnePair : List ℕ → Type 0
IsOnePair text = (p : Pair) × IsPair p × (text ≡ pair p)

-- what follows the head of a pair
abbrev IsTail : List ℕ → Type 0
IsTail text = (p : Pair) × IsPair p × (text ≡ uint p.id ++ p.value)

starts_pair : Starting IsOnePair 4
unfolding pair array_head
starts_pair = (2, uint zero_pair.id ++ zero_pair.value, (zero_pair, is_zero_pair, refl))

starts_tail : Starting IsTail 0
unfolding uint zero_pair
starts_tail = (0, zero_item, (zero_pair, is_zero_pair, refl))

abbrev after_value : ℕ → List ℕ × List ℕ → Result (Pair × List ℕ) Stop
after_value id value = Ok (record { id = id; value = value.0 }, value.1)

abbrev valued : ℕ → List ℕ → Result (Pair × List ℕ) Stop
valued id bytes = value_at bytes >>= after_value id

abbrev tail_at : List ℕ → Result (Pair × List ℕ) Stop
tail_at bytes = number_at bytes >>= λ id. valued id.0 id.1

valued_stops : (id : ℕ) (bytes : List ℕ) (stop : Stop) → valued id bytes ≡ Err stop → Stopped (IsItem most_levels) (valued id) bytes stop
valued_stops id bytes stop e =
    let Kind = IsItem most_levels in
    steps (Stopped Kind (valued id) bytes stop) (value_at bytes) (after_value id) stop e (λ is. first_stops Kind Kind value_at (λ b. after_value id) bytes stop (same_kind Kind) (value_stops bytes stop is)) (λ x is h. absurd cc)

tail_stops : (laws : SealLaws) (bytes : List ℕ) (stop : Stop) → IsBytes bytes → tail_at bytes ≡ Err stop → Stopped IsTail tail_at bytes stop
tail_stops laws bytes stop small e =
    let f : List ℕ → ℕ × List ℕ → Result (Pair × List ℕ) Stop = λ b id. valued id.0 id.1 in
    steps (Stopped IsTail tail_at bytes stop) (number_at bytes) (f bytes) stop e (λ is. first_stops IsTail IsTail number_at f bytes stop (same_kind IsTail) (number_stops laws IsTail bytes stop small starts_tail is))
    (λ x is h.
    let m = number_means arrays.laws bytes x small is in
    next_stops (IsItem most_levels) IsTail number_at f (valued x.0) (λ t. (x.0, t)) (uint x.0) bytes x.1 stop m.0.parts (λ t. number_again arrays.laws x.0 t m.1) (λ t. refl)
    (wider (IsItem most_levels) IsTail (uint x.0) (λ t item. (record { id = x.0; value = t }, record { id = m.1; value = item }, refl))) (valued_stops x.0 x.1 stop h))

pair_of_stops : (laws : SealLaws) (bytes : List ℕ) (stop : Stop) → IsBytes bytes → pair_of bytes ≡ Err stop → Stopped IsOnePair pair_of bytes stop
unfolding pair_of pair
pair_of_stops laws bytes stop small e =
    let f : List ℕ → List ℕ → Result (Pair × List ℕ) Stop = λ b rest. tail_at rest in
    steps (Stopped IsOnePair pair_of bytes stop) (pair_at bytes) (f bytes) stop e (λ is. first_stops IsOnePair IsOnePair pair_at f bytes stop (same_kind IsOnePair) (pair_stops laws IsOnePair bytes stop small starts_pair is))
    (λ rest is h.
    let m = pair_means arrays.laws bytes rest small is in
    next_stops IsTail IsOnePair pair_at f tail_at (λ t. t) (array_head 2) bytes rest stop m.parts (λ t. pair_again arrays.laws t) (λ t. refl)
    (wider IsTail IsOnePair (array_head 2) (λ t k. (k.0, k.1, ap (λ (l : List ℕ). array_head 2 ++ l) k.2))) (tail_stops laws rest stop m.rest_fits h))

stops_pairs : (laws : SealLaws) → StopsItems pair (FitsAlone IsPair) (λ before. pair_of) 16
stops_pairs laws = record {
  reads = reads_pairs;
  one = λ before bytes stop small e few. pair_of_stops laws bytes stop small e;
  fill = λ count before le. fill_alone (FitsAlone IsPair) zero_pair (λ before. is_zero_pair) count before;
}

-- some parameters, or the results of one target
abbrev pub ArePairsAt : List ℕ → Type 0
ArePairsAt text = (ps : List Pair) × ArePairs ps × (text ≡ pairs ps)

pub no_pairs : ArePairs []
no_pairs = (omega arith, All-nil IsPair)

pub pairs_stop : (laws : SealLaws) (bytes : List ℕ) (stop : Stop) → IsBytes bytes → pairs_at bytes ≡ Err stop → Stopped ArePairsAt pairs_at bytes stop
pairs_stop laws bytes stop small e =
    let Kind = IsArray pair (FitsAlone IsPair) 0 16 in
    into Kind ArePairsAt pairs_at pairs_at [] bytes bytes stop refl (wider Kind ArePairsAt [] (λ t k. (k.0, (k.2, all-after IsPair [] k.0 k.3), k.4))) (λ t s is. is)
    (array_stops laws pair (FitsAlone IsPair) (λ before. pair_of) 16 (stops_pairs laws) 0 16 bytes stop (omega arith) (omega arith) (omega arith) small e)

-- ---- results

-- results for so many targets
abbrev pub AreResults : ℕ → List ℕ → Type 0
AreResults targets text = (results : List (List Pair)) × (length results ≡ targets) × All ArePairs results × (text ≡ array pairs results)

pub no_results : (targets : ℕ) → (results : List (List Pair)) × (length results ≡ targets) × All ArePairs results
no_results targets = let f = fill_alone (FitsAlone ArePairs) [] (λ before. no_pairs) targets [] in (f.0, f.1, all-after ArePairs [] f.0 f.2)

stops_results : (laws : SealLaws) (bound : ℕ) → StopsItems pairs (FitsAlone ArePairs) (λ before. pairs_at) bound
stops_results laws bound = record {
  reads = reads_results;
  one = λ before bytes stop small e few. pairs_stop laws bytes stop small e;
  fill = λ count before le. fill_alone (FitsAlone ArePairs) [] (λ before. no_pairs) count before;
}

pub results_stop : (laws : SealLaws) (targets : ℕ) (bytes : List ℕ) (stop : Stop) → targets < 2 ^ 64 → IsBytes bytes → results_at targets bytes ≡ Err stop → Stopped (AreResults targets) (results_at targets) bytes stop
results_stop laws targets bytes stop few small e =
    let Kind = IsArray pairs (FitsAlone ArePairs) targets targets in
    into Kind (AreResults targets) (results_at targets) (results_at targets) [] bytes bytes stop refl
    (wider Kind (AreResults targets) [] (λ t k. (k.0, omega (arith, k.1, k.2), all-after ArePairs [] k.0 k.3, k.4))) (λ t s is. is)
    (array_stops laws pairs (FitsAlone ArePairs) (λ before. pairs_at) targets (stops_results laws targets) targets targets bytes stop (omega arith) (omega arith) few small e)
