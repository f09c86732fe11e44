-- Where reading a security block stops.
use Rattle.std.proofs.Common.{◌≡◌, ◌≢◌, ℕ, ℤ, pos, ◌^◌, ◌<◌, ◌≤◌, inl, Bool, true, false, List, [], ◌∷◌, ◌++◌, length, Option, Some, None, Result, Ok, Err, refl, sym, ◌∙◌, ap, subst, append-nil, arith, append_assoc}
use Rattle.std.specs.Prelude.{All, AllPairs, FitsSigned, is_some}
use Rattle.std.specs.Int.{w64}
use Rattle.std.specs.Option.{ForSome}
use Rattle.std.proofs.lemmas.Int.{ints}
use Rattle.cbor_profile.specs.Head.{head_spelling}
use Rattle.cbor_profile.specs.Put.{uint, int}
use Rattle.cbor_profile.specs.Step.{◌>>=◌}
use Rattle.cbor_profile.specs.declared.fault.Reason.{Reason}
use Rattle.cbor_profile.specs.declared.fault.Reason.TheVariants as reasons
use Rattle.bp_eid.specs.declared.eid.Eid.{Eid}
use Rattle.bp_eid.specs.declared.eid.Eid.TheVariants.{Null}
use Rattle.bp_eid.specs.declared.stop.Stop.{Stop}
use Rattle.bp_eid.specs.EndpointId as ids
use Rattle.bp_eid.specs.Reading.{number_at, id_at}
use Rattle.bp_eid.proofs.Tokens.{number_again, number_means}
use Rattle.bp_eid.proofs.Ids.{id_means, id_again}
use Rattle.bp_bundle.proofs.HeadsAsSpelled.{IsBytes}
use Rattle.correct_prefix.proofs.StopsBehindPrefix.{Starting}
use Rattle.correct_prefix.proofs.IdStopsBehindPrefix.{id_cut}
use Rattle.correct_prefix.proofs.FaultyHead.{SealLaws}
use Rattle.correct_prefix.proofs.FaultyId.{id_sealed_list, either}
use Rattle.bpsec_asb.specs.declared.asb.Pair.{Pair}
use Rattle.bpsec_asb.specs.declared.asb.Asb.{Asb}
use Rattle.bpsec_asb.specs.SecurityBlock.{array, pairs, parameters_item, has_parameters, spelling, ArePairs}
use Rattle.bpsec_asb.specs.Reading.{array_at, target_at, context_at, pairs_at, parameters_at, results_at, asb_at, ends, body_at}
use Rattle.bpsec_asb.proofs.Arrays as arrays
use Rattle.bpsec_asb.proofs.Arrays.{AllAfter, array_means, array_again}
use Rattle.bpsec_asb.proofs.Fields.{FitsTarget, reads_targets, context_means, context_read, parameters_means, parameters_again}
use Rattle.bpsec_asb.proofs.Distinct.{distinct, small}
use Rattle.bpsec_asb.proofs.Blocks.{built, after_parameters, after_source, after_flags, after_context, after_targets, asb_again, asb_means, body_again, rest_is_bytes}
use Rattle.correct_prefix.specs.Prefix.{Begins, before_stop, IsCorrect, IsFaulty, from_stop}
use Rattle.correct_prefix.specs.Spelled.{IsId, IsSpelling}
use Rattle.correct_prefix.specs.Values.{IsTokenOrValue, IsUnfinishedOrValue}
use Rattle.correct_prefix.proofs.Ids.{stop_parts}
use Rattle.correct_prefix.proofs.Stopped.{Sealed, Stopped, Goes, wider, same_kind, steps, into, first_stops, next_stops}
use Rattle.correct_prefix.proofs.Heads.{number_stops}
use Rattle.correct_prefix.proofs.Arrays.{IsArray, array_stops}
use Rattle.correct_prefix.proofs.Fields.{stops_targets, IsContext, context_stops, ArePairsAt, no_pairs, pairs_stop, AreResults, no_results, results_stop}

-- ---- security blocks by their fields

-- what the targets keep
record AreTargets (ts : List ℕ) : Type 0 where
  some : 1 ≤ length ts
  most : length ts ≤ 64
  numbers : All (λ target. target < 2 ^ 64) ts
  apart : AllPairs ◌≢◌ ts

array_targets : (ts : List ℕ) → 1 ≤ length ts → length ts ≤ 64 → AllAfter FitsTarget [] ts → AreTargets ts
array_targets ts low high fits = record { some = low; most = high; numbers = small [] ts fits; apart = distinct ts fits }

-- what the parameters keep beside the flags
abbrev AreParameters : ℕ → Option (List Pair) → Type 0
AreParameters flags parameters = (is_some parameters ≡ has_parameters flags) × ForSome parameters ArePairs

some_parameters : (flags : ℕ) (b : Bool) → has_parameters flags ≡ b → (parameters : Option (List Pair)) × AreParameters flags parameters
some_parameters flags true is = (Some [], (sym is, λ ps e. let same : [] ≡ ps = cc in subst ArePairs same no_pairs))
some_parameters flags false is = (None, (sym is, λ ps e. absurd cc))

default_parameters : (flags : ℕ) → (parameters : Option (List Pair)) × AreParameters flags parameters
default_parameters flags = some_parameters flags (has_parameters flags) refl

-- the fields from the results on, from the parameters on, and so on
abbrev Results : List ℕ → List ℕ → Type 0
Results ts text = AreResults (length ts) text

abbrev Parameters : List ℕ → ℕ → List ℕ → Type 0
Parameters ts flags text = (p : Option (List Pair)) × (rest : List ℕ) × AreParameters flags p × Results ts rest × (text ≡ parameters_item p ++ rest)

abbrev Source : List ℕ → ℕ → List ℕ → Type 0
Source ts flags text = (eid : Eid) × (rest : List ℕ) × ids.Fits eid × Parameters ts flags rest × (text ≡ ids.spelling eid ++ rest)

abbrev Flags : List ℕ → List ℕ → Type 0
Flags ts text = (flags : ℕ) × (rest : List ℕ) × (flags < 2 ^ 64) × Source ts flags rest × (text ≡ uint flags ++ rest)

abbrev Context : List ℕ → List ℕ → Type 0
Context ts text = (z : ℤ) × (rest : List ℕ) × FitsSigned w64 z × Flags ts rest × (text ≡ int z ++ rest)

abbrev Whole : List ℕ → Type 0
Whole text = (ts : List ℕ) × (rest : List ℕ) × AreTargets ts × Context ts rest × (text ≡ array uint ts ++ rest)

-- ---- some of each

some_results : (ts : List ℕ) → (text : List ℕ) × Results ts text
some_results ts = let r = no_results (length ts) in (array pairs r.0, (r.0, r.1, r.2, refl))

some_rest : (ts : List ℕ) (flags : ℕ) → (text : List ℕ) × Parameters ts flags text
some_rest ts flags = let p = default_parameters flags in let r = some_results ts in (parameters_item p.0 ++ r.0, (p.0, r.0, p.1, r.1, refl))

some_source : (ts : List ℕ) (flags : ℕ) → (text : List ℕ) × Source ts flags text
some_source ts flags = let r = some_rest ts flags in (ids.spelling Null ++ r.0, (Null, r.0, tt, r.1, refl {a = ids.spelling Null ++ r.0}))

starts_flags : (ts : List ℕ) → Starting (Flags ts) 0
unfolding uint
starts_flags ts = let r = some_source ts 0 in (0, r.0, (0, r.0, omega arith, r.1, refl {a = head_spelling 0 0 ++ r.0}))

some_flags : (ts : List ℕ) → (text : List ℕ) × Flags ts text
some_flags ts = let r = some_source ts 0 in (uint 0 ++ r.0, (0, r.0, omega arith, r.1, refl))

some_context : (ts : List ℕ) → (text : List ℕ) × Context ts text
some_context ts = let r = some_flags ts in (int (pos 0) ++ r.0, (pos 0, r.0, zero_fits, r.1, refl))
  where
    zero_fits : FitsSigned w64 (pos 0)
    zero_fits = omega (arith, ints)

-- ---- from field to field

results_stops : (laws : SealLaws) (ts : List ℕ) (z : ℤ) (flags : ℕ) (eid : Eid) (p : Option (List Pair)) (bytes : List ℕ) (stop : Stop) → length ts ≤ 64 → IsBytes bytes → (results_at (length ts) bytes >>= built ts z flags eid p) ≡ Err stop
    → Stopped (Results ts) (λ b. results_at (length ts) b >>= built ts z flags eid p) bytes stop
results_stops laws ts z flags eid p bytes stop few bs e =
    steps (Stopped (Results ts) (λ b. results_at (length ts) b >>= built ts z flags eid p) bytes stop) (results_at (length ts) bytes) (built ts z flags eid p) stop e
    (λ is. first_stops (Results ts) (Results ts) (results_at (length ts)) (λ b. built ts z flags eid p) bytes stop (same_kind (Results ts)) (results_stop laws (length ts) bytes stop (omega arith) bs is)) (λ x is h. absurd cc)

abbrev given : List Pair × List ℕ → Result (Option (List Pair) × List ℕ) Stop
given parameters = Ok (Some parameters.0, parameters.1)

abbrev nothing : List ℕ → Result (Option (List Pair) × List ℕ) Stop
nothing bytes = Ok (None, bytes)

parameters_own : (laws : SealLaws) (ts : List ℕ) (flags : ℕ) (bytes : List ℕ) (stop : Stop) → IsBytes bytes → parameters_at flags bytes ≡ Err stop → Stopped (Parameters ts flags) (parameters_at flags) bytes stop
unfolding parameters_at
parameters_own laws ts flags bytes stop bs e =
    either (has_parameters flags) (pairs_at bytes >>= given) (nothing bytes) stop (Stopped (Parameters ts flags) (parameters_at flags) bytes stop) e
    (λ there h.
    let goes : Goes ArePairsAt (Parameters ts flags) [] = λ t k. let r = some_results ts in (r.0, (Some k.0, r.0, (sym there, λ ps is. let same : k.0 ≡ ps = cc in subst ArePairs same k.1), r.1, ap (λ (l : List ℕ). l ++ r.0) k.2)) in
    steps (Stopped (Parameters ts flags) (parameters_at flags) bytes stop) (pairs_at bytes) given stop h
    (λ is. into ArePairsAt (Parameters ts flags) pairs_at (parameters_at flags) [] bytes bytes stop refl goes (λ t s own. rw (there, own) refl) (pairs_stop laws bytes stop bs is)) (λ x is k. absurd cc)) (λ absent h. absurd cc)

parameters_stops : (laws : SealLaws) (ts : List ℕ) (z : ℤ) (flags : ℕ) (eid : Eid) (bytes : List ℕ) (stop : Stop) → length ts ≤ 64 → IsBytes bytes → (parameters_at flags bytes >>= after_parameters ts z flags eid) ≡ Err stop
    → Stopped (Parameters ts flags) (λ b. parameters_at flags b >>= after_parameters ts z flags eid) bytes stop
parameters_stops laws ts z flags eid bytes stop few bs e =
    let Kind = Parameters ts flags in
    let f : List ℕ → Option (List Pair) × List ℕ → Result (Asb × List ℕ) Stop = λ b. after_parameters ts z flags eid in
    steps (Stopped Kind (λ b. parameters_at flags b >>= f b) bytes stop) (parameters_at flags bytes) (f bytes) stop e
    (λ is. first_stops Kind Kind (parameters_at flags) f bytes stop (same_kind Kind) (parameters_own laws ts flags bytes stop bs is))
    (λ x is h.
    let m = parameters_means flags bytes x bs is in
    next_stops (Results ts) Kind (parameters_at flags) f (λ b. results_at (length ts) b >>= built ts z flags eid x.0) (λ t. (x.0, t)) (parameters_item x.0) bytes x.1 stop m.takes.parts (λ t. parameters_again flags x.0 t m.flag m.fits) (λ t. refl)
    (wider (Results ts) Kind (parameters_item x.0) (λ t k. (x.0, t, (m.flag, m.fits), k, refl))) (results_stops laws ts z flags eid x.0 x.1 stop few m.takes.rest_fits h))

source_own : (laws : SealLaws) (bytes : List ℕ) (stop : Stop) → IsBytes bytes → id_at bytes ≡ Err stop → Stopped IsId id_at bytes stop
source_own laws bytes stop bs e =
    let c = id_cut laws.laws.heads bytes stop bs e in
    record {
      front = c.front;
      rest = c.rest;
      parts = c.parts;
      left = c.left;
      begins = c.begins;
      unfinished = λ early. inl (c.unfinished early);
      sealed = λ other.
          let s = id_sealed_list laws bytes stop bs other e in
          let p = stop_parts bytes c.front c.rest stop c.parts c.left in
          let q = stop_parts bytes s.front (s.token ++ s.more) stop s.parts (sym s.left) in
          let front : s.front ≡ c.front = q.0 ∙ sym p.0 in
          let sealed : Sealed IsId id_at s.front (s.token ++ s.more) stop = record { token = s.token; more = s.more; parts = refl; is_token = inl s.is_token; again = s.again } in
          subst (λ (r : List ℕ). Sealed IsId id_at c.front r stop) (q.1 ∙ sym p.1) (subst (λ (f : List ℕ). Sealed IsId id_at f (s.token ++ s.more) stop) front sealed);
    }

source_stops : (laws : SealLaws) (ts : List ℕ) (z : ℤ) (flags : ℕ) (bytes : List ℕ) (stop : Stop) → length ts ≤ 64 → IsBytes bytes → (id_at bytes >>= after_source ts z flags) ≡ Err stop → Stopped (Source ts flags) (λ b. id_at b >>= after_source ts z flags) bytes stop
source_stops laws ts z flags bytes stop few bs e =
    let Kind = Source ts flags in
    let f : List ℕ → Eid × List ℕ → Result (Asb × List ℕ) Stop = λ b. after_source ts z flags in
    let goes : Goes IsId Kind [] = λ t k. let r = some_rest ts flags in (r.0, (k.0, r.0, k.1, r.1, ap (λ (l : List ℕ). l ++ r.0) k.2)) in
    steps (Stopped Kind (λ b. id_at b >>= f b) bytes stop) (id_at bytes) (f bytes) stop e (λ is. first_stops IsId Kind id_at f bytes stop goes (source_own laws bytes stop bs is))
    (λ x is h.
    let m = id_means arrays.laws bytes x bs is in
    next_stops (Parameters ts flags) Kind id_at f (λ b. parameters_at flags b >>= after_parameters ts z flags x.0) (λ t. (x.0, t)) (ids.spelling x.0) bytes x.1 stop m.0 (λ t. id_again arrays.laws x.0 t m.1) (λ t. refl)
    (wider (Parameters ts flags) Kind (ids.spelling x.0) (λ t k. (x.0, t, m.1, k, refl))) (parameters_stops laws ts z flags x.0 x.1 stop few (rest_is_bytes bytes (ids.spelling x.0) x.1 bs m.0) h))

flags_stops : (laws : SealLaws) (ts : List ℕ) (z : ℤ) (bytes : List ℕ) (stop : Stop) → length ts ≤ 64 → IsBytes bytes → (number_at bytes >>= after_flags ts z) ≡ Err stop → Stopped (Flags ts) (λ b. number_at b >>= after_flags ts z) bytes stop
flags_stops laws ts z bytes stop few bs e =
    let Kind = Flags ts in
    let f : List ℕ → ℕ × List ℕ → Result (Asb × List ℕ) Stop = λ b. after_flags ts z in
    steps (Stopped Kind (λ b. number_at b >>= f b) bytes stop) (number_at bytes) (f bytes) stop e (λ is. first_stops Kind Kind number_at f bytes stop (same_kind Kind) (number_stops laws Kind bytes stop bs (starts_flags ts) is))
    (λ x is h.
    let m = number_means arrays.laws bytes x bs is in
    next_stops (Source ts x.0) Kind number_at f (λ b. id_at b >>= after_source ts z x.0) (λ t. (x.0, t)) (uint x.0) bytes x.1 stop m.0.parts (λ t. number_again arrays.laws x.0 t m.1) (λ t. refl)
    (wider (Source ts x.0) Kind (uint x.0) (λ t k. (x.0, t, m.1, k, refl))) (source_stops laws ts z x.0 x.1 stop few m.0.rest_fits h))

context_stop : (laws : SealLaws) (ts : List ℕ) (bytes : List ℕ) (stop : Stop) → length ts ≤ 64 → IsBytes bytes → (context_at bytes >>= after_context ts) ≡ Err stop → Stopped (Context ts) (λ b. context_at b >>= after_context ts) bytes stop
context_stop laws ts bytes stop few bs e =
    let Kind = Context ts in
    let f : List ℕ → ℤ × List ℕ → Result (Asb × List ℕ) Stop = λ b. after_context ts in
    let goes : Goes IsContext Kind [] = λ t k. let r = some_flags ts in (r.0, (k.0, r.0, k.1, r.1, ap (λ (l : List ℕ). l ++ r.0) k.2)) in
    steps (Stopped Kind (λ b. context_at b >>= f b) bytes stop) (context_at bytes) (f bytes) stop e (λ is. first_stops IsContext Kind context_at f bytes stop goes (context_stops laws bytes stop bs is))
    (λ x is h.
    let m = context_means bytes x bs is in
    next_stops (Flags ts) Kind context_at f (λ b. number_at b >>= after_flags ts x.0) (λ t. (x.0, t)) (int x.0) bytes x.1 stop m.0.parts (λ t. context_read x.0 t m.1) (λ t. refl)
    (wider (Flags ts) Kind (int x.0) (λ t k. (x.0, t, m.1, k, refl))) (flags_stops laws ts x.0 x.1 stop few m.0.rest_fits h))

asb_stop : (laws : SealLaws) (bytes : List ℕ) (stop : Stop) → IsBytes bytes → asb_at bytes ≡ Err stop → Stopped Whole asb_at bytes stop
unfolding asb_at
asb_stop laws bytes stop bs e =
    let Targets = IsArray uint FitsTarget 1 64 in
    let targets_at : List ℕ → Result (List ℕ × List ℕ) Stop = array_at target_at 1 64 in
    let f : List ℕ → List ℕ × List ℕ → Result (Asb × List ℕ) Stop = λ b. after_targets in
    let goes : Goes Targets Whole [] = λ t k. let r = some_context k.0 in (r.0, (k.0, r.0, array_targets k.0 k.1 k.2 k.3, r.1, ap (λ (l : List ℕ). l ++ r.0) k.4)) in
    steps (Stopped Whole asb_at bytes stop) (targets_at bytes) (f bytes) stop e
    (λ is. first_stops Targets Whole targets_at f bytes stop goes (array_stops laws uint FitsTarget target_at 64 (stops_targets laws) 1 64 bytes stop (omega arith) (omega arith) (omega arith) bs is))
    (λ x is h.
    let m = array_means uint FitsTarget target_at reads_targets 1 64 bytes x bs is in
    next_stops (Context x.0) Whole targets_at f (λ b. context_at b >>= after_context x.0) (λ t. (x.0, t)) (array uint x.0) bytes x.1 stop m.takes.parts
    (λ t. array_again uint FitsTarget target_at reads_targets 1 64 x.0 t m.low m.high (omega (arith, m.high)) m.fits) (λ t. refl)
    (wider (Context x.0) Whole (array uint x.0) (λ t k. (x.0, t, array_targets x.0 m.low m.high m.fits, k, refl))) (context_stop laws x.0 x.1 stop m.high m.takes.rest_fits h))

-- ---- a whole is the spelling of a security block

whole_is_spelled : (text : List ℕ) → Whole text → IsSpelling text
unfolding spelling
whole_is_spelled text (ts, after_ts, targets, (z, after_z, context, (flags, after_flags', small_flags, (eid, after_eid, source, (p, after_p, parameters, (rs, number, results, e6), e5), e4), e3), e2), e1) = (
  record { targets = ts; context = z; flags = flags; source = eid; parameters = p; results = rs },
  record {
    some_target = targets.some;
    most_targets = targets.most;
    targets = targets.numbers;
    distinct = targets.apart;
    context = context;
    flags = small_flags;
    source = source;
    parameters_flag = parameters.0;
    parameters = parameters.1;
    result_of_each = number;
    results = results;
  },
  e1 ∙ ap (λ (l : List ℕ). array uint ts ++ l) (e2 ∙ ap (λ (l : List ℕ). int z ++ l) (e3 ∙ ap (λ (l : List ℕ). uint flags ++ l) (e4 ∙ ap (λ (l : List ℕ). ids.spelling eid ++ l) (e5 ∙ ap (λ (l : List ℕ). parameters_item p ++ l) e6)))),
)

-- ---- the body

ended : (x : Asb × List ℕ) (stop : Stop) → ends x ≡ Err stop → (byte : ℕ) × (more : List ℕ) × (x.1 ≡ byte ∷ more) × (stop ≡ record { reason = reasons.Trailing; left = length x.1 })
ended (asb, []) stop e = absurd cc
ended (asb, byte ∷ more) stop e = (byte, more, refl, cc)

ends_stop : (body : List ℕ) (x : Asb × List ℕ) (stop : Stop) → IsBytes body → asb_at body ≡ Ok x → ends x ≡ Err stop → Stopped IsSpelling body_at body stop
unfolding body_at
ends_stop body x stop bs is e =
    let m = asb_means body x bs is in
    let end = ended x stop e in
    let left : stop.left ≡ length x.1 = ap (λ (s : Stop). s.left) end.3 in
    let reason : stop.reason ≡ reasons.Trailing = ap (λ (s : Stop). s.reason) end.3 in
    record {
      front = spelling x.0;
      rest = x.1;
      parts = m.takes.parts;
      left = sym left;
      begins = inl (spelling x.0, (x.0, m.fits, refl), [], sym (append-nil (spelling x.0)));
      unfinished = λ early. absurd (let clash : reasons.Trailing ≡ reasons.Truncated = sym reason ∙ early in cc);
      sealed = λ other. record {
        token = end.0 ∷ [];
        more = end.1;
        parts = end.2;
        is_token = inl (inl refl);
        again = λ others.
            ap (λ (r : Result (Asb × List ℕ) Stop). r >>= ends) (asb_again x.0 (end.0 ∷ others) m.fits) ∙ ap (λ (r : Reason). Err (record { reason = r; left = length (end.0 ∷ others) })) (sym reason);
      };
    }

body_stop : (laws : SealLaws) (body : List ℕ) (stop : Stop) → IsBytes body → body_at body ≡ Err stop → Stopped IsSpelling body_at body stop
unfolding body_at
body_stop laws body stop bs e =
    steps (Stopped IsSpelling body_at body stop) (asb_at body) ends stop e
    (λ is. first_stops Whole IsSpelling asb_at (λ b. ends) body stop (wider Whole IsSpelling [] whole_is_spelled) (asb_stop laws body stop bs is)) (λ x is h. ends_stop body x stop bs is h)

-- ---- the law

front_is : (body : List ℕ) (stop : Stop) (s : Stopped IsSpelling body_at body stop) → (s.front ≡ before_stop body stop) × (s.rest ≡ from_stop body stop)
front_is body stop s = stop_parts body s.front s.rest stop s.parts s.left

pub blocks_before : (laws : SealLaws) (body : List ℕ) (stop : Stop) → IsBytes body → body_at body ≡ Err stop → IsCorrect IsSpelling (before_stop body stop)
blocks_before laws body stop bs e = let s = body_stop laws body stop bs e in subst (IsCorrect IsSpelling) (front_is body stop s).0 s.begins

pub blocks_cut : (laws : SealLaws) (body : List ℕ) (stop : Stop) → IsBytes body → body_at body ≡ Err stop → stop.reason ≡ reasons.Truncated → IsUnfinishedOrValue IsSpelling (before_stop body stop) (from_stop body stop)
blocks_cut laws body stop bs e early =
    let s = body_stop laws body stop bs e in
    let p = front_is body stop s in
    subst (λ (f : List ℕ). IsUnfinishedOrValue IsSpelling f (from_stop body stop)) p.0 (subst (IsUnfinishedOrValue IsSpelling s.front) p.1 (s.unfinished early))

-- with the token no spelling begins
none_begins : (front rest : List ℕ) (stop : Stop) (s : Sealed IsSpelling body_at front rest stop) → stop.reason ≢ reasons.Truncated → Begins IsSpelling (front ++ s.token) → ⊥
none_begins front rest stop s other (whole, (asb, fits, spelled), more, is) =
    let read : body_at whole ≡ Ok asb = body_again whole asb (fits, spelled) in
    let clash = ap body_at (is ∙ append_assoc front s.token more) ∙ s.again more in
    not_both (body_at whole) asb _ read clash
  where
    not_both : (r : Result Asb Stop) (asb : Asb) (s : Stop) → r ≡ Ok asb → r ≡ Err s → ⊥
    not_both (Ok x) asb s a b = cc
    not_both (Err x) asb s a b = cc

pub blocks_faulty : (laws : SealLaws) (body : List ℕ) (stop : Stop) → IsBytes body → body_at body ≡ Err stop → stop.reason ≢ reasons.Truncated
    → IsFaulty IsSpelling (IsTokenOrValue IsSpelling) (before_stop body stop) (from_stop body stop)
blocks_faulty laws body stop bs e other =
    let s = body_stop laws body stop bs e in
    let p = front_is body stop s in
    let t = s.sealed other in
    let Faulty : List ℕ → List ℕ → Type 0 = IsFaulty IsSpelling (IsTokenOrValue IsSpelling) in
    subst (λ (f : List ℕ). Faulty f (from_stop body stop)) p.0 (subst (Faulty s.front) p.1 (t.token, t.more, t.parts, t.is_token, none_begins s.front s.rest stop t other))
