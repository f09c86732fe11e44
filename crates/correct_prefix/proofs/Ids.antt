-- Where reading an id stops.
use Rattle.std.proofs.Common.{◌≡◌, ◌≢◌, ℕ, ◌+◌, ◌-◌, List, [], ◌++◌, length, take, drop, Result, Ok, Err, refl, sym, ◌∙◌, ap, subst, append_assoc, append-nil, arith}
use Rattle.std.proofs.lemmas.List.{length-append, take_at, drop_at}
use Rattle.cbor_profile.specs.declared.fault.Reason.TheVariants as reasons
use Rattle.bp_eid.specs.declared.eid.Eid.{Eid}
use Rattle.bp_eid.specs.declared.stop.Stop.{Stop}
use Rattle.bp_eid.specs.EndpointId.{spelling}
use Rattle.bp_eid.specs.Reading.{id_at}
use Rattle.bp_bundle.proofs.HeadsAsSpelled.{IsBytes, TokenLaws}
use Rattle.correct_prefix.proofs.ListStopsBehindPrefix.{Cut}
use Rattle.correct_prefix.proofs.IdStopsBehindPrefix.{id_cut}
use Rattle.correct_prefix.proofs.FaultyHead.{SealLaws}
use Rattle.correct_prefix.proofs.FaultyId.{SealedList, id_sealed_list}
use Rattle.correct_prefix.specs.Prefix.{Begins, before_stop, IsToken, IsUnfinished, IsCorrect, IsFaulty, from_stop}
use Rattle.correct_prefix.specs.Spelled.{IsId}

-- the bytes before and from the place at which reading stops
pub stop_parts : (bytes front rest : List ℕ) (stop : Stop) → bytes ≡ front ++ rest → length rest ≡ stop.left → (front ≡ before_stop bytes stop) × (rest ≡ from_stop bytes stop)
stop_parts bytes front rest stop parts left =
    let all : length bytes ≡ length front + length rest = ap length parts ∙ length-append front rest in
    let len : length bytes - stop.left ≡ length front = omega arith in (
      sym (ap (λ (n : ℕ). take n bytes) len ∙ (ap (take (length front)) parts ∙ take_at front rest (length front) refl)),
      sym (ap (λ (n : ℕ). drop n bytes) len ∙ (ap (drop (length front)) parts ∙ drop_at front rest (length front) refl)),
    )

cut_parts : (bytes : List ℕ) (stop : Stop) (c : Cut IsId bytes stop) → (c.front ≡ before_stop bytes stop) × (c.rest ≡ from_stop bytes stop)
cut_parts bytes stop c = stop_parts bytes c.front c.rest stop c.parts c.left

pub ids_before : (laws : TokenLaws) (bytes : List ℕ) (stop : Stop) → IsBytes bytes → id_at bytes ≡ Err stop → IsCorrect IsId (before_stop bytes stop)
ids_before laws bytes stop fits e = let c = id_cut laws bytes stop fits e in subst (IsCorrect IsId) (cut_parts bytes stop c).0 c.begins

pub ids_cut : (laws : TokenLaws) (bytes : List ℕ) (stop : Stop) → IsBytes bytes → id_at bytes ≡ Err stop → stop.reason ≡ reasons.Truncated → IsUnfinished IsId (before_stop bytes stop) (from_stop bytes stop)
ids_cut laws bytes stop fits e early =
    let c = id_cut laws bytes stop fits e in
    let p = cut_parts bytes stop c in
    subst (λ (f : List ℕ). IsUnfinished IsId f (from_stop bytes stop)) p.0 (subst (IsUnfinished IsId c.front) p.1 (c.unfinished early))

not_both : (r : Result (Eid × List ℕ) Stop) (x : Eid × List ℕ) (stop : Stop) → r ≡ Ok x → r ≡ Err stop → ⊥
not_both (Ok y) x stop a b = cc
not_both (Err y) x stop a b = cc

-- with the token no spelling begins
none_begins : (laws : SealLaws) (bytes : List ℕ) (stop : Stop) (s : SealedList id_at bytes stop) → Begins IsId (s.front ++ s.token) → ⊥
none_begins laws bytes stop s (whole, (eid, fits, spelled), others, is) =
    let own : whole ≡ spelling eid ++ [] = spelled ∙ sym (append-nil (spelling eid)) in
    not_both (id_at whole) (eid, []) _ (ap id_at own ∙ laws.laws.ids.again eid [] fits) (ap id_at (is ∙ append_assoc s.front s.token others) ∙ s.again others)

pub ids_faulty : (laws : SealLaws) (bytes : List ℕ) (stop : Stop) → IsBytes bytes → id_at bytes ≡ Err stop → stop.reason ≢ reasons.Truncated → IsFaulty IsId IsToken (before_stop bytes stop) (from_stop bytes stop)
ids_faulty laws bytes stop fits e other =
    let s = id_sealed_list laws bytes stop fits other e in
    let p = stop_parts bytes s.front (s.token ++ s.more) stop s.parts (sym s.left) in
    subst (λ (f : List ℕ). IsFaulty IsId IsToken f (from_stop bytes stop)) p.0 (s.token, s.more, sym p.1, s.is_token, none_begins laws bytes stop s)
