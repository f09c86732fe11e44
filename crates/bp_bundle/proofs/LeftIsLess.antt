-- What is left is no more than what was there.
use Rattle.std.proofs.Common.{◌≡◌, ℕ, ◌/◌, ◌==◌, ◌-◌, ◌≤◌, Bool, true, false, cond, List, [], ◌∷◌, length, drop, Result, Ok, Err, ap, arith, length-drop}
use Rattle.std.specs.List.{list_any}
use Rattle.cbor_profile.specs.declared.head.Head.{Head}
use Rattle.cbor_profile.specs.declared.head.HeadRead.{HeadRead}
use Rattle.cbor_profile.specs.declared.head.HeadRead.TheVariants.{Whole, Short, NotShortest, Bad}
use Rattle.cbor_profile.specs.declared.fault.Reason.{Reason}
use Rattle.cbor_profile.specs.declared.fault.Reason.TheVariants as reasons
use Rattle.cbor_profile.specs.declared.fault.Reason.TheVariants.{WrongKind, Truncated}
use Rattle.cbor_profile.specs.declared.fault.Fault.{Fault}
use Rattle.cbor_profile.specs.Head.{read_head}
use Rattle.cbor_profile.specs.Token.{token_head, after_read}
use Rattle.bp_eid.specs.declared.eid.Eid.{Eid}
use Rattle.bp_eid.specs.declared.stop.Stop.{Stop}
use Rattle.bp_eid.specs.declared.reading.EidAt.{EidAt}
use Rattle.bp_eid.specs.Reading.{id_at, read_id, answer, place_of, fault_of}

ok_same : {A E : Type 0} (x y : A) → ◌≡◌ {A = Result A E} (Ok x) (Ok y) → x ≡ y
ok_same x y is = cc

after_shorter : (bytes : List ℕ) (read : HeadRead) (head : Head) (rest : List ℕ) → after_read bytes read ≡ Ok (head, rest) → length rest ≤ length bytes
after_shorter bytes (Whole h len) head rest is =
    let same : drop len bytes ≡ rest = ap (λ (p : Head × List ℕ). p.1) (ok_same {E = Reason} (h, drop len bytes) (head, rest) is) in
    omega (arith, length-drop len bytes, ap (λ (xs : List ℕ). length xs) same)
after_shorter bytes Short head rest is = absurd cc
after_shorter bytes NotShortest head rest is = absurd cc
after_shorter bytes Bad head rest is = absurd cc

choose : (b : Bool) (r : Result (Head × List ℕ) Reason) (head : Head) (rest : List ℕ) → cond b r (Err WrongKind) ≡ Ok (head, rest) → r ≡ Ok (head, rest)
choose true r head rest is = is
choose false r head rest is = absurd cc

pub token_shorter : (kinds bytes : List ℕ) (head : Head) (rest : List ℕ) → token_head kinds bytes ≡ Ok (head, rest) → length rest ≤ length bytes
unfolding token_head
token_shorter kinds [] head rest is = absurd cc
token_shorter kinds (first ∷ more) head rest is =
    after_shorter (first ∷ more) (read_head (first ∷ more)) head rest (choose (list_any (λ kind. kind == first / 32) kinds) (after_read (first ∷ more) (read_head (first ∷ more))) head rest is)

place_within : (given : ℕ) (reason : Reason) (left : ℕ) → place_of given reason left ≤ given
place_within given reasons.NotBundle left = omega arith
place_within given reasons.Truncated left = omega arith
place_within given reasons.NotShortest left = omega arith
place_within given reasons.WrongKind left = omega arith
place_within given reasons.WrongCount left = omega arith
place_within given reasons.WrongValue left = omega arith
place_within given reasons.WrongText left = omega arith
place_within given reasons.WrongCheck left = omega arith
place_within given reasons.TooLong left = omega arith
place_within given reasons.Trailing left = omega arith
place_within given reasons.Repeated left = omega arith

answer_within : (bytes : List ℕ) (read : Result (Eid × List ℕ) Stop) (fault : Fault) → answer bytes read ≡ Err fault → fault.place ≤ length bytes
answer_within bytes (Ok x) fault is = absurd cc
answer_within bytes (Err stop) fault is =
    let same : fault_of (length bytes) stop ≡ fault = cc in
    let le = place_within (length bytes) stop.reason stop.left in
    omega (arith, le, ap (λ (f : Fault). f.place) same)

pub id_fault_within : (bytes : List ℕ) (fault : Fault) → read_id bytes ≡ Err fault → fault.place ≤ length bytes
unfolding read_id
id_fault_within bytes fault is = answer_within bytes (id_at bytes) fault is
