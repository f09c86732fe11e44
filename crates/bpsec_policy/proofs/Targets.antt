-- Reading a list of targets one by one.
use Rattle.std.proofs.Common.{◌≡◌, ℕ, ◌+◌, ◌<◌, ◌≤◌, List, [], ◌∷◌, ◌++◌, map, length, get_or, drop, Result, Ok, Err, refl, sym, ◌∙◌, ap, append_assoc, add-one, arith}
use Rattle.std.proofs.Math.Seq.{drop-cons}
use Rattle.std.proofs.lemmas.List.{length-map, get_or-map, append-nil, at_drop_all}
use Rattle.cbor_profile.specs.Step.{◌>>=◌}
use Rattle.serde_json.specs.Data.{Data}
use Rattle.bp_text.specs.declared.fault.TextReason.{TextReason}
use Rattle.bpsec_policy.specs.declared.rule.TargetKind.{TargetKind}
use Rattle.bpsec_policy.specs.RuleText.{target_of, targets_of}

-- what is read, with these before it
abbrev pub with_front : List TargetKind → Result (List TargetKind) TextReason → Result (List TargetKind) TextReason
with_front xs r = r >>= λ ys. Ok (xs ++ ys)

-- the values that are left at a turn
pub left_at : {X : Type 0} (f : X → Data) (xs : List X) (i : ℕ) (x : X) → i < length xs → x ≡ get_or xs i x → drop i (map f xs) ≡ f x ∷ drop (i + 1) (map f xs)
left_at f xs i x lt is =
    let long : i < length (map f xs) = omega (arith, length-map xs f) in
    let item : get_or (map f xs) i (f x) ≡ f x = get_or-map f xs i x (f x) lt ∙ ap f (sym is) in
    drop-cons (map f xs) i (f x) long ∙ rw (item, add-one) refl

longer : (xs : List TargetKind) (x : TargetKind) (r : Result (List TargetKind) TextReason) → with_front (xs ++ x ∷ []) r ≡ with_front xs (r >>= λ ys. Ok (x ∷ ys))
longer xs x (Ok ys) = ap Ok (append_assoc xs (x ∷ []) ys)
longer xs x (Err reason) = refl

pub goes_on : (d : Data) (ds : List Data) (xs : List TargetKind) (x : TargetKind) → target_of d ≡ Ok x → with_front (xs ++ x ∷ []) (targets_of ds) ≡ with_front xs (targets_of (d ∷ ds))
goes_on d ds xs x e = rw e (longer xs x (targets_of ds))

pub stops : (d : Data) (ds : List Data) (xs : List TargetKind) (reason : TextReason) → target_of d ≡ Err reason → with_front xs (targets_of (d ∷ ds)) ≡ Err reason
stops d ds xs reason e = rw e refl

pub ends : (ds : List Data) (i : ℕ) (xs : List TargetKind) → length ds ≤ i → with_front xs (targets_of (drop i ds)) ≡ Ok xs
ends ds i xs le = ap (with_front xs) (at_drop_all targets_of ds i le) ∙ ap Ok (append-nil xs)
