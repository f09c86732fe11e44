-- Fields of a kind, and what they give.
use Rattle.std.proofs.Common.{◌≡◌, ℕ, suc, true, cond, List, [], ◌∷◌, length, Option, Some, None, Ok, refl, ap, subst}
use Rattle.std.specs.Prelude.{nat_le, is_some, unwrap_or, option_map, option_and_then}
use Rattle.std.specs.List.{list_all}
use Rattle.cbor_profile.specs.Step.{◌>>=◌}
use Rattle.serde_json.specs.Data.{Data}
use Rattle.serde_json.specs.Find.{get, as_str, as_number, as_u64}
use Rattle.bp_text.specs.declared.fault.TextReason.{TextReason}
use Rattle.bp_text.specs.declared.fault.TextReason.TheVariants.{WrongShape}
use Rattle.bp_text.specs.declared.shape.Kind.TheVariants.{Name, Number, Distinct}
use Rattle.bp_text.specs.Fault.{wanted}
use Rattle.bp_text.specs.Tree.{values_of}
use Rattle.bp_text.specs.Shape.{is_of, has, may_have, passes, is_name, whole, wholes, are_distinct, are_distinct_wholes}
use Rattle.bp_text.specs.Field.{bytes_at, whole_at, wholes_at, optional}
use Rattle.bpsec_plan.specs.Items.{are_targets, is_name_if_any}
use Rattle.bpsec_plan.proofs.Steps.{ok_is, both_true}

-- a number up to this
pub number_within : (most : ℕ) (key : List ℕ) (d : Data) (n : ℕ) → has (Number most) key d ≡ true → whole_at key d ≡ Ok n → nat_le n most ≡ true
unfolding has is_of
number_within most key d n = go (get key d)
  where
    inner : (m : Option ℕ) → passes (λ k. nat_le k most) m ≡ true → wanted WrongShape m ≡ Ok n → nat_le n most ≡ true
    inner (Some m) h e = subst (λ (k : ℕ). nat_le k most ≡ true) (ok_is {E = TextReason} m n e) h
    inner None h e = absurd cc

    go : (o : Option Data) → passes (is_of (Number most)) o ≡ true → wanted WrongShape (option_and_then as_u64 (option_and_then as_number o)) ≡ Ok n → nat_le n most ≡ true
    go (Some v) h e = inner (whole v) h e
    go None h e = absurd cc

-- a name, where one is there
pub optional_name : (key : List ℕ) (d : Data) (k : Option (List ℕ)) → may_have Name key d ≡ true → optional bytes_at key d ≡ Ok k → is_name_if_any k ≡ true
unfolding may_have is_of optional
optional_name key d k = go (get key d)
  where
    inner : (text : Option (List ℕ)) → passes is_name text ≡ true → (wanted WrongShape text >>= λ x. Ok (Some x)) ≡ Ok k → is_name_if_any k ≡ true
    inner (Some t) h e = subst (λ (o : Option (List ℕ)). is_name_if_any o ≡ true) (ok_is {E = TextReason} (Some t) k e) h
    inner None h e = absurd cc

    go : (o : Option Data) → unwrap_or (option_map (is_of Name) o) true ≡ true → (cond (is_some o) (wanted WrongShape (option_and_then as_str o) >>= λ x. Ok (Some x)) (Ok None)) ≡ Ok k → is_name_if_any k ≡ true
    go (Some v) h e = inner (as_str v) h e
    go None h e = subst (λ (o : Option (List ℕ)). is_name_if_any o ≡ true) (ok_is {E = TextReason} None k e) refl

-- where all are whole numbers, there are as many
wholes_len : (ds : List Data) → list_all (λ d. is_some (whole d)) ds ≡ true → length (wholes ds) ≡ length ds
wholes_len [] h = refl
wholes_len (d ∷ ds) h = let parts = both_true (is_some (whole d)) (list_all (λ e. is_some (whole e)) ds) h in go (whole d) parts.0 (wholes_len ds parts.1)
  where
    go : (n : Option ℕ) → is_some n ≡ true → length (wholes ds) ≡ length ds → length (unwrap_or (option_map (λ m. m ∷ wholes ds) n) (wholes ds)) ≡ suc (length ds)
    go (Some n) h e = ap suc e
    go None h e = absurd cc

counted : (ns : List ℕ) (ds : List Data) → length ns ≡ length ds → nat_le 1 (length ds) ≡ true → nat_le (length ds) 64 ≡ true → are_distinct ns ≡ true → are_targets ns ≡ true
counted ns ds len low high distinct = rw (len, low, high) distinct

-- 1 to 64 numbers, none twice
pub targets_kept : (key : List ℕ) (d : Data) (ns : List ℕ) → has (Distinct 64) key d ≡ true → wholes_at key d ≡ Ok ns → are_targets ns ≡ true
unfolding has is_of
targets_kept key d ns = go (get key d)
  where
    inner : (ds : Option (List Data)) → passes (are_distinct_wholes 64) ds ≡ true → (wanted WrongShape ds >>= λ xs. Ok (wholes xs)) ≡ Ok ns → are_targets ns ≡ true
    inner None h e = absurd cc
    inner (Some ds) h e =
        let low = both_true (nat_le 1 (length ds)) _ h in
        let high = both_true (nat_le (length ds) 64) _ low.1 in
        let all = both_true (list_all (λ x. is_some (whole x)) ds) (are_distinct (wholes ds)) high.1 in
        subst (λ (xs : List ℕ). are_targets xs ≡ true) (ok_is {E = TextReason} (wholes ds) ns e) (counted (wholes ds) ds (wholes_len ds all.0) low.0 high.0 all.1)

    go : (o : Option Data) → passes (is_of (Distinct 64)) o ≡ true → (wanted WrongShape (option_and_then values_of o) >>= λ xs. Ok (wholes xs)) ≡ Ok ns → are_targets ns ≡ true
    go (Some v) h e = inner (values_of v) h e
    go None h e = absurd cc
