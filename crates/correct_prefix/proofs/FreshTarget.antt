-- A number that isn't listed.
use Rattle.std.proofs.Common.{◌≡◌, ℕ, zero, suc, ◌+◌, ◌-◌, ◌≤◌, inl, inr, Bool, true, false, cond, eqb, not, List, [], ◌∷◌, length, refl, sym, ◌∙◌, ap, subst, arith}
use Rattle.std.specs.Prelude.{filter}
use Rattle.std.specs.List.{list_any}
use Rattle.std.proofs.lemmas.Bool.{eqb-true, eq-eqb, ne_eqb}
use Rattle.bpsec_asb.proofs.Members.{Among, from-any, any-from, among-filter}

abbrev others : ℕ → List ℕ → List ℕ
others n xs = filter (λ x. not (eqb x n)) xs

kept_or_not : (b : Bool) (x : ℕ) (ys : List ℕ) (k : ℕ) → length ys ≤ k → length (cond b (x ∷ ys) ys) ≤ k + 1
kept_or_not true x ys k le = omega arith
kept_or_not false x ys k le = omega arith

length-others : (n : ℕ) (xs : List ℕ) → length (others n xs) ≤ length xs
length-others n [] = omega arith
length-others n (x ∷ xs) = let h = kept_or_not (not (eqb x n)) x (others n xs) (length xs) (length-others n xs) in omega arith

taken_out : (n x : ℕ) (xs : List ℕ) (b : Bool) → eqb x n ≡ b → (Among n xs → length (others n xs) + 1 ≤ length xs) → Among n (x ∷ xs) → length (cond (not b) (x ∷ others n xs) (others n xs)) + 1 ≤ suc (length xs)
taken_out n x xs true is more h = omega (arith, length-others n xs)
taken_out n x xs false is more (inl e) = absurd (let h : eqb x n ≡ true = eq-eqb _ _ e in cc)
taken_out n x xs false is more (inr h) = omega (arith, more h)

fewer : (n : ℕ) (xs : List ℕ) → Among n xs → length (others n xs) + 1 ≤ length xs
fewer n [] h = elim h [ ]
fewer n (x ∷ xs) h = taken_out n x xs (eqb x n) refl (λ there. fewer n xs there) h

-- a number from n on that isn't listed
pub record IsFresh (n k : ℕ) (xs : List ℕ) : Type 0 where
  pub number : ℕ
  pub low : n ≤ number
  pub high : number ≤ n + k
  pub absent : list_any (λ x. eqb x number) xs ≡ false

not_listed : (b : Bool) → (b ≡ true → ⊥) → b ≡ false
not_listed true h = absurd (h refl)
not_listed false h = refl

fresh_by : (k n : ℕ) (xs : List ℕ) (b : Bool) → list_any (λ x. eqb x n) xs ≡ b → length xs ≤ k → ((ys : List ℕ) → length ys + 1 ≤ k → IsFresh (n + 1) (k - 1) ys) → IsFresh n k xs
fresh_by k n xs false is le later = record { number = n; low = omega arith; high = omega arith; absent = is }
fresh_by k n xs true is le later =
    let found = from-any (λ x. eqb x n) xs is in
    let here : Among n xs = rw (← eqb-true _ _ found.2) found.1 in
    let less = fewer n xs here in
    let f = later (others n xs) (omega arith) in
    record {
      number = f.number;
      low = omega (arith, f.low);
      high = omega (arith, f.high, less, le);
      absent = not_listed (list_any (λ x. eqb x f.number) xs) (λ e.
          let m = from-any (λ x. eqb x f.number) xs e in
          let other : not (eqb m.0 n) ≡ true = ap not (ne_eqb m.0 n (λ same. omega (arith, f.low, same, eqb-true _ _ m.2))) in
          let still = any-from (λ x. eqb x f.number) (others n xs) m.0 (among-filter (λ x. not (eqb x n)) xs m.0 m.1 other) m.2 in
          let clash : true ≡ false = sym still ∙ f.absent in cc);
    }

fresh_from : (k n : ℕ) (xs : List ℕ) → length xs ≤ k → IsFresh n k xs
fresh_from zero n [] le = record { number = n; low = omega arith; high = omega arith; absent = refl }
fresh_from zero n (x ∷ xs) le = absurd (omega arith)
fresh_from (suc k) n xs le = fresh_by (suc k) n xs (list_any (λ x. eqb x n) xs) refl le (λ ys less. let same : k ≡ suc k - 1 = omega arith in subst (λ m. IsFresh (n + 1) m ys) same (fresh_from k (n + 1) ys (omega arith)))

pub fresh : (xs : List ℕ) → IsFresh 0 (length xs) xs
fresh xs = fresh_from (length xs) 0 xs (omega arith)
