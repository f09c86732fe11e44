-- What the product by x is: the one polynomial of its length from which x p differs by a multiple of the modulus.
use Rattle.std.proofs.Common.{◌≡◌, ℕ, suc, ◌+◌, ◌<◌, ◌≤◌, ◌↔◌, Bool, true, false, ◌&&◌, List, [], ◌∷◌, ◌++◌, length, drop, refl, sym, ap, ◌∙◌, arith, length-append}
use Rattle.std.specs.Prelude.{All}
use Rattle.gf2_polynomial.specs.Polynomial.{coefficient_sum, polynomial_sum, polynomial_scaled, polynomial_product}
use Rattle.gf2_polynomial.proofs.Sums.{sum_comm, sum_twice, length-scaled, length-sum}
use Rattle.cmac_core.specs.Field.{x, modulus, reduced, product_by_x, IsProductByX}
use Rattle.cmac_core.specs.Cmac.{cmac, count_of_blocks, block_at, last_block, chained}
use Rattle.cmac_core.proofs.FieldLemmas.{product_x, length-modulus}

modulus_first : modulus ≡ true ∷ drop 1 modulus
unfolding modulus
modulus_first = refl

length-low : length (drop 1 modulus) ≡ 128
unfolding modulus
length-low = refl

one_scaled : (q : Bool) → coefficient_sum (q && true) false ≡ q
one_scaled true = refl
one_scaled false = refl

reduced_is : (a : Bool) (t : List Bool) → reduced (a ∷ t) ≡ polynomial_sum t (polynomial_scaled a (drop 1 modulus))
unfolding reduced
reduced_is a t = ap (λ (m : List Bool). drop 1 (polynomial_sum (a ∷ t) (polynomial_scaled a m))) modulus_first

product_by_x_is : (a : Bool) (p : List Bool)
    → product_by_x (a ∷ p) ≡ polynomial_sum (p ++ false ∷ []) (polynomial_scaled a (drop 1 modulus))
unfolding product_by_x
product_by_x_is a p = ap reduced (product_x a p) ∙ reduced_is a (p ++ false ∷ [])

-- a multiple of the modulus plus r, coefficient by coefficient
multiple_is : (q : Bool) (r : List Bool)
    → polynomial_sum (polynomial_scaled q modulus) (false ∷ r) ≡ q ∷ polynomial_sum (polynomial_scaled q (drop 1 modulus)) r
multiple_is q r =
    ap (λ (m : List Bool). polynomial_sum (polynomial_scaled q m) (false ∷ r)) modulus_first
    ∙ ap (λ (b : Bool). b ∷ polynomial_sum (polynomial_scaled q (drop 1 modulus)) r) (one_scaled q)

-- what is added twice falls away
falls_away : (a : Bool) (t : List Bool) → length t ≡ 128
    → polynomial_sum (polynomial_scaled a (drop 1 modulus)) (polynomial_sum t (polynomial_scaled a (drop 1 modulus))) ≡ t
falls_away a t h =
    let low : List Bool = polynomial_scaled a (drop 1 modulus) in
    ap (polynomial_sum low) (sum_comm t low) ∙ sum_twice low t (omega (arith, length-scaled a (drop 1 modulus), length-low))

same_parts : (a b : Bool) (p q : List Bool) → a ∷ p ≡ b ∷ q → (a ≡ b) × (p ≡ q)
same_parts a b p q e = (cc, cc)

pub product_is : (p r : List Bool) → length p ≡ 128 → (r ≡ product_by_x p) ↔ IsProductByX p r
product_is [] r h = absurd (omega arith)
product_is (a ∷ p) r h =
    let low : List Bool = polynomial_scaled a (drop 1 modulus) in
    let t : List Bool = p ++ false ∷ [] in
    let size : length t ≡ 128 = omega (arith, length-append p (false ∷ [])) in
    let low_size : length low ≡ 128 = length-scaled a (drop 1 modulus) ∙ length-low in (
      λ e.
          let is : r ≡ polynomial_sum t low = e ∙ product_by_x_is a p in
          record {
            short = ap length is ∙ length-sum t low 128 size low_size;
            multiple = (
              a,
              product_x a p ∙ ap (λ (u : List Bool). a ∷ u) (sym (falls_away a t size)) ∙ sym (rw is (multiple_is a (polynomial_sum t low))),
            );
          },
      λ is.
          let q : Bool = is.multiple.0 in
          let parts = same_parts a q t (polynomial_sum (polynomial_scaled q (drop 1 modulus)) r)
          (sym (product_x a p) ∙ is.multiple.1 ∙ multiple_is q r) in
          let same : polynomial_sum (polynomial_scaled q (drop 1 modulus)) r ≡ polynomial_sum r low =
          ap (λ (b : Bool). polynomial_sum (polynomial_scaled b (drop 1 modulus)) r) (sym parts.0) ∙ sum_comm low r in
          sym (product_by_x_is a p ∙ sum_comm t low ∙ ap (polynomial_sum low) (parts.1 ∙ same) ∙ falls_away a r is.short),
    )

pub length-cmac : (e : List ℕ → List ℕ) → ((block : List ℕ) → length (e block) ≡ 16) → (message : List ℕ) → length (cmac e message) ≡ 16
unfolding cmac
length-cmac e h message = h _

pub All-cmac : (e : List ℕ → List ℕ) → ((block : List ℕ) → All (λ byte. byte < 256) (e block)) → (message : List ℕ)
    → All (λ byte. byte < 256) (cmac e message)
unfolding cmac
All-cmac e h message = h _
