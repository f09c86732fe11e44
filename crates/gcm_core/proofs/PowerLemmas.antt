-- GHASH as a sum of blocks times powers of the subkey.
use Rattle.std.proofs.Common.{◌≡◌, ℕ, zero, suc, ◌-◌, ◌/◌, ◌≤◌, Bool, List, length, replicate, refl, sym, ap, ◌∙◌, false, arith}
use Rattle.gcm_core.specs.Polynomial.{polynomial_sum, polynomial_product, remainder}
use Rattle.gcm_core.specs.Block.{bits, low_terms, block_product}
use Rattle.gcm_core.specs.Hash.{block_at, hash_of_blocks, ghash, times_power, power_sum}
use Rattle.gcm_core.proofs.PolynomialLemmas.{remainder-sum, length-remainder, product-sum, sum_self}
use Rattle.gcm_core.proofs.BitsLemmas.{length-bits, length-low_terms, bits_zero}

pub block_product-sum : (p q h : List Bool) → block_product (polynomial_sum p q) h ≡ polynomial_sum (block_product p h) (block_product q h)
unfolding block_product
block_product-sum p q h =
    ap (remainder low_terms) (product-sum p q h) ∙ remainder-sum low_terms (polynomial_product p h) (polynomial_product q h)

pub length-block_product : (p h : List Bool) → length (block_product p h) ≡ 128
unfolding block_product
length-block_product p h = length-remainder low_terms (polynomial_product p h) ∙ length-low_terms

-- zero times h is zero, since zero is twice zero
pub block_product_zero : (h : List Bool) → block_product (bits 128 0) h ≡ bits 128 0
block_product_zero h =
    let twice : polynomial_sum (bits 128 0) (bits 128 0) ≡ bits 128 0 =
    sum_self (bits 128 0) ∙ ap (λ (n : ℕ). replicate n false) (length-bits 128 0) ∙ sym (bits_zero 128) in
    ap (λ (z : List Bool). block_product z h) (sym twice) ∙ block_product-sum (bits 128 0) (bits 128 0) h
    ∙ sum_self (block_product (bits 128 0) h) ∙ ap (λ (n : ℕ). replicate n false) (length-block_product (bits 128 0) h) ∙ sym (bits_zero 128)

-- with one block more to come, each term is multiplied once more
power_sum_more : (h : List Bool) (bytes : List ℕ) (m n : ℕ) → n ≤ m → power_sum h bytes (suc m) n ≡ block_product (power_sum h bytes m n) h
unfolding power_sum times_power
power_sum_more h bytes m zero g = sym (block_product_zero h)
power_sum_more h bytes m (suc n) g =
    let more : suc m - n ≡ suc (m - n) = omega arith in
    rw (more, power_sum_more h bytes m n (omega arith))
    (sym (block_product-sum (power_sum h bytes m n) (times_power h (m - n) (block_at bytes n)) h))

hash_is_power_sum : (h : List Bool) (bytes : List ℕ) (m : ℕ) → hash_of_blocks h bytes m ≡ power_sum h bytes m m
unfolding hash_of_blocks power_sum times_power
hash_is_power_sum h bytes zero = refl
hash_is_power_sum h bytes (suc m) =
    let last : suc m - m ≡ 1 = omega arith in
    ap (λ (y : List Bool). block_product (polynomial_sum y (block_at bytes m)) h) (hash_is_power_sum h bytes m)
    ∙ block_product-sum (power_sum h bytes m m) (block_at bytes m) h
    ∙ ap (λ (t : List Bool). polynomial_sum t (block_product (block_at bytes m) h)) (sym (power_sum_more h bytes m m (omega arith)))
    ∙ rw last refl

pub ghash_is_power_sum : (h : List Bool) (bytes : List ℕ) → ghash h bytes ≡ power_sum h bytes (length bytes / 16) (length bytes / 16)
ghash_is_power_sum h bytes = hash_is_power_sum h bytes (length bytes / 16)
