-- Tables of multiples, by which blocks are multiplied several bits at a time.
use Rattle.std.specs.Prelude.{◌≡◌, ℕ, zero, suc, ◌<◌, Bool, false, List, ◌∷◌, slice_index}
use Rattle.gcm_core.specs.Polynomial.{reduced}
use Rattle.gcm_core.specs.Block.{bits, block_product, low_terms}

-- a block times x^k
unfoldable pub times_power_of_x : ℕ → List Bool → List Bool
times_power_of_x zero p = p
times_power_of_x (suc k) p = reduced low_terms (false ∷ times_power_of_x k p)

-- entry m is the product of h and the polynomial of the four bits of m
pub record HasMultiples (h : List Bool) (entries : List ℕ) : Type 0 where
  pub multiple : (m : ℕ) → m < 16 → bits 128 (slice_index entries m) ≡ block_product (bits 4 m) h
