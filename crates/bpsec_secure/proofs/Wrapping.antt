-- Wrapping with a key of a known number of words.
use Rattle.std.proofs.Common.{◌≡◌, ℕ, ◌*◌, ◌/◌, List, length, ap, arith}
use Rattle.key_wrap.specs.KeyWrap.{wrap}
use Rattle.bpsec_secure.specs.Parameters.{wrapped_under}

pub wrapped_with : (n : ℕ) (wrapping key : List ℕ) → length wrapping ≡ 4 * n → wrapped_under wrapping key ≡ wrap n wrapping key
unfolding wrapped_under
wrapped_with n wrapping key long =
    let count : length wrapping / 4 ≡ n = omega arith in ap (λ words. wrap words wrapping key) count
