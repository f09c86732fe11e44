-- Unwrapping with a key of a known number of words.
use Rattle.std.proofs.Common.{◌≡◌, ℕ, ◌*◌, ◌/◌, Bool, IsTrue, List, length, ap, arith}
use Rattle.std.specs.Prelude.{◌↔◌, bytes_eq}
use Rattle.std.specs.Bool.{one_answer}
use Rattle.std.proofs.lemmas.Slice.Eq.{bytes_eq-Decides}
use Rattle.key_wrap.specs.KeyWrap.{unwrap}
use Rattle.bpsec_context.specs.Keys.{unwrapped}

pub unwrapped_with : (n : ℕ) (key wrapped : List ℕ) → length key ≡ 4 * n → unwrapped key wrapped ≡ unwrap n key wrapped
unfolding unwrapped
unwrapped_with n key wrapped long =
    let count : length key / 4 ≡ n = omega arith in ap (λ words. unwrap words key wrapped) count

-- a test that is true exactly where two byte lists are equal
pub same_test : (test : Bool) (xs ys : List ℕ) → (IsTrue test ↔ (xs ≡ ys)) → test ≡ bytes_eq xs ys
same_test test xs ys iff = one_answer test (bytes_eq xs ys) iff (bytes_eq-Decides xs ys)
