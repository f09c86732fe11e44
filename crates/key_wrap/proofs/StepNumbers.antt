-- The number of a step as bytes.
use Rattle.std.proofs.Common.{◌≡◌, ℕ, zero, suc, ◌<◌, All, length, get_or, refl, arith}
use Rattle.std.proofs.lemmas.List.Elements.{All-from_get_or}
use Rattle.key_wrap.specs.KeyWrap.{step_bytes}

pub length-step_bytes : (t : ℕ) → length (step_bytes t) ≡ 8
unfolding step_bytes
length-step_bytes t = refl

byte_below : (k t : ℕ) → k < 8 → get_or (step_bytes t) k 0 < 256
unfolding step_bytes
byte_below zero t h = omega arith
byte_below (suc zero) t h = omega arith
byte_below (suc (suc zero)) t h = omega arith
byte_below (suc (suc (suc zero))) t h = omega arith
byte_below (suc (suc (suc (suc zero)))) t h = omega arith
byte_below (suc (suc (suc (suc (suc zero))))) t h = omega arith
byte_below (suc (suc (suc (suc (suc (suc zero)))))) t h = omega arith
byte_below (suc (suc (suc (suc (suc (suc (suc zero))))))) t h = omega arith
byte_below (suc (suc (suc (suc (suc (suc (suc (suc k)))))))) t h = absurd (omega arith)

pub All-step_bytes : (t : ℕ) → All (λ b. b < 256) (step_bytes t)
All-step_bytes t = All-from_get_or (λ b. b < 256) (step_bytes t) 0 (λ k lt. byte_below k t (omega (arith, length-step_bytes t)))
