-- Other contexts than the further one.
use Rattle.std.proofs.Common.{◌≡◌, ◌≢◌, Bool, true, false, refl}
use Rattle.std.specs.Prelude.{ℤ}
use Rattle.std.specs.Ordering.{int_eq}
use Rattle.std.proofs.lemmas.Bool.Decides.{Decides-int_eq}
use Rattle.bpsec_cmac.specs.Also.{is_further}

false_from : (b : Bool) → (b ≡ true → ⊥) → b ≡ false
false_from true h = absurd (h refl)
false_from false h = refl

pub not_further : (context id : ℤ) → context ≢ id → is_further id context ≡ false
unfolding is_further
not_further context id other = false_from (int_eq context id) (λ e. other ((Decides-int_eq context id).0 e))
