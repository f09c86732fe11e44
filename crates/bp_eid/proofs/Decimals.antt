-- Decimal digits.
use Rattle.std.proofs.Common.{◌≡◌, ◌≢◌, ℕ, ◌^◌, ◌<◌, inl, inr, List, length, get_or, Result, Ok, Err, refl, sym, ◌∙◌, ap, arith}
use Rattle.std.specs.Fmt.{decimal}
use Rattle.std.specs.Result.{OkIff, result_ok}
use Rattle.std.specs.Str.Parse.{AllDigits, digits_value}
use Rattle.std.proofs.lemmas.Bool.{cases_eq, cases_lt}
use Rattle.std.proofs.lemmas.Fmt.{decimal_digit, first_decimal, decimal_nonempty, digits_decimal, digits_value-decimal, decimal-digits_value}
use Rattle.std.proofs.lemmas.Str.Parse.{IsNumeralModel, numerals_by_value, tells_digits, not_in_digits}
use Rattle.bp_eid.specs.TextAnswer.{IsPadded, IsNumberOf}

pub numerals : IsNumeralModel (AllDigits 10) (digits_value 10)
numerals = numerals_by_value (AllDigits 10) tells_digits

pub no_dot : (n : ℕ) → n < 2 ^ 64 → (i : ℕ) → i < length (decimal n) → get_or (decimal n) i 0 ≢ 46
no_dot n lt = not_in_digits numerals (decimal n) 46 (digits_decimal numerals n lt) (λ h. omega (arith, h))

no_plus : (n : ℕ) → n < 2 ^ 64 → get_or (decimal n) 0 0 ≢ 43
no_plus n lt = not_in_digits numerals (decimal n) 43 (digits_decimal numerals n lt) (λ h. omega (arith, h)) 0 (decimal_nonempty n lt)

no_leading_zero : (n : ℕ) → n < 2 ^ 64 → get_or (decimal n) 0 0 ≡ 48 → length (decimal n) ≡ 1
no_leading_zero n lt first =
    elim (cases_eq n 0) [
      | inl zero ↦ let low : 0 < 10 = omega arith in rw (zero, decimal_digit 0 low) refl
      | inr other ↦ absurd (omega (arith, first_decimal n (omega arith) lt))
    ]

pub not_padded : (n : ℕ) → n < 2 ^ 64 → IsPadded (decimal n) → ⊥
not_padded n lt (inl plus) = no_plus n lt plus
not_padded n lt (inr zero) = omega (arith, no_leading_zero n lt zero.0, zero.1)

one_zero : (bs : List ℕ) → (IsPadded bs → ⊥) → 0 < length bs → get_or bs 0 0 ≡ 48 → length bs ≡ 1
one_zero bs plain some zero =
    elim (cases_lt 1 (length bs)) [
      | inl more ↦ absurd (plain (inr (zero, more)))
      | inr le ↦ omega arith
    ]

-- what `parse` answers of digits without a sign and without a leading zero
pub number_found : {E : Type 0} (bs : List ℕ) (r : Result ℕ E) → OkIff r (AllDigits 10 bs × (0 < length bs) × (digits_value 10 bs < 2 ^ 64)) (digits_value 10 bs) → (IsPadded bs → ⊥) → IsNumberOf bs (result_ok r)
number_found bs (Ok n) h plain = (rw h.1 h.0.2, rw h.1 (sym (decimal-digits_value numerals bs h.0.0 h.0.1 (one_zero bs plain h.0.1) h.0.2)))
number_found bs (Err e) h plain = λ n lt is.
    let digits : AllDigits 10 bs = rw is (digits_decimal numerals n lt) in
    let some : 0 < length bs = rw is (decimal_nonempty n lt) in
    let value : digits_value 10 bs ≡ n = ap (digits_value 10) is ∙ digits_value-decimal numerals n lt in
    h (digits, some, omega (arith, value))
