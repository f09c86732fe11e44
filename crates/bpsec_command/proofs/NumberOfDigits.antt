-- Numbers in words.
use Rattle.std.proofs.Common.{◌≡◌, ℕ, ◌^◌, ◌<◌, Bool, true, false, ◌&&◌, cond, List, Option, Some, None, refl, sym, ◌∙◌, ap}
use Rattle.std.specs.Prelude.{nat_lt}
use Rattle.std.specs.Fmt.{decimal}
use Rattle.std.specs.Str.{bytes_eq}
use Rattle.std.specs.Str.Parse.{digits_value}
use Rattle.std.proofs.lemmas.Bool.{lt-ltb, ltb-true}
use Rattle.std.proofs.lemmas.Fmt.{digits_value-decimal}
use Rattle.std.proofs.lemmas.Slice.Eq.{bytes_eq-Decides}
use Rattle.bp_eid.specs.TextAnswer.{IsNumberOf}
use Rattle.bp_eid.proofs.Decimals.{numerals}
use Rattle.bpsec_command.specs.Grammar.{number_of}

both : (a b : Bool) → (a && b) ≡ true → (a ≡ true) × (b ≡ true)
both true b e = (refl, e)
both false b e = absurd cc

-- the number that has the digits, or none where none has them
pub number_is : (digits : List ℕ) (found : Option ℕ) → IsNumberOf digits found → found ≡ number_of digits
unfolding number_of
number_is digits (Some n) h =
    let value : digits_value 10 digits ≡ n = ap (digits_value 10) h.1 ∙ digits_value-decimal numerals n h.0 in
    let same : bytes_eq digits (decimal n) ≡ true = (bytes_eq-Decides digits (decimal n)).1 h.1 in
    rw (value, lt-ltb n (2 ^ 64) h.0, same) refl
number_is digits None h = at (nat_lt (digits_value 10 digits) (2 ^ 64) && bytes_eq digits (decimal (digits_value 10 digits))) refl
  where
    at : (b : Bool) → (nat_lt (digits_value 10 digits) (2 ^ 64) && bytes_eq digits (decimal (digits_value 10 digits))) ≡ b → None ≡ cond b (Some (digits_value 10 digits)) None
    at false e = refl
    at true e =
        let p = both (nat_lt (digits_value 10 digits) (2 ^ 64)) _ e in
        absurd (h (digits_value 10 digits) (ltb-true (digits_value 10 digits) (2 ^ 64) p.0) ((bytes_eq-Decides digits (decimal (digits_value 10 digits))).0 p.1))
