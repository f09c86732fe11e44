-- Keys that are wrapped and unwrapped again.
use Rattle.std.proofs.Common.{◌≡◌, ℕ, ◌+◌, ◌*◌, ◌/◌, ◌%◌, ◌<◌, ◌≤◌, ◌==◌, ◌&&◌, ◌||◌, Bool, true, false, List, length, get_or, refl, ap, arith}
use Rattle.std.specs.Prelude.{nat_le, Some, All}
use Rattle.std.proofs.lemmas.Bool.{eqb-true, eq-eqb, and_parts, and_from, le-leb, leb-true}
use Rattle.std.proofs.lemmas.List.Elements.{All-from_get_or}
use Rattle.aes_core.specs.KeyExpansion.{IsKey, IsKeySize}
use Rattle.key_wrap.specs.KeyWrap.{IsWrappable, Registers, registers, initial_value, wrap, unwrap}
use Rattle.bpsec_context.specs.Keys.{unwrapped, working_key, refuses}
use Rattle.bpsec_context.specs.Pairs.{has_length, wrapped_lengths}
use Rattle.bpsec_facts.specs.Refusal.{is_wrappable, is_wrapping}
use Rattle.bpsec_secure.specs.Parameters.{wrapped_under}

-- the laws of key_wrap
abbrev pub Unwraps : Type 0
Unwraps = (nk : ℕ) (kek key : List ℕ) → IsKey nk kek → IsWrappable key → unwrap nk kek (wrap nk kek key) ≡ registers initial_value key

abbrev pub Longer : Type 0
Longer = (nk : ℕ) (kek key : List ℕ) → IsKey nk kek → IsWrappable key → length (wrap nk kek key) ≡ length key + 8

-- bytes
abbrev pub AreBytes : List ℕ → Type 0
AreBytes key = (i : ℕ) → get_or key i 0 < 256

all_bytes : (key : List ℕ) → AreBytes key → All (λ b. b < 256) key
all_bytes key bytes = All-from_get_or (λ b. b < 256) key 0 (λ i within. bytes i)

four_or_eight : (n : ℕ) (b : Bool) → (n == 16) ≡ b → (n == 16 || n == 32) ≡ true → IsKeySize (n / 4) × (n ≡ 4 * (n / 4))
four_or_eight n true is either =
    let e : n ≡ 16 = eqb-true n 16 is in rw e (refl, refl)
four_or_eight n false is either =
    let e : n ≡ 32 = eqb-true n 32 (rw is at either) in rw e (refl, refl)

pub is_key : (wrapping : List ℕ) → is_wrapping wrapping ≡ true → AreBytes wrapping → IsKey (length wrapping / 4) wrapping
is_key wrapping is bytes =
    let size = four_or_eight (length wrapping) (length wrapping == 16) refl is in
    record { has_size = size.0; has_length = size.1; has_bytes = all_bytes wrapping bytes }

pub can_wrap : (key : List ℕ) → is_wrappable key ≡ true → AreBytes key → IsWrappable key
can_wrap key is bytes =
    let outer = and_parts (nat_le 16 (length key)) (nat_le (length key) 64 && length key % 8 == 0) is in
    let inner = and_parts (nat_le (length key) 64) (length key % 8 == 0) outer.1 in
    record {
      at_least = leb-true 16 (length key) outer.0;
      at_most = leb-true (length key) 64 inner.0;
      whole = eqb-true (length key % 8) 0 inner.1;
      has_bytes = all_bytes key bytes;
    }

-- the wrapped key is unwrapped to the key, with the initial value
pub unwrapped_again : Unwraps → (wrapping key : List ℕ) → is_wrapping wrapping ≡ true → AreBytes wrapping → is_wrappable key ≡ true → AreBytes key → unwrapped wrapping (wrapped_under wrapping key) ≡ registers initial_value key
unfolding unwrapped wrapped_under
unwrapped_again law wrapping key is bytes is' bytes' = law (length wrapping / 4) wrapping key (is_key wrapping is bytes) (can_wrap key is' bytes')

pub not_refused : Unwraps → (wrapping key : List ℕ) → is_wrapping wrapping ≡ true → AreBytes wrapping → is_wrappable key ≡ true → AreBytes key → refuses (Some (wrapped_under wrapping key)) wrapping ≡ false
not_refused law wrapping key is bytes is' bytes' =
    rw (unwrapped_again law wrapping key is bytes is' bytes') refl

pub works : Unwraps → (wrapping key : List ℕ) → is_wrapping wrapping ≡ true → AreBytes wrapping → is_wrappable key ≡ true → AreBytes key → working_key (Some (wrapped_under wrapping key)) wrapping ≡ key
works law wrapping key is bytes is' bytes' =
    ap (λ (r : Registers). r.groups) (unwrapped_again law wrapping key is bytes is' bytes')

pub length-wrapped : Longer → (wrapping key : List ℕ) → is_wrapping wrapping ≡ true → AreBytes wrapping → is_wrappable key ≡ true → AreBytes key → length (wrapped_under wrapping key) ≡ length key + 8
unfolding wrapped_under
length-wrapped law wrapping key is bytes is' bytes' = law (length wrapping / 4) wrapping key (is_key wrapping is bytes) (can_wrap key is' bytes')

-- it has a length that a wrapped key has
fits_by : (n m : ℕ) → 16 ≤ n → n ≤ 64 → n % 8 ≡ 0 → m ≡ n + 8 → has_length wrapped_lengths m ≡ true
fits_by n m least most whole is =
    and_from (nat_le 24 m) (nat_le m 72 && m % 8 == 0) (le-leb 24 m (omega arith))
    (and_from (nat_le m 72) (m % 8 == 0) (le-leb m 72 (omega arith)) (eq-eqb (m % 8) 0 (omega arith)))

pub wrapped_fits : Longer → (wrapping key : List ℕ) → is_wrapping wrapping ≡ true → AreBytes wrapping → is_wrappable key ≡ true → AreBytes key → has_length wrapped_lengths (length (wrapped_under wrapping key)) ≡ true
wrapped_fits law wrapping key is bytes is' bytes' =
    let fits = can_wrap key is' bytes' in
    fits_by (length key) (length (wrapped_under wrapping key)) fits.at_least fits.at_most fits.whole (length-wrapped law wrapping key is bytes is' bytes')
