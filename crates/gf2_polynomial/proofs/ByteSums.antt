-- The sum of two lists of bytes.
use Rattle.std.proofs.Common.{◌≡◌, ℕ, ◌+◌, ◌<◌, ◌≤◌, List, [], ◌∷◌, ◌++◌, All, length, take, drop, set, get_or, bit_xor, refl, sym, ap, ◌∙◌, arith}
use Rattle.std.proofs.lemmas.List.{take_more, drop_more, length-take-le, get_or_at, set_at, append_assoc}
use Rattle.std.proofs.lemmas.List.Elements.{All-nil, All-cons, recursion_from_All, All-from_recursion}
use Rattle.std.proofs.lemmas.Nat.{xor_of_8}
use Rattle.std.specs.Int.Bits.{xor_assoc, xor_self, xor_zero_r}
use Rattle.gf2_polynomial.specs.Bytes.{bytes_sum}

pub length-bytes_sum : (a b : List ℕ) → length a ≤ length b → length (bytes_sum a b) ≡ length a
length-bytes_sum [] b h = refl
length-bytes_sum (x ∷ a) [] h = absurd (omega arith)
length-bytes_sum (x ∷ a) (y ∷ b) h = omega (arith, length-bytes_sum a b (omega arith))

bytes_sum_push : (a b : List ℕ) (x : ℕ) → length a < length b
    → bytes_sum (a ++ x ∷ []) b ≡ bytes_sum a b ++ bit_xor x (get_or b (length a) 0) ∷ []
bytes_sum_push a [] x h = absurd (omega arith)
bytes_sum_push [] (y ∷ b) x h = refl
bytes_sum_push (z ∷ a) (y ∷ b) x h = ap (λ (t : List ℕ). bit_xor z y ∷ t) (bytes_sum_push a b x (omega arith))

-- one byte more of a sum in place
pub bytes_sum_more : (a b now : List ℕ) (i x : ℕ) → i < length a → i < length b → now ≡ bytes_sum (take i a) b ++ drop i a
    → x ≡ get_or now i 0
    → set now i (bit_xor x (get_or b i 0)) ≡ bytes_sum (take (i + 1) a) b ++ drop (i + 1) a
bytes_sum_more a b now i x h g n e =
    let size : length (take i a) ≡ i = length-take-le i a (omega arith) in
    let done : length (bytes_sum (take i a) b) ≡ i = length-bytes_sum (take i a) b (omega arith) ∙ size in
    let next : ℕ = get_or a i 0 in
    let split : now ≡ bytes_sum (take i a) b ++ next ∷ drop (i + 1) a =
    n ∙ ap (λ (t : List ℕ). bytes_sum (take i a) b ++ t) (drop_more a i 0 h) in
    let read : x ≡ next = e ∙ ap (λ (t : List ℕ). get_or t i 0) split ∙ get_or_at (bytes_sum (take i a) b) next (drop (i + 1) a) 0 i done in
    let wrote : set now i (bit_xor x (get_or b i 0)) ≡ bytes_sum (take i a) b ++ bit_xor next (get_or b i 0) ∷ drop (i + 1) a =
    rw (split, read) (set_at (bytes_sum (take i a) b) next (drop (i + 1) a) (bit_xor next (get_or b i 0)) i done) in
    let grown : bytes_sum (take (i + 1) a) b ≡ bytes_sum (take i a) b ++ bit_xor next (get_or b i 0) ∷ [] =
    ap (λ (t : List ℕ). bytes_sum t b) (take_more a i 0 h) ∙ bytes_sum_push (take i a) b next (omega arith)
    ∙ ap (λ (j : ℕ). bytes_sum (take i a) b ++ bit_xor next (get_or b j 0) ∷ []) size in
    wrote ∙ sym (rw grown (append_assoc (bytes_sum (take i a) b) (bit_xor next (get_or b i 0) ∷ []) (drop (i + 1) a)))

pub bytes_sum_twice : (a b : List ℕ) → length a ≤ length b → bytes_sum (bytes_sum a b) b ≡ a
bytes_sum_twice [] b h = refl
bytes_sum_twice (x ∷ a) [] h = absurd (omega arith)
bytes_sum_twice (x ∷ a) (y ∷ b) h =
    let head : bit_xor (bit_xor x y) y ≡ x = xor_assoc x y y ∙ ap (bit_xor x) (xor_self y) ∙ xor_zero_r x in
    rw (head, bytes_sum_twice a b (omega arith)) refl

-- bytes make bytes
pub All-bytes_sum : (a b : List ℕ) → All (λ byte. byte < 256) a → All (λ byte. byte < 256) b
    → All (λ byte. byte < 256) (bytes_sum a b)
All-bytes_sum [] b h g = All-nil (λ byte. byte < 256)
All-bytes_sum (x ∷ a) [] h g = All-nil (λ byte. byte < 256)
All-bytes_sum (x ∷ a) (y ∷ b) h g =
    let P : ℕ → Type 0 = λ byte. byte < 256 in
    let hs = recursion_from_All P (x ∷ a) h in
    let gs = recursion_from_All P (y ∷ b) g in
    All-cons P (bit_xor x y) (bytes_sum a b) (xor_of_8 x y hs.0 gs.0)
    (All-bytes_sum a b (All-from_recursion P a hs.1) (All-from_recursion P b gs.1))
