-- Groups of sixteen bytes, as four words with the lowest byte first.
use Rattle.std.proofs.Common.{◌≡◌, ℕ, zero, suc, ◌+◌, ◌*◌, ◌^◌, ◌<◌, ◌++◌, List, [], ◌∷◌, length, get_or, take, drop, bit_xor, refl, sym, ap, ◌∙◌, arith, append_assoc, suc-mul}
use Rattle.std.proofs.lemmas.List.{drop-drop, take-append-drop}
use Rattle.std.specs.Int.{w32, from_le_bytes}
use Rattle.std.specs.List.{concat}
use Rattle.std.specs.Simd.{first_chunks}
use Rattle.std.proofs.lemmas.Nat.{xor_lt}
use Rattle.std.proofs.lemmas.Slice.Eq.{text_from_reads}
use Rattle.bp_crc.specs.Check.{number_of, generator}
use Rattle.bp_crc.specs.Table.{register_of, bits_remainder}
use Rattle.bp_crc.proofs.Numbers.{steps}
use Rattle.bp_crc.proofs.Register.{register_of-push, bits_remainder-steps, bits_remainder-lt}
use Rattle.bp_crc.proofs.Words.{steps-between, steps-later}

-- the word of the four bytes from place i on
abbrev pub word_at : List ℕ → ℕ → ℕ
word_at bytes i =
    from_le_bytes w32 (get_or bytes i 0 ∷ get_or bytes (i + 1) 0 ∷ get_or bytes (i + 2) 0 ∷ get_or bytes (i + 3) 0 ∷ [])

-- four more bytes are 32 steps
register_of-word : (w : ℕ) (fed : List ℕ) (a b c d : ℕ) → a < 2 ^ 8 → b < 2 ^ 8 → c < 2 ^ 8 → d < 2 ^ 8
    → register_of w (fed ++ a ∷ b ∷ c ∷ d ∷ [])
    ≡ steps (number_of (generator w)) 32 (bit_xor (register_of w fed) (from_le_bytes w32 (a ∷ b ∷ c ∷ d ∷ [])))
register_of-word w fed a b c d ha hb hc hd =
    let t : ℕ = number_of (generator w) in
    let one : List ℕ = fed ++ a ∷ [] in
    let two : List ℕ = one ++ b ∷ [] in
    let three : List ℕ = two ++ c ∷ [] in
    let r : ℕ = register_of w fed in
    let lists : fed ++ a ∷ b ∷ c ∷ d ∷ [] ≡ three ++ d ∷ [] =
    sym (append_assoc fed (a ∷ []) (b ∷ c ∷ d ∷ [])) ∙ sym (append_assoc one (b ∷ []) (c ∷ d ∷ []))
    ∙ sym (append_assoc two (c ∷ []) (d ∷ [])) in
    let number : a + (b + (c + d * 2 ^ 8) * 2 ^ 8) * 2 ^ 8 ≡ from_le_bytes w32 (a ∷ b ∷ c ∷ d ∷ []) = omega arith in
    ap (register_of w) lists ∙ register_of-push w three d hd
    ∙ ap (λ x. steps t 8 (bit_xor x d)) (register_of-push w two c hc) ∙ steps-later t 8 8 (register_of w two) c d hc
    ∙ ap (λ x. steps t 16 (bit_xor x (c + d * 2 ^ 8))) (register_of-push w one b hb)
    ∙ steps-later t 8 16 (register_of w one) b (c + d * 2 ^ 8) hb
    ∙ ap (λ x. steps t 24 (bit_xor x (b + (c + d * 2 ^ 8) * 2 ^ 8))) (register_of-push w fed a ha)
    ∙ steps-later t 8 24 r a (b + (c + d * 2 ^ 8) * 2 ^ 8) ha
    ∙ ap (λ x. steps t 32 (bit_xor r x)) number

-- the bytes of a group, one by one
group_is : (group : List ℕ) → length group ≡ 16
    → group ≡ (get_or group 0 0 ∷ get_or group 1 0 ∷ get_or group 2 0 ∷ get_or group 3 0 ∷ [])
    ++ ((get_or group 4 0 ∷ get_or group 5 0 ∷ get_or group 6 0 ∷ get_or group 7 0 ∷ [])
    ++ ((get_or group 8 0 ∷ get_or group 9 0 ∷ get_or group 10 0 ∷ get_or group 11 0 ∷ [])
    ++ (get_or group 12 0 ∷ get_or group 13 0 ∷ get_or group 14 0 ∷ get_or group 15 0 ∷ [])))
group_is group len =
    text_from_reads group _ len
    (refl, (refl, (refl, (refl, (refl, (refl, (refl, (refl, (refl, (refl, (refl, (refl, (refl, (refl, (refl, (refl, tt))))))))))))))))

word-lt : (a b c d : ℕ) → a < 2 ^ 8 → b < 2 ^ 8 → c < 2 ^ 8 → d < 2 ^ 8 → from_le_bytes w32 (a ∷ b ∷ c ∷ d ∷ []) < 2 ^ 32
word-lt a b c d ha hb hc hd = omega arith

pub word_at-lt : (bytes : List ℕ) (i : ℕ) → ((k : ℕ) → get_or bytes k 0 < 2 ^ 8) → word_at bytes i < 2 ^ 32
word_at-lt bytes i fits =
    word-lt (get_or bytes i 0) (get_or bytes (i + 1) 0) (get_or bytes (i + 2) 0) (get_or bytes (i + 3) 0)
    (fits i) (fits (i + 1)) (fits (i + 2)) (fits (i + 3))

-- the four bytes from place i on
four_at : List ℕ → ℕ → List ℕ
four_at bytes i = get_or bytes i 0 ∷ get_or bytes (i + 1) 0 ∷ get_or bytes (i + 2) 0 ∷ get_or bytes (i + 3) 0 ∷ []

-- a group is taken in by its words' remainders
pub register_of-group : (w : ℕ) (fed group : List ℕ) → length group ≡ 16 → ((i : ℕ) → get_or group i 0 < 2 ^ 8)
    → register_of w fed < 2 ^ 32
    → bit_xor
    (bit_xor
    (bit_xor (bits_remainder w 32 12 (bit_xor (register_of w fed) (word_at group 0))) (bits_remainder w 32 8 (word_at group 4)))
    (bits_remainder w 32 4 (word_at group 8)))
    (bits_remainder w 32 0 (word_at group 12))
    ≡ register_of w (fed ++ group)
unfolding four_at
register_of-group w fed group len fits below =
    let t : ℕ = number_of (generator w) in
    let one : List ℕ = fed ++ four_at group 0 in
    let two : List ℕ = one ++ four_at group 4 in
    let three : List ℕ = two ++ four_at group 8 in
    let first : ℕ = word_at group 0 in
    let second : ℕ = word_at group 4 in
    let third : ℕ = word_at group 8 in
    let last : ℕ = word_at group 12 in
    let start : ℕ = bit_xor (register_of w fed) first in
    let step_1 : register_of w one ≡ steps t 32 start =
    register_of-word w fed (get_or group 0 0) (get_or group 1 0) (get_or group 2 0) (get_or group 3 0) (fits 0) (fits 1) (fits 2) (fits 3) in
    let step_2 : register_of w two ≡ steps t 32 (bit_xor (register_of w one) second) =
    register_of-word w one (get_or group 4 0) (get_or group 5 0) (get_or group 6 0) (get_or group 7 0) (fits 4) (fits 5) (fits 6) (fits 7) in
    let step_3 : register_of w three ≡ steps t 32 (bit_xor (register_of w two) third) =
    register_of-word w two (get_or group 8 0) (get_or group 9 0) (get_or group 10 0) (get_or group 11 0) (fits 8) (fits 9) (fits 10) (fits 11) in
    let step_4 : register_of w (three ++ four_at group 12) ≡ steps t 32 (bit_xor (register_of w three) last) =
    register_of-word w three (get_or group 12 0) (get_or group 13 0) (get_or group 14 0) (get_or group 15 0)
    (fits 12) (fits 13) (fits 14) (fits 15) in
    let lists : fed ++ group ≡ three ++ four_at group 12 =
    ap (λ (x : List ℕ). fed ++ x) (group_is group len)
    ∙ sym (append_assoc fed (four_at group 0) (four_at group 4 ++ (four_at group 8 ++ four_at group 12)))
    ∙ sym (append_assoc one (four_at group 4) (four_at group 8 ++ four_at group 12))
    ∙ sym (append_assoc two (four_at group 8) (four_at group 12)) in
    let sums : register_of w (fed ++ group)
    ≡ bit_xor (bit_xor (bit_xor (steps t 128 start) (steps t 96 second)) (steps t 64 third)) (steps t 32 last) =
    ap (register_of w) lists ∙ step_4
    ∙ ap (λ x. steps t 32 (bit_xor x last)) step_3 ∙ steps-between t 32 32 (bit_xor (register_of w two) third) last
    ∙ ap (λ x. bit_xor x (steps t 32 last))
    (ap (λ x. steps t 64 (bit_xor x third)) step_2 ∙ steps-between t 32 64 (bit_xor (register_of w one) second) third
    ∙ ap (λ x. bit_xor x (steps t 64 third))
    (ap (λ x. steps t 96 (bit_xor x second)) step_1 ∙ steps-between t 32 96 start second)) in
    rw (
      bits_remainder-steps w 32 12 start (xor_lt 32 (register_of w fed) first below (word_at-lt group 0 fits)),
      bits_remainder-steps w 32 8 second (word_at-lt group 4 fits),
      bits_remainder-steps w 32 4 third (word_at-lt group 8 fits),
      bits_remainder-steps w 32 0 last (word_at-lt group 12 fits),
    )
    (sym sums)

-- and what they add up to fits in the width
pub remainders-lt : (w a b c d : ℕ)
    → bit_xor
    (bit_xor (bit_xor (bits_remainder w 32 12 a) (bits_remainder w 32 8 b)) (bits_remainder w 32 4 c))
    (bits_remainder w 32 0 d)
    < 2 ^ w
remainders-lt w a b c d =
    let ra : ℕ = bits_remainder w 32 12 a in
    let rb : ℕ = bits_remainder w 32 8 b in
    let rc : ℕ = bits_remainder w 32 4 c in
    let rd : ℕ = bits_remainder w 32 0 d in
    xor_lt w (bit_xor (bit_xor ra rb) rc) rd
    (xor_lt w (bit_xor ra rb) rc (xor_lt w ra rb (bits_remainder-lt w 32 12 a) (bits_remainder-lt w 32 8 b)) (bits_remainder-lt w 32 4 c))
    (bits_remainder-lt w 32 0 d)

-- groups of n elements and what is behind them are the whole list
pub chunks_whole : (n k : ℕ) (xs : List ℕ) → concat (first_chunks n k xs) ++ drop (k * n) xs ≡ xs
chunks_whole n zero xs = let none : zero * n ≡ 0 = omega arith in ap (λ i. drop i xs) none
chunks_whole n (suc k) xs =
    let parts : suc k * n ≡ n + k * n = rw suc-mul (omega arith) in
    let rest : List (List ℕ) = first_chunks n k (drop n xs) in
    append_assoc (take n xs) (concat rest) (drop (suc k * n) xs)
    ∙ ap (λ (x : List ℕ). take n xs ++ x)
    (ap (λ i. concat rest ++ drop i xs) parts
    ∙ ap (λ (x : List ℕ). concat rest ++ x) (sym (drop-drop (k * n) n xs))
    ∙ chunks_whole n k (drop n xs))
    ∙ take-append-drop n xs
