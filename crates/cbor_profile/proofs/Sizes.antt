-- How many bytes heads have.
use Rattle.std.proofs.Common.{◌≡◌, ℕ, ◌+◌, ◌^◌, ◌<◌, ◌≤◌, List, length, inl, inr, refl, arith, length-append}
use Rattle.std.proofs.lemmas.Bool.{cases_lt, lt-ltb, le-ltb}
use Rattle.cbor_profile.specs.Head.{head_spelling}
use Rattle.cbor_profile.specs.Put.{uint, byte_string}

pub head_at_least : (major n : ℕ) → 1 ≤ length (head_spelling major n)
head_at_least major n =
    elim (cases_lt n 24) [
      | inl lt ↦ rw (lt-ltb _ _ lt) (omega arith)
      | inr le ↦ rw (le-ltb _ _ le) (elim (cases_lt n (2 ^ 8)) [
        | inl lt ↦ rw (lt-ltb _ _ lt) (omega arith)
        | inr le ↦ rw (le-ltb _ _ le) (elim (cases_lt n (2 ^ 16)) [
          | inl lt ↦ rw (lt-ltb _ _ lt) (omega arith)
          | inr le ↦ rw (le-ltb _ _ le) (elim (cases_lt n (2 ^ 32)) [
            | inl lt ↦ rw (lt-ltb _ _ lt) (omega arith)
            | inr le ↦ rw (le-ltb _ _ le) (omega arith)
          ])
        ])
      ])
    ]

pub head_one : (major n : ℕ) → n < 24 → length (head_spelling major n) ≡ 1
head_one major n lt = rw (lt-ltb _ _ lt) refl

-- and of one below 2^8, 2^16, 2^32 at most so many
two_at_most : (major n : ℕ) → n < 2 ^ 8 → length (head_spelling major n) ≤ 2
two_at_most major n less =
    elim (cases_lt n 24) [
      | inl lt ↦ rw (lt-ltb _ _ lt) (omega arith)
      | inr le ↦ rw (le-ltb _ _ le, lt-ltb _ _ less) (omega arith)
    ]

pub three_at_most : (major n : ℕ) → n < 2 ^ 16 → length (head_spelling major n) ≤ 3
three_at_most major n less =
    elim (cases_lt n 24) [
      | inl lt ↦ rw (lt-ltb _ _ lt) (omega arith)
      | inr le ↦ rw (le-ltb _ _ le) (elim (cases_lt n (2 ^ 8)) [
        | inl lt ↦ rw (lt-ltb _ _ lt) (omega arith)
        | inr le ↦ rw (le-ltb _ _ le, lt-ltb _ _ less) (omega arith)
      ])
    ]

pub five_at_most : (major n : ℕ) → n < 2 ^ 32 → length (head_spelling major n) ≤ 5
five_at_most major n less =
    elim (cases_lt n 24) [
      | inl lt ↦ rw (lt-ltb _ _ lt) (omega arith)
      | inr le ↦ rw (le-ltb _ _ le) (elim (cases_lt n (2 ^ 8)) [
        | inl lt ↦ rw (lt-ltb _ _ lt) (omega arith)
        | inr le ↦ rw (le-ltb _ _ le) (elim (cases_lt n (2 ^ 16)) [
          | inl lt ↦ rw (lt-ltb _ _ lt) (omega arith)
          | inr le ↦ rw (le-ltb _ _ le, lt-ltb _ _ less) (omega arith)
        ])
      ])
    ]

-- at most nine bytes
pub head_at_most : (major n : ℕ) → length (head_spelling major n) ≤ 9
head_at_most major n =
    elim (cases_lt n (2 ^ 32)) [
      | inl lt ↦ (let few = five_at_most major n lt in omega arith)
      | inr ge ↦ (
          let a : 24 ≤ n = omega arith in
          let b : 2 ^ 8 ≤ n = omega arith in
          let c : 2 ^ 16 ≤ n = omega arith in
          rw (le-ltb _ _ a, le-ltb _ _ b, le-ltb _ _ c, le-ltb _ _ ge) (omega arith)
          )
    ]

-- a head of a lesser argument isn't longer
pub head_grows : (major a b : ℕ) → a ≤ b → length (head_spelling major a) ≤ length (head_spelling major b)
head_grows major a b le =
    elim (cases_lt b 24) [
      | inl lt ↦ let lt' : a < 24 = omega arith in rw (lt-ltb _ _ lt, lt-ltb _ _ lt') (omega arith)
      | inr over ↦ elim (cases_lt b (2 ^ 8)) [
        | inl lt ↦ let lt' : a < 2 ^ 8 = omega arith in rw (le-ltb _ _ over, lt-ltb _ _ lt) (two_at_most major a lt')
        | inr over8 ↦ elim (cases_lt b (2 ^ 16)) [
          | inl lt ↦ let lt' : a < 2 ^ 16 = omega arith in rw (le-ltb _ _ over, le-ltb _ _ over8, lt-ltb _ _ lt) (three_at_most major a lt')
          | inr over16 ↦ elim (cases_lt b (2 ^ 32)) [
            | inl lt ↦ let lt' : a < 2 ^ 32 = omega arith in rw (le-ltb _ _ over, le-ltb _ _ over8, le-ltb _ _ over16, lt-ltb _ _ lt) (five_at_most major a lt')
            | inr over32 ↦ rw (le-ltb _ _ over, le-ltb _ _ over8, le-ltb _ _ over16, le-ltb _ _ over32) (let short = head_at_most major a in omega arith)
          ]
        ]
      ]
    ]

-- the length of a head is that of its number alone
pub head_same : (major other n : ℕ) → length (head_spelling major n) ≡ length (head_spelling other n)
head_same major other n =
    elim (cases_lt n 24) [
      | inl lt ↦ rw (lt-ltb _ _ lt) refl
      | inr le ↦ rw (le-ltb _ _ le) (elim (cases_lt n (2 ^ 8)) [
        | inl lt ↦ rw (lt-ltb _ _ lt) refl
        | inr le ↦ rw (le-ltb _ _ le) (elim (cases_lt n (2 ^ 16)) [
          | inl lt ↦ rw (lt-ltb _ _ lt) refl
          | inr le ↦ rw (le-ltb _ _ le) (elim (cases_lt n (2 ^ 32)) [
            | inl lt ↦ rw (lt-ltb _ _ lt) refl
            | inr le ↦ rw (le-ltb _ _ le) refl
          ])
        ])
      ])
    ]

pub length-bytes : (content : List ℕ) → length (byte_string content) ≡ length (head_spelling 2 (length content)) + length content
unfolding byte_string
length-bytes content = length-append (head_spelling 2 (length content)) content

-- ---- a number, and a byte string

pub uint_at_most : (n : ℕ) → length (uint n) ≤ 9
unfolding uint
uint_at_most n = head_at_most 0 n

pub string_at_most : (content : List ℕ) → length (byte_string content) ≤ length content + 9
string_at_most content = omega (arith, length-bytes content, head_at_most 2 (length content))
