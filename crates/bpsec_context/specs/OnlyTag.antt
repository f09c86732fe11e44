-- The one result [1, tag] is read as the tag.
use Rattle.std.specs.Prelude.{◌≡◌, ℕ, ◌%◌, ◌^◌, ◌<◌, true, List, [], ◌∷◌, length, Some, Ok, refl}
use Rattle.std.proofs.Common.{drop, inl, sym, ap, ◌∙◌, arith}
use Rattle.std.proofs.lemmas.Bool.{eq-eqb, le-leb}
use Rattle.std.proofs.lemmas.List.{drop_at}
use Rattle.cbor_profile.specs.declared.head.Head.{Head}
use Rattle.cbor_profile.specs.declared.head.HeadRead.TheVariants.{Whole}
use Rattle.cbor_profile.specs.Head.{head_spelling, spelling, read_head}
use Rattle.cbor_profile.specs.Put.{byte_string}
use Rattle.cbor_profile.proofs.Heads.{read-spelling}
use Rattle.bpsec_context.specs.Values.{content_of, content_from}
use Rattle.bpsec_context.specs.Pairs.{given, value_at, bytes_of, exactly, has_length, read_by}
use Rattle.bpsec_context.specs.Calls.{only_tag}

string_head : ℕ → Head
string_head n = record { major = 2; value = n }

head_of_string : (content : List ℕ) → length content < 2 ^ 64 → read_head (byte_string content) ≡ Whole (string_head (length content)) (length (spelling (string_head (length content))))
unfolding byte_string spelling string_head
head_of_string content short = read-spelling (string_head (length content)) content (short, inl (omega arith))

head_length : (content : List ℕ) → length (spelling (string_head (length content))) ≡ length (head_spelling 2 (length content))
unfolding spelling string_head
head_length content = refl

after_head : (content : List ℕ) → drop (length (spelling (string_head (length content)))) (byte_string content) ≡ content
unfolding byte_string
after_head content = drop_at (head_spelling 2 (length content)) content _ (sym (head_length content))

-- where it is the content, it is found
found : (content value : List ℕ) (len : ℕ) → drop len value ≡ content → content_from value (Whole (string_head (length content)) len) ≡ Some content
unfolding string_head
found content value len e = rw (e, eq-eqb (length content) (length content) refl) refl

pub content_of_string : (content : List ℕ) → length content < 2 ^ 64 → content_of (byte_string content) ≡ Some content
unfolding content_of
content_of_string content short =
    ap (content_from (byte_string content)) (head_of_string content short)
    ∙ found content (byte_string content) (length (spelling (string_head (length content)))) (after_head content)

exact_length : (n : ℕ) → has_length (exactly n) n ≡ true
exact_length n = let rest : n % 1 ≡ 0 = omega arith in rw (le-leb n n (omega arith), eq-eqb (n % 1) 0 rest) refl

-- a list of one pair of id 1 has its value there
one_value : (value : List ℕ) → value_at 1 (record { id = 1; value = value } ∷ []) ≡ Ok (Some value)
unfolding value_at
one_value value = refl

pub only_tag_given : (n : ℕ) (tag : List ℕ) → length tag ≡ n → n < 2 ^ 64 → given (bytes_of (exactly n)) 1 (only_tag tag) ≡ Ok (Some tag)
only_tag_given n tag is short =
    let content = content_of_string tag (omega arith) in
    let fits : has_length (exactly n) (length tag) ≡ true = ap (has_length (exactly n)) is ∙ exact_length n in
    ap (read_by (bytes_of (exactly n))) (one_value (byte_string tag)) ∙ rw (content, fits) refl
