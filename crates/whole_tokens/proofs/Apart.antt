-- Whole parts and less than a token aren't whole tokens, but where nothing is left, or a string's head alone.
use Rattle.std.proofs.Common.{◌≡◌, ℕ, ◌<◌, inl, inr, ◌⊎◌, cond, eqb, ◌||◌, List, [], ◌∷◌, ◌++◌, length, drop, refl, sym, ◌∙◌, ap, subst, append_assoc, append-nil, arith}
use Rattle.std.specs.List.{All}
use Rattle.std.proofs.lemmas.List.{length-append, drop_at}
use Rattle.std.proofs.lemmas.List.Elements.{All-head, All-tail}
use Rattle.cbor_profile.specs.Head.{spelling, head_spelling, IsHead, read_head}
use Rattle.cbor_profile.specs.Put.{uint, byte_string, text_string, array_head}
use Rattle.cbor_profile.specs.declared.head.Head.{Head}
use Rattle.cbor_profile.specs.declared.head.HeadRead.TheVariants.{Whole}
use Rattle.whole_tokens.specs.Tokens.{Part, bytes_of, argument_of, IsPart, IsLast, begun, AreTokens, IsUnfinished}
use Rattle.whole_tokens.specs.Tokens.Part.{Number, Array, Octets, Text}
use Rattle.whole_tokens.proofs.Parted.{text_of}

-- the laws of heads, as the crate below gives them
pub record HeadLaws : Type 0 where
  pub one : (a b : Head) (x y : List ℕ) → IsHead a → IsHead b → spelling a ++ x ≡ spelling b ++ y → (a ≡ b) × (x ≡ y)
  pub again : (head : Head) (rest : List ℕ) → IsHead head → read_head (spelling head ++ rest) ≡ Whole head (length (spelling head))

-- ---- a part is a head and its content

abbrev major_of : Part → ℕ
major_of (Number n) = 0
major_of (Array count) = 4
major_of (Octets content) = 2
major_of (Text content) = 3

abbrev content_of : Part → List ℕ
content_of (Number n) = []
content_of (Array count) = []
content_of (Octets content) = content
content_of (Text content) = content

abbrev head_of : Part → Head
head_of part = record { major = major_of part; value = argument_of part }

-- how many bytes of content a head announces
abbrev announced_by : ℕ → ℕ → ℕ
announced_by major value = cond (eqb major 2 || eqb major 3) value 0

abbrev announced : Head → ℕ
announced head = announced_by head.major head.value

parts_of : (part : Part) → bytes_of part ≡ spelling (head_of part) ++ content_of part
unfolding spelling uint array_head byte_string text_string
parts_of (Number n) = sym (append-nil (head_spelling 0 n))
parts_of (Array count) = sym (append-nil (head_spelling 4 count))
parts_of (Octets content) = refl
parts_of (Text content) = refl

is_head : (part : Part) → IsPart part → IsHead (head_of part)
is_head (Number n) fits = (fits, inl (omega arith))
is_head (Array count) fits = (fits, inl (omega arith))
is_head (Octets content) fits = (fits, inl (omega arith))
is_head (Text content) fits = (fits, inl (omega arith))

content_long : (part : Part) → length (content_of part) ≡ announced (head_of part)
content_long (Number n) = refl
content_long (Array count) = refl
content_long (Octets content) = refl
content_long (Text content) = refl

before_rest : (part : Part) (rest : List ℕ) → bytes_of part ++ rest ≡ spelling (head_of part) ++ (content_of part ++ rest)
before_rest part rest = ap (λ (t : List ℕ). t ++ rest) (parts_of part) ∙ append_assoc (spelling (head_of part)) (content_of part) rest

-- ---- equal bytes

behind_same : (a b x y : List ℕ) → length a ≡ length b → a ++ x ≡ b ++ y → x ≡ y
behind_same a b x y len e = sym (drop_at a x (length a) refl) ∙ (ap (drop (length a)) e ∙ drop_at b y (length a) (sym len))

same_rest : (laws : HeadLaws) (p q : Part) (x y : List ℕ) → IsPart p → IsPart q → bytes_of p ++ x ≡ bytes_of q ++ y → x ≡ y
same_rest laws p q x y fits_p fits_q e =
    let o = laws.one (head_of p) (head_of q) (content_of p ++ x) (content_of q ++ y) (is_head p fits_p) (is_head q fits_q) (sym (before_rest p x) ∙ (e ∙ before_rest q y)) in
    behind_same (content_of p) (content_of q) x y (content_long p ∙ (ap announced o.0 ∙ sym (content_long q))) o.1

-- what is read at the front of a part
whole_head : (laws : HeadLaws) (part : Part) (rest : List ℕ) → IsPart part → read_head (bytes_of part ++ rest) ≡ Whole (head_of part) (length (spelling (head_of part)))
whole_head laws part rest fits = ap read_head (before_rest part rest) ∙ laws.again (head_of part) (content_of part ++ rest) (is_head part fits)

-- No part begins what is less than a token.
no_part : (laws : HeadLaws) (part : Part) (rest more : List ℕ) → IsPart part → IsUnfinished rest → rest ≡ bytes_of part ++ more → ⊥
unfolding spelling
no_part laws part rest more fits (inl short) e = let clash = sym short ∙ (ap read_head e ∙ whole_head laws part more fits) in cc
no_part laws part rest more fits (inr (len, head, content, (small, which), few, is)) e = elim which [
  | inl two ↦ by 2 (inl (omega arith)) refl two
  | inr three ↦ by 3 (inl (omega arith)) refl three
]
  where
    by : (major : ℕ) → (major < 6) ⊎ ((major ≡ 7) × (len < 24)) → announced_by major len ≡ len → head ≡ head_spelling major len → ⊥
    by major low long which =
        let o = laws.one (record { major = major; value = len }) (head_of part) content (content_of part ++ more) (small, low) (is_head part fits)
        (ap (λ (t : List ℕ). t ++ content) (sym which) ∙ (sym is ∙ (e ∙ before_rest part more))) in
        let all = ap length o.1 ∙ length-append (content_of part) more in
        let size = content_long part ∙ (sym (ap announced o.0) ∙ long) in
        omega (arith, all, size, few)

none_behind : (a b : List ℕ) → a ++ b ≡ [] → b ≡ []
none_behind [] b e = e
none_behind (x ∷ a) b e = absurd cc

-- Where parts are what may stand last, nothing is left behind them.
nothing_left : (laws : HeadLaws) (part : Part) (more last : List ℕ) → IsPart part → IsLast last → bytes_of part ++ more ≡ last → more ≡ []
unfolding spelling read_head
nothing_left laws part more last fits (inl none) e = let clash = sym (whole_head laws part more fits) ∙ ap read_head (e ∙ none) in absurd cc
nothing_left laws part more last fits (inr (inr end)) e = let clash = sym (whole_head laws part more fits) ∙ ap read_head (e ∙ end) in absurd cc
nothing_left laws part more last fits (inr (inl (len, (small, which)))) e = elim which [
  | inl two ↦ by 2 (inl (omega arith)) two
  | inr three ↦ by 3 (inl (omega arith)) three
]
  where
    by : (major : ℕ) → (major < 6) ⊎ ((major ≡ 7) × (len < 24)) → last ≡ head_spelling major len → more ≡ []
    by major low which =
        let o = laws.one (head_of part) (record { major = major; value = len }) (content_of part ++ more) [] (is_head part fits) (small, low)
        (sym (before_rest part more) ∙ (e ∙ (which ∙ sym (append-nil (head_spelling major len))))) in
        none_behind (content_of part) more o.1

-- ---- the law

last_by : (laws : HeadLaws) (parts others : List Part) (rest last : List ℕ) → All IsPart parts → All IsPart others → IsUnfinished rest → IsLast last → text_of parts ++ rest ≡ text_of others ++ last → IsLast rest
last_by laws [] [] rest last are all less ends e = subst IsLast (sym e) ends
last_by laws [] (q ∷ others) rest last are all less ends e = absurd (no_part laws q rest (text_of others ++ last) (All-head IsPart q others all) less (e ∙ append_assoc (bytes_of q) (text_of others) last))
last_by laws (p ∷ parts) [] rest last are all less ends e =
    inl (none_behind (text_of parts) rest (nothing_left laws p (text_of parts ++ rest) last (All-head IsPart p parts are) ends (sym (append_assoc (bytes_of p) (text_of parts) rest) ∙ e)))
last_by laws (p ∷ parts) (q ∷ others) rest last are all less ends e =
    last_by laws parts others rest last (All-tail IsPart p parts are) (All-tail IsPart q others all) less ends
    (same_rest laws p q (text_of parts ++ rest) (text_of others ++ last) (All-head IsPart p parts are) (All-head IsPart q others all)
    (sym (append_assoc (bytes_of p) (text_of parts) rest) ∙ (e ∙ append_assoc (bytes_of q) (text_of others) last)))

pub last_where_whole : (laws : HeadLaws) (parts : List Part) (rest : List ℕ) → All IsPart parts → IsUnfinished rest → AreTokens (begun parts rest) → IsLast rest
last_where_whole laws parts rest are less (inl none) = absurd cc
last_where_whole laws parts rest are less (inr (others, last, all, ends, e)) = last_by laws parts others rest last are all less ends (ap (drop 1) e)
