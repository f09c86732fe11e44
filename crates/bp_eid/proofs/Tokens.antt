-- The tokens of an id are read as they are spelled.
use Rattle.std.proofs.Common.{◌≡◌, ℕ, ◌/◌, ◌%◌, ◌^◌, ◌<◌, ◌≤◌, inl, Bool, true, false, cond, ltb, eqb, ◌||◌, List, [], ◌∷◌, ◌++◌, length, take, drop, Result, Ok, Err, refl, sym, ◌∙◌, subst, arith}
use Rattle.std.specs.List.{list_any}
use Rattle.std.proofs.lemmas.Bool.{ltb-false, le-ltb, eqb-true}
use Rattle.std.proofs.lemmas.List.{take_at, drop_at, take-append-drop, length-append, length-take}
use Rattle.cbor_profile.specs.declared.head.Head.{Head}
use Rattle.cbor_profile.specs.declared.head.HeadRead.{HeadRead}
use Rattle.cbor_profile.specs.declared.head.HeadRead.TheVariants.{Whole, Short, NotShortest, Bad}
use Rattle.cbor_profile.specs.declared.fault.Reason.{Reason}
use Rattle.cbor_profile.specs.declared.fault.Reason.TheVariants.{Truncated, WrongCount, WrongText, WrongKind}
use Rattle.cbor_profile.specs.Head.{spelling, head_spelling, IsHead, read_head, is_bad, following, argument, least}
use Rattle.cbor_profile.specs.Token.{token_head, after_read}
use Rattle.cbor_profile.specs.Put.{uint, array_head}
use Rattle.cbor_profile.proofs.Tokens.{is_among}
use Rattle.bp_eid.specs.DtnText.{is_dtn_text, IsDtnText}
use Rattle.bp_eid.specs.Reading.{stops, head_at, pair_at, number_at, content_at}
use Rattle.bp_eid.proofs.Steps.{IsBytes, IsBytes-drop, bind_ok, at_token_ok, passed, let_through, ok_is, Takes}

-- the law of tokens, as the crate below gives it
pub record TokenLaws : Type 0 where
  pub again : (kinds : List ℕ) (head : Head) (rest : List ℕ) → IsHead head → is_among kinds head.major ≡ true → token_head kinds (spelling head ++ rest) ≡ Ok (head, rest)
  pub means : (kinds bytes : List ℕ) (head : Head) (rest : List ℕ) → IsBytes bytes → token_head kinds bytes ≡ Ok (head, rest)
      → (bytes ≡ spelling head ++ rest) × IsHead head × (is_among kinds head.major ≡ true)

pub head_again : (laws : TokenLaws) (kinds : List ℕ) (head : Head) (rest : List ℕ) → IsHead head → is_among kinds head.major ≡ true → head_at kinds (spelling head ++ rest) ≡ Ok (head, rest)
head_again laws kinds head rest h permitted = rw (laws.again kinds head rest h permitted) refl

-- a head that was read
pub record ReadsHead (kinds bytes : List ℕ) (head : Head) (rest : List ℕ) : Type 0 where
  pub takes : Takes bytes (spelling head) rest
  pub fits : IsHead head
  pub among : is_among kinds head.major ≡ true

-- what follows bytes below 256 is bytes below 256
rest_is_bytes : (bytes text rest : List ℕ) → bytes ≡ text ++ rest → IsBytes bytes → IsBytes rest
rest_is_bytes bytes text rest e fits =
    let left : drop (length text) bytes ≡ rest = rw e (drop_at text rest (length text) refl) in
    subst IsBytes left (IsBytes-drop (length text) bytes fits)

token_means : (laws : TokenLaws) (kinds bytes : List ℕ) (x : Head × List ℕ) → IsBytes bytes → token_head kinds bytes ≡ Ok x → ReadsHead kinds bytes x.0 x.1
token_means laws kinds bytes x fits e =
    let m = laws.means kinds bytes x.0 x.1 fits e in
    record {
      takes = record { parts = m.0; rest_fits = rest_is_bytes bytes (spelling x.0) x.1 m.0 fits };
      fits = m.1;
      among = m.2;
    }

pub head_means : (laws : TokenLaws) (kinds bytes : List ℕ) (x : Head × List ℕ) → IsBytes bytes → head_at kinds bytes ≡ Ok x → ReadsHead kinds bytes x.0 x.1
head_means laws kinds bytes x fits e = token_means laws kinds bytes x fits (at_token_ok bytes (token_head kinds bytes) x e)

-- ---- the tokens of an id

pub spelled : (head : Head) (major value : ℕ) → head.major ≡ major → head.value ≡ value → spelling head ≡ head_spelling major value
unfolding spelling
spelled head major value e f = rw (e, f) refl

pub one_kind : (kind major : ℕ) → is_among (kind ∷ []) major ≡ true → major ≡ kind
one_kind kind major e = sym (eqb-true _ _ (or_false (eqb kind major) e))
  where
    or_false : (b : Bool) → (b || false) ≡ true → b ≡ true
    or_false true e = refl
    or_false false e = e

-- what was read as a head has this spelling
pub took : (kinds bytes : List ℕ) (head : Head) (rest text : List ℕ) → spelling head ≡ text → ReadsHead kinds bytes head rest → Takes bytes text rest
took kinds bytes head rest text is h = subst (λ (t : List ℕ). Takes bytes t rest) is h.takes

pub pair_again : (laws : TokenLaws) (rest : List ℕ) → pair_at (array_head 2 ++ rest) ≡ Ok rest
unfolding pair_at array_head spelling
pair_again laws rest = let h = head_again laws (4 ∷ []) (record { major = 4; value = 2 }) rest (omega arith, inl (omega arith)) refl in rw h refl

pub pair_means : (laws : TokenLaws) (bytes rest : List ℕ) → IsBytes bytes → pair_at bytes ≡ Ok rest → Takes bytes (array_head 2) rest
unfolding pair_at array_head
pair_means laws bytes rest fits e =
    let b = bind_ok (head_at (4 ∷ []) bytes) (λ head. cond (eqb head.0.value 2) (Ok head.1) (stops bytes WrongCount)) rest e in
    let g = let_through (eqb b.0.0.value 2) bytes WrongCount (Ok b.0.1) rest b.2 in
    let h = head_means laws (4 ∷ []) bytes b.0 fits b.1 in
    let text = spelled b.0.0 4 2 (one_kind 4 b.0.0.major h.among) (eqb-true _ _ g.0) in
    subst (λ (r : List ℕ). Takes bytes (array_head 2) r) (ok_is b.0.1 rest g.1) (took (4 ∷ []) bytes b.0.0 b.0.1 (array_head 2) text h)

pub number_again : (laws : TokenLaws) (n : ℕ) (rest : List ℕ) → n < 2 ^ 64 → number_at (uint n ++ rest) ≡ Ok (n, rest)
unfolding number_at uint spelling
number_again laws n rest lt = let h = head_again laws (0 ∷ []) (record { major = 0; value = n }) rest (lt, inl (omega arith)) refl in rw h refl

pub number_means : (laws : TokenLaws) (bytes : List ℕ) (x : ℕ × List ℕ) → IsBytes bytes → number_at bytes ≡ Ok x → Takes bytes (uint x.0) x.1 × (x.0 < 2 ^ 64)
unfolding number_at uint
number_means laws bytes x fits e =
    let b = bind_ok (head_at (0 ∷ []) bytes) (λ head. Ok (head.0.value, head.1)) x e in
    let h = head_means laws (0 ∷ []) bytes b.0 fits b.1 in
    let text = spelled b.0.0 0 b.0.0.value (one_kind 0 b.0.0.major h.among) refl in
    subst (λ (y : ℕ × List ℕ). Takes bytes (uint y.0) y.1 × (y.0 < 2 ^ 64)) (ok_is (b.0.0.value, b.0.1) x b.2) (took (0 ∷ []) bytes b.0.0 b.0.1 (uint b.0.0.value) text h, h.fits.0)

pub content_again : (text rest : List ℕ) → IsDtnText text → content_at (length text) (text ++ rest) ≡ Ok (text, rest)
unfolding content_at
content_again text rest rule =
    let long : ltb (length (text ++ rest)) (length text) ≡ false = le-ltb _ _ (omega (arith, length-append text rest)) in
    rw (long, take_at text rest (length text) refl, drop_at text rest (length text) refl, rule) refl

pub content_means : (len : ℕ) (bytes : List ℕ) (x : List ℕ × List ℕ) → IsBytes bytes → content_at len bytes ≡ Ok x → Takes bytes x.0 x.1 × (length x.0 ≡ len) × IsDtnText x.0
unfolding content_at
content_means len bytes x fits e =
    let text = take len bytes in
    let a = passed (ltb (length bytes) len) bytes Truncated (cond (is_dtn_text text) (Ok (text, drop len bytes)) (stops bytes WrongText)) x e in
    let b = let_through (is_dtn_text text) bytes WrongText (Ok (text, drop len bytes)) x a.1 in
    let long : len ≤ length bytes = ltb-false _ _ a.0 in
    let taken : Takes bytes text (drop len bytes) = record { parts = sym (take-append-drop len bytes); rest_fits = IsBytes-drop len bytes fits } in
    subst (λ (y : List ℕ × List ℕ). Takes bytes y.0 y.1 × (length y.0 ≡ len) × IsDtnText y.0) (ok_is (text, drop len bytes) x b.1) (taken, omega (arith, length-take len bytes), b.0)
