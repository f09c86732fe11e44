-- Heads of the table are read exactly where they are spelled.
use Rattle.std.proofs.Common.{◌≡◌, ℕ, suc, ◌+◌, ◌-◌, ◌^◌, ◌<◌, inl, Bool, true, false, cond, ltb, eqb, ◌||◌, List, [], ◌∷◌, ◌++◌, length, get_or, Option, Some, None, Result, Ok, Err, refl, sym, ◌∙◌, ap, subst, append_assoc, arith}
use Rattle.std.specs.List.{list_any}
use Rattle.std.proofs.lemmas.Bool.{ltb-false, le-ltb, eqb-true, eq-eqb}
use Rattle.std.proofs.lemmas.List.{length-append}
use Rattle.cbor_profile.specs.declared.TheConstants.{BUNDLE_LIMIT}
use Rattle.cbor_profile.specs.declared.head.Head.{Head}
use Rattle.cbor_profile.specs.declared.fault.Reason.{Reason}
use Rattle.cbor_profile.specs.declared.fault.Reason.TheVariants as reasons
use Rattle.cbor_profile.specs.declared.fault.Fault.{Fault}
use Rattle.cbor_profile.specs.Head.{spelling, head_spelling, IsHead}
use Rattle.cbor_profile.specs.Step.{◌>>=◌}
use Rattle.cbor_profile.specs.Token.{token_head}
use Rattle.bp_blocks.specs.declared.block.Block.{Block}
use Rattle.bp_bundle.specs.declared.token.Token.{Token}
use Rattle.bp_bundle.specs.declared.token.Token.TheVariants as tokens
use Rattle.bp_bundle.specs.Tokens.{Cursor, stops, major_of, conditions, first_failing, announced, up_to, after_conditions, after_head, argument_at}

abbrev pub IsBytes : List ℕ → Type 0
IsBytes bytes = (i : ℕ) → get_or bytes i 0 < 256

-- the law of the heads of tokens, as the crate below gives it
pub record TokenLaws : Type 0 where
  pub again : (kinds : List ℕ) (head : Head) (rest : List ℕ) → IsHead head → list_any (λ kind. eqb kind head.major) kinds ≡ true → token_head kinds (spelling head ++ rest) ≡ Ok (head, rest)
  pub means : (kinds bytes : List ℕ) (head : Head) (rest : List ℕ) → IsBytes bytes → token_head kinds bytes ≡ Ok (head, rest)
      → (bytes ≡ spelling head ++ rest) × IsHead head × (list_any (λ kind. eqb kind head.major) kinds ≡ true)

-- ---- steps that went on

pub bind_ok : {A B : Type 0} (r : Result A Fault) (f : A → Result B Fault) (y : B) → (r >>= f) ≡ Ok y → (x : A) × (r ≡ Ok x) × (f x ≡ Ok y)
bind_ok (Ok x) f y e = (x, refl, e)
bind_ok (Err fault) f y e = absurd cc

abbrev done : {A : Type 0} → A → Result A Fault
done x = Ok x

pub ok_is : {A : Type 0} (x y : A) → done x ≡ done y → x ≡ y
ok_is x y e = cc

-- a test that let a value through
pub passed : {A : Type 0} (b : Bool) (cursor : Cursor) (reason : Reason) (x : Result A Fault) (y : A) → cond b (stops cursor reason) x ≡ Ok y → (b ≡ false) × (x ≡ Ok y)
passed true cursor reason x y e = absurd cc
passed false cursor reason x y e = (refl, e)

-- ---- what was taken

abbrev pub here : ℕ → List ℕ → Cursor
here at rest = record { at = at; rest = rest }

-- this text was taken, from one place to another
pub record Took (text : List ℕ) (before after : Cursor) : Type 0 where
  pub parts : before.rest ≡ text ++ after.rest
  pub moved : after.at ≡ before.at + length text
  pub fits : IsBytes after.rest

pub took-then : (x y : List ℕ) (p q r : Cursor) → Took x p q → Took y q r → Took (x ++ y) p r
took-then x y p q r first next = record {
  parts = first.parts ∙ (ap (λ (t : List ℕ). x ++ t) next.parts ∙ sym (append_assoc x y r.rest));
  moved = next.moved ∙ (ap (λ (n : ℕ). n + length y) first.moved ∙ omega (arith, length-append x y));
  fits = next.fits;
}

pub took-same : (x y : List ℕ) (p q : Cursor) → x ≡ y → Took x p q → Took y p q
took-same x y p q e h = subst (λ (t : List ℕ). Took t p q) e h

-- ---- heads

pub one_kind : (kind major : ℕ) → list_any (λ k. eqb k major) (kind ∷ []) ≡ true → major ≡ kind
one_kind kind major e = sym (eqb-true _ _ (or_false (eqb kind major) e))
  where
    or_false : (b : Bool) → (b || false) ≡ true → b ≡ true
    or_false true e = refl
    or_false false e = e

pub low_kind : (token : Token) → major_of token < 6
low_kind tokens.PrimaryArray = omega arith
low_kind tokens.Version = omega arith
low_kind (tokens.BundleFlags items) = omega arith
low_kind (tokens.CheckType checked) = omega arith
low_kind tokens.Pair = omega arith
low_kind tokens.Number = omega arith
low_kind (tokens.CheckString kind) = omega arith
low_kind tokens.BlockArray = omega arith
low_kind tokens.BlockType = omega arith
low_kind (tokens.BlockNumber kind) = omega arith
low_kind tokens.Body = omega arith

-- the head of a token with this argument
abbrev pub head_of : Token → ℕ → Head
head_of token value = record { major = major_of token; value = value }

-- its spelling
abbrev pub text_of : Token → ℕ → List ℕ
text_of token value = head_spelling (major_of token) value

-- what is true of a head that was read
pub record ReadsArgument (before : List Block) (token : Token) (cursor : Cursor) (value : ℕ) (after : Cursor) : Type 0 where
  pub took : Took (text_of token value) cursor after
  pub fits : value < 2 ^ 64
  pub none_fails : first_failing (conditions before token) value ≡ None
  pub room : after.at + announced (head_of token value) < BUNDLE_LIMIT

abbrev found : ℕ × Cursor → Result (ℕ × Cursor) Fault
found x = Ok x

conditions_means : (cursor : Cursor) (failing : Option Reason) (head : Head) (after : Cursor) (x : ℕ × Cursor) → after_conditions cursor failing head after ≡ Ok x
    → (failing ≡ None) × (x ≡ (head.value, after)) × (after.at + announced head < BUNDLE_LIMIT)
conditions_means cursor (Some reason) head after x e = absurd cc
conditions_means cursor None head after x e =
    let p = passed (ltb (BUNDLE_LIMIT - 1) (after.at + announced head)) cursor reasons.TooLong (found (head.value, after)) x e in
    (refl, sym (ok_is (head.value, after) x p.1), let le = ltb-false _ _ p.0 in omega arith)

up_to_took : (cursor : Cursor) (text rest : List ℕ) → cursor.rest ≡ text ++ rest → IsBytes rest → Took text cursor (up_to cursor rest)
up_to_took cursor text rest parts fits = record {
  parts = parts;
  moved = let l = ap length parts ∙ length-append text rest in omega arith;
  fits = fits;
}

drop_bytes : (text rest : List ℕ) → IsBytes (text ++ rest) → IsBytes rest
drop_bytes [] rest fits = fits
drop_bytes (b ∷ text) rest fits = drop_bytes text rest (λ i. fits (suc i))

head_means : (laws : TokenLaws) (before : List Block) (token : Token) (cursor : Cursor) (r : Result (Head × List ℕ) Reason) (x : ℕ × Cursor) → IsBytes cursor.rest
    → token_head (major_of token ∷ []) cursor.rest ≡ r → after_head before token cursor r ≡ Ok x → ReadsArgument before token cursor x.0 x.1
unfolding spelling
head_means laws before token cursor (Err reason) x fits is e = absurd cc
head_means laws before token cursor (Ok h) x fits is e =
    let m = laws.means (major_of token ∷ []) cursor.rest h.0 h.1 fits is in
    let kind = one_kind (major_of token) h.0.major m.2 in
    let c = conditions_means cursor (first_failing (conditions before token) h.0.value) h.0 (up_to cursor h.1) x e in
    let same : h.0 ≡ head_of token h.0.value = rw kind refl in
    let parts : cursor.rest ≡ text_of token h.0.value ++ h.1 = m.0 ∙ rw kind refl in
    let rest = drop_bytes (text_of token h.0.value) h.1 (subst IsBytes parts fits) in
    subst (λ (y : ℕ × Cursor). ReadsArgument before token cursor y.0 y.1) (sym c.1) (record {
      took = up_to_took cursor (text_of token h.0.value) h.1 parts rest;
      fits = m.1.0;
      none_fails = c.0;
      room = subst (λ (head : Head). (up_to cursor h.1).at + announced head < BUNDLE_LIMIT) same c.2;
    })

pub argument_means : (laws : TokenLaws) (before : List Block) (token : Token) (cursor : Cursor) (x : ℕ × Cursor) → IsBytes cursor.rest → argument_at before token cursor ≡ Ok x
    → ReadsArgument before token cursor x.0 x.1
unfolding argument_at
argument_means laws before token cursor x fits e = head_means laws before token cursor (token_head (major_of token ∷ []) cursor.rest) x fits refl e

pub argument_again : (laws : TokenLaws) (before : List Block) (token : Token) (at value : ℕ) (rest : List ℕ) → value < 2 ^ 64 → first_failing (conditions before token) value ≡ None
    → at + length (text_of token value) + announced (head_of token value) < BUNDLE_LIMIT
    → argument_at before token (here at (text_of token value ++ rest)) ≡ Ok (value, here (at + length (text_of token value)) rest)
unfolding argument_at spelling
argument_again laws before token at value rest fits none room =
    let text = text_of token value in
    let read = laws.again (major_of token ∷ []) (head_of token value) rest (fits, inl (low_kind token)) (among (major_of token)) in
    let moved : at + (length (text ++ rest) - length rest) ≡ at + length text = omega (arith, length-append text rest) in
    let little : ltb (BUNDLE_LIMIT - 1) (at + length text + announced (head_of token value)) ≡ false = le-ltb _ _ (omega arith) in
    rw (read, none, moved, little) refl
  where
    among : (major : ℕ) → list_any (λ kind. eqb kind major) (major ∷ []) ≡ true
    among major = rw (eq-eqb major major refl) refl
