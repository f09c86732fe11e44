-- An id is read as it is spelled.
use Rattle.std.proofs.Common.{◌≡◌, ℕ, ◌^◌, ◌<◌, ◌≤◌, inl, inr, ◌⊎◌, Bool, true, false, cond, ltb, eqb, leb, ◌&&◌, ◌||◌, List, [], ◌∷◌, ◌++◌, length, Result, Ok, refl, sym, ◌∙◌, ap, subst, append_assoc, arith}
use Rattle.std.proofs.lemmas.Bool.{le-ltb, eqb-true, leb-true}
use Rattle.std.proofs.lemmas.Bool.Decides.{nat_tests}
use Rattle.cbor_profile.specs.declared.head.Head.{Head}
use Rattle.cbor_profile.specs.declared.fault.Reason.TheVariants.{WrongValue}
use Rattle.cbor_profile.specs.Head.{spelling as head_text, head_spelling}
use Rattle.cbor_profile.specs.Put.{uint, array_head, text_string}
use Rattle.cbor_profile.specs.Step.{◌>>=◌}
use Rattle.bp_eid.specs.declared.eid.Eid.{Eid}
use Rattle.bp_eid.specs.declared.eid.Eid.TheVariants.{Null, Dtn, Ipn}
use Rattle.bp_eid.specs.declared.stop.Stop.{Stop}
use Rattle.bp_eid.specs.DtnText.{is_dtn_text, IsDtnText}
use Rattle.bp_eid.specs.EndpointId.{scheme, specific_part, spelling, Fits}
use Rattle.bp_eid.specs.Reading.{stops, head_at, pair_at, number_at, content_at, dtn_at, ipn_at, id_at}
use Rattle.bp_eid.proofs.Steps.{IsBytes, bind_ok, passed, let_through, ok_is, Takes, Takes-then}
use Rattle.bp_eid.proofs.Tokens.{TokenLaws, ReadsHead, spelled, took, head_again, head_means, pair_again, pair_means, number_again, number_means, content_again, content_means}

first_of_both : (b c : Bool) → (b && c) ≡ true → b ≡ true
first_of_both true c e = refl
first_of_both false c e = e

pub length-dtn_text : (text : List ℕ) → IsDtnText text → length text ≤ 1024
unfolding is_dtn_text
length-dtn_text text rule = leb-true _ _ (first_of_both (leb (length text) 1024) _ rule)

-- ---- what is spelled is read

null_again : (laws : TokenLaws) (rest : List ℕ) → dtn_at (uint 0 ++ rest) ≡ Ok (Null, rest)
unfolding dtn_at uint head_text
null_again laws rest = let h = head_again laws (0 ∷ 3 ∷ []) (record { major = 0; value = 0 }) rest (omega arith, inl (omega arith)) refl in rw h refl

dtn_again : (laws : TokenLaws) (text rest : List ℕ) → IsDtnText text → dtn_at (text_string text ++ rest) ≡ Ok (Dtn text, rest)
unfolding dtn_at text_string head_text
dtn_again laws text rest rule =
    let short = length-dtn_text text rule in
    let len : ltb 1024 (length text) ≡ false = le-ltb _ _ short in
    let regrouped : text_string text ++ rest ≡ head_spelling 3 (length text) ++ (text ++ rest) = append_assoc (head_spelling 3 (length text)) text rest in
    let h = head_again laws (0 ∷ 3 ∷ []) (record { major = 3; value = length text }) (text ++ rest) (omega arith, inl (omega arith)) refl in
    ap dtn_at regrouped ∙ rw (h, len, content_again text rest rule) refl

ipn_again : (laws : TokenLaws) (node service : ℕ) (rest : List ℕ) → node < 2 ^ 64 → service < 2 ^ 64 → ipn_at ((array_head 2 ++ (uint node ++ uint service)) ++ rest) ≡ Ok (Ipn node service, rest)
unfolding ipn_at
ipn_again laws node service rest n s =
    let regrouped : (array_head 2 ++ (uint node ++ uint service)) ++ rest ≡ array_head 2 ++ (uint node ++ (uint service ++ rest)) = append_assoc (array_head 2) (uint node ++ uint service) rest ∙ ap (λ (x : List ℕ). array_head 2 ++ x) (append_assoc (uint node) (uint service) rest) in
    ap ipn_at regrouped ∙ rw (pair_again laws (uint node ++ (uint service ++ rest)), number_again laws node (uint service ++ rest) n, number_again laws service rest s) refl

part_again : (laws : TokenLaws) (eid : Eid) (rest : List ℕ) → Fits eid
    → cond (eqb (scheme eid) 1) (dtn_at (specific_part eid ++ rest)) (cond (eqb (scheme eid) 2) (ipn_at (specific_part eid ++ rest)) (stops (uint (scheme eid) ++ (specific_part eid ++ rest)) WrongValue)) ≡ Ok (eid, rest)
part_again laws Null rest fits = null_again laws rest
part_again laws (Dtn text) rest fits = dtn_again laws text rest fits
part_again laws (Ipn node service) rest fits = ipn_again laws node service rest fits.0 fits.1

scheme-lt : (eid : Eid) → scheme eid < 2 ^ 64
scheme-lt Null = omega arith
scheme-lt (Dtn text) = omega arith
scheme-lt (Ipn node service) = omega arith

pub id_again : (laws : TokenLaws) (eid : Eid) (rest : List ℕ) → Fits eid → id_at (spelling eid ++ rest) ≡ Ok (eid, rest)
unfolding id_at spelling
id_again laws eid rest fits =
    let tail = specific_part eid ++ rest in
    let regrouped : spelling eid ++ rest ≡ array_head 2 ++ (uint (scheme eid) ++ tail) = append_assoc (array_head 2) (uint (scheme eid) ++ specific_part eid) rest ∙ ap (λ (x : List ℕ). array_head 2 ++ x) (append_assoc (uint (scheme eid)) (specific_part eid) rest) in
    ap id_at regrouped ∙ rw (pair_again laws (uint (scheme eid) ++ tail), number_again laws (scheme eid) tail (scheme-lt eid)) (part_again laws eid rest fits)

-- ---- what is read is spelled so

pub record Reads (number : ℕ) (bytes : List ℕ) (x : Eid × List ℕ) : Type 0 where
  pub takes : Takes bytes (specific_part x.0) x.1
  pub fits : Fits x.0
  pub number_is : scheme x.0 ≡ number

reads_same : (number : ℕ) (bytes : List ℕ) (x y : Eid × List ℕ) → Reads number bytes x → x ≡ y → Reads number bytes y
reads_same number bytes x y h e = subst (Reads number bytes) e h

-- the two kinds of the head in the scheme dtn
pub null_or_text : (major : ℕ) → ((eqb 0 major || (eqb 3 major || false)) ≡ true) → eqb major 0 ≡ false → major ≡ 3
null_or_text major among other = grind (arith, nat_tests)

text_means : (laws : TokenLaws) (bytes : List ℕ) (head : Head) (rest : List ℕ) (x : Eid × List ℕ) → ReadsHead (0 ∷ 3 ∷ []) bytes head rest → head.major ≡ 3
    → (content_at head.value rest >>= λ text. Ok (Dtn text.0, text.1)) ≡ Ok x → Reads 1 bytes x
unfolding text_string
text_means laws bytes head rest x h three e =
    let b = bind_ok (content_at head.value rest) (λ text. Ok (Dtn text.0, text.1)) x e in
    let c = content_means head.value rest b.0 h.takes.rest_fits b.1 in
    let text = spelled head 3 (length b.0.0) three (sym c.1) in
    let both = Takes-then bytes (head_spelling 3 (length b.0.0)) rest b.0.0 b.0.1 (took (0 ∷ 3 ∷ []) bytes head rest (head_spelling 3 (length b.0.0)) text h) c.0 in
    reads_same 1 bytes (Dtn b.0.0, b.0.1) x (record { takes = both; fits = c.2; number_is = refl }) (ok_is (Dtn b.0.0, b.0.1) x b.2)

pub chosen : {A : Type 0} (b : Bool) (x y z : A) → cond b x y ≡ z → ((b ≡ true) × (x ≡ z)) ⊎ ((b ≡ false) × (y ≡ z))
chosen true x y z e = inl (refl, e)
chosen false x y z e = inr (refl, e)

null_means : (laws : TokenLaws) (bytes : List ℕ) (head : Head) (rest : List ℕ) (x : Eid × List ℕ) → ReadsHead (0 ∷ 3 ∷ []) bytes head rest → head.major ≡ 0
    → cond (eqb head.value 0) (Ok (Null, rest)) (stops bytes WrongValue) ≡ Ok x → Reads 1 bytes x
unfolding uint
null_means laws bytes head rest x h zero e =
    let g = let_through (eqb head.value 0) bytes WrongValue (Ok (Null, rest)) x e in
    let text = spelled head 0 0 zero (eqb-true _ _ g.0) in
    reads_same 1 bytes (Null, rest) x (record { takes = took (0 ∷ 3 ∷ []) bytes head rest (uint 0) text h; fits = tt; number_is = refl }) (ok_is (Null, rest) x g.1)

dtn_part_means : (laws : TokenLaws) (bytes : List ℕ) (head : Head) (rest : List ℕ) (x : Eid × List ℕ) → ReadsHead (0 ∷ 3 ∷ []) bytes head rest
    → cond (eqb head.major 0) (cond (eqb head.value 0) (Ok (Null, rest)) (stops bytes WrongValue)) (cond (ltb 1024 head.value) (stops bytes WrongValue) (content_at head.value rest >>= λ text. Ok (Dtn text.0, text.1))) ≡ Ok x
    → Reads 1 bytes x
dtn_part_means laws bytes head rest x h e =
    let text : Result (Eid × List ℕ) Stop = content_at head.value rest >>= λ text. Ok (Dtn text.0, text.1) in
    elim (chosen (eqb head.major 0) (cond (eqb head.value 0) (Ok (Null, rest)) (stops bytes WrongValue)) (cond (ltb 1024 head.value) (stops bytes WrongValue) text) (Ok x) e) [
      | inl zero ↦ null_means laws bytes head rest x h (eqb-true _ _ zero.0) zero.1
      | inr other ↦
          let short = passed (ltb 1024 head.value) bytes WrongValue text x other.1 in
          text_means laws bytes head rest x h (null_or_text head.major h.among other.0) short.1
    ]

dtn_means : (laws : TokenLaws) (bytes : List ℕ) (x : Eid × List ℕ) → IsBytes bytes → dtn_at bytes ≡ Ok x → Reads 1 bytes x
unfolding dtn_at
dtn_means laws bytes x fits e =
    let after = λ (head : Head × List ℕ). cond (eqb head.0.major 0) (cond (eqb head.0.value 0) (Ok (Null, head.1)) (stops bytes WrongValue)) (cond (ltb 1024 head.0.value) (stops bytes WrongValue) (content_at head.0.value head.1 >>= λ text. Ok (Dtn text.0, text.1))) in
    let b = bind_ok (head_at (0 ∷ 3 ∷ []) bytes) after x e in
    dtn_part_means laws bytes b.0.0 b.0.1 x (head_means laws (0 ∷ 3 ∷ []) bytes b.0 fits b.1) b.2

ipn_means : (laws : TokenLaws) (bytes : List ℕ) (x : Eid × List ℕ) → IsBytes bytes → ipn_at bytes ≡ Ok x → Reads 2 bytes x
unfolding ipn_at
ipn_means laws bytes x fits e =
    let a = bind_ok (pair_at bytes) (λ rest. number_at rest >>= λ node. number_at node.1 >>= λ service. Ok (Ipn node.0 service.0, service.1)) x e in
    let b = bind_ok (number_at a.0) (λ node. number_at node.1 >>= λ service. Ok (Ipn node.0 service.0, service.1)) x a.2 in
    let c = bind_ok (number_at b.0.1) (λ service. Ok (Ipn b.0.0 service.0, service.1)) x b.2 in
    let pair = pair_means laws bytes a.0 fits a.1 in
    let node = number_means laws a.0 b.0 pair.rest_fits b.1 in
    let service = number_means laws b.0.1 c.0 node.0.rest_fits c.1 in
    let numbers = Takes-then a.0 (uint b.0.0) b.0.1 (uint c.0.0) c.0.1 node.0 service.0 in
    let all = Takes-then bytes (array_head 2) a.0 (uint b.0.0 ++ uint c.0.0) c.0.1 pair numbers in
    reads_same 2 bytes (Ipn b.0.0 c.0.0, c.0.1) x (record { takes = all; fits = (node.1, service.1); number_is = refl {a = 2} }) (ok_is (Ipn b.0.0 c.0.0, c.0.1) x c.2)

part_means : (laws : TokenLaws) (number : ℕ) (rest bytes : List ℕ) (x : Eid × List ℕ) → IsBytes bytes
    → cond (eqb number 1) (dtn_at bytes) (cond (eqb number 2) (ipn_at bytes) (stops rest WrongValue)) ≡ Ok x → Reads number bytes x
part_means laws number rest bytes x fits e =
    let R : ℕ → Type 0 = λ n. Reads n bytes x in
    elim (chosen (eqb number 1) (dtn_at bytes) _ _ e) [
      | inl one ↦ subst R (sym (eqb-true _ _ one.0)) (dtn_means laws bytes x fits one.1)
      | inr other ↦
          let two = let_through (eqb number 2) rest WrongValue (ipn_at bytes) x other.1 in
          subst R (sym (eqb-true _ _ two.0)) (ipn_means laws bytes x fits two.1)
    ]

pub id_means : (laws : TokenLaws) (bytes : List ℕ) (x : Eid × List ℕ) → IsBytes bytes → id_at bytes ≡ Ok x → (bytes ≡ spelling x.0 ++ x.1) × Fits x.0
unfolding id_at spelling
id_means laws bytes x fits e =
    let after = λ (rest : List ℕ). number_at rest >>= λ number. cond (eqb number.0 1) (dtn_at number.1) (cond (eqb number.0 2) (ipn_at number.1) (stops rest WrongValue)) in
    let a = bind_ok (pair_at bytes) after x e in
    let b = bind_ok (number_at a.0) (λ number. cond (eqb number.0 1) (dtn_at number.1) (cond (eqb number.0 2) (ipn_at number.1) (stops a.0 WrongValue))) x a.2 in
    let pair = pair_means laws bytes a.0 fits a.1 in
    let number = number_means laws a.0 b.0 pair.rest_fits b.1 in
    let part = part_means laws b.0.0 a.0 b.0.1 x number.0.rest_fits b.2 in
    let scheme_taken : Takes a.0 (uint (scheme x.0)) b.0.1 = rw part.number_is number.0 in
    let both = Takes-then a.0 (uint (scheme x.0)) b.0.1 (specific_part x.0) x.1 scheme_taken part.takes in
    ((Takes-then bytes (array_head 2) a.0 (uint (scheme x.0) ++ specific_part x.0) x.1 pair both).parts, part.fits)

-- ---- one spelling

pub one_spelling : (laws : TokenLaws) (a b : Eid) (x y : List ℕ) → Fits a → Fits b → spelling a ++ x ≡ spelling b ++ y → (a ≡ b) × (x ≡ y)
one_spelling laws a b x y ha hb e =
    let same : (a, x) ≡ (b, y) = ok_is (a, x) (b, y) (sym (id_again laws a x ha) ∙ (ap id_at e ∙ id_again laws b y hb)) in
    (ap (λ (p : Eid × List ℕ). p.0) same, ap (λ (p : Eid × List ℕ). p.1) same)
