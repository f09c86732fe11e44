-- Context 2 keeps the laws of a cipher context.
use Rattle.std.specs.Prelude.{◌≡◌, ◌≢◌, ◌<◌, ◌≤◌, ◌⊎◌, ◌+◌, ◌-◌, ℕ, ◌%◌, Bool, true, false, List, [], ◌∷◌, ◌++◌, length, take, bytes_eq, count_by, find, nat_lt, unwrap_or, Option, Some, None, Ok, Err, refl, if◌then◌else◌}
use Rattle.std.proofs.Common.{drop, sym, ap, ◌∙◌, arith, length-append, length-take}
use Rattle.std.proofs.lemmas.Bool.{le-ltb, ne_eqb}
use Rattle.std.proofs.lemmas.List.Elements.{All-head, All-tail}
use Rattle.std.proofs.lemmas.List.Recursion.{is_count_by}
use Rattle.std.proofs.lemmas.List.{take_at, drop_at}
use Rattle.std.proofs.lemmas.Slice.Eq.{bytes_eq-Decides}
use Rattle.aes_core.proofs.CipherLemmas.{length-cipher}
use Rattle.gcm_core.proofs.LawLemmas.{ciphered_twice}
use Rattle.gcm_core.proofs.SizeLemmas.{length-ciphered, length-tag_of}
use Rattle.bpsec_asb.specs.declared.asb.Pair.{Pair}
use Rattle.bpsec_scope.specs.Parts.{Parts}
use Rattle.bpsec_scope.specs.Covered.{scoped, aad}
use Rattle.bpsec_context.specs.declared.judgement.Judgement.{Judgement}
use Rattle.bpsec_context.specs.declared.judgement.Judgement.TheVariants.{Right, Wrong, Misset}
use Rattle.bpsec_context.specs.declared.judgement.MissetReason.{MissetReason}
use Rattle.bpsec_context.specs.declared.judgement.MissetReason.TheVariants.{BadParameter, BadResult}
use Rattle.bpsec_context.specs.Pairs.{Given, has_id, value_at}
use Rattle.bpsec_context.specs.Keys.{refuses, working_key}
use Rattle.bpsec_context.specs.Calls.{Protected, only_tag, NoTag, IsContextReason}
use Rattle.bpsec_context.specs.Confidentiality.{checked, opened, sealed, scope_of, bad_parameters, flags_of, result_given, wrapped_of, variant_of, vector_of, words_of, block_cipher, wrong_length, lacks_tag, tag_in, ciphertext_in, enciphered, tag_over, where_right, protected}
use Rattle.bpsec_context.specs.Tables as tables
use Rattle.bpsec_context.specs.OnlyTag.{only_tag_given}

pub refused_is_misset : (key : List ℕ) (parameters results : List Pair) (parts : Parts) (plain body : List ℕ) (reason : MissetReason) → sealed key parameters parts plain ≡ Err reason → (checked (Some key) parameters results parts body ≡ Misset reason) ⊎ (checked (Some key) parameters results parts body ≡ Misset BadResult)
unfolding sealed checked
refused_is_misset key parameters results parts plain body reason e = tables.refused_is_misset _ _ _ _ _ _ reason e

pub misset_is_refused : (key : List ℕ) (parameters results : List Pair) (parts : Parts) (plain body : List ℕ) (reason : MissetReason) → checked (Some key) parameters results parts body ≡ Misset reason → (reason ≡ BadResult) ⊎ (sealed key parameters parts plain ≡ Err reason)
unfolding sealed checked
misset_is_refused key parameters results parts plain body reason e = tables.misset_is_refused _ _ _ _ _ _ reason e

scope_of_bad : (parameters : List Pair) → bad_parameters parameters ≡ true → scope_of parameters ≡ 0
unfolding scope_of
scope_of_bad parameters e = rw e refl

pub bad_parameters_come_first : (key : List ℕ) (parameters : List Pair) (parts : Parts) (plain : List ℕ) → sealed key parameters parts plain ≡ Err BadParameter → ((other : Option (List ℕ)) (results : List Pair) (body : List ℕ) → checked other parameters results parts body ≡ Misset BadParameter) × (scope_of parameters ≡ 0)
unfolding sealed checked
bad_parameters_come_first key parameters parts plain e =
    let bad = tables.bad_parameters (bad_parameters parameters) (wrong_length (variant_of parameters) (wrapped_of parameters) key) (refuses (wrapped_of parameters) key) (protected key parameters parts plain) e in
    (λ other results body. tables.bad_parameters_first _ _ _ _ _ _ bad, scope_of_bad parameters bad)

pub reasons : (key : Option (List ℕ)) (parameters results : List Pair) (parts : Parts) (body : List ℕ) (reason : MissetReason) → checked key parameters results parts body ≡ Misset reason → IsContextReason reason
unfolding checked
reasons key parameters results parts body reason e = tables.reasons _ _ _ _ _ _ reason e

small_flags : (bad : Bool) (n : ℕ) → (if bad then 0 else n % 8) < 8
small_flags true n = omega arith
small_flags false n = omega arith

pub scopes_are_small : (parameters : List Pair) → scope_of parameters < 8
unfolding scope_of
scopes_are_small parameters = small_flags (bad_parameters parameters) (flags_of parameters)

unchanged : (judgement : Judgement) (opened body : List ℕ) → (judgement ≡ Right → ⊥) → where_right judgement opened body ≡ body
unchanged Right opened body not_right = absurd (not_right refl)
unchanged Wrong opened body not_right = refl
unchanged (Misset reason) opened body not_right = refl

pub stays : (key : Option (List ℕ)) (parameters results : List Pair) (parts : Parts) (body : List ℕ) → (checked key parameters results parts body ≡ Right → ⊥) → opened key parameters results parts body ≡ body
unfolding opened
stays key parameters results parts body not_right = unchanged (checked key parameters results parts body) _ body not_right

-- ---- lengths

pub length-enciphered : (key : List ℕ) (parameters : List Pair) (body : List ℕ) → length (enciphered key parameters body) ≡ length body
unfolding enciphered
length-enciphered key parameters body = length-ciphered (block_cipher key parameters) (vector_of parameters) body

pub length-tag_over : (key : List ℕ) (parameters : List Pair) (parts : Parts) (ciphertext : List ℕ) → length (tag_over key parameters parts ciphertext) ≡ 16
unfolding tag_over
length-tag_over key parameters parts ciphertext =
    length-tag_of (block_cipher key parameters) (length-cipher (words_of (variant_of parameters)) (working_key (wrapped_of parameters) key)) (vector_of parameters) (aad (scoped parts (flags_of parameters))) ciphertext

shorter : (given : Given (List ℕ)) (body : List ℕ) → length (ciphertext_in given body) ≤ length body
shorter (Ok (Some tag)) body = omega arith
shorter (Ok None) body = simp length-take (omega arith)
shorter (Err e) body = omega arith

never_longer_than : (judgement : Judgement) (opened body : List ℕ) → length opened ≤ length body → length (where_right judgement opened body) ≤ length body
never_longer_than Right opened body fits = fits
never_longer_than Wrong opened body fits = omega arith
never_longer_than (Misset reason) opened body fits = omega arith

pub never_longer : (key : Option (List ℕ)) (parameters results : List Pair) (parts : Parts) (body : List ℕ) → length (opened key parameters results parts body) ≤ length body
unfolding opened
never_longer key parameters results parts body =
    let ciphertext = ciphertext_in (result_given results) body in
    let same = length-enciphered (unwrap_or key []) parameters ciphertext in
    let fits = shorter (result_given results) body in
    never_longer_than (checked key parameters results parts body) (enciphered (unwrap_or key []) parameters ciphertext) body (omega arith)

-- ---- what was sealed

-- nothing stands in the way, and the ciphertext and the tag are these
record IsMade (key : List ℕ) (parameters : List Pair) (parts : Parts) (body : List ℕ) (made : Protected) : Type 0 where
  well : bad_parameters parameters ≡ false
  long : wrong_length (variant_of parameters) (wrapped_of parameters) key ≡ false
  unwraps : refuses (wrapped_of parameters) key ≡ false
  ciphertext : made.ciphertext ≡ enciphered key parameters body
  tag : made.tag ≡ tag_over key parameters parts made.ciphertext

is_made : (key : List ℕ) (parameters : List Pair) (parts : Parts) (body : List ℕ) (made : Protected) → sealed key parameters parts body ≡ Ok made → IsMade key parameters parts body made
unfolding sealed
is_made key parameters parts body made e =
    let free = tables.made_freely (bad_parameters parameters) (wrong_length (variant_of parameters) (wrapped_of parameters) key) (refuses (wrapped_of parameters) key) (protected key parameters parts body) made e in
    let ciphertext : made.ciphertext ≡ enciphered key parameters body = ap (λ (it : Protected). it.ciphertext) (sym free.3) in
    record {
      well = free.0;
      long = free.1;
      unwraps = free.2;
      ciphertext = ciphertext;
      tag = ap (λ (it : Protected). it.tag) (sym free.3) ∙ ap (tag_over key parameters parts) (sym ciphertext);
    }

pub sealed_lengths : (key : List ℕ) (parameters : List Pair) (parts : Parts) (body : List ℕ) (made : Protected) → sealed key parameters parts body ≡ Ok made → (length made.ciphertext ≡ length body) × (length made.tag ≡ 16)
sealed_lengths key parameters parts body made e =
    let is = is_made key parameters parts body made e in
    (ap length is.ciphertext ∙ length-enciphered key parameters body, ap length is.tag ∙ length-tag_over key parameters parts made.ciphertext)

pub tags_are_short : (key : List ℕ) (parameters : List Pair) (parts : Parts) (body : List ℕ) (made : Protected) → sealed key parameters parts body ≡ Ok made → length made.tag ≤ 64
tags_are_short key parameters parts body made e =
    let is = is_made key parameters parts body made e in
    omega (arith, ap length is.tag, length-tag_over key parameters parts made.ciphertext)

enciphered_twice : (key : List ℕ) (parameters : List Pair) (body : List ℕ) → enciphered key parameters (enciphered key parameters body) ≡ body
unfolding enciphered
enciphered_twice key parameters body = ciphered_twice (block_cipher key parameters) (vector_of parameters) body

-- where the tag and the ciphertext are found, it is Right and opens to the body
found_is_right : (key : List ℕ) (parameters results : List Pair) (parts : Parts) (plain body : List ℕ) (made : Protected) → IsMade key parameters parts plain made → lacks_tag (result_given results) body ≡ false → tag_in (result_given results) body ≡ made.tag → ciphertext_in (result_given results) body ≡ made.ciphertext → (checked (Some key) parameters results parts body ≡ Right) × (opened (Some key) parameters results parts body ≡ plain)
unfolding opened checked
found_is_right key parameters results parts plain body made is there tag ciphertext =
    let test : bytes_eq (tag_in (result_given results) body) (tag_over key parameters parts (ciphertext_in (result_given results) body)) ≡ true =
    (bytes_eq-Decides (tag_in (result_given results) body) (tag_over key parameters parts (ciphertext_in (result_given results) body))).1
    (tag ∙ (is.tag ∙ ap (tag_over key parameters parts) (sym ciphertext)))
    in
    let right = tables.judged_right _ _ _ _ _ is.well there is.long is.unwraps test in
    let opens : enciphered key parameters (ciphertext_in (result_given results) body) ≡ plain =
    ap (enciphered key parameters) (ciphertext ∙ is.ciphertext) ∙ enciphered_twice key parameters plain
    in
    (right, ap (λ judgement. where_right judgement (enciphered key parameters (ciphertext_in (result_given results) body)) body) right ∙ opens)

pub sealed_is_right : (key : List ℕ) (parameters : List Pair) (parts : Parts) (body : List ℕ) (made : Protected) → sealed key parameters parts body ≡ Ok made → (checked (Some key) parameters (only_tag made.tag) parts made.ciphertext ≡ Right) × (opened (Some key) parameters (only_tag made.tag) parts made.ciphertext ≡ body)
sealed_is_right key parameters parts body made e =
    let is = is_made key parameters parts body made e in
    let size : length made.tag ≡ 16 = ap length is.tag ∙ length-tag_over key parameters parts made.ciphertext in
    let given : result_given (only_tag made.tag) ≡ Ok (Some made.tag) = only_tag_given 16 made.tag size (omega arith) in
    found_is_right key parameters (only_tag made.tag) parts body made.ciphertext made is
    (ap (λ (g : Given (List ℕ)). lacks_tag g made.ciphertext) given)
    (ap (λ (g : Given (List ℕ)). tag_in g made.ciphertext) given)
    (ap (λ (g : Given (List ℕ)). ciphertext_in g made.ciphertext) given)

-- ---- the tag behind the ciphertext

-- how many pairs have the id, pair by pair
times : List Pair → ℕ
times [] = 0
times (pair ∷ pairs) = if has_id 1 pair then 1 + times pairs else times pairs

times_is : (results : List Pair) → times results ≡ count_by (has_id 1) results
unfolding times
times_is results = is_count_by times (has_id 1) refl (λ pair pairs. refl) results

other_id : (pair : Pair) → pair.id ≢ 1 → has_id 1 pair ≡ false
other_id pair other = ne_eqb pair.id 1 other

none_by_pair : (results : List Pair) → NoTag results → (times results ≡ 0) × (find (has_id 1) results ≡ None)
unfolding times
none_by_pair [] none = (refl, refl)
none_by_pair (pair ∷ pairs) none =
    let rest = none_by_pair pairs (All-tail (λ (it : Pair). it.id ≢ 1) pair pairs none) in
    let other = other_id pair (All-head (λ (it : Pair). it.id ≢ 1) pair pairs none) in
    (rw other rest.0, rw other rest.1)

-- no pair has the id
none_found : (results : List Pair) → NoTag results → (count_by (has_id 1) results ≡ 0) × (find (has_id 1) results ≡ None)
none_found results none =
    let found = none_by_pair results none in
    (sym (times_is results) ∙ found.0, found.1)

no_result : (results : List Pair) → NoTag results → result_given results ≡ Ok None
unfolding value_at
no_result results none = let found = none_found results none in rw (found.0, found.1) refl

last_16 : (front tag : List ℕ) → length tag ≡ 16 → length (front ++ tag) - 16 ≡ length front
last_16 front tag size = omega (arith, length-append front tag)

pub joined_is_right : (key : List ℕ) (parameters results : List Pair) (parts : Parts) (body : List ℕ) (made : Protected) → true ≡ true → sealed key parameters parts body ≡ Ok made → NoTag results → (checked (Some key) parameters results parts (made.ciphertext ++ made.tag) ≡ Right) × (opened (Some key) parameters results parts (made.ciphertext ++ made.tag) ≡ body)
joined_is_right key parameters results parts body made joins e none =
    let is = is_made key parameters parts body made e in
    let size : length made.tag ≡ 16 = ap length is.tag ∙ length-tag_over key parameters parts made.ciphertext in
    let whole = made.ciphertext ++ made.tag in
    let given : result_given results ≡ Ok None = no_result results none in
    let cut = last_16 made.ciphertext made.tag size in
    let long : nat_lt (length whole) 16 ≡ false = le-ltb _ _ (omega (arith, length-append made.ciphertext made.tag)) in
    found_is_right key parameters results parts body whole made is
    (ap (λ (g : Given (List ℕ)). lacks_tag g whole) given ∙ long)
    (ap (λ (g : Given (List ℕ)). tag_in g whole) given ∙ (ap (λ n. drop n whole) cut ∙ drop_at made.ciphertext made.tag _ refl))
    (ap (λ (g : Given (List ℕ)). ciphertext_in g whole) given ∙ (ap (λ n. take n whole) cut ∙ take_at made.ciphertext made.tag _ refl))
