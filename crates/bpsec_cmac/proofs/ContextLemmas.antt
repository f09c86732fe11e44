-- What is judged Right is what signing gives, and the context sees the covered record alone.
use Rattle.std.proofs.Common.{◌≡◌, ◌≢◌, ℕ, Bool, true, false, not, List, [], sym, ap, ◌∙◌}
use Rattle.std.specs.Prelude.{Option, Some, Ok, bytes_eq, unwrap_or, is_none}
use Rattle.std.proofs.lemmas.Slice.Eq.{bytes_eq-Decides}
use Rattle.aes_core.specs.Cipher.{cipher}
use Rattle.cmac_core.specs.Cmac.{cmac}
use Rattle.bpsec_asb.specs.declared.asb.Pair.{Pair}
use Rattle.bpsec_scope.specs.Parts.{Parts}
use Rattle.bpsec_scope.specs.Covered.{Scoped, scoped, ippt}
use Rattle.bpsec_context.specs.declared.judgement.Judgement.TheVariants.{Right, Misset}
use Rattle.bpsec_context.specs.declared.judgement.MissetReason.TheVariants.{UnwrapRefused}
use Rattle.bpsec_context.specs.Reasons.{first, judgement, unless_refused}
use Rattle.bpsec_context.specs.Pairs.{is_given, value_or}
use Rattle.bpsec_context.specs.Tables as tables
use Rattle.bpsec_cmac.specs.Integrity.{judged, signed, bad_parameters, flags_of, result_given, wrong_length, tag_of, refusals, signing_refusals}

pub right_is_signed : (key : List ℕ) (parameters results : List Pair) (parts : Parts) → judged (Some key) parameters results parts ≡ Right
    → signed key parameters parts ≡ Ok (value_or [] (result_given results))
unfolding judged signed
right_is_signed key parameters results parts e =
    let given : List ℕ = value_or [] (result_given results) in
    let due : List ℕ = tag_of key parameters parts in
    let free = tables.right_is_free (bad_parameters parameters) (not (is_given (result_given results))) false (wrong_length key) false (bytes_eq given due) e in
    let same : given ≡ due = (bytes_eq-Decides given due).0 free.3 in
    tables.free_is_made (bad_parameters parameters) (wrong_length key) false due free.0 free.1 free.2 ∙ ap Ok (sym same)

never_unwraps : (p r k l right : Bool) → judgement (first (tables.judging p r k l false)) right ≢ Misset UnwrapRefused
never_unwraps true r k l right e = cc
never_unwraps false true k l right e = cc
never_unwraps false false true l right e = cc
never_unwraps false false false true right e = cc
never_unwraps false false false false true e = cc
never_unwraps false false false false false e = cc

pub no_unwrap : (key : Option (List ℕ)) (parameters results : List Pair) (parts : Parts)
    → judged key parameters results parts ≢ Misset UnwrapRefused
unfolding judged
no_unwrap key parameters results parts =
    never_unwraps (bad_parameters parameters) (not (is_given (result_given results))) (is_none key) (wrong_length (unwrap_or key []))
    (bytes_eq (value_or [] (result_given results)) (tag_of (unwrap_or key []) parameters parts))

same_tag : (key : List ℕ) (parameters : List Pair) (a b : Parts) → scoped a (flags_of parameters) ≡ scoped b (flags_of parameters)
    → tag_of key parameters a ≡ tag_of key parameters b
unfolding tag_of
same_tag key parameters a b e = ap (λ (covered : Scoped). cmac (cipher 4 key) (ippt covered)) e

pub same_judged : (key : Option (List ℕ)) (parameters results : List Pair) (a b : Parts)
    → scoped a (flags_of parameters) ≡ scoped b (flags_of parameters)
    → judged key parameters results a ≡ judged key parameters results b
unfolding judged
same_judged key parameters results a b e =
    ap (λ tag. judgement (first (refusals key parameters results)) (bytes_eq (value_or [] (result_given results)) tag))
    (same_tag (unwrap_or key []) parameters a b e)

pub same_signed : (key : List ℕ) (parameters : List Pair) (a b : Parts) → scoped a (flags_of parameters) ≡ scoped b (flags_of parameters)
    → signed key parameters a ≡ signed key parameters b
unfolding signed
same_signed key parameters a b e =
    ap (unless_refused (first (signing_refusals key parameters))) (same_tag key parameters a b e)
