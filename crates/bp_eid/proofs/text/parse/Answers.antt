use Rattle.std.proofs.Common.{ℕ, List, ◌++◌, ◌∙◌, sym, ap}
use Rattle.std.specs.Prelude.{codes, OnErr, Result, Ok, Err}
use Rattle.std.proofs.lemmas.Bool.{false≢true}
use Rattle.std.proofs.lemmas.Slice.Eq.{bytes_eq-Decides}
use Rattle.bp_eid.specs.declared.eid.Eid.TheVariants.{Dtn}
use Rattle.bp_eid.specs.DtnText.{is_dtn_text}
use Rattle.bp_eid.specs.EndpointId.{text_form}
use Rattle.bp_eid.proofs.Texts.{no_dtn_text, no_scheme, no_ipn_text}
use Rattle.bp_eid.proofs.text.parse.Goals as goal

pub returns-then-eq-clause-means : goal.returns-then-eq-clause-means
unfolding text_form
returns-then-eq-clause-means c = (tt, (bytes_eq-Decides c.args.text.now (codes "dtn:none")).0 (sym c.if-eq.ensures))

pub returns-then-not-is_dtn_text-clause-means : goal.returns-then-not-is_dtn_text-clause-means
returns-then-not-is_dtn_text-clause-means c =
    let part = c.in-Some.ensures in
    let rule = ap is_dtn_text (sym c.as_bytes-part.ensures.value) ∙ sym c.if-not-is_dtn_text.ensures in
    no_dtn_text c.args.text.now c.in-Some.part.now part (λ e. false≢true (c.if-eq.ensures ∙ (bytes_eq-Decides c.args.text.now (codes "dtn:none")).1 e)) rule

pub returns-in-Some-clause-means : goal.returns-in-Some-clause-means
unfolding text_form
returns-in-Some-clause-means c =
    let copy = c.in_ok-copied.ensures in
    (ap is_dtn_text copy ∙ sym c.if-not-is_dtn_text.ensures, c.in-Some.ensures ∙ ap (λ (t : List ℕ). codes "dtn:" ++ t) (sym (copy ∙ c.as_bytes-part.ensures.value)))

on_err_from : {T E P : Type 0} (r : Result T E) → P → OnErr r P
on_err_from (Ok x) p = tt
on_err_from (Err e) p = p

pub returns-in_err-copied-clause-memory : goal.returns-in_err-copied-clause-memory
unfolding text_form
returns-in_err-copied-clause-memory c =
    on_err_from c.from_residual.result (Dtn c.as_bytes-part.result.now, tt, sym c.if-not-is_dtn_text.ensures, c.in-Some.ensures ∙ ap (λ (t : List ℕ). codes "dtn:" ++ t) (sym c.as_bytes-part.ensures.value))

pub returns-in_default-after-clause-means : goal.returns-in_default-after-clause-means
returns-in_default-after-clause-means c = no_scheme c.args.text.now (λ e. false≢true (c.if-eq.ensures ∙ (bytes_eq-Decides c.args.text.now (codes "dtn:none")).1 e)) c.in_default.ensures c.in_default-after.ensures

pub returns-in-Some-numbers_of-clause-means : goal.returns-in-Some-numbers_of-clause-means
unfolding text_form
returns-in-Some-numbers_of-clause-means c = ((c.in-Some-numbers_of.ensures.0, c.in-Some-numbers_of.ensures.1), c.in-Some-after.ensures ∙ ap (λ (t : List ℕ). codes "ipn:" ++ t) c.in-Some-numbers_of.ensures.2)

pub returns-in-None-clause-means : goal.returns-in-None-clause-means
returns-in-None-clause-means c = no_ipn_text c.args.text.now c.in-Some-after.part.now c.in-Some-after.ensures c.in-None.ensures
