use Rattle.std.proofs.Common.{◌≡◌, ◌≤◌, ◌++◌, ℕ, List, Result, Ok, Err, Some, string_bytes, sym, ◌∙◌, ap, subst, arith}
use Rattle.std.specs.Prelude.{OnOk}
use Rattle.std.specs.Str.{IsUtf8}
use Rattle.std.proofs.lemmas.Result.{on_ok_weaker}
use Rattle.serde_json.specs.Data.{Data, depth}
use Rattle.serde_json.specs.Read.{read}
use Rattle.serde_json.specs.Written.{has_float, compact_text}
use Rattle.bpsec_policy.specs.Written.{policy_tree, policy_text}
use Rattle.bpsec_policy.proofs.Short.{policy_short}
use Rattle.bpsec_policy.proofs.Plain.{policy_plain, policy_depth, text_again}
use Rattle.bpsec_policy.proofs.policy.Policy.put_text.Goals as goal

on_ok_from : {T E P : Type 0} (r : Result T E) → P → OnOk r P
on_ok_from (Ok x) p = p
on_ok_from (Err e) p = tt

pub returns-clause-ok : goal.returns-clause-ok
returns-clause-ok c =
    let p = c.args.self.now in
    let tree = c.in_ok-tree.ensures.value in
    let text : string_bytes c.in_ok-text.text ≡ policy_text p = c.in_ok-text.ensures.text (ap has_float tree ∙ policy_plain p) ∙ ap compact_text tree in
    on_ok_weaker c.extend.result (λ h. h ∙ ap (λ (t : List ℕ). c.args.out.now ++ t) (c.as_bytes.ensures.value ∙ (c.as_str.ensures.value ∙ text))) c.extend.ensures.ok

pub returns-clause-again : goal.returns-clause-again
returns-clause-again c =
    let p = c.args.self.now in
    let tree = c.in_ok-tree.ensures.value in
    let text : string_bytes c.in_ok-text.text ≡ policy_text p = c.in_ok-text.ensures.text (ap has_float tree ∙ policy_plain p) ∙ ap compact_text tree in
    let deep = subst (λ (d : Data). depth d ≤ 127) (sym tree) (policy_depth p) in
    let back : read (policy_text p) ≡ Some (policy_tree p) = ap read (sym text) ∙ (c.in_ok-text.ensures.reads_back deep ∙ ap Some tree) in
    let utf8 = subst IsUtf8 (c.as_bytes.ensures.value ∙ (c.as_str.ensures.value ∙ text)) c.as_bytes.ensures.utf8 in
    let few = policy_short p c.in_ok-tree.ensures.rule c.in_ok-tree.ensures.fits in
    on_ok_from c.extend.result (text_again c.ids_are_read_as_written.ensures.again p (policy_text p) c.in_ok-tree.ensures.rule c.in_ok-tree.ensures.fits utf8 (omega arith) back)

pub returns-clause-short : goal.returns-clause-short
returns-clause-short c = on_ok_from c.extend.result (policy_short c.args.self.now c.in_ok-tree.ensures.rule c.in_ok-tree.ensures.fits)
