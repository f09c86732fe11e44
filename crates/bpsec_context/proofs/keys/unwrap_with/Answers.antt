use Rattle.std.proofs.Common.{◌≡◌, ap, sym, ◌∙◌}
use Rattle.std.specs.Prelude.{not, bytes_eq}
use Rattle.key_wrap.specs.KeyWrap.{Registers, initial_value, unwrap}
use Rattle.bpsec_context.specs.Keys.{unwrapped}
use Rattle.bpsec_context.proofs.KeyLemmas.{unwrapped_with, same_test}
use Rattle.bpsec_context.proofs.keys.unwrap_with.Goals as goal

pub returns-clause-refused : goal.returns-clause-refused
returns-clause-refused g c =
    let key = c.args.key.now in
    let wrapped = c.args.wrapped.now in
    let same = ap (λ k. unwrap g.row.NK k wrapped) c.in-Some.ensures.key in
    let is : unwrap g.row.NK c.in-Some.aes wrapped ≡ unwrapped key wrapped = same ∙ sym (unwrapped_with g.row.NK key wrapped c.requires.key) in
    let right = same_test c.unwrap_into.result (unwrap g.row.NK c.in-Some.aes wrapped).check initial_value c.unwrap_into.ensures.right in
    sym (ap not (right ∙ ap (λ (r : Registers). bytes_eq r.check initial_value) is))
