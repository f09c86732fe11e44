use Rattle.std.proofs.Common.{◌≡◌, List, ℕ, length, ap, ◌∙◌, rules}
use Rattle.bp_fragments.proofs.Covered.{seen_new}
use Rattle.bp_fragments.proofs.payload.Payload.unknown.Goals as goal

pub returns : goal.returns
returns c =
    let size : length c.in_ok-vec.field-0.items ≡ c.args.total = search rules in
    seen_new c.new.result c.of.result c.args.total c.new.ensures (ap (λ (xs : List ℕ). length xs) c.of.ensures ∙ size)
