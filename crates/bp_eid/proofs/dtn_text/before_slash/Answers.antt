use Rattle.std.proofs.Common.{◌≡◌, ℕ, ◌≤◌, Bool, true, false, cond, length, take, Some, None, refl, sym, ap, ◌∙◌, rules, tests, arith}
use Rattle.std.specs.Prelude.{◌==◌}
use Rattle.std.specs.List.{position_or_len}
use Rattle.std.proofs.lemmas.Bool.{ltb-false}
use Rattle.std.proofs.lemmas.Grind.{common_steps}
use Rattle.std.proofs.lemmas.Iterator.{YieldsList-from_slice}
use Rattle.std.proofs.lemmas.Iterator.Search.{position_from_yields_List}
use Rattle.bp_eid.specs.DtnText.{slash}
use Rattle.bp_eid.proofs.dtn_text.before_slash.Goals as goal

at_end : (b : Bool) (n end : ℕ) → Some end ≡ cond b (Some n) None → end ≡ n
at_end true n end e = cc
at_end false n end e = absurd cc

passed : (b : Bool) (n : ℕ) → None ≡ cond b (Some n) None → b ≡ false
passed true n e = absurd cc
passed false n e = refl

pub returns-in-Some : goal.returns-in-Some
returns-in-Some c =
    let text = c.args.text.now in
    let found = position_from_yields_List (λ b. b == slash) _ _ c.position.result c.position.ensures.ran (YieldsList-from_slice text cc) (λ x b q k. search (rules, tests)) in
    ap (λ (n : ℕ). take n text) (at_end _ _ _ (sym c.in-Some.is ∙ found))

pub returns-in-None : goal.returns-in-None
returns-in-None c =
    let text = c.args.text.now in
    let found = position_from_yields_List (λ b. b == slash) _ _ c.position.result c.position.ensures.ran (YieldsList-from_slice text cc) (λ x b q k. search (rules, tests)) in
    let long : length text ≤ position_or_len (λ b. b == slash) text = ltb-false _ _ (passed _ _ (sym c.in-None.is ∙ found)) in
    grind (arith, common_steps)
