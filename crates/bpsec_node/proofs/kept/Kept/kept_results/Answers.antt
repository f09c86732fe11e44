use Rattle.std.proofs.Common.{ℕ, ◌++◌, Bool, get_or, sym, ap, ◌∙◌}
use Rattle.std.specs.Prelude.{slice_get}
use Rattle.bpsec_asb.specs.Known.{operation}
use Rattle.bpsec_node.specs.Finished.{is_dropped_in, kept_one}
use Rattle.bpsec_node.specs.Seen.{seen}
use Rattle.bpsec_node.proofs.KeptResults.{results_more}
use Rattle.bpsec_node.proofs.kept.Kept.kept_results.Goals as goal

pub loop-i-preserved : goal.loop-i-preserved
loop-i-preserved c =
    let p : ℕ → Bool = λ target. is_dropped_in (seen c.args.self.now) c.args.events.now (operation c.args.service c.args.number target) in
    let dropped = p (get_or c.args.targets.now c.loop-i.i 0) in
    c.in_ok-add_kept.ensures
    ∙ ap (λ results. c.loop-i.kept ++ kept_one dropped results) c.results_at.ensures
    ∙ ap (λ kept. kept ++ kept_one dropped (slice_get c.args.results.now c.loop-i.i)) c.loop-i.invariant
    ∙ sym (results_more p c.args.targets.now c.args.results.now c.loop-i.i 0 c.loop-i-test.true)
