-- What a session keeps where nothing is ready.
use Rattle.std.proofs.Common.{◌≡◌, ℕ, Bool, true, false, ◌&&◌, not, cond, List, [], Option, Some, None, refl, sym, ◌∙◌, ap, subst}
use Rattle.bp_primary.specs.declared.primary.Primary.{Primary}
use Rattle.bp_blocks.specs.declared.block.Block.{Block}
use Rattle.bp_bundle.specs.Shape.{Contents}
use Rattle.bp_bundle.specs.Spelling.{IsBundle}
use Rattle.bpsec_asb.specs.Operations.{BodiesAreBytes}
use Rattle.bpsec_asb.specs.declared.operation.OpId.{OpId}
use Rattle.bpsec_node.specs.declared.event.Event.{Event}
use Rattle.bpsec_node.specs.declared.event.Verdict.{Verdict}
use Rattle.bpsec_node.specs.declared.held.Held.{Held}
use Rattle.bpsec_node.specs.Situation.{Situation, is_among}
use Rattle.bpsec_node.specs.Site.{block_at}
use Rattle.bpsec_node.specs.Plain.{cover, plain_block, plain}
use Rattle.bpsec_node.specs.AllOperations.{all_operations, is_open}
use Rattle.bpsec_node.specs.Events.{events}
use Rattle.bpsec_node.specs.Outcome.{is_discarded, resulting, outcome}
use Rattle.bpsec_node.specs.Order.{is_free, ready, shown_block, shown}
use Rattle.bpsec_node.specs.Session.{held_of, holds_operations, held_by_block, held_at, IsKept}
use Rattle.bpsec_node.specs.Closing.{plain_held_by, plain_held}
use Rattle.bpsec_node.specs.Finished.{Finished, events_in, blocks_in}
use Rattle.bpsec_node.proofs.Members.{same_truth, from_is_among, is_among_from}
use Rattle.bpsec_node.proofs.Legal.{done_among_all}
use Rattle.bpsec_node.proofs.Ended.{cover_among_all, all_done}
use Rattle.bpsec_node.proofs.OutcomeKeys.{map_agree}
use Rattle.bpsec_node.proofs.Finishing.{Ends, ended, events_in_are, blocks_in_are}
use Rattle.bpsec_node.specs.Longer.{NeverLonger}
use Rattle.bpsec_node.proofs.Results.{resulting_bundle}
use Rattle.bpsec_node.proofs.Sited.{free_by_cover, uncovered_free}

module _ (s : Situation) (done : List OpId) (now : Contents) (held : List Held) (sealed stuck : List ℕ) (open_ops ready_ops : List OpId) (verdicts : List Verdict)
    (kept : IsKept s done now held sealed stuck open_ops ready_ops verdicts) (none : ready s done ≡ []) where
  free_by : (number : ℕ) (c : Option OpId) → cover s.bundle.blocks number ≡ c → is_free s.bundle.blocks done number ≡ true
  free_by number None at = uncovered_free s.bundle.blocks done number at
  free_by number (Some c) at = free_by_cover s.bundle.blocks done number c at ∙ is_among_from done c (all_done s done c none (cover_among_all s number c at))

  all_free : (number : ℕ) → is_free s.bundle.blocks done number ≡ true
  all_free number = free_by number (cover s.bundle.blocks number) refl

  pub shown_plain : shown s done ≡ plain s
  unfolding shown plain
  shown_plain =
      ap (λ (bs : List Block). record { primary = s.bundle.primary; blocks = bs })
      (map_agree (shown_block s done) (plain_block s) (λ block. ap (λ b. cond b (plain_block s block) block) (all_free block.number)) s.bundle.blocks)

  held_plain : (number : ℕ) → held_at s done number ≡ plain_held s number
  unfolding held_at plain_held
  held_plain number = ap (λ (b : Contents). held_by_block s done (block_at b.blocks number)) shown_plain ∙ by (block_at (plain s).blocks number)
    where
      nested : (holds open' : Bool) (h : Held) → cond (holds && open') (Some h) None ≡ cond holds (cond open' (Some h) None) None
      nested true open' h = refl
      nested false open' h = refl

      by : (at : Option Block) → held_by_block s done at ≡ plain_held_by s at
      by None = refl
      by (Some block) =
          ap (λ b. cond (holds_operations block && (b && is_open s block.number)) (Some (held_of block)) None) (all_free block.number)
          ∙ nested (holds_operations block) (is_open s block.number) (held_of block)

  pub ends : Ends s done held stuck
  ends = record {
    shape = kept.shape;
    all = λ op. same_truth (is_among done op) (is_among (all_operations s) op)
        (λ e. is_among_from (all_operations s) op (done_among_all s done op kept.legal (from_is_among done op e)))
        (λ e. is_among_from done op (all_done s done op none (from_is_among (all_operations s) op e)));
    held_is = λ number. kept.held_is number ∙ held_plain number;
    stuck_is = λ number. kept.stuck_is number ∙ ap (λ b. b && not (is_open s number)) (all_free number);
  }

  now_plain : now ≡ plain s
  now_plain = kept.now_is ∙ shown_plain

  plain_primary : (plain s).primary ≡ s.bundle.primary
  unfolding plain
  plain_primary = refl

  -- what is kept is what the end is made of
  pub ended_is : (primary : Primary) (blocks : List Block) → primary ≡ now.primary → blocks ≡ now.blocks
      → record { primary = primary; policy = s.policy; blocks = blocks; held = held; stuck = stuck; done = done; verdicts = verdicts } ≡ ended s done held stuck
  ended_is primary blocks p b =
      ap (λ (x : Primary). record { primary = x; policy = s.policy; blocks = blocks; held = held; stuck = stuck; done = done; verdicts = verdicts }) (p ∙ (ap (λ (c : Contents). c.primary) now_plain ∙ plain_primary))
      ∙ (ap (λ (x : List Block). record { primary = s.bundle.primary; policy = s.policy; blocks = x; held = held; stuck = stuck; done = done; verdicts = verdicts }) (b ∙ ap (λ (c : Contents). c.blocks) now_plain)
      ∙ ap (λ (x : List Verdict). record { primary = s.bundle.primary; policy = s.policy; blocks = (plain s).blocks; held = held; stuck = stuck; done = done; verdicts = x }) kept.verdicts_are)

  pub ended_events : (k : Finished) → k ≡ ended s done held stuck → events_in k ≡ events s
  ended_events k is = ap events_in is ∙ events_in_are s done held stuck ends

  pub ended_blocks : (k : Finished) (es : List Event) → k ≡ ended s done held stuck → es ≡ events s → blocks_in k es ≡ (resulting s).blocks
  ended_blocks k es is same = ap (λ (x : Finished). blocks_in x es) is ∙ (ap (blocks_in (ended s done held stuck)) same ∙ blocks_in_are s done held stuck ends)

  result_primary : (resulting s).primary ≡ s.bundle.primary
  unfolding resulting
  result_primary = refl

  -- the resulting bundle
  pub ended_bundle : (k : Finished) (es : List Event) → k ≡ ended s done held stuck → es ≡ events s → record { primary = k.primary; blocks = blocks_in k es } ≡ resulting s
  ended_bundle k es is same =
      ap (λ (bs : List Block). record { primary = k.primary; blocks = bs }) (ended_blocks k es is same)
      ∙ ap (λ (x : Primary). record { primary = x; blocks = (resulting s).blocks }) (ap (λ (x : Finished). x.primary) is ∙ sym result_primary)

  pub ended_shape : NeverLonger s.suite → BodiesAreBytes now.blocks → is_discarded (events s) ≡ false → IsBundle (resulting s)
  ended_shape never small kept' = resulting_bundle s never kept.shape (subst (λ (c : Contents). BodiesAreBytes c.blocks) now_plain small) kept'

  pub outcome_bundle : (outcome s).bundle ≡ cond (is_discarded (events s)) None (Some (resulting s))
  unfolding outcome
  outcome_bundle = refl
