-- A ready operation over the blocks that a session shows.
use Rattle.std.proofs.Common.{◌≡◌, ℕ, ◌≤◌, ◌^◌, true, ◌&&◌, List, Option, Some, Result, Ok, sym, ◌∙◌, ap, arith}
use Rattle.std.specs.Prelude.{Contains, length, is_some, is_ok, option_map}
use Rattle.cbor_profile.specs.declared.TheConstants.{BUNDLE_LIMIT}
use Rattle.cbor_profile.specs.declared.fault.Fault.{Fault}
use Rattle.bp_blocks.specs.declared.block.Block.{Block}
use Rattle.bp_bundle.specs.Shape.{Contents}
use Rattle.bpsec_asb.specs.declared.asb.Asb.{Asb}
use Rattle.bpsec_asb.specs.declared.operation.OpId.{OpId}
use Rattle.bpsec_asb.specs.Reading.{read_body}
use Rattle.bpsec_node.specs.declared.event.Verdict.{Verdict}
use Rattle.bpsec_node.specs.declared.held.Held.{Held}
use Rattle.bpsec_node.specs.Situation.{Situation}
use Rattle.bpsec_node.specs.Site.{Site, block_at, site, rule_over}
use Rattle.bpsec_node.specs.Verdict.{rule}
use Rattle.bpsec_node.specs.Order.{ready, shown}
use Rattle.bpsec_node.specs.Session.{find_held, held_of, IsKept}
use Rattle.bpsec_node.specs.Change.{is_readable}
use Rattle.bpsec_node.proofs.Agree.{block_at_number}
use Rattle.bpsec_node.proofs.Shrinking.{body_within}
use Rattle.bpsec_node.proofs.ReadyOps.{HeldBlock, IsReady, ready_is, ready_held, ready_site}

module _ (s : Situation) (done : List OpId) (now : Contents) (held : List Held) (sealed stuck : List ℕ) (open_ops ready_ops : List OpId) (verdicts : List Verdict)
    (kept : IsKept s done now held sealed stuck open_ops ready_ops verdicts) (op : OpId) (there : Contains (ready s done) op) where
  pub over_ready : IsReady s done op
  over_ready = ready_is s done op kept.shape.distinct there

  over_held : HeldBlock s done op.block
  over_held = ready_held s done op kept.shape.distinct over_ready

  block_now : block_at now.blocks op.block ≡ Some over_held.block
  block_now = ap (λ (b : Contents). block_at b.blocks op.block) kept.now_is ∙ over_held.at

  held_now : find_held held op.block ≡ Some (held_of over_held.block)
  held_now = kept.held_is op.block ∙ over_held.held

  pub over_found : (is_some (block_at now.blocks op.block) && is_readable (find_held held op.block)) ≡ true
  over_found =
      ap (λ (b : Option Block). is_some b && is_readable (find_held held op.block)) block_now
      ∙ (ap is_readable held_now ∙ ap is_ok over_held.read)

  same_block : (a b : Block) → ◌≡◌ {A = Option Block} (Some a) (Some b) → a ≡ b
  same_block a b e = cc

  same_read : (a b : Result Asb Fault) → ◌≡◌ {A = Option (Result Asb Fault)} (Some a) (Some b) → a ≡ b
  same_read a b e = cc

  pub over_read : (security : Block) (asb : Asb) → block_at now.blocks op.block ≡ Some security → option_map (λ (h : Held). h.read) (find_held held op.block) ≡ Some (Ok asb) → read_body security.body ≡ Ok asb
  over_read security asb at read =
      let block : security ≡ over_held.block = same_block security over_held.block (sym at ∙ block_now) in
      let same : read_body over_held.block.body ≡ Ok asb = same_read (read_body over_held.block.body) (Ok asb) (sym (ap (option_map (λ (h : Held). h.read)) held_now) ∙ read) in
      ap (λ (b : Block). read_body b.body) block ∙ same

  pub over_site : site now op ≡ site (shown s done) op
  over_site = ap (λ b. site b op) kept.now_is

  pub over_small : (block : Block) → block_at now.blocks op.target ≡ Some block → length block.body ≤ 2 ^ 32
  over_small block at =
      let within : length block.body ≤ BUNDLE_LIMIT = body_within now block kept.shape_now (block_at_number now.blocks op.target block at).0 in
      omega arith

  pub over_rule : rule_over s.policy (site (shown s done) op) op ≡ rule s op
  unfolding rule
  over_rule = ap (λ (x : Site). rule_over s.policy x op) (ready_site s done op kept.shape.distinct kept.begun.once over_ready)
