-- A ready operation's security block was read, and its site is as its verdict asks.
use Rattle.std.proofs.Common.{◌≡◌, ℕ, Bool, true, false, ◌&&◌, ◌||◌, not, cond, eqb, List, Option, Some, None, Result, Ok, Err, refl, sym, ◌∙◌, ap}
use Rattle.std.specs.Prelude.{Contains}
use Rattle.std.proofs.lemmas.Bool.{eq-eqb}
use Rattle.cbor_profile.specs.declared.fault.Fault.{Fault}
use Rattle.bp_blocks.specs.declared.block.Block.{Block}
use Rattle.bpsec_asb.specs.declared.asb.Asb.{Asb}
use Rattle.bpsec_asb.specs.declared.operation.Service.{Service}
use Rattle.bpsec_asb.specs.declared.operation.Service.TheVariants.{Bib, Bcb}
use Rattle.bpsec_asb.specs.declared.operation.OpId.{OpId}
use Rattle.bpsec_asb.specs.Operations.{NumbersAreDistinct}
use Rattle.bpsec_asb.specs.Known.{targets_of, ciphers}
use Rattle.bpsec_asb.specs.Reading.{read_body}
use Rattle.bpsec_asb.proofs.Members.{Among, among}
use Rattle.bpsec_node.specs.Situation.{Situation, is_among}
use Rattle.bpsec_node.specs.Agree.{with_keys, Agree}
use Rattle.bpsec_node.specs.Site.{block_at, site}
use Rattle.bpsec_node.specs.Plain.{plain}
use Rattle.bpsec_node.specs.AllOperations.{is_open}
use Rattle.bpsec_node.specs.Verdict.{is_bib, site_by, site_of}
use Rattle.bpsec_node.specs.Order.{is_free, is_ready, ready, shown}
use Rattle.bpsec_node.specs.Begin.{CoveredOnce}
use Rattle.bpsec_node.specs.Session.{has, applies_to, is_operation_by, is_operation, holds_operations, held_of, is_read, held_by_block, held_at}
use Rattle.bpsec_node.proofs.Members.{both, both_true, from_is_among, from_ready}
use Rattle.bpsec_node.proofs.Agree.{Settled, block_at_number, ready_bib, free_agrees, site_of_same}
use Rattle.bpsec_node.proofs.Operations.{operation_if_among}
use Rattle.bpsec_node.proofs.Sited.{free_shown, cipher_block, cipher_uncovered, uncovered_free, uncovered_open, uncovered_shown_at, bib_site, bcb_site}

-- ---- what a ready operation is

pub record IsReady (s : Situation) (done : List OpId) (op : OpId) : Type 0 where
  pub operation : is_operation s op ≡ true
  pub test : is_ready s.bundle.blocks done op ≡ true

pub ready_is : (s : Situation) (done : List OpId) (op : OpId) → NumbersAreDistinct s.bundle.blocks → Contains (ready s done) op → IsReady s done op
ready_is s done op distinct there =
    let r = from_ready s done op (among (ready s done) op there) in
    record { operation = operation_if_among s op distinct r.0; test = r.1 }

not_false : (b : Bool) → not b ≡ true → b ≡ false
not_false true e = absurd cc
not_false false e = refl

pub ready_undone : (blocks : List Block) (done : List OpId) (op : OpId) → is_ready blocks done op ≡ true → is_among done op ≡ false
unfolding is_ready
ready_undone blocks done op e = not_false (is_among done op) (both (not (is_among done op)) (not (is_bib op.service) || (is_free blocks done op.block && is_free blocks done op.target)) e).0

pub operation_cipher : (s : Situation) (op : OpId) → op.service ≡ Bcb → is_operation s op ≡ true → Among op (ciphers s.bundle.blocks)
unfolding is_operation
operation_cipher s op service e = from_is_among (ciphers s.bundle.blocks) op (ap (is_operation_by s op) (sym service) ∙ e)

pub operation_bib : (s : Situation) (op : OpId) → op.service ≡ Bib → is_operation s op ≡ true → (is_open s op.block ≡ true) × (applies_to (block_at (plain s).blocks op.block) op.target ≡ true)
unfolding is_operation
operation_bib s op service e = both (is_open s op.block) (applies_to (block_at (plain s).blocks op.block) op.target) (ap (is_operation_by s op) (sym service) ∙ e)

-- ---- its security block

pub record HeldBlock (s : Situation) (done : List OpId) (number : ℕ) : Type 0 where
  pub block : Block
  pub asb : Asb
  pub at : block_at (shown s done).blocks number ≡ Some block
  pub read : read_body block.body ≡ Ok asb
  pub held : held_at s done number ≡ Some (held_of block)

read_if : (read : Result Asb Fault) (target : ℕ) → Among target (targets_of read) → (asb : Asb) × (read ≡ Ok asb)
read_if (Ok asb) target there = (asb, refl)
read_if (Err fault) target there = absurd there

applied : (at : Option Block) (target : ℕ) → applies_to at target ≡ true → (block : Block) × (at ≡ Some block) × (eqb block.kind 11 ≡ true) × (asb : Asb) × (read_body block.body ≡ Ok asb)
applied None target e = absurd cc
applied (Some block) target e =
    let b = both (eqb block.kind 11) (has (targets_of (read_body block.body)) target) e in
    let r = readable (read_body block.body) b.1 in
    (block, refl, b.0, r.0, r.1)
  where
    readable : (read : Result Asb Fault) → has (targets_of read) target ≡ true → (asb : Asb) × (read ≡ Ok asb)
    readable (Ok asb) has_it = (asb, refl)
    readable (Err fault) has_it = absurd cc

held_if : (s : Situation) (done : List OpId) (number : ℕ) (block : Block) → block_at (shown s done).blocks number ≡ Some block → holds_operations block ≡ true → is_read s done number ≡ true → held_at s done number ≡ Some (held_of block)
unfolding held_at
held_if s done number block at holds read =
    let n = (block_at_number (shown s done).blocks number block at).1 in
    ap (held_by_block s done) at
    ∙ ap (λ b. cond b (Some (held_of block)) None) (both_true (holds_operations block) (is_read s done block.number) holds (ap (is_read s done) n ∙ read))

or_left : (a b : Bool) → a ≡ true → (a || b) ≡ true
or_left true b e = refl
or_left false b e = absurd cc

or_right : (a b : Bool) → b ≡ true → (a || b) ≡ true
or_right true b e = refl
or_right false b e = e

held_bib : (s : Situation) (done : List OpId) (op : OpId) → op.service ≡ Bib → IsReady s done op → HeldBlock s done op.block
held_bib s done op service ready' =
    let free = (ready_bib s.bundle.blocks done op service ready'.test).0 in
    let o = operation_bib s op service ready'.operation in
    let a = applied (block_at (plain s).blocks op.block) op.target o.1 in
    let at : block_at (shown s done).blocks op.block ≡ Some a.0 = free_shown s done op.block free ∙ a.1 in
    record {
      block = a.0;
      asb = a.3;
      at = at;
      read = a.4;
      held = held_if s done op.block a.0 at (or_left (eqb a.0.kind 11) (eqb a.0.kind 12) a.2) (both_true (is_free s.bundle.blocks done op.block) (is_open s op.block) free o.0);
    }

held_bcb : (s : Situation) (done : List OpId) (op : OpId) → NumbersAreDistinct s.bundle.blocks → op.service ≡ Bcb → IsReady s done op → HeldBlock s done op.block
held_bcb s done op distinct service ready' =
    let there = operation_cipher s op service ready'.operation in
    let c = cipher_block s.bundle.blocks op distinct there in
    let none = cipher_uncovered s.bundle.blocks op distinct there in
    let at : block_at (shown s done).blocks op.block ≡ Some c.block = uncovered_shown_at s done op.block none ∙ c.at in
    let r = read_if (read_body c.block.body) op.target c.there in
    record {
      block = c.block;
      asb = r.0;
      at = at;
      read = r.1;
      held = held_if s done op.block c.block at (or_right (eqb c.block.kind 11) (eqb c.block.kind 12) (eq-eqb c.block.kind 12 c.kind)) (both_true (is_free s.bundle.blocks done op.block) (is_open s op.block) (uncovered_free s.bundle.blocks done op.block none) (uncovered_open s op.block none));
    }

pub ready_held : (s : Situation) (done : List OpId) (op : OpId) → NumbersAreDistinct s.bundle.blocks → IsReady s done op → HeldBlock s done op.block
ready_held s done op distinct ready' = by op.service refl
  where
    by : (service : Service) → op.service ≡ service → HeldBlock s done op.block
    by Bib is = held_bib s done op is ready'
    by Bcb is = held_bcb s done op distinct is ready'

-- ---- its site

pub ready_site : (s : Situation) (done : List OpId) (op : OpId) → NumbersAreDistinct s.bundle.blocks → CoveredOnce s.bundle.blocks → IsReady s done op → site (shown s done) op ≡ site_of s op
unfolding site_of
ready_site s done op distinct once ready' = by op.service refl
  where
    by : (service : Service) → op.service ≡ service → site (shown s done) op ≡ site_by s op op.service
    by Bib is = let f = ready_bib s.bundle.blocks done op is ready'.test in bib_site s done op f.0 f.1 ∙ ap (site_by s op) (sym is)
    by Bcb is =
        bcb_site s done op distinct once (operation_cipher s op is ready'.operation) (ready_undone s.bundle.blocks done op ready'.test) ∙ ap (site_by s op) (sym is)

pub ready_settled : (s : Situation) (key : OpId → Option (List ℕ)) (done : List OpId) (op : OpId) → Agree s key done → is_ready s.bundle.blocks done op ≡ true → Settled s key op op.service
ready_settled s key done op agree test = by op.service refl
  where
    by : (service : Service) → op.service ≡ service → Settled s key op service
    by Bib is = let f = ready_bib s.bundle.blocks done op is test in (free_agrees s key done op.block agree f.0, free_agrees s key done op.target agree f.1)
    by Bcb is = tt

pub ready_site_after : (s : Situation) (key : OpId → Option (List ℕ)) (done : List OpId) (op : OpId) → NumbersAreDistinct s.bundle.blocks → CoveredOnce s.bundle.blocks → Agree s key done → IsReady s done op
    → site (shown s done) op ≡ site_of (with_keys s key) op
ready_site_after s key done op distinct once agree ready' =
    ready_site s done op distinct once ready' ∙ site_of_same s key op (ready_settled s key done op agree ready'.test)
