-- Where nothing is ready, everything is done.
use Rattle.std.proofs.Common.{◌≡◌, ℕ, inl, inr, true, List, [], Option, Some, None, refl}
use Rattle.bp_blocks.specs.declared.block.Block.{Block}
use Rattle.bpsec_asb.specs.declared.operation.Service.TheVariants.{Bcb}
use Rattle.bpsec_asb.specs.declared.operation.OpId.{OpId}
use Rattle.bpsec_asb.specs.Known.{held_by, ciphers}
use Rattle.bpsec_asb.proofs.Held.{held_service}
use Rattle.bpsec_asb.proofs.Members.{Among, from-flat_map}
use Rattle.bpsec_node.specs.Situation.{Situation}
use Rattle.bpsec_node.specs.Plain.{cover}
use Rattle.bpsec_node.specs.AllOperations.{all_operations}
use Rattle.bpsec_node.specs.Order.{is_done_or_none, is_free, ready}
use Rattle.bpsec_node.proofs.Members.{is_among_from, among_or_not, all_known, known_cipher, cover_found, among_ready}
use Rattle.bpsec_node.proofs.Legal.{ready_if_free, none_ready, cipher_done}

pub cipher_service : (blocks : List Block) (op : OpId) → Among op (ciphers blocks) → op.service ≡ Bcb
cipher_service blocks op there = let b = from-flat_map (held_by Bcb) blocks op there in held_service Bcb b.0 op b.2

-- an operation that covers a block is among all operations
pub cover_among_all : (s : Situation) (number : ℕ) (op : OpId) → cover s.bundle.blocks number ≡ Some op → Among op (all_operations s)
cover_among_all s number op is = all_known s op (known_cipher s.bundle.blocks op (cover_found s.bundle.blocks number op is).0)

all_free_at : (s : Situation) (done : List OpId) (number : ℕ) (c : Option OpId) → cover s.bundle.blocks number ≡ c → ready s done ≡ [] → is_done_or_none done c ≡ true
all_free_at s done number None is e = refl
all_free_at s done number (Some op) is e =
    let cipher = (cover_found s.bundle.blocks number op is).0 in
    is_among_from done op (cipher_done s done op e (cipher_service s.bundle.blocks op cipher) (cover_among_all s number op is))

all_free : (s : Situation) (done : List OpId) (number : ℕ) → ready s done ≡ [] → is_free s.bundle.blocks done number ≡ true
unfolding is_free
all_free s done number e = all_free_at s done number (cover s.bundle.blocks number) refl e

pub all_done : (s : Situation) (done : List OpId) (op : OpId) → ready s done ≡ [] → Among op (all_operations s) → Among op done
all_done s done op e there =
    elim (among_or_not done op) [
      | inl is ↦ is
      | inr fresh ↦ absurd (none_ready s done op e (among_ready s done op there (ready_if_free s.bundle.blocks done op fresh (all_free s done op.block e) (all_free s done op.target e))))
    ]
