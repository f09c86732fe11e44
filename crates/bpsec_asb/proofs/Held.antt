-- The operations that are listed for a block are those that it holds.
use Rattle.std.proofs.Common.{◌≡◌, ◌≢◌, ℕ, Bool, true, false, cond, eqb, List, [], map, Result, Ok, Err, refl, sym, ap, subst}
use Rattle.std.specs.Prelude.{All, Contains}
use Rattle.std.proofs.lemmas.Bool.{eqb-true, eq-eqb, ne_eqb}
use Rattle.std.proofs.lemmas.List.Elements.{All-weaker, All-contains_itself, All-nil}
use Rattle.cbor_profile.specs.declared.fault.Fault.{Fault}
use Rattle.bp_blocks.specs.declared.block.Block.{Block}
use Rattle.bp_eid.proofs.Steps.{IsBytes}
use Rattle.bpsec_asb.specs.declared.asb.Asb.{Asb}
use Rattle.bpsec_asb.specs.declared.operation.Service.{Service}
use Rattle.bpsec_asb.specs.declared.operation.OpId.{OpId}
use Rattle.bpsec_asb.specs.SecurityBlock.{Reads}
use Rattle.bpsec_asb.specs.Reading.{read_body}
use Rattle.bpsec_asb.specs.Operations.{block_type, IsHeldBy}
use Rattle.bpsec_asb.specs.Known.{targets_of, operation, held_by, ListsHeld}
use Rattle.bpsec_asb.proofs.Blocks.{read_means, read_again}
use Rattle.bpsec_asb.proofs.Members.{Among, among, contains, among-map, from-map}

-- what holds of each member holds of all
pub all_members : {A : Type 0} (P : A → Type 0) (xs : List A) → ((x : A) → Among x xs → P x) → All P xs
all_members P xs each = All-weaker (Contains xs) P (λ x there. each x (among xs x there)) xs (All-contains_itself xs)

targets_mean : (body : List ℕ) (r : Result Asb Fault) (target : ℕ) → IsBytes body → read_body body ≡ r → Among target (targets_of r) → (asb : Asb) × Reads body asb × Among target asb.targets
targets_mean body (Ok asb) target small is h = (asb, read_means body asb small is, h)
targets_mean body (Err fault) target small is h = elim h [ ]

-- the operations of a service, where the block has the type of that service
listed : Service → Block → Bool → List OpId
listed service block b = cond b (map (operation service block.number) (targets_of (read_body block.body))) []

held_here : (service : Service) (block : Block) (target : ℕ) → block.kind ≡ block_type service → (asb : Asb) × Reads block.body asb × Among target asb.targets → IsHeldBy (operation service block.number target) block
held_here service block target kind (asb, readable, there) = record { service = kind; number = refl; asb = asb; readable = readable; target = contains asb.targets target there }

listed_means : (service : Service) (block : Block) (op : OpId) (b : Bool) → eqb block.kind (block_type service) ≡ b → IsBytes block.body → Among op (listed service block b) → IsHeldBy op block
unfolding listed
listed_means service block op true is small h =
    let t = from-map (operation service block.number) (targets_of (read_body block.body)) op h in
    let m = targets_mean block.body (read_body block.body) t.0 small refl t.1 in
    subst (λ (o : OpId). IsHeldBy o block) t.2 (held_here service block t.0 (eqb-true _ _ is) m)
listed_means service block op false is small h = elim h [ ]

pub held_means : (service : Service) (block : Block) (op : OpId) → IsBytes block.body → Among op (held_by service block) → IsHeldBy op block
unfolding listed
held_means service block op small h = listed_means service block op (eqb block.kind (block_type service)) refl small h

pub lists_held : (service : Service) (block : Block) → IsBytes block.body → ListsHeld service block
lists_held service block small = all_members (λ op. IsHeldBy op block) (held_by service block) (λ op there. held_means service block op small there)

listed_service : (service : Service) (block : Block) (op : OpId) (b : Bool) → Among op (listed service block b) → op.service ≡ service
unfolding listed
listed_service service block op true h = let t = from-map (operation service block.number) (targets_of (read_body block.body)) op h in ap (λ (o : OpId). o.service) (sym t.2)
listed_service service block op false h = elim h [ ]

pub held_service : (service : Service) (block : Block) (op : OpId) → Among op (held_by service block) → op.service ≡ service
unfolding listed
held_service service block op h = listed_service service block op (eqb block.kind (block_type service)) h

pub held_found : (block : Block) (op : OpId) → IsHeldBy op block → Among op (held_by op.service block)
held_found block op held =
    let same : operation op.service block.number op.target ≡ op = ap (λ (n : ℕ). operation op.service n op.target) held.number in
    rw (eq-eqb _ _ held.service, read_again block.body held.asb held.readable) (among-map (operation op.service block.number) held.asb.targets op.target op (among held.asb.targets op.target held.target) same)

pub lists_none : (service : Service) (block : Block) → block.kind ≢ block_type service → ListsHeld service block
lists_none service block other = rw (ne_eqb _ _ other) (All-nil (λ op. IsHeldBy op block))
