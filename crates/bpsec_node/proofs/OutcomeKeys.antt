-- The outcome depends on the keys of all operations alone.
use Rattle.std.proofs.Common.{◌≡◌, ℕ, Bool, ◌||◌, not, cond, List, [], ◌∷◌, ◌++◌, map, Option, Some, None, refl, ◌∙◌, ap}
use Rattle.std.specs.Prelude.{filter, is_some}
use Rattle.std.specs.List.{flat_map}
use Rattle.bp_blocks.specs.declared.block.Block.{Block}
use Rattle.bp_bundle.specs.Shape.{Contents}
use Rattle.bpsec_asb.specs.declared.operation.Service.{Service}
use Rattle.bpsec_asb.specs.declared.operation.Service.TheVariants.{Bib, Bcb}
use Rattle.bpsec_asb.specs.declared.operation.OpId.{OpId}
use Rattle.bpsec_asb.specs.Known.{in_order, known, held_by}
use Rattle.bpsec_asb.proofs.Members.{Among, contains}
use Rattle.bpsec_node.specs.Situation.{Situation}
use Rattle.bpsec_node.specs.Agree.{with_keys, Agree}
use Rattle.bpsec_node.specs.Plain.{cover, is_opened, plain_block, plain}
use Rattle.bpsec_node.specs.AllOperations.{revealed, all_operations, is_open}
use Rattle.bpsec_node.specs.Verdict.{in_conflict, verdict_with, verdict}
use Rattle.bpsec_node.proofs.Agree.{AgreeAt, Settled, opened_same, plain_block_same, verdict_with_same}
use Rattle.bpsec_node.proofs.Ended.{cover_among_all}

agree_cover : (s : Situation) (key : OpId → Option (List ℕ)) (number : ℕ) (c : Option OpId) → cover s.bundle.blocks number ≡ c → Agree s key (all_operations s) → AgreeAt s key c
agree_cover s key number None is agree = tt
agree_cover s key number (Some op) is agree = agree op (contains (all_operations s) op (cover_among_all s number op is))

pub all_agree_at : (s : Situation) (key : OpId → Option (List ℕ)) (number : ℕ) → Agree s key (all_operations s) → AgreeAt s key (cover s.bundle.blocks number)
all_agree_at s key number agree = agree_cover s key number (cover s.bundle.blocks number) refl agree

settled_by_all : (s : Situation) (key : OpId → Option (List ℕ)) (op : OpId) (service : Service) → Agree s key (all_operations s) → Settled s key op service
settled_by_all s key op Bib agree = (all_agree_at s key op.block agree, all_agree_at s key op.target agree)
settled_by_all s key op Bcb agree = tt

pub all_settled : (s : Situation) (key : OpId → Option (List ℕ)) (op : OpId) → Agree s key (all_operations s) → Settled s key op op.service
all_settled s key op agree = settled_by_all s key op op.service agree

-- ---- the plain bundle, what is revealed, and all operations

-- two functions that agree map a list to one
pub map_agree : {A B : Type 0} (f g : A → B) → ((x : A) → f x ≡ g x) → (xs : List A) → map f xs ≡ map g xs
map_agree f g same [] = refl
map_agree f g same (x ∷ xs) = ap (λ y. y ∷ map f xs) (same x) ∙ ap (λ ys. g x ∷ ys) (map_agree f g same xs)

pub filter_agrees : {A : Type 0} (p q : A → Bool) → ((x : A) → p x ≡ q x) → (xs : List A) → filter p xs ≡ filter q xs
filter_agrees p q same [] = refl
filter_agrees p q same (x ∷ xs) = ap (λ b. cond b (x ∷ filter p xs) (filter p xs)) (same x) ∙ ap (λ ys. cond (q x) (x ∷ ys) ys) (filter_agrees p q same xs)

pub plain_same : (s : Situation) (key : OpId → Option (List ℕ)) → Agree s key (all_operations s) → plain s ≡ plain (with_keys s key)
unfolding plain
plain_same s key agree =
    ap (λ (blocks : List Block). record { primary = s.bundle.primary; blocks = blocks })
    (map_agree (plain_block s) (plain_block (with_keys s key)) (λ block. plain_block_same s key block (all_agree_at s key block.number agree)) s.bundle.blocks)

pub all_opened_same : (s : Situation) (key : OpId → Option (List ℕ)) (number : ℕ) → Agree s key (all_operations s) → is_opened s number ≡ is_opened (with_keys s key) number
all_opened_same s key number agree = opened_same s key number (all_agree_at s key number agree)

pub open_same : (s : Situation) (key : OpId → Option (List ℕ)) (number : ℕ) → Agree s key (all_operations s) → is_open s number ≡ is_open (with_keys s key) number
unfolding is_open
open_same s key number agree = ap (λ b. not (is_some (cover s.bundle.blocks number)) || b) (all_opened_same s key number agree)

pub revealed_all_same : (s : Situation) (key : OpId → Option (List ℕ)) → Agree s key (all_operations s) → revealed s ≡ revealed (with_keys s key)
unfolding revealed
revealed_all_same s key agree =
    ap (λ (b : Contents). filter (λ (block : Block). is_opened s block.number) b.blocks) (plain_same s key agree)
    ∙ filter_agrees (λ (block : Block). is_opened s block.number) (λ (block : Block). is_opened (with_keys s key) block.number) (λ block. all_opened_same s key block.number agree) (plain (with_keys s key)).blocks

pub all_same : (s : Situation) (key : OpId → Option (List ℕ)) → Agree s key (all_operations s) → all_operations s ≡ all_operations (with_keys s key)
unfolding all_operations
all_same s key agree = ap (λ blocks. in_order (known s.bundle.blocks ++ flat_map (held_by Bib) blocks)) (revealed_all_same s key agree)

-- ---- verdicts

pub all_verdict_same : (s : Situation) (key : OpId → Option (List ℕ)) (op : OpId) → Agree s key (all_operations s) → Among op (all_operations s) → verdict s op ≡ verdict (with_keys s key) op
unfolding verdict
all_verdict_same s key op agree there =
    verdict_with_same s key (in_conflict (all_operations s) op) op (agree op (contains (all_operations s) op there)) (all_settled s key op agree)
    ∙ ap (λ ops. verdict_with (with_keys s key) (in_conflict ops op) op) (all_same s key agree)
