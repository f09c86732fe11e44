-- Operations over the blocks as they are shown.
use Rattle.std.proofs.Common.{◌≡◌, ℕ, inl, inr, Bool, true, false, ◌||◌, not, cond, eqb, List, [], ◌∷◌, map, Option, Some, None, refl, sym, ◌∙◌, ap, subst}
use Rattle.std.specs.Prelude.{is_some, option_map}
use Rattle.std.proofs.lemmas.Bool.{eqb-true, eq-eqb}
use Rattle.bp_primary.specs.declared.primary.Primary.{Primary}
use Rattle.bp_blocks.specs.declared.block.Block.{Block}
use Rattle.bp_bundle.specs.Shape.{Contents}
use Rattle.bpsec_asb.specs.declared.operation.Service.{Service}
use Rattle.bpsec_asb.specs.declared.operation.Service.TheVariants.{Bcb}
use Rattle.bpsec_asb.specs.declared.operation.OpId.{OpId}
use Rattle.bpsec_asb.specs.Operations.{NumbersAreDistinct}
use Rattle.bpsec_asb.specs.Known.{targets_of, held_by, ciphers}
use Rattle.bpsec_asb.specs.Reading.{read_body}
use Rattle.bpsec_asb.proofs.Members.{Among, contains, from-flat_map, from-filter, among-filter}
use Rattle.bpsec_node.specs.Situation.{Situation, is_among}
use Rattle.bpsec_node.specs.Site.{block_at, site}
use Rattle.bpsec_node.specs.Plain.{may_be_covered, covers, cover, is_opened, plain_by, plain_body, plain_block, plain}
use Rattle.bpsec_node.specs.AllOperations.{is_open}
use Rattle.bpsec_node.specs.Order.{is_done_or_none, is_free, shown_block, shown}
use Rattle.bpsec_node.specs.Begin.{CoveredOnce}
use Rattle.bpsec_node.proofs.Members.{found, cover_found, held_parts}
use Rattle.bpsec_node.proofs.Agree.{plain_at, plain_number, block_at_number}
use Rattle.bpsec_node.proofs.Ended.{cipher_service}
use Rattle.bpsec_node.proofs.Operations.{at_itself}

-- ---- blocks that are shown

shown_number : (s : Situation) (done : List OpId) (block : Block) → (shown_block s done block).number ≡ block.number
shown_number s done block = by (is_free s.bundle.blocks done block.number)
  where
    by : (b : Bool) → (cond b (plain_block s block) block).number ≡ block.number
    by true = plain_number s block
    by false = refl

map_first : (f : Block → Block) (block : Block) (blocks : List Block) (number : ℕ) (b : Bool) → block_at (map f blocks) number ≡ option_map f (block_at blocks number)
    → cond b (Some (f block)) (block_at (map f blocks) number) ≡ option_map f (cond b (Some block) (block_at blocks number))
map_first f block blocks number true more = refl
map_first f block blocks number false more = more

pub block_at_map : (f : Block → Block) (keeps : (block : Block) → (f block).number ≡ block.number) (blocks : List Block) (number : ℕ) → block_at (map f blocks) number ≡ option_map f (block_at blocks number)
block_at_map f keeps [] number = refl
block_at_map f keeps (block ∷ blocks) number =
    ap (λ n. cond (eqb n number) (Some (f block)) (block_at (map f blocks) number)) (keeps block)
    ∙ map_first f block blocks number (eqb block.number number) (block_at_map f keeps blocks number)

pub shown_at : (s : Situation) (done : List OpId) (number : ℕ) → block_at (shown s done).blocks number ≡ option_map (shown_block s done) (block_at s.bundle.blocks number)
unfolding shown
shown_at s done number = block_at_map (shown_block s done) (shown_number s done) s.bundle.blocks number

pub shown_if : (s : Situation) (done : List OpId) (number : ℕ) (free : Bool) (at : Option Block) → block_at s.bundle.blocks number ≡ at → is_free s.bundle.blocks done number ≡ free
    → option_map (shown_block s done) at ≡ option_map (λ block. cond free (plain_block s block) block) at
shown_if s done number free None is e = refl
shown_if s done number free (Some block) is e =
    let n = (block_at_number s.bundle.blocks number block is).1 in
    ap Some (ap (λ b. cond b (plain_block s block) block) (ap (is_free s.bundle.blocks done) n ∙ e))

pub free_shown : (s : Situation) (done : List OpId) (number : ℕ) → is_free s.bundle.blocks done number ≡ true → block_at (shown s done).blocks number ≡ block_at (plain s).blocks number
free_shown s done number e = shown_at s done number ∙ (shown_if s done number true (block_at s.bundle.blocks number) refl e ∙ sym (plain_at s number))

map_itself : (at : Option Block) → option_map (λ block. block) at ≡ at
map_itself None = refl
map_itself (Some block) = refl

pub sealed_shown : (s : Situation) (done : List OpId) (number : ℕ) → is_free s.bundle.blocks done number ≡ false → block_at (shown s done).blocks number ≡ block_at s.bundle.blocks number
sealed_shown s done number e = shown_at s done number ∙ (shown_if s done number false (block_at s.bundle.blocks number) refl e ∙ map_itself (block_at s.bundle.blocks number))

-- ---- what covers a block

pub cover_among : (blocks : List Block) (number : ℕ) (op : OpId) → cover blocks number ≡ Some op → Among op (covers blocks) × (op.target ≡ number)
unfolding cover
cover_among blocks number op e = let f = found (λ (o : OpId). eqb o.target number) (covers blocks) op e in (f.0, eqb-true _ _ f.1)

pub cover_may : (blocks : List Block) (number : ℕ) (op : OpId) → cover blocks number ≡ Some op → may_be_covered (block_at blocks number) ≡ true
unfolding covers
cover_may blocks number op e =
    let c = cover_among blocks number op e in
    let k = from-filter (λ (o : OpId). may_be_covered (block_at blocks o.target)) (ciphers blocks) op c.0 in
    subst (λ n. may_be_covered (block_at blocks n) ≡ true) c.1 k.1

pub none_if_not : (blocks : List Block) (number : ℕ) (c : Option OpId) → cover blocks number ≡ c → may_be_covered (block_at blocks number) ≡ false → c ≡ None
none_if_not blocks number None is e = refl
none_if_not blocks number (Some op) is e = let t : true ≡ false = sym (cover_may blocks number op is) ∙ e in absurd cc

pub covers_among : (blocks : List Block) (op : OpId) → Among op (ciphers blocks) → may_be_covered (block_at blocks op.target) ≡ true → Among op (covers blocks)
unfolding covers
covers_among blocks op there may = among-filter (λ (o : OpId). may_be_covered (block_at blocks o.target)) (ciphers blocks) op there may

-- two operations of one service, block and target are one
pub same_operation : (a b : OpId) → a.service ≡ b.service → a.block ≡ b.block → a.target ≡ b.target → a ≡ b
same_operation a b service block target =
    ap (λ (s : Service). record { service = s; block = a.block; target = a.target }) service
    ∙ ap (λ (n : ℕ). record { service = b.service; block = n; target = a.target }) block
    ∙ ap (λ (n : ℕ). record { service = b.service; block = b.block; target = n }) target

-- Where no block is covered twice, what covers an operation's target is the operation itself.
pub cover_itself : (blocks : List Block) (op c : OpId) → CoveredOnce blocks → Among op (ciphers blocks) → cover blocks op.target ≡ Some c → c ≡ op
cover_itself blocks op c once there is =
    let a = cover_among blocks op.target c is in
    let mine = covers_among blocks op there (cover_may blocks op.target c is) in
    let block : c.block ≡ op.block = once op.target c.block op.block (c, contains (covers blocks) c a.0, a.1, refl) (op, contains (covers blocks) op mine, refl, refl) in
    same_operation c op (cipher_service blocks c (cover_found blocks op.target c is).0 ∙ sym (cipher_service blocks op there)) block a.1

-- ---- blocks that nothing covers

plain_uncovered_block : (s : Situation) (block : Block) → cover s.bundle.blocks block.number ≡ None → plain_block s block ≡ block
unfolding plain_block plain_body
plain_uncovered_block s block none = ap (λ c. record block { body = plain_by s block c }) none

plain_none : (s : Situation) (number : ℕ) (at : Option Block) → block_at s.bundle.blocks number ≡ at → cover s.bundle.blocks number ≡ None → option_map (plain_block s) at ≡ at
plain_none s number None is none = refl
plain_none s number (Some block) is none = ap Some (plain_uncovered_block s block (ap (cover s.bundle.blocks) (block_at_number s.bundle.blocks number block is).1 ∙ none))

pub uncovered_plain_at : (s : Situation) (number : ℕ) → cover s.bundle.blocks number ≡ None → block_at (plain s).blocks number ≡ block_at s.bundle.blocks number
uncovered_plain_at s number none = plain_at s number ∙ plain_none s number (block_at s.bundle.blocks number) refl none

pub uncovered_free : (blocks : List Block) (done : List OpId) (number : ℕ) → cover blocks number ≡ None → is_free blocks done number ≡ true
unfolding is_free
uncovered_free blocks done number none = ap (is_done_or_none done) none

pub uncovered_open : (s : Situation) (number : ℕ) → cover s.bundle.blocks number ≡ None → is_open s number ≡ true
unfolding is_open
uncovered_open s number none = ap (λ (c : Option OpId). not (is_some c) || is_opened s number) none

pub uncovered_shown_at : (s : Situation) (done : List OpId) (number : ℕ) → cover s.bundle.blocks number ≡ None → block_at (shown s done).blocks number ≡ block_at s.bundle.blocks number
uncovered_shown_at s done number none = free_shown s done number (uncovered_free s.bundle.blocks done number none) ∙ uncovered_plain_at s number none

-- ---- the block of a confidentiality operation

pub record CipherBlock (blocks : List Block) (op : OpId) : Type 0 where
  pub block : Block
  pub at : block_at blocks op.block ≡ Some block
  pub kind : block.kind ≡ 12
  pub there : Among op.target (targets_of (read_body block.body))

held_by_kind : (service : Service) (block : Block) (op : OpId) (b : Bool) → eqb block.kind 12 ≡ b → Among op (cond b (map (λ target. record { service = Bcb; block = block.number; target = target }) (targets_of (read_body block.body))) []) → (block.kind ≡ 12) × Among op.target (targets_of (read_body block.body))
held_by_kind service block op true is h = (eqb-true _ _ is, named (targets_of (read_body block.body)) h)
  where
    named : (targets : List ℕ) → Among op (map (λ target. record { service = Bcb; block = block.number; target = target }) targets) → Among op.target targets
    named [] there = absurd there
    named (target ∷ targets) (inl e) = inl (ap (λ (o : OpId). o.target) e)
    named (target ∷ targets) (inr there) = inr (named targets there)
held_by_kind service block op false is h = absurd h

pub cipher_block : (blocks : List Block) (op : OpId) → NumbersAreDistinct blocks → Among op (ciphers blocks) → CipherBlock blocks op
cipher_block blocks op distinct there =
    let b = from-flat_map (held_by Bcb) blocks op there in
    let parts = held_parts Bcb b.0 op b.2 in
    let k = held_by_kind Bcb b.0 op (eqb b.0.kind 12) refl b.2 in
    record {
      block = b.0;
      at = ap (block_at blocks) parts.1 ∙ at_itself blocks b.0 distinct b.1;
      kind = k.0;
      there = k.1;
    }

not_covered_kind : (block : Block) → block.kind ≡ 12 → may_be_covered (Some block) ≡ false
not_covered_kind block kind = ap not (eq-eqb block.kind 12 kind)

pub cipher_uncovered : (blocks : List Block) (op : OpId) → NumbersAreDistinct blocks → Among op (ciphers blocks) → cover blocks op.block ≡ None
cipher_uncovered blocks op distinct there =
    let c = cipher_block blocks op distinct there in
    none_if_not blocks op.block (cover blocks op.block) refl (ap may_be_covered c.at ∙ not_covered_kind c.block c.kind)

-- ---- the site of a ready operation

sites : (a b : Contents) (op : OpId) → a.primary ≡ b.primary → block_at a.blocks op.block ≡ block_at b.blocks op.block → block_at a.blocks op.target ≡ block_at b.blocks op.target → site a op ≡ site b op
unfolding site
sites a b op primary security target =
    ap (λ (p : Primary). record { primary = p; security = block_at a.blocks op.block; target = block_at a.blocks op.target }) primary
    ∙ ap (λ at. record { primary = b.primary; security = at; target = block_at a.blocks op.target }) security
    ∙ ap (λ at. record { primary = b.primary; security = block_at b.blocks op.block; target = at }) target

shown_primary : (s : Situation) (done : List OpId) → (shown s done).primary ≡ s.bundle.primary
unfolding shown
shown_primary s done = refl

plain_primary : (s : Situation) → (plain s).primary ≡ s.bundle.primary
unfolding plain
plain_primary s = refl

pub bib_site : (s : Situation) (done : List OpId) (op : OpId) → is_free s.bundle.blocks done op.block ≡ true → is_free s.bundle.blocks done op.target ≡ true → site (shown s done) op ≡ site (plain s) op
bib_site s done op block target = sites (shown s done) (plain s) op (shown_primary s done ∙ sym (plain_primary s)) (free_shown s done op.block block) (free_shown s done op.target target)

pub free_by_cover : (blocks : List Block) (done : List OpId) (number : ℕ) (c : OpId) → cover blocks number ≡ Some c → is_free blocks done number ≡ is_among done c
unfolding is_free
free_by_cover blocks done number c is = ap (is_done_or_none done) is

-- the target of a confidentiality operation that isn't done is as it was received
cipher_target_by : (s : Situation) (done : List OpId) (op : OpId) (c : Option OpId) → cover s.bundle.blocks op.target ≡ c → CoveredOnce s.bundle.blocks → Among op (ciphers s.bundle.blocks) → is_among done op ≡ false
    → block_at (shown s done).blocks op.target ≡ block_at s.bundle.blocks op.target
cipher_target_by s done op None is once there undone = uncovered_shown_at s done op.target is
cipher_target_by s done op (Some c) is once there undone =
    sealed_shown s done op.target (free_by_cover s.bundle.blocks done op.target c is ∙ (ap (is_among done) (cover_itself s.bundle.blocks op c once there is) ∙ undone))

pub bcb_site : (s : Situation) (done : List OpId) (op : OpId) → NumbersAreDistinct s.bundle.blocks → CoveredOnce s.bundle.blocks → Among op (ciphers s.bundle.blocks) → is_among done op ≡ false → site (shown s done) op ≡ site s.bundle op
bcb_site s done op distinct once there undone =
    sites (shown s done) s.bundle op (shown_primary s done) (uncovered_shown_at s done op.block (cipher_uncovered s.bundle.blocks op distinct there))
    (cipher_target_by s done op (cover s.bundle.blocks op.target) refl once there undone)

pub cover_found_service : (blocks : List Block) (number : ℕ) (c : OpId) → cover blocks number ≡ Some c → c.service ≡ Bcb
cover_found_service blocks number c is = cipher_service blocks c (cover_found blocks number c is).0
