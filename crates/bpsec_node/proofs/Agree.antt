-- What doesn't change where keys agree.
use Rattle.std.proofs.Common.{◌≡◌, ℕ, inl, inr, Bool, true, false, ◌&&◌, ◌||◌, not, cond, eqb, List, [], ◌∷◌, map, Option, Some, None, refl, sym, ◌∙◌, ap, subst}
use Rattle.std.specs.Prelude.{is_some, option_map}
use Rattle.std.proofs.lemmas.Bool.{eqb-true}
use Rattle.bp_blocks.specs.declared.block.Block.{Block}
use Rattle.bpsec_asb.specs.declared.operation.Service.{Service}
use Rattle.bpsec_asb.specs.declared.operation.Service.TheVariants.{Bib, Bcb}
use Rattle.bpsec_asb.specs.declared.operation.OpId.{OpId}
use Rattle.bpsec_asb.specs.Order.{op_cmp}
use Rattle.bpsec_asb.proofs.Members.{Among, contains, among-map, from-map, among-filter, from-filter}
use Rattle.bpsec_asb.proofs.Ordered.{op_cmp_total, same_sorted}
use Rattle.bpsec_node.specs.Situation.{Situation, is_among}
use Rattle.bpsec_node.specs.Agree.{with_keys, Agree}
use Rattle.bpsec_node.specs.Site.{Site, block_at, site, kind_at, rule_over, role_over, judge_over, open_over}
use Rattle.bpsec_node.specs.Plain.{cover, is_acceptor, is_right, opens, is_opened_by, is_opened, plain_by, plain_body, plain_block, plain}
use Rattle.bpsec_node.specs.AllOperations.{revealed}
use Rattle.bpsec_node.specs.Verdict.{is_bib, site_by, site_of, rule, role, judgement, is_blocked, table, verdict_with, step_verdict}
use Rattle.bpsec_node.specs.Order.{is_done_or_none, is_free, is_ready, ready, shown_block}
use Rattle.bpsec_node.proofs.Members.{both, found, from_is_among, held_parts, from_all, all_known, all_revealed, ready_sorted, from_ready, among_ready}

-- ---- bodies

-- the keys agree on the operation, where there is one
abbrev pub AgreeAt : Situation → (OpId → Option (List ℕ)) → Option OpId → Type 0
AgreeAt s key None = Unit {0}
AgreeAt s key (Some op) = s.key op ≡ key op

pub opens_same : (s : Situation) (key : OpId → Option (List ℕ)) (op : OpId) → s.key op ≡ key op → opens s op ≡ opens (with_keys s key) op
unfolding opens
opens_same s key op e = ap (λ k. is_acceptor (role_over s.policy (site s.bundle op) op) && is_right (judge_over s.suite s.policy (site s.bundle op) op k)) e

opened_by_same : (s : Situation) (key : OpId → Option (List ℕ)) (c : Option OpId) → AgreeAt s key c → is_opened_by s c ≡ is_opened_by (with_keys s key) c
opened_by_same s key None e = refl
opened_by_same s key (Some op) e = opens_same s key op e

pub opened_same : (s : Situation) (key : OpId → Option (List ℕ)) (number : ℕ) → AgreeAt s key (cover s.bundle.blocks number) → is_opened s number ≡ is_opened (with_keys s key) number
unfolding is_opened
opened_same s key number e = opened_by_same s key (cover s.bundle.blocks number) e

plain_by_same : (s : Situation) (key : OpId → Option (List ℕ)) (block : Block) (c : Option OpId) → AgreeAt s key c → plain_by s block c ≡ plain_by (with_keys s key) block c
plain_by_same s key block None e = refl
plain_by_same s key block (Some op) e =
    ap (λ b. cond b (open_over s.suite (site s.bundle op) op (s.key op)) block.body) (opens_same s key op e)
    ∙ ap (λ k. cond (opens (with_keys s key) op) (open_over s.suite (site s.bundle op) op k) block.body) e

pub plain_body_same : (s : Situation) (key : OpId → Option (List ℕ)) (block : Block) → AgreeAt s key (cover s.bundle.blocks block.number) → plain_body s block ≡ plain_body (with_keys s key) block
unfolding plain_body
plain_body_same s key block e = plain_by_same s key block (cover s.bundle.blocks block.number) e

pub plain_block_same : (s : Situation) (key : OpId → Option (List ℕ)) (block : Block) → AgreeAt s key (cover s.bundle.blocks block.number) → plain_block s block ≡ plain_block (with_keys s key) block
unfolding plain_block
plain_block_same s key block e = ap (λ (body : List ℕ). record block { body = body }) (plain_body_same s key block e)

pub plain_number : (s : Situation) (block : Block) → (plain_block s block).number ≡ block.number
unfolding plain_block
plain_number s block = refl

pub plain_kind : (s : Situation) (block : Block) → (plain_block s block).kind ≡ block.kind
unfolding plain_block
plain_kind s block = refl

-- ---- sites

at_first : (s : Situation) (block : Block) (blocks : List Block) (number : ℕ) (b : Bool)
    → block_at (map (plain_block s) blocks) number ≡ option_map (plain_block s) (block_at blocks number)
    → cond b (Some (plain_block s block)) (block_at (map (plain_block s) blocks) number) ≡ option_map (plain_block s) (cond b (Some block) (block_at blocks number))
at_first s block blocks number true more = refl
at_first s block blocks number false more = more

-- the plain block with a number is the plain form of the received block with it
pub block_at_plain : (s : Situation) (blocks : List Block) (number : ℕ) → block_at (map (plain_block s) blocks) number ≡ option_map (plain_block s) (block_at blocks number)
block_at_plain s [] number = refl
block_at_plain s (block ∷ blocks) number =
    ap (λ n. cond (eqb n number) (Some (plain_block s block)) (block_at (map (plain_block s) blocks) number)) (plain_number s block)
    ∙ at_first s block blocks number (eqb block.number number) (block_at_plain s blocks number)

pub block_at_number : (blocks : List Block) (number : ℕ) (block : Block) → block_at blocks number ≡ Some block → Among block blocks × (block.number ≡ number)
block_at_number blocks number block is = let f = found (λ (b : Block). eqb b.number number) blocks block is in (f.0, eqb-true _ _ f.1)

at_same : (s : Situation) (key : OpId → Option (List ℕ)) (number : ℕ) (at : Option Block) → block_at s.bundle.blocks number ≡ at → AgreeAt s key (cover s.bundle.blocks number) → option_map (plain_block s) at ≡ option_map (plain_block (with_keys s key)) at
at_same s key number None is e = refl
at_same s key number (Some block) is e =
    let n = (block_at_number s.bundle.blocks number block is).1 in
    ap Some (plain_block_same s key block (subst (λ m. AgreeAt s key (cover s.bundle.blocks m)) (sym n) e))

pub plain_at : (s : Situation) (number : ℕ) → block_at (plain s).blocks number ≡ option_map (plain_block s) (block_at s.bundle.blocks number)
unfolding plain
plain_at s number = block_at_plain s s.bundle.blocks number

pub plain_at_same : (s : Situation) (key : OpId → Option (List ℕ)) (number : ℕ) → AgreeAt s key (cover s.bundle.blocks number) → block_at (plain s).blocks number ≡ block_at (plain (with_keys s key)).blocks number
plain_at_same s key number e =
    plain_at s number ∙ (at_same s key number (block_at s.bundle.blocks number) refl e ∙ sym (plain_at (with_keys s key) number))

-- the operations that cover the block and the target of an integrity operation have the same keys
abbrev pub Settled : Situation → (OpId → Option (List ℕ)) → OpId → Service → Type 0
Settled s key op Bib = AgreeAt s key (cover s.bundle.blocks op.block) × AgreeAt s key (cover s.bundle.blocks op.target)
Settled s key op Bcb = Unit {0}

site_same : (s : Situation) (key : OpId → Option (List ℕ)) (op : OpId) → AgreeAt s key (cover s.bundle.blocks op.block) → AgreeAt s key (cover s.bundle.blocks op.target) → site (plain s) op ≡ site (plain (with_keys s key)) op
unfolding site plain
site_same s key op block target =
    let first = plain_at_same s key op.block block in
    let second = plain_at_same s key op.target target in
    ap (λ at. record { primary = s.bundle.primary; security = at; target = block_at (plain s).blocks op.target }) first
    ∙ ap (λ at. record { primary = s.bundle.primary; security = block_at (plain (with_keys s key)).blocks op.block; target = at }) second

site_by_same : (s : Situation) (key : OpId → Option (List ℕ)) (op : OpId) (service : Service) → Settled s key op service → site_by s op service ≡ site_by (with_keys s key) op service
site_by_same s key op Bib settled = site_same s key op settled.0 settled.1
site_by_same s key op Bcb settled = refl

pub site_of_same : (s : Situation) (key : OpId → Option (List ℕ)) (op : OpId) → Settled s key op op.service → site_of s op ≡ site_of (with_keys s key) op
unfolding site_of
site_of_same s key op settled = site_by_same s key op op.service settled

-- ---- verdicts

pub rule_same : (s : Situation) (key : OpId → Option (List ℕ)) (op : OpId) → Settled s key op op.service → rule s op ≡ rule (with_keys s key) op
unfolding rule
rule_same s key op settled = ap (λ at. rule_over s.policy at op) (site_of_same s key op settled)

pub role_same : (s : Situation) (key : OpId → Option (List ℕ)) (op : OpId) → Settled s key op op.service → role s op ≡ role (with_keys s key) op
unfolding role
role_same s key op settled = ap (λ at. role_over s.policy at op) (site_of_same s key op settled)

pub judgement_same : (s : Situation) (key : OpId → Option (List ℕ)) (op : OpId) → s.key op ≡ key op → Settled s key op op.service → judgement s op ≡ judgement (with_keys s key) op
unfolding judgement
judgement_same s key op own settled =
    ap (λ at. judge_over s.suite s.policy at op (s.key op)) (site_of_same s key op settled)
    ∙ ap (λ k. judge_over s.suite s.policy (site_of (with_keys s key) op) op k) own

blocked_same : (s : Situation) (key : OpId → Option (List ℕ)) (op : OpId) (service : Service) → Settled s key op service
    → (is_bib service && (is_some (cover s.bundle.blocks op.target) && not (is_opened s op.target))) ≡ (is_bib service && (is_some (cover s.bundle.blocks op.target) && not (is_opened (with_keys s key) op.target)))
blocked_same s key op Bib settled = ap (λ b. is_some (cover s.bundle.blocks op.target) && not b) (opened_same s key op.target settled.1)
blocked_same s key op Bcb settled = refl

pub is_blocked_same : (s : Situation) (key : OpId → Option (List ℕ)) (op : OpId) → Settled s key op op.service → is_blocked s op ≡ is_blocked (with_keys s key) op
unfolding is_blocked
is_blocked_same s key op settled = blocked_same s key op op.service settled

pub verdict_with_same : (s : Situation) (key : OpId → Option (List ℕ)) (conflict : Bool) (op : OpId) → s.key op ≡ key op → Settled s key op op.service → verdict_with s conflict op ≡ verdict_with (with_keys s key) conflict op
unfolding verdict_with
verdict_with_same s key conflict op own settled =
    let s' = with_keys s key in
    ap (λ r. table r (kind_at op.target (site_of s op).target) op.service conflict (is_blocked s op) (judgement s op)) (role_same s key op settled)
    ∙ ap (λ (at : Site). table (role s' op) (kind_at op.target at.target) op.service conflict (is_blocked s op) (judgement s op)) (site_of_same s key op settled)
    ∙ ap (λ b. table (role s' op) (kind_at op.target (site_of s' op).target) op.service conflict b (judgement s op)) (is_blocked_same s key op settled)
    ∙ ap (λ j. table (role s' op) (kind_at op.target (site_of s' op).target) op.service conflict (is_blocked s' op) j) (judgement_same s key op own settled)

pub step_verdict_same : (s : Situation) (key : OpId → Option (List ℕ)) (op : OpId) → s.key op ≡ key op → Settled s key op op.service → step_verdict s op ≡ step_verdict (with_keys s key) op
unfolding step_verdict
step_verdict_same s key op own settled = verdict_with_same s key false op own settled

-- ---- blocks that are free

agree_at : (s : Situation) (key : OpId → Option (List ℕ)) (done : List OpId) (c : Option OpId) → Agree s key done → is_done_or_none done c ≡ true → AgreeAt s key c
agree_at s key done None agree e = tt
agree_at s key done (Some op) agree e = agree op (contains done op (from_is_among done op e))

pub free_agrees : (s : Situation) (key : OpId → Option (List ℕ)) (done : List OpId) (number : ℕ) → Agree s key done → is_free s.bundle.blocks done number ≡ true → AgreeAt s key (cover s.bundle.blocks number)
unfolding is_free
free_agrees s key done number agree e = agree_at s key done (cover s.bundle.blocks number) agree e

shown_if : (s : Situation) (key : OpId → Option (List ℕ)) (done : List OpId) (block : Block) → Agree s key done → (b : Bool) → is_free s.bundle.blocks done block.number ≡ b → cond b (plain_block s block) block ≡ cond b (plain_block (with_keys s key) block) block
shown_if s key done block agree true free = plain_block_same s key block (free_agrees s key done block.number agree free)
shown_if s key done block agree false free = refl

-- a block is shown the same
pub shown_same : (s : Situation) (key : OpId → Option (List ℕ)) (done : List OpId) (block : Block) → Agree s key done → shown_block s done block ≡ shown_block (with_keys s key) done block
shown_same s key done block agree = shown_if s key done block agree (is_free s.bundle.blocks done block.number) refl

-- ---- ready operations

pub ready_bib : (blocks : List Block) (done : List OpId) (op : OpId) → op.service ≡ Bib → is_ready blocks done op ≡ true → (is_free blocks done op.block ≡ true) × (is_free blocks done op.target ≡ true)
unfolding is_ready
ready_bib blocks done op service e =
    let second = (both (not (is_among done op)) (not (is_bib op.service) || (is_free blocks done op.block && is_free blocks done op.target)) e).1 in
    let bib : (not (is_bib Bib) || (is_free blocks done op.block && is_free blocks done op.target)) ≡ true = subst (λ (x : Service). (not (is_bib x) || (is_free blocks done op.block && is_free blocks done op.target)) ≡ true) service second in
    both (is_free blocks done op.block) (is_free blocks done op.target) bib

-- a block that is revealed, and was free, is revealed with the other keys too
revealed_same : (s : Situation) (key : OpId → Option (List ℕ)) (done : List OpId) (block : Block) → Agree s key done → is_free s.bundle.blocks done block.number ≡ true → Among block (revealed s) → Among block (revealed (with_keys s key))
unfolding revealed plain
revealed_same s key done block agree free there =
    let s' = with_keys s key in
    let kept = from-filter (λ (b : Block). is_opened s b.number) (map (plain_block s) s.bundle.blocks) block there in
    let from = from-map (plain_block s) s.bundle.blocks block kept.0 in
    let number : from.0.number ≡ block.number = sym (plain_number s from.0) ∙ ap (λ (b : Block). b.number) from.2 in
    let at : AgreeAt s key (cover s.bundle.blocks block.number) = free_agrees s key done block.number agree free in
    let same : plain_block s' from.0 ≡ block = sym (plain_block_same s key from.0 (subst (λ n. AgreeAt s key (cover s.bundle.blocks n)) (sym number) at)) ∙ from.2 in
    among-filter (λ (b : Block). is_opened s' b.number) (map (plain_block s') s.bundle.blocks) block
    (among-map (plain_block s') s.bundle.blocks from.0 block from.1 same)
    (sym (opened_same s key block.number at) ∙ kept.1)

ready_within : (s : Situation) (key : OpId → Option (List ℕ)) (done : List OpId) (op : OpId) → Agree s key done → Among op (ready s done) → Among op (ready (with_keys s key) done)
ready_within s key done op agree there =
    let s' = with_keys s key in
    let r = from_ready s done op there in
    among_ready s' done op
    (elim (from_all s op r.0) [
      | inl known ↦ all_known s' op known
      | inr bib ↦
          let parts = held_parts Bib bib.0 op bib.2 in
          let free = (ready_bib s.bundle.blocks done op parts.0 r.1).0 in
          all_revealed s' bib.0 op (revealed_same s key done bib.0 agree (subst (λ n. is_free s.bundle.blocks done n ≡ true) parts.1 free) bib.1) bib.2
    ])
    r.1

-- what is ready is the same
pub ready_same : (s : Situation) (key : OpId → Option (List ℕ)) (done : List OpId) → Agree s key done → ready s done ≡ ready (with_keys s key) done
ready_same s key done agree =
    same_sorted op_cmp op_cmp_total (ready s done) (ready (with_keys s key) done) (ready_sorted s done) (ready_sorted (with_keys s key) done)
    (λ op there. ready_within s key done op agree there)
    (λ op there. ready_within (with_keys s key) s.key done op (λ o h. sym (agree o h)) there)
