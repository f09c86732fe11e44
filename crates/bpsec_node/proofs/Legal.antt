-- Legal orders: what is done one after the other, and where it ends.
use Rattle.std.proofs.Common.{◌≡◌, ◌≢◌, arith, ℕ, inl, inr, Bool, true, false, ◌&&◌, ◌||◌, not, List, [], ◌∷◌, ◌++◌, map, Option, Some, None, refl, sym, ◌∙◌, ap, subst, append_assoc}
use Rattle.std.specs.Prelude.{Contains, AllPairs}
use Rattle.std.proofs.lemmas.List.Kept.{AllPairs-cons}
use Rattle.bpsec_asb.proofs.Held.{all_members}
use Rattle.bpsec_asb.specs.declared.operation.Service.{Service}
use Rattle.bpsec_asb.specs.declared.operation.Service.TheVariants.{Bib, Bcb}
use Rattle.bpsec_asb.specs.declared.operation.OpId.{OpId}
use Rattle.bp_blocks.specs.declared.block.Block.{Block}
use Rattle.bpsec_asb.proofs.Members.{Among, among, contains, among-left, among-right}
use Rattle.bpsec_node.specs.Situation.{Situation, is_among}
use Rattle.bpsec_node.specs.Agree.{with_keys, Agree}
use Rattle.bpsec_node.specs.Plain.{cover}
use Rattle.bpsec_node.specs.AllOperations.{all_operations}
use Rattle.bpsec_node.specs.Verdict.{is_bib, step_verdict}
use Rattle.bpsec_node.specs.Order.{is_done_or_none, is_free, is_ready, ready, shown_block, shown, LegalFrom, Legal}
use Rattle.bpsec_node.proofs.Members.{both, both_true, not_true, from_is_among, is_among_from, among_or_not, from_ready, among_ready}
use Rattle.bpsec_node.proofs.Agree.{Settled, free_agrees, shown_same, ready_same, ready_bib, step_verdict_same}

-- ---- more that is done

done_or_none_more : (done more : List OpId) (c : Option OpId) → is_done_or_none done c ≡ true → is_done_or_none (done ++ more) c ≡ true
done_or_none_more done more None e = refl
done_or_none_more done more (Some op) e = is_among_from (done ++ more) op (among-left done more op (from_is_among done op e))

pub free_more : (blocks : List Block) (done more : List OpId) (number : ℕ) → is_free blocks done number ≡ true → is_free blocks (done ++ more) number ≡ true
unfolding is_free
free_more blocks done more number e = done_or_none_more done more (cover blocks number) e

-- ---- what is legal with some keys is legal with others that agree on it

legal_from_same : (s : Situation) (key : OpId → Option (List ℕ)) (before more : List OpId) → Agree s key (before ++ more) → LegalFrom s before more → LegalFrom (with_keys s key) before more
legal_from_same s key before [] agree legal = tt
legal_from_same s key before (op ∷ more) agree legal =
    let now : Agree s key before = λ o there. agree o (contains (before ++ op ∷ more) o (among-left before (op ∷ more) o (among before o there))) in
    let e : before ++ op ∷ more ≡ (before ++ op ∷ []) ++ more = sym (append_assoc before (op ∷ []) more) in (
      subst (λ ops. Contains ops op) (ready_same s key before now) legal.0,
      legal_from_same s key (before ++ op ∷ []) more (subst (Agree s key) e agree) legal.1,
    )

pub legal_same : (s : Situation) (key : OpId → Option (List ℕ)) (done : List OpId) → Agree s key done → Legal s done → Legal (with_keys s key) done
unfolding Legal
legal_same s key done agree legal = legal_from_same s key [] done agree legal

-- ---- what is done in a legal order was ready

-- the operations before a place in the list, and that the one there was ready then
pub record WasReady (s : Situation) (done : List OpId) (op : OpId) : Type 0 where
  pub before : List OpId
  pub behind : List OpId
  pub is : done ≡ before ++ op ∷ behind
  pub ready : Among op (ready s before)

was_ready_from : (s : Situation) (before more : List OpId) (op : OpId) → LegalFrom s before more → Among op more → WasReady s (before ++ more) op
was_ready_from s before [] op legal there = elim there [ ]
was_ready_from s before (first ∷ more) op legal (inl e) =
    subst (WasReady s (before ++ first ∷ more)) e (record { before = before; behind = more; is = refl; ready = among (ready s before) first legal.0 })
was_ready_from s before (first ∷ more) op legal (inr there) =
    subst (λ done. WasReady s done op) (append_assoc before (first ∷ []) more) (was_ready_from s (before ++ first ∷ []) more op legal.1 there)

pub was_ready : (s : Situation) (done : List OpId) (op : OpId) → Legal s done → Among op done → WasReady s done op
unfolding Legal
was_ready s done op legal there = was_ready_from s [] done op legal there

-- an integrity operation that is done has its block and its target free
pub done_free : (s : Situation) (done : List OpId) (op : OpId) → Legal s done → Among op done → op.service ≡ Bib → (is_free s.bundle.blocks done op.block ≡ true) × (is_free s.bundle.blocks done op.target ≡ true)
done_free s done op legal there service =
    let was = was_ready s done op legal there in
    let free = ready_bib s.bundle.blocks was.before op service (from_ready s was.before op was.ready).1 in
    let Free : List OpId → Type 0 = λ ops. (is_free s.bundle.blocks ops op.block ≡ true) × (is_free s.bundle.blocks ops op.target ≡ true) in
    subst Free (sym was.is) (free_more s.bundle.blocks was.before (op ∷ was.behind) op.block free.0, free_more s.bundle.blocks was.before (op ∷ was.behind) op.target free.1)

pub settled_by : (s : Situation) (key : OpId → Option (List ℕ)) (done : List OpId) (op : OpId) (service : Service) → Agree s key done → (service ≡ Bib → (is_free s.bundle.blocks done op.block ≡ true) × (is_free s.bundle.blocks done op.target ≡ true)) → Settled s key op service
settled_by s key done op Bib agree free = (free_agrees s key done op.block agree (free refl).0, free_agrees s key done op.target agree (free refl).1)
settled_by s key done op Bcb agree free = tt

pub done_settled : (s : Situation) (key : OpId → Option (List ℕ)) (done : List OpId) (op : OpId) → Agree s key done → Legal s done → Among op done → Settled s key op op.service
done_settled s key done op agree legal there = settled_by s key done op op.service agree (λ service. done_free s done op legal there service)

-- the verdict of a step stands whatever keys come later
pub done_verdict_same : (s : Situation) (key : OpId → Option (List ℕ)) (done : List OpId) (op : OpId) → Agree s key done → Legal s done → Among op done → step_verdict s op ≡ step_verdict (with_keys s key) op
done_verdict_same s key done op agree legal there =
    step_verdict_same s key op (agree op (contains done op there)) (done_settled s key done op agree legal there)

-- ---- what is done is among all operations, each once

pub done_among_all : (s : Situation) (done : List OpId) (op : OpId) → Legal s done → Among op done → Among op (all_operations s)
done_among_all s done op legal there = let was = was_ready s done op legal there in (from_ready s was.before op was.ready).0

-- none stands twice
abbrev pub Once : List OpId → Type 0
Once [] = Unit {0}
Once (op ∷ ops) = (Among op ops → ⊥) × Once ops

pub not_done : (blocks : List Block) (done : List OpId) (op : OpId) → is_ready blocks done op ≡ true → Among op done → ⊥
unfolding is_ready
not_done blocks done op e there =
    not_true (is_among done op) (both (not (is_among done op)) (not (is_bib op.service) || (is_free blocks done op.block && is_free blocks done op.target)) e).0 (is_among_from done op there)

later_apart : (s : Situation) (before more : List OpId) (op : OpId) → LegalFrom s before more → Among op before → Among op more → ⊥
later_apart s before [] op legal was there = elim there [ ]
later_apart s before (first ∷ more) op legal was (inl e) =
    let r = from_ready s before first (among (ready s before) first legal.0) in
    not_done s.bundle.blocks before first r.1 (subst (λ o. Among o before) (sym e) was)
later_apart s before (first ∷ more) op legal was (inr there) = later_apart s (before ++ first ∷ []) more op legal.1 (among-left before (first ∷ []) op was) there

once_from : (s : Situation) (before more : List OpId) → LegalFrom s before more → Once more
once_from s before [] legal = tt
once_from s before (op ∷ more) legal =
    (λ there. later_apart s (before ++ op ∷ []) more op legal.1 (among-right before (op ∷ []) op (inl refl)) there, once_from s (before ++ op ∷ []) more legal.1)

pub done_once : (s : Situation) (done : List OpId) → Legal s done → Once done
unfolding Legal
done_once s done legal = once_from s [] done legal

-- ---- where nothing is ready, all is done

ready_cipher : (blocks : List Block) (done : List OpId) (op : OpId) → op.service ≡ Bcb → is_among done op ≡ false → is_ready blocks done op ≡ true
unfolding is_ready
ready_cipher blocks done op service fresh =
    both_true (not (is_among done op)) (not (is_bib op.service) || (is_free blocks done op.block && is_free blocks done op.target)) (ap not fresh)
    (ap (λ (x : Service). not (is_bib x) || (is_free blocks done op.block && is_free blocks done op.target)) service)

pub ready_if_free : (blocks : List Block) (done : List OpId) (op : OpId) → is_among done op ≡ false → is_free blocks done op.block ≡ true → is_free blocks done op.target ≡ true → is_ready blocks done op ≡ true
unfolding is_ready
ready_if_free blocks done op fresh block target =
    both_true (not (is_among done op)) (not (is_bib op.service) || (is_free blocks done op.block && is_free blocks done op.target)) (ap not fresh)
    (or_right (not (is_bib op.service)) (is_free blocks done op.block && is_free blocks done op.target) (both_true _ _ block target))
  where
    or_right : (a b : Bool) → b ≡ true → (a || b) ≡ true
    or_right true b e = refl
    or_right false b e = e

pub none_ready : (s : Situation) (done : List OpId) (op : OpId) → ready s done ≡ [] → Among op (ready s done) → ⊥
none_ready s done op e there = let Is : List OpId → Type 0 = Among op in subst Is e there

pub cipher_done : (s : Situation) (done : List OpId) (op : OpId) → ready s done ≡ [] → op.service ≡ Bcb → Among op (all_operations s) → Among op done
cipher_done s done op e service there =
    elim (among_or_not done op) [
      | inl is ↦ is
      | inr fresh ↦ absurd (none_ready s done op e (among_ready s done op there (ready_cipher s.bundle.blocks done op service fresh)))
    ]

-- none stands twice, as a fact on all pairs
pub once_pairs : (ops : List OpId) → Once ops → AllPairs ◌≢◌ ops
once_pairs [] once = λ i j d lt in'. absurd (omega arith)
once_pairs (op ∷ ops) once = AllPairs-cons ◌≢◌ op ops (all_members (λ o. op ≢ o) ops (λ o there e. once.0 (subst (λ (x : OpId). Among x ops) (sym e) there))) (once_pairs ops once.1)

-- the bundle is shown the same
pub shown_whole_same : (s : Situation) (key : OpId → Option (List ℕ)) (done : List OpId) → Agree s key done → shown s done ≡ shown (with_keys s key) done
unfolding shown
shown_whole_same s key done agree =
    ap (λ (blocks : List Block). record { primary = s.bundle.primary; blocks = blocks }) (maps (shown_block s done) (shown_block (with_keys s key) done) (λ block. shown_same s key done block agree) s.bundle.blocks)
  where
    maps : (f g : Block → Block) → ((b : Block) → f b ≡ g b) → (bs : List Block) → map f bs ≡ map g bs
    maps f g same [] = refl
    maps f g same (b ∷ bs) = ap (λ (x : Block). x ∷ map f bs) (same b) ∙ ap (λ (xs : List Block). g b ∷ xs) (maps f g same bs)
