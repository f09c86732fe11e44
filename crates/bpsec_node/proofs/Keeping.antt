-- What a step leaves as it is in what a session keeps.
use Rattle.std.proofs.Common.{◌≡◌, ℕ, inl, inr, Bool, true, false, ◌&&◌, ◌||◌, not, cond, List, [], ◌∷◌, ◌++◌, map, Option, Some, None, refl, sym, ◌∙◌, ap, subst, append_assoc}
use Rattle.std.specs.Prelude.{Contains, is_some}
use Rattle.std.proofs.lemmas.List.{append-nil}
use Rattle.std.proofs.lemmas.List.Folds.{list_any-append}
use Rattle.bp_blocks.specs.declared.block.Block.{Block}
use Rattle.bp_bundle.specs.Shape.{Contents}
use Rattle.bpsec_asb.specs.declared.operation.Service.{Service}
use Rattle.bpsec_asb.specs.declared.operation.Service.TheVariants.{Bib, Bcb}
use Rattle.bpsec_asb.specs.declared.operation.OpId.{OpId}
use Rattle.bpsec_asb.proofs.Members.{Among}
use Rattle.bpsec_node.specs.Situation.{Situation, is_op, is_among}
use Rattle.bpsec_node.specs.Agree.{with_keys, Agree}
use Rattle.bpsec_node.specs.Site.{block_at}
use Rattle.bpsec_node.specs.Plain.{cover, plain}
use Rattle.bpsec_node.specs.AllOperations.{is_open}
use Rattle.bpsec_node.specs.Verdict.{is_bib, step_verdict}
use Rattle.bpsec_node.specs.Order.{is_free, ready, LegalFrom, Legal, shown_block, shown}
use Rattle.bpsec_asb.specs.Reading.{read_body}
use Rattle.bpsec_node.specs.Session.{holds_operations as holds, applies_to, is_operation_by, is_operation, is_shown, is_read, held_by_block, held_at}
use Rattle.bpsec_node.proofs.Members.{same_truth, is_op_same, is_op_itself}
use Rattle.bpsec_node.proofs.Agree.{free_agrees, opened_same, plain_at_same, shown_same}
use Rattle.bpsec_node.proofs.Legal.{done_verdict_same}
use Rattle.bpsec_node.proofs.OutcomeKeys.{map_agree}
use Rattle.bpsec_node.proofs.Sited.{free_by_cover, uncovered_free}

-- ---- one operation more is done

or_none : (b : Bool) → (b || false) ≡ b
or_none true = refl
or_none false = refl

pub among_more : (done : List OpId) (op o : OpId) → is_among (done ++ op ∷ []) o ≡ (is_among done o || is_op o op)
among_more done op o = list_any-append (is_op o) done (op ∷ []) ∙ ap (λ b. is_among done o || b) (or_none (is_op o op))

pub is_op_sym : (a b : OpId) → is_op a b ≡ is_op b a
is_op_sym a b = same_truth (is_op a b) (is_op b a) (λ e. turn a b (is_op_same a b e)) (λ e. turn b a (is_op_same b a e))
  where
    turn : (a b : OpId) → a ≡ b → is_op b a ≡ true
    turn a b e = ap (is_op b) e ∙ is_op_itself b

-- an operation that isn't the one that is done
free_by_other : (blocks : List Block) (done : List OpId) (op c : OpId) (number : ℕ) → cover blocks number ≡ Some c → is_op c op ≡ false → is_free blocks (done ++ op ∷ []) number ≡ is_free blocks done number
free_by_other blocks done op c number is other =
    free_by_cover blocks (done ++ op ∷ []) number c is
    ∙ (among_more done op c ∙ (ap (λ b. is_among done c || b) other ∙ (or_none (is_among done c) ∙ sym (free_by_cover blocks done number c is))))

free_if : (blocks : List Block) (done : List OpId) (op : OpId) (number : ℕ) (at : Option OpId) → cover blocks number ≡ at → ((c : OpId) → at ≡ Some c → is_op c op ≡ false) → is_free blocks (done ++ op ∷ []) number ≡ is_free blocks done number
free_if blocks done op number None is other = uncovered_free blocks (done ++ op ∷ []) number is ∙ sym (uncovered_free blocks done number is)
free_if blocks done op number (Some c) is other = free_by_other blocks done op c number is (other c refl)

-- what is free stays so where the operation doesn't cover the block
pub free_stays : (blocks : List Block) (done : List OpId) (op : OpId) (number : ℕ) → ((c : OpId) → cover blocks number ≡ Some c → is_op c op ≡ false) → is_free blocks (done ++ op ∷ []) number ≡ is_free blocks done number
free_stays blocks done op number other = free_if blocks done op number (cover blocks number) refl other

-- ---- what depends on blocks that are free

module _ (s : Situation) (key : OpId → Option (List ℕ)) (done : List OpId) (agree : Agree s key done) where
  open_by : (number : ℕ) → is_free s.bundle.blocks done number ≡ true → is_open s number ≡ is_open (with_keys s key) number
  unfolding is_open
  open_by number free = ap (λ b. not (is_some (cover s.bundle.blocks number)) || b) (opened_same s key number (free_agrees s key done number agree free))

  -- where it is free, it is open as before
  pub read_same : (number : ℕ) → is_read s done number ≡ is_read (with_keys s key) done number
  read_same number = by (is_free s.bundle.blocks done number) refl
    where
      by : (b : Bool) → is_free s.bundle.blocks done number ≡ b → (is_free s.bundle.blocks done number && is_open s number) ≡ (is_free s.bundle.blocks done number && is_open (with_keys s key) number)
      by true is = ap (λ b. is_free s.bundle.blocks done number && b) (open_by number is)
      by false is = rw is refl

  pub stuck_same : (number : ℕ) → (is_free s.bundle.blocks done number && not (is_open s number)) ≡ (is_free s.bundle.blocks done number && not (is_open (with_keys s key) number))
  stuck_same number = by (is_free s.bundle.blocks done number) refl
    where
      by : (b : Bool) → is_free s.bundle.blocks done number ≡ b → (is_free s.bundle.blocks done number && not (is_open s number)) ≡ (is_free s.bundle.blocks done number && not (is_open (with_keys s key) number))
      by true is = ap (λ b. is_free s.bundle.blocks done number && not b) (open_by number is)
      by false is = rw is refl

  pub blocks_same : shown s done ≡ shown (with_keys s key) done
  unfolding shown
  blocks_same = ap (λ (bs : List Block). record { primary = s.bundle.primary; blocks = bs }) (map_agree (shown_block s done) (shown_block (with_keys s key) done) (λ block. shown_same s key done block agree) s.bundle.blocks)

  pub held_same : (number : ℕ) → held_at s done number ≡ held_at (with_keys s key) done number
  unfolding held_at
  held_same number =
      ap (λ (b : Contents). held_by_block s done (block_at b.blocks number)) blocks_same
      ∙ by (block_at (shown (with_keys s key) done).blocks number)
    where
      by : (at : Option Block) → held_by_block s done at ≡ held_by_block (with_keys s key) done at
      by None = refl
      by (Some block) = ap (λ b. cond (holds block && b) (Some (record { number = block.number; read = read_body block.body })) None) (read_same block.number)

  -- an operation whose block is shown is one as before
  pub operation_same : (op : OpId) → is_shown s.bundle.blocks done op ≡ true → is_operation s op ≡ is_operation (with_keys s key) op
  unfolding is_operation is_shown
  operation_same op shown' = by op.service refl
    where
      by : (service : Service) → op.service ≡ service → is_operation_by s op op.service ≡ is_operation_by (with_keys s key) op op.service
      by Bib is =
          let free : is_free s.bundle.blocks done op.block ≡ true = sym (ap (λ (v : Service). not (is_bib v) || is_free s.bundle.blocks done op.block) is) ∙ shown' in
          ap (is_operation_by s op) is
          ∙ (ap (λ b. b && applies_to (block_at (plain s).blocks op.block) op.target) (open_by op.block free)
          ∙ (ap (λ at. is_open (with_keys s key) op.block && applies_to at op.target) (plain_at_same s key op.block (free_agrees s key done op.block agree free))
          ∙ ap (is_operation_by (with_keys s key) op) (sym is)))
      by Bcb is = ap (is_operation_by s op) is ∙ ap (is_operation_by (with_keys s key) op) (sym is)

  -- so with whatever follows where it isn't shown
  pub known_same : (op : OpId) (b : Bool) → (is_operation s op && (is_shown s.bundle.blocks done op && b)) ≡ (is_operation (with_keys s key) op && (is_shown s.bundle.blocks done op && b))
  known_same op b = by (is_shown s.bundle.blocks done op) refl
    where
      never : (a : Bool) → (a && false) ≡ false
      never true = refl
      never false = refl

      by : (v : Bool) → is_shown s.bundle.blocks done op ≡ v → (is_operation s op && (is_shown s.bundle.blocks done op && b)) ≡ (is_operation (with_keys s key) op && (is_shown s.bundle.blocks done op && b))
      by true is = ap (λ a. a && (is_shown s.bundle.blocks done op && b)) (operation_same op is)
      by false is = ap (λ v. is_operation s op && (v && b)) is ∙ (never (is_operation s op) ∙ (sym (never (is_operation (with_keys s key) op)) ∙ ap (λ v. is_operation (with_keys s key) op && (v && b)) (sym is)))

-- ---- legal lists

legal_on : (s : Situation) (before more : List OpId) (op : OpId) → LegalFrom s before more → Contains (ready s (before ++ more)) op → LegalFrom s before (more ++ op ∷ [])
legal_on s before [] op legal there = (subst (λ (ops : List OpId). Contains (ready s ops) op) (append-nil before) there, tt)
legal_on s before (o ∷ more) op legal there = (legal.0, legal_on s (before ++ o ∷ []) more op legal.1 (subst (λ (ops : List OpId). Contains (ready s ops) op) (sym (append_assoc before (o ∷ []) more)) there))

pub legal_push : (s : Situation) (done : List OpId) (op : OpId) → Legal s done → Contains (ready s done) op → Legal s (done ++ op ∷ [])
unfolding Legal
legal_push s done op legal there = legal_on s [] done op legal there

-- ---- verdicts

map_among : {A B : Type 0} (f g : A → B) (xs : List A) → ((x : A) → Among x xs → f x ≡ g x) → map f xs ≡ map g xs
map_among f g [] same = refl
map_among f g (x ∷ xs) same = ap (λ y. y ∷ map f xs) (same x (inl refl)) ∙ ap (λ ys. g x ∷ ys) (map_among f g xs (λ y there. same y (inr there)))

pub verdicts_same : (s : Situation) (key : OpId → Option (List ℕ)) (done : List OpId) → Agree s key done → Legal s done → map (step_verdict s) done ≡ map (step_verdict (with_keys s key)) done
verdicts_same s key done agree legal = map_among (step_verdict s) (step_verdict (with_keys s key)) done (λ op there. done_verdict_same s key done op agree legal there)
