-- A step that covers a block: what it opens and shows.
use Rattle.std.proofs.Common.{◌≡◌, ℕ, Bool, true, false, ◌&&◌, ◌||◌, not, cond, eqb, List, [], ◌∷◌, ◌++◌, map, Option, Some, None, refl, sym, ◌∙◌, ap, subst}
use Rattle.std.specs.Prelude.{Contains, is_some, option_map, option_to_list}
use Rattle.std.specs.Option.{option_or}
use Rattle.std.proofs.lemmas.Bool.{eqb-true, eq-eqb}
use Rattle.std.proofs.lemmas.List.Folds.{find-append, list_any-append}
use Rattle.bp_blocks.specs.declared.block.Block.{Block}
use Rattle.bp_bundle.specs.Shape.{Contents}
use Rattle.bpsec_asb.specs.declared.operation.Service.{Service}
use Rattle.bpsec_asb.specs.declared.operation.Service.TheVariants.{Bib, Bcb}
use Rattle.bpsec_asb.specs.declared.operation.OpId.{OpId}
use Rattle.bpsec_asb.specs.Known.{operation}
use Rattle.bpsec_asb.specs.Reading.{read_body}
use Rattle.bpsec_node.specs.declared.event.Verdict.{Verdict}
use Rattle.bpsec_node.specs.declared.held.Held.{Held}
use Rattle.bpsec_node.specs.Situation.{Situation, is_op, is_among}
use Rattle.bpsec_node.specs.Agree.{with_keys, Agree}
use Rattle.bpsec_node.specs.Site.{block_at, site, open_over}
use Rattle.bpsec_node.specs.Plain.{may_be_covered, cover, opens, is_opened_by, is_opened, plain_by, plain_body, plain_block, plain}
use Rattle.bpsec_node.specs.AllOperations.{is_open}
use Rattle.bpsec_node.specs.Verdict.{is_bib}
use Rattle.bpsec_node.specs.Order.{is_free, ready, shown_block, shown}
use Rattle.bpsec_node.specs.Session.{has, is_covering, holds_operations, is_read, find_held, held_of, held_by_block, held_at, IsKept}
use Rattle.bpsec_node.specs.Lists.{without_number}
use Rattle.bpsec_node.specs.Change.{held_after, stuck_after, opened_block, opened_bundle}
use Rattle.bpsec_node.proofs.Members.{same_truth, is_op_same, is_op_itself}
use Rattle.bpsec_node.proofs.Agree.{block_at_number, plain_at, plain_number, shown_same}
use Rattle.bpsec_node.proofs.Sited.{shown_at, shown_if, free_shown, cover_among, cover_may, cover_itself, free_by_cover, uncovered_free}
use Rattle.bpsec_node.proofs.ReadyOps.{IsReady, ready_is, operation_cipher}
use Rattle.bpsec_node.proofs.Keeping.{among_more, stuck_same, held_same}

or_none : (b : Bool) → (b || false) ≡ b
or_none true = refl
or_none false = refl

or_true : (b : Bool) → (b || true) ≡ true
or_true true = refl
or_true false = refl

covering_by : (service : Service) (free : Bool) → (not (is_bib service) && not free) ≡ true → (service ≡ Bcb) × (free ≡ false)
covering_by Bib free e = absurd cc
covering_by Bcb true e = absurd cc
covering_by Bcb false e = (refl, refl)

not_so : (b : Bool) → not b ≡ true → b ≡ false
not_so true e = absurd cc
not_so false e = refl

neither : (a b : Bool) → (not a && not b) ≡ not (a || b)
neither true b = refl
neither false b = refl

and_false : (b : Bool) → (b && false) ≡ false
and_false true = refl
and_false false = refl

eqb_sym : (a b : ℕ) → eqb a b ≡ eqb b a
eqb_sym a b = same_truth (eqb a b) (eqb b a) (λ e. eq-eqb b a (sym (eqb-true a b e))) (λ e. eq-eqb a b (sym (eqb-true b a e)))

or_else_none : {A : Type 0} (o : Option A) → option_or o None ≡ o
or_else_none None = refl
or_else_none (Some x) = refl

first_dropped : (t n x : ℕ) (rest a : Bool) → eqb x n ≡ a → eqb x t ≡ true → (rest && not (eqb n t)) ≡ ((a || rest) && not (eqb n t))
first_dropped t n x rest true e same =
    let gone : not (eqb n t) ≡ false = ap not (ap (λ m. eqb m t) (sym (eqb-true x n e)) ∙ same) in
    ap (λ b. rest && b) gone ∙ (and_false rest ∙ sym gone)
first_dropped t n x rest false e same = refl

first_stays : (t n x : ℕ) (rest a : Bool) → eqb x n ≡ a → eqb x t ≡ false → (a || (rest && not (eqb n t))) ≡ ((a || rest) && not (eqb n t))
first_stays t n x rest true e other = sym (ap not (ap (λ m. eqb m t) (sym (eqb-true x n e)) ∙ other))
first_stays t n x rest false e other = refl

without_by : (t n x : ℕ) (xs : List ℕ) → has (without_number t xs) n ≡ (has xs n && not (eqb n t)) → (b : Bool) → eqb x t ≡ b
    → has (cond (not b) (x ∷ without_number t xs) (without_number t xs)) n ≡ ((eqb x n || has xs n) && not (eqb n t))
without_by t n x xs rest true e = rest ∙ first_dropped t n x (has xs n) (eqb x n) refl e
without_by t n x xs rest false e = ap (λ r. eqb x n || r) rest ∙ first_stays t n x (has xs n) (eqb x n) refl e

has_without : (t n : ℕ) (xs : List ℕ) → has (without_number t xs) n ≡ (has xs n && not (eqb n t))
has_without t n [] = refl
has_without t n (x ∷ xs) = without_by t n x xs (has_without t n xs) (eqb x t) refl

map_twice : (f g h : Block → Block) → ((block : Block) → f block ≡ h (g block)) → (blocks : List Block) → map f blocks ≡ map h (map g blocks)
map_twice f g h same [] = refl
map_twice f g h same (block ∷ blocks) = ap (λ b. b ∷ map f blocks) (same block) ∙ ap (λ bs. h (g block) ∷ bs) (map_twice f g h same blocks)

module _ (s : Situation) (key : OpId → Option (List ℕ)) (done : List OpId) (now : Contents) (held : List Held) (sealed stuck : List ℕ) (open_ops ready_ops : List OpId) (verdicts : List Verdict)
    (kept : IsKept s done now held sealed stuck open_ops ready_ops verdicts) (agree : Agree s key done) (op : OpId) (there : Contains (ready s done) op) (covering : is_covering s done op ≡ true) where
  abbrev pub s' : Situation
  s' = with_keys s key

  abbrev pub done' : List OpId
  done' = done ++ op ∷ []

  -- the body where the operation opens it
  abbrev pub opened : Option (List ℕ)
  opened = if_opens (opens s' op)
    where
      if_opens : Bool → Option (List ℕ)
      if_opens b = cond b (Some (open_over s.suite (site s.bundle op) op (key op))) None

  is : IsReady s done op
  is = ready_is s done op kept.shape.distinct there

  service_free : (op.service ≡ Bcb) × (is_free s.bundle.blocks done op.target ≡ false)
  unfolding is_covering
  service_free = covering_by op.service (is_free s.bundle.blocks done op.target) covering

  pub service : op.service ≡ Bcb
  service = service_free.0

  pub unfree : is_free s.bundle.blocks done op.target ≡ false
  unfree = service_free.1

  cover_by : (c : Option OpId) → cover s.bundle.blocks op.target ≡ c → c ≡ Some op
  cover_by None at = let t : true ≡ false = sym (uncovered_free s.bundle.blocks done op.target at) ∙ unfree in absurd cc
  cover_by (Some c) at = ap Some (cover_itself s.bundle.blocks op c kept.begun.once (operation_cipher s op service is.operation) at)

  pub cover_is : cover s.bundle.blocks op.target ≡ Some op
  cover_is = cover_by (cover s.bundle.blocks op.target) refl

  pub may : may_be_covered (block_at s.bundle.blocks op.target) ≡ true
  may = cover_may s.bundle.blocks op.target op cover_is

  -- ---- free blocks

  covers_it : (c : OpId) (number : ℕ) → cover s.bundle.blocks number ≡ Some c → is_op c op ≡ eqb number op.target
  covers_it c number at =
      same_truth (is_op c op) (eqb number op.target)
      (λ e. eq-eqb number op.target (sym (cover_among s.bundle.blocks number c at).1 ∙ ap (λ (o : OpId). o.target) (is_op_same c op e)))
      (λ e. same c op (some c op (sym at ∙ (ap (cover s.bundle.blocks) (eqb-true number op.target e) ∙ cover_is))))
    where
      some : (a b : OpId) → ◌≡◌ {A = Option OpId} (Some a) (Some b) → a ≡ b
      some a b e = cc

      same : (a b : OpId) → a ≡ b → is_op a b ≡ true
      same a b e = ap (is_op a) (sym e) ∙ is_op_itself a

  free_by : (c : Option OpId) (number : ℕ) → cover s.bundle.blocks number ≡ c → is_free s.bundle.blocks done' number ≡ (is_free s.bundle.blocks done number || eqb number op.target)
  free_by None number at =
      uncovered_free s.bundle.blocks done' number at ∙ sym (ap (λ b. b || eqb number op.target) (uncovered_free s.bundle.blocks done number at))
  free_by (Some c) number at =
      free_by_cover s.bundle.blocks done' number c at
      ∙ (among_more done op c
      ∙ (ap (λ b. is_among done c || b) (covers_it c number at)
      ∙ ap (λ b. b || eqb number op.target) (sym (free_by_cover s.bundle.blocks done number c at))))

  pub free : (number : ℕ) → is_free s.bundle.blocks done' number ≡ (is_free s.bundle.blocks done number || eqb number op.target)
  free number = free_by (cover s.bundle.blocks number) number refl

  pub free_other : (number : ℕ) → eqb number op.target ≡ false → is_free s.bundle.blocks done' number ≡ is_free s.bundle.blocks done number
  free_other number e = free number ∙ (ap (λ b. is_free s.bundle.blocks done number || b) e ∙ or_none (is_free s.bundle.blocks done number))

  pub free_target : is_free s.bundle.blocks done' op.target ≡ true
  free_target = free op.target ∙ (ap (λ b. is_free s.bundle.blocks done op.target || b) (eq-eqb op.target op.target refl) ∙ or_true (is_free s.bundle.blocks done op.target))

  -- ---- what is opened

  pub open_target : is_open s' op.target ≡ opens s' op
  unfolding is_open is_opened
  open_target = ap (λ (c : Option OpId). not (is_some c) || is_opened_by s' c) cover_is

  plain_of : (block : Block) → block.number ≡ op.target → plain_block s' block ≡ opened_block op.target opened block
  unfolding plain_block plain_body
  plain_of block at =
      ap (λ (c : Option OpId). record block { body = plain_by s' block c }) (ap (cover s.bundle.blocks) at ∙ cover_is)
      ∙ by (opens s' op)
    where
      by : (b : Bool) → record block { body = cond b (open_over s.suite (site s.bundle op) op (key op)) block.body } ≡ opened_block op.target (cond b (Some (open_over s.suite (site s.bundle op) op (key op))) None) block
      by true = sym (ap (λ e. cond e (record block { body = open_over s.suite (site s.bundle op) op (key op) }) block) (eq-eqb block.number op.target at))
      by false = refl

  -- ---- what is shown

  shown_other : (block : Block) → eqb block.number op.target ≡ false → shown_block s' done' block ≡ opened_block op.target opened (shown_block s done block)
  shown_other block other =
      ap (λ b. cond b (plain_block s' block) block) (free_other block.number other)
      ∙ (sym (shown_same s key done block agree)
      ∙ by (opens s' op) (shown_block s done block) (shown_number_is block))
    where
      number_by : (b : Bool) (block : Block) → (cond b (plain_block s block) block).number ≡ block.number
      number_by true block = plain_number s block
      number_by false block = refl

      shown_number_is : (block : Block) → (shown_block s done block).number ≡ block.number
      shown_number_is block = number_by (is_free s.bundle.blocks done block.number) block

      by : (b : Bool) (it : Block) → it.number ≡ block.number → it ≡ opened_block op.target (cond b (Some (open_over s.suite (site s.bundle op) op (key op))) None) it
      by true it same = sym (ap (λ e. cond e (record it { body = open_over s.suite (site s.bundle op) op (key op) }) it) (ap (λ n. eqb n op.target) same ∙ other))
      by false it same = refl

  shown_target : (block : Block) → block.number ≡ op.target → shown_block s' done' block ≡ opened_block op.target opened (shown_block s done block)
  shown_target block at =
      ap (λ b. cond b (plain_block s' block) block) (ap (is_free s.bundle.blocks done') at ∙ free_target)
      ∙ (plain_of block at
      ∙ ap (opened_block op.target opened) (sym (ap (λ b. cond b (plain_block s block) block) (ap (is_free s.bundle.blocks done) at ∙ unfree))))

  shown_more : (block : Block) → shown_block s' done' block ≡ opened_block op.target opened (shown_block s done block)
  shown_more block = by (eqb block.number op.target) refl
    where
      by : (b : Bool) → eqb block.number op.target ≡ b → shown_block s' done' block ≡ opened_block op.target opened (shown_block s done block)
      by true e = shown_target block (eqb-true block.number op.target e)
      by false e = shown_other block e

  pub now_more : shown s' done' ≡ opened_bundle op.target opened now
  unfolding shown
  now_more =
      ap (λ (bs : List Block). record { primary = s.bundle.primary; blocks = bs }) (map_twice (shown_block s' done') (shown_block s done) (opened_block op.target opened) shown_more s.bundle.blocks)
      ∙ ap (opened_bundle op.target opened) (sym kept.now_is)

  -- ---- sealed and stuck blocks

  pub sealed_more : (number : ℕ) → has (without_number op.target sealed) number ≡ not (is_free s'.bundle.blocks done' number)
  sealed_more number =
      has_without op.target number sealed
      ∙ (ap (λ b. b && not (eqb number op.target)) (kept.sealed_is number)
      ∙ (neither (is_free s.bundle.blocks done number) (eqb number op.target)
      ∙ ap not (sym (free number))))

  stuck_other : (number : ℕ) → eqb number op.target ≡ false → has (stuck ++ option_to_list (stuck_after op.target opened)) number ≡ (is_free s.bundle.blocks done' number && not (is_open s' number))
  stuck_other number other =
      list_any-append (λ n. eqb n number) stuck (option_to_list (stuck_after op.target opened))
      ∙ (ap (λ b. has stuck number || b) (by (opens s' op))
      ∙ (or_none (has stuck number)
      ∙ (kept.stuck_is number
      ∙ (stuck_same s key done agree number
      ∙ ap (λ b. b && not (is_open s' number)) (sym (free_other number other))))))
    where
      by : (b : Bool) → has (option_to_list (stuck_after op.target (cond b (Some (open_over s.suite (site s.bundle op) op (key op))) None))) number ≡ false
      by true = refl
      by false = ap (λ e. e || false) (eqb_sym op.target number ∙ other)

  stuck_target : has (stuck ++ option_to_list (stuck_after op.target opened)) op.target ≡ (is_free s.bundle.blocks done' op.target && not (is_open s' op.target))
  stuck_target =
      list_any-append (λ n. eqb n op.target) stuck (option_to_list (stuck_after op.target opened))
      ∙ (ap (λ b. b || has (option_to_list (stuck_after op.target opened)) op.target) (kept.stuck_is op.target ∙ ap (λ b. b && not (is_open s op.target)) unfree)
      ∙ (by (opens s' op)
      ∙ (ap not (sym open_target)
      ∙ ap (λ b. b && not (is_open s' op.target)) (sym free_target))))
    where
      by : (b : Bool) → has (option_to_list (stuck_after op.target (cond b (Some (open_over s.suite (site s.bundle op) op (key op))) None))) op.target ≡ not b
      by true = refl
      by false = ap (λ e. e || false) (eq-eqb op.target op.target refl)

  pub stuck_more : (number : ℕ) → has (stuck ++ option_to_list (stuck_after op.target opened)) number ≡ (is_free s'.bundle.blocks done' number && not (is_open s' number))
  stuck_more number = by (eqb number op.target) refl
    where
      by : (b : Bool) → eqb number op.target ≡ b → has (stuck ++ option_to_list (stuck_after op.target opened)) number ≡ (is_free s.bundle.blocks done' number && not (is_open s' number))
      by true e = subst (λ n. has (stuck ++ option_to_list (stuck_after op.target opened)) n ≡ (is_free s.bundle.blocks done' n && not (is_open s' n))) (sym (eqb-true number op.target e)) stuck_target
      by false e = stuck_other number e

  -- ---- the target

  pub target_block : (block : Block) × (block_at s.bundle.blocks op.target ≡ Some block) × (eqb block.kind 12 ≡ false)
  target_block = by (block_at s.bundle.blocks op.target) refl may
    where
      by : (at : Option Block) → block_at s.bundle.blocks op.target ≡ at → may_be_covered at ≡ true → (block : Block) × (block_at s.bundle.blocks op.target ≡ Some block) × (eqb block.kind 12 ≡ false)
      by None at e = absurd cc
      by (Some block) at e = (block, at, not_so (eqb block.kind 12) e)

  pub plain_target : block_at (plain s').blocks op.target ≡ Some (opened_block op.target opened target_block.0)
  plain_target =
      plain_at s' op.target
      ∙ (ap (option_map (plain_block s')) target_block.1
      ∙ ap Some (plain_of target_block.0 (block_at_number s.bundle.blocks op.target target_block.0 target_block.1).1))

  -- ---- blocks that were read

  held_at_other : (number : ℕ) → eqb number op.target ≡ false → held_at s' done' number ≡ held_at s' done number
  unfolding held_at
  held_at_other number other =
      ap (held_by_block s' done') (shown_at s' done' number ∙ (shown_if s' done' number (is_free s.bundle.blocks done' number) (block_at s.bundle.blocks number) refl refl
      ∙ (ap (λ b. option_map (λ block. cond b (plain_block s' block) block) (block_at s.bundle.blocks number)) (free_other number other)
      ∙ sym (shown_at s' done number ∙ shown_if s' done number (is_free s.bundle.blocks done number) (block_at s.bundle.blocks number) refl refl))))
      ∙ by (block_at (shown s' done).blocks number) refl
    where
      by : (at : Option Block) → block_at (shown s' done).blocks number ≡ at → held_by_block s' done' at ≡ held_by_block s' done at
      by None at = refl
      by (Some block) at =
          let n = (block_at_number (shown s' done).blocks number block at).1 in
          ap (λ b. cond (holds_operations block && (b && is_open s' block.number)) (Some (held_of block)) None) (ap (is_free s.bundle.blocks done') n ∙ (free_other number other ∙ ap (is_free s.bundle.blocks done) (sym n)))

  held_other : (number : ℕ) → eqb number op.target ≡ false → find_held (held ++ option_to_list (held_after target_block.0.kind op.target opened)) number ≡ held_at s' done' number
  held_other number other =
      find-append (λ (h : Held). eqb h.number number) held (option_to_list (held_after target_block.0.kind op.target opened))
      ∙ (ap (λ o. option_or (find_held held number) o) (by (opens s' op))
      ∙ (or_else_none (find_held held number)
      ∙ (kept.held_is number ∙ (held_same s key done agree number ∙ sym (held_at_other number other)))))
    where
      kind_by : (b : Bool) (text : List ℕ) → find_held (option_to_list (cond b (Some (record { number = op.target; read = read_body text })) None)) number ≡ None
      kind_by true text = ap (λ e. cond e (Some (record { number = op.target; read = read_body text })) None) (eqb_sym op.target number ∙ other)
      kind_by false text = refl

      by : (b : Bool) → find_held (option_to_list (held_after target_block.0.kind op.target (cond b (Some (open_over s.suite (site s.bundle op) op (key op))) None))) number ≡ None
      by true = kind_by (eqb target_block.0.kind 11) (open_over s.suite (site s.bundle op) op (key op))
      by false = refl

  held_before : find_held held op.target ≡ None
  unfolding held_at
  held_before = kept.held_is op.target ∙ by (block_at (shown s done).blocks op.target) refl
    where
      never : (a : Bool) → (a && false) ≡ false
      never true = refl
      never false = refl

      by : (at : Option Block) → block_at (shown s done).blocks op.target ≡ at → held_by_block s done at ≡ None
      by None at = refl
      by (Some block) at =
          let n = (block_at_number (shown s done).blocks op.target block at).1 in
          ap (λ b. cond (holds_operations block && (b && is_open s block.number)) (Some (held_of block)) None) (ap (is_free s.bundle.blocks done) n ∙ unfree)
          ∙ ap (λ b. cond b (Some (held_of block)) None) (never (holds_operations block))

  abbrev body : List ℕ
  body = open_over s.suite (site s.bundle op) op (key op)

  target_number : target_block.0.number ≡ op.target
  target_number = (block_at_number s.bundle.blocks op.target target_block.0 target_block.1).1

  opened_kinds : (b : Bool) → holds_operations (opened_block op.target (cond b (Some body) None) target_block.0) ≡ eqb target_block.0.kind 11
  opened_kinds true = ap (λ e. holds_operations (cond e (record target_block.0 { body = body }) target_block.0)) (eq-eqb target_block.0.number op.target target_number) ∙ (ap (λ b. eqb target_block.0.kind 11 || b) target_block.2 ∙ or_none (eqb target_block.0.kind 11))
  opened_kinds false = ap (λ b. eqb target_block.0.kind 11 || b) target_block.2 ∙ or_none (eqb target_block.0.kind 11)

  opened_numbers : (b : Bool) → (opened_block op.target (cond b (Some body) None) target_block.0).number ≡ op.target
  opened_numbers true = ap (λ e. (cond e (record target_block.0 { body = body }) target_block.0).number) (eq-eqb target_block.0.number op.target target_number) ∙ target_number
  opened_numbers false = target_number

  opened_held : held_of (opened_block op.target (Some body) target_block.0) ≡ record { number = op.target; read = read_body body }
  opened_held = ap (λ x. held_of (cond x (record target_block.0 { body = body }) target_block.0)) (eq-eqb target_block.0.number op.target target_number) ∙ ap (λ n. record { number = n; read = read_body body }) target_number

  read_by : (b : Bool) (number : ℕ) → number ≡ op.target → is_open s' op.target ≡ b → is_read s' done' number ≡ b
  read_by b number at e = ap (is_read s' done') at ∙ (ap (λ f. f && is_open s' op.target) free_target ∙ e)

  if_kind : (k : Bool) → cond (k && true) (Some (held_of (opened_block op.target (Some body) target_block.0))) None ≡ cond k (Some (record { number = op.target; read = read_body body })) None
  if_kind true = ap Some opened_held
  if_kind false = refl

  if_never : (k : Bool) → cond (k && false) (Some (held_of target_block.0)) None ≡ None
  if_never true = refl
  if_never false = refl

  now_by : (b : Bool) → is_open s' op.target ≡ b → held_by_block s' done' (Some (opened_block op.target (cond b (Some body) None) target_block.0)) ≡ held_after target_block.0.kind op.target (cond b (Some body) None)
  now_by true e =
      ap (λ r. cond (holds_operations (opened_block op.target (Some body) target_block.0) && r) (Some (held_of (opened_block op.target (Some body) target_block.0))) None) (read_by true (opened_block op.target (Some body) target_block.0).number (opened_numbers true) e)
      ∙ (ap (λ k. cond (k && true) (Some (held_of (opened_block op.target (Some body) target_block.0))) None) (opened_kinds true)
      ∙ if_kind (eqb target_block.0.kind 11))
  now_by false e =
      ap (λ r. cond (holds_operations target_block.0 && r) (Some (held_of target_block.0)) None) (read_by false target_block.0.number target_number e)
      ∙ if_never (holds_operations target_block.0)

  held_now : held_at s' done' op.target ≡ held_after target_block.0.kind op.target opened
  unfolding held_at
  held_now =
      ap (held_by_block s' done') (free_shown s' done' op.target free_target ∙ plain_target)
      ∙ now_by (opens s' op) open_target

  held_target : find_held (held ++ option_to_list (held_after target_block.0.kind op.target opened)) op.target ≡ held_at s' done' op.target
  held_target =
      find-append (λ (h : Held). eqb h.number op.target) held (option_to_list (held_after target_block.0.kind op.target opened))
      ∙ (ap (λ o. option_or o (find_held (option_to_list (held_after target_block.0.kind op.target opened)) op.target)) held_before
      ∙ (by (opens s' op) ∙ sym held_now))
    where
      kind_by : (b : Bool) (text : List ℕ) → find_held (option_to_list (cond b (Some (record { number = op.target; read = read_body text })) None)) op.target ≡ cond b (Some (record { number = op.target; read = read_body text })) None
      kind_by true text = ap (λ e. cond e (Some (record { number = op.target; read = read_body text })) None) (eq-eqb op.target op.target refl)
      kind_by false text = refl

      by : (b : Bool) → find_held (option_to_list (held_after target_block.0.kind op.target (cond b (Some (open_over s.suite (site s.bundle op) op (key op))) None))) op.target ≡ held_after target_block.0.kind op.target (cond b (Some (open_over s.suite (site s.bundle op) op (key op))) None)
      by true = kind_by (eqb target_block.0.kind 11) (open_over s.suite (site s.bundle op) op (key op))
      by false = refl

  pub held_more : (number : ℕ) → find_held (held ++ option_to_list (held_after target_block.0.kind op.target opened)) number ≡ held_at s' done' number
  held_more number = by (eqb number op.target) refl
    where
      by : (b : Bool) → eqb number op.target ≡ b → find_held (held ++ option_to_list (held_after target_block.0.kind op.target opened)) number ≡ held_at s' done' number
      by true e = subst (λ n. find_held (held ++ option_to_list (held_after target_block.0.kind op.target opened)) n ≡ held_at s' done' n) (sym (eqb-true number op.target e)) held_target
      by false e = held_other number e
