-- What a session keeps at its beginning is what it is to keep.
use Rattle.std.proofs.Common.{◌≡◌, ◌≢◌, ℕ, suc, Bool, true, false, ◌&&◌, ◌||◌, not, cond, eqb, List, [], ◌∷◌, ◌++◌, map, Option, Some, None, refl, sym, ◌∙◌, ap, subst, arith}
use Rattle.std.specs.Prelude.{filter, find, is_some}
use Rattle.std.specs.Option.{option_or}
use Rattle.std.proofs.lemmas.Bool.{eqb-true, eq-eqb, ne_eqb}
use Rattle.std.proofs.lemmas.List.Folds.{find-append, list_any-append}
use Rattle.bp_blocks.specs.declared.block.Block.{Block}
use Rattle.bp_bundle.specs.Shape.{Contents}
use Rattle.bp_bundle.specs.Spelling.{IsBundle}
use Rattle.bpsec_asb.specs.declared.operation.Service.{Service}
use Rattle.bpsec_asb.specs.declared.operation.Service.TheVariants.{Bib, Bcb}
use Rattle.bpsec_asb.specs.declared.operation.OpId.{OpId}
use Rattle.bpsec_asb.specs.Operations.{NumbersAreDistinct}
use Rattle.bpsec_asb.specs.Known.{operation, ciphers, targets_of}
use Rattle.bpsec_asb.specs.Reading.{read_body}
use Rattle.bpsec_asb.proofs.Members.{contains}
use Rattle.bpsec_policy.specs.Rules.{same_service}
use Rattle.bpsec_node.specs.declared.held.Held.{Held}
use Rattle.bpsec_node.specs.Situation.{Situation, is_op, is_among}
use Rattle.bpsec_node.specs.Site.{block_at}
use Rattle.bpsec_node.specs.Plain.{covers, cover, plain_block, plain}
use Rattle.bpsec_node.specs.AllOperations.{is_open}
use Rattle.bpsec_node.specs.Verdict.{is_bib}
use Rattle.bpsec_node.specs.Order.{is_done_or_none, is_free, Legal, shown_block, shown}
use Rattle.bpsec_node.specs.Begin.{CanBegin}
use Rattle.bpsec_node.specs.Session.{has, applies_to, is_operation_by, is_operation, is_shown, held_of, is_read, find_held, held_by_block, held_at, IsKept}
use Rattle.bpsec_node.specs.Lists.{ready_among}
use Rattle.bpsec_node.specs.Least.{is_cipher, is_visible_bib, read_those, ops_of}
use Rattle.bpsec_node.specs.Start.{first_sealed, first_ops}
use Rattle.bpsec_node.proofs.Members.{same_truth, from_is_among}
use Rattle.bpsec_node.proofs.Agree.{block_at_number}
use Rattle.bpsec_node.proofs.Ended.{cipher_service}
use Rattle.bpsec_node.proofs.Operations.{none_finds, plain_uncovered}
use Rattle.bpsec_node.proofs.OutcomeSame.{bcb_uncovered}
use Rattle.bpsec_node.proofs.Sited.{uncovered_free, uncovered_open, uncovered_plain_at}
use Rattle.bpsec_node.proofs.ReadyFrom.{ready_from}
use Rattle.bpsec_node.proofs.Uncovered.{among_targets, not_among_targets}
use Rattle.bpsec_node.proofs.Began.{first_ciphers, first_covers_are}

or_none : (b : Bool) → (b || false) ≡ b
or_none true = refl
or_none false = refl

and_true : (b : Bool) → (b && true) ≡ b
and_true true = refl
and_true false = refl

and_false : (b : Bool) → (b && false) ≡ false
and_false true = refl
and_false false = refl

not_not : (b : Bool) → not (not b) ≡ b
not_not true = refl
not_not false = refl

eqb_sym : (a b : ℕ) → eqb a b ≡ eqb b a
eqb_sym a b = same_truth (eqb a b) (eqb b a) (λ e. eq-eqb b a (sym (eqb-true a b e))) (λ e. eq-eqb a b (sym (eqb-true b a e)))

-- ---- sealed blocks

has_targets : (n : ℕ) (ops : List OpId) → has (map (λ (op : OpId). op.target) ops) n ≡ is_some (find (λ (op : OpId). eqb op.target n) ops)
has_targets n [] = refl
has_targets n (op ∷ ops) = by (eqb op.target n) (has_targets n ops)
  where
    by : (b : Bool) → has (map (λ (op : OpId). op.target) ops) n ≡ is_some (find (λ (op : OpId). eqb op.target n) ops)
        → (b || has (map (λ (op : OpId). op.target) ops) n) ≡ is_some (cond b (Some op) (find (λ (op : OpId). eqb op.target n) ops))
    by true rest = refl
    by false rest = rest

free_none : (blocks : List Block) (n : ℕ) → is_free blocks [] n ≡ not (is_some (cover blocks n))
unfolding is_free
free_none blocks n = by (cover blocks n)
  where
    by : (c : Option OpId) → is_done_or_none [] c ≡ not (is_some c)
    by None = refl
    by (Some c) = refl

first_has : (blocks : List Block) (n : ℕ) → has (first_sealed blocks) n ≡ is_some (cover blocks n)
unfolding cover
first_has blocks n = ap (λ (ops : List OpId). has (map (λ (op : OpId). op.target) ops) n) (first_covers_are blocks) ∙ has_targets n (covers blocks)

first_sealed_is : (blocks : List Block) (n : ℕ) → has (first_sealed blocks) n ≡ not (is_free blocks [] n)
first_sealed_is blocks n = first_has blocks n ∙ (sym (not_not (is_some (cover blocks n))) ∙ ap not (sym (free_none blocks n)))

none_if : (c : Option OpId) → not (is_some c) ≡ true → c ≡ None
none_if None e = refl
none_if (Some c) e = absurd cc

uncovered_if : (blocks : List Block) (n : ℕ) → is_free blocks [] n ≡ true → cover blocks n ≡ None
uncovered_if blocks n e = none_if (cover blocks n) (sym (free_none blocks n) ∙ e)

-- ---- what is shown at first

map_itself : (f : Block → Block) → ((block : Block) → f block ≡ block) → (blocks : List Block) → map f blocks ≡ blocks
map_itself f same [] = refl
map_itself f same (block ∷ blocks) = ap (λ b. b ∷ map f blocks) (same block) ∙ ap (λ bs. block ∷ bs) (map_itself f same blocks)

shown_first_block : (s : Situation) (block : Block) (b : Bool) → is_free s.bundle.blocks [] block.number ≡ b → cond b (plain_block s block) block ≡ block
shown_first_block s block true e = plain_uncovered s block (uncovered_if s.bundle.blocks block.number e)
shown_first_block s block false e = refl

pub shown_first : (s : Situation) → shown s [] ≡ s.bundle
unfolding shown
shown_first s = ap (λ (bs : List Block). record { primary = s.bundle.primary; blocks = bs }) (map_itself (shown_block s []) (λ block. shown_first_block s block (is_free s.bundle.blocks [] block.number) refl) s.bundle.blocks)

-- ---- blocks of distinct numbers

pairs_tail : (block : Block) (blocks : List Block) → NumbersAreDistinct (block ∷ blocks) → NumbersAreDistinct blocks
pairs_tail block blocks distinct i j d lt in' = distinct (suc i) (suc j) d (omega arith) (omega arith)

others_none : (block : Block) (blocks : List Block) (n : ℕ) → NumbersAreDistinct (block ∷ blocks) → block.number ≡ n → block_at blocks n ≡ None
others_none block blocks n distinct is =
    none_finds (λ (b : Block). eqb b.number n) blocks (λ b there.
    let at = contains blocks b there in
    ne_eqb b.number n (λ same. subst (λ (x : Block). block.number ≢ x.number) at.2 (distinct 0 (suc at.0) b (omega arith) (omega (arith, at.1))) (is ∙ sym same)))

-- ---- blocks that are read

abbrev read_at : (Block → Bool) → Option Block → Option Held
read_at test None = None
read_at test (Some block) = cond (test block) (Some (held_of block)) None

module _ (test : Block → Bool) (n : ℕ) where
  found_by : (block : Block) (blocks : List Block) (t e : Bool) → test block ≡ t → eqb block.number n ≡ e → (e ≡ true → block_at blocks n ≡ None) → find_held (read_those test blocks) n ≡ read_at test (block_at blocks n)
      → find_held (map held_of (cond t (block ∷ filter test blocks) (filter test blocks))) n ≡ read_at test (cond e (Some block) (block_at blocks n))
  found_by block blocks true true is at others rest = ap (λ b. cond b (Some (held_of block)) (find_held (read_those test blocks) n)) at ∙ sym (ap (λ b. cond b (Some (held_of block)) None) is)
  found_by block blocks true false is at others rest = ap (λ b. cond b (Some (held_of block)) (find_held (read_those test blocks) n)) at ∙ rest
  found_by block blocks false true is at others rest = rest ∙ (ap (read_at test) (others refl) ∙ sym (ap (λ b. cond b (Some (held_of block)) None) is))
  found_by block blocks false false is at others rest = rest

  find_read : (blocks : List Block) → NumbersAreDistinct blocks → find_held (read_those test blocks) n ≡ read_at test (block_at blocks n)
  find_read [] distinct = refl
  find_read (block ∷ blocks) distinct =
      found_by block blocks (test block) (eqb block.number n) refl refl (λ e. others_none block blocks n distinct (eqb-true block.number n e)) (find_read blocks (pairs_tail block blocks distinct))

-- ---- operations of blocks that are read

abbrev ops_at : (Block → Bool) → Option Block → ℕ → Bool
ops_at test None target = false
ops_at test (Some block) target = test block && has (targets_of (read_body block.body)) target

module _ (test : Block → Bool) (o : OpId) (bib : o.service ≡ Bib) where
  among_by : (block : Block) (blocks : List Block) (t e : Bool) → test block ≡ t → eqb block.number o.block ≡ e → (e ≡ true → block_at blocks o.block ≡ None) → is_among (ops_of Bib (read_those test blocks)) o ≡ ops_at test (block_at blocks o.block) o.target
      → is_among (ops_of Bib (map held_of (cond t (block ∷ filter test blocks) (filter test blocks)))) o ≡ ops_at test (cond e (Some block) (block_at blocks o.block)) o.target
  among_by block blocks true true is at others rest =
      list_any-append (is_op o) (map (operation Bib block.number) (targets_of (read_body block.body))) (ops_of Bib (read_those test blocks))
      ∙ (ap (λ b. b || is_among (ops_of Bib (read_those test blocks)) o) (among_targets block.number (targets_of (read_body block.body)) o bib (eqb_sym o.block block.number ∙ at))
      ∙ (ap (λ b. has (targets_of (read_body block.body)) o.target || b) (rest ∙ ap (λ x. ops_at test x o.target) (others refl))
      ∙ (or_none (has (targets_of (read_body block.body)) o.target)
      ∙ sym (ap (λ b. b && has (targets_of (read_body block.body)) o.target) is))))
  among_by block blocks true false is at others rest =
      list_any-append (is_op o) (map (operation Bib block.number) (targets_of (read_body block.body))) (ops_of Bib (read_those test blocks))
      ∙ (ap (λ b. b || is_among (ops_of Bib (read_those test blocks)) o) (not_among_targets block.number (targets_of (read_body block.body)) o (ap (λ b. same_service o.service Bib && b) (eqb_sym o.block block.number ∙ at) ∙ and_false (same_service o.service Bib)))
      ∙ rest)
  among_by block blocks false true is at others rest = rest ∙ (ap (λ x. ops_at test x o.target) (others refl) ∙ sym (ap (λ b. b && has (targets_of (read_body block.body)) o.target) is))
  among_by block blocks false false is at others rest = rest

  among_read : (blocks : List Block) → NumbersAreDistinct blocks → is_among (ops_of Bib (read_those test blocks)) o ≡ ops_at test (block_at blocks o.block) o.target
  among_read [] distinct = refl
  among_read (block ∷ blocks) distinct =
      among_by block blocks (test block) (eqb block.number o.block) refl refl (λ e. others_none block blocks o.block distinct (eqb-true block.number o.block e)) (among_read blocks (pairs_tail block blocks distinct))

no_bib_ops : (o : OpId) (held : List Held) → o.service ≡ Bcb → is_among (ops_of Bib held) o ≡ false
no_bib_ops o [] bcb = refl
no_bib_ops o (h ∷ held) bcb =
    list_any-append (is_op o) (map (operation Bib h.number) (targets_of h.read)) (ops_of Bib held)
    ∙ (ap (λ b. b || is_among (ops_of Bib held) o) (not_among_targets h.number (targets_of h.read) o (ap (λ (v : Service). same_service v Bib && eqb o.block h.number) bcb))
    ∙ no_bib_ops o held bcb)

no_bcb_by : (blocks : List Block) (o : OpId) (b : Bool) → o.service ≡ Bib → is_among (ciphers blocks) o ≡ b → is_among (ciphers blocks) o ≡ false
no_bcb_by blocks o true bib e = let t : Bib ≡ Bcb = sym bib ∙ cipher_service blocks o (from_is_among (ciphers blocks) o e) in absurd cc
no_bcb_by blocks o false bib e = e

-- ---- the session at its beginning

module _ (s : Situation) (shape : IsBundle s.bundle) (begun : CanBegin s.bundle) where
  abbrev sealed : List ℕ
  sealed = first_sealed s.bundle.blocks

  read_if : (n : ℕ) (c : Option OpId) → cover s.bundle.blocks n ≡ c → is_read s [] n ≡ not (is_some c)
  read_if n None at = ap (λ b. b && is_open s n) (uncovered_free s.bundle.blocks [] n at) ∙ uncovered_open s n at
  read_if n (Some c) at = ap (λ b. b && is_open s n) (free_none s.bundle.blocks n ∙ ap (λ o. not (is_some o)) at)

  read_is : (n : ℕ) → is_read s [] n ≡ not (has sealed n)
  read_is n = read_if n (cover s.bundle.blocks n) refl ∙ ap not (sym (first_has s.bundle.blocks n))

  held_by : (n : ℕ) (at : Option Block) → block_at s.bundle.blocks n ≡ at → option_or (read_at is_cipher at) (read_at (is_visible_bib sealed) at) ≡ held_by_block s [] at
  held_by n None at = refl
  held_by n (Some block) at = kinds (eqb block.kind 12) refl
    where
      number : block.number ≡ n
      number = (block_at_number s.bundle.blocks n block at).1

      all : (a : Bool) → (a || true) ≡ true
      all true = refl
      all false = refl

      kinds : (b : Bool) → eqb block.kind 12 ≡ b → option_or (cond b (Some (held_of block)) None) (cond (eqb block.kind 11 && not (has sealed block.number)) (Some (held_of block)) None)
          ≡ cond ((eqb block.kind 11 || b) && is_read s [] block.number) (Some (held_of block)) None
      kinds true e =
          let none = bcb_uncovered s.bundle.blocks block (ap (block_at s.bundle.blocks) number ∙ at) e in
          sym (ap (λ r. cond ((eqb block.kind 11 || true) && r) (Some (held_of block)) None) (read_if block.number None none)
          ∙ ap (λ r. cond (r && true) (Some (held_of block)) None) (all (eqb block.kind 11)))
      kinds false e =
          sym (ap (λ r. cond (r && is_read s [] block.number) (Some (held_of block)) None) (or_none (eqb block.kind 11))
          ∙ ap (λ r. cond (eqb block.kind 11 && r) (Some (held_of block)) None) (read_is block.number))

  first_held_is : (n : ℕ) → find_held (read_those is_cipher s.bundle.blocks ++ read_those (is_visible_bib sealed) s.bundle.blocks) n ≡ held_at s [] n
  unfolding held_at
  first_held_is n =
      find-append (λ (h : Held). eqb h.number n) (read_those is_cipher s.bundle.blocks) (read_those (is_visible_bib sealed) s.bundle.blocks)
      ∙ (ap (λ o. option_or o (find_held (read_those (is_visible_bib sealed) s.bundle.blocks) n)) (find_read is_cipher n s.bundle.blocks shape.distinct)
      ∙ (ap (λ o. option_or (read_at is_cipher (block_at s.bundle.blocks n)) o) (find_read (is_visible_bib sealed) n s.bundle.blocks shape.distinct)
      ∙ (held_by n (block_at s.bundle.blocks n) refl
      ∙ ap (λ (b : Contents). held_by_block s [] (block_at b.blocks n)) (sym (shown_first s)))))

  stuck_first : (n : ℕ) → has [] n ≡ (is_free s.bundle.blocks [] n && not (is_open s n))
  stuck_first n = by (cover s.bundle.blocks n) refl
    where
      by : (c : Option OpId) → cover s.bundle.blocks n ≡ c → false ≡ (is_free s.bundle.blocks [] n && not (is_open s n))
      by None at = sym (ap (λ b. b && not (is_open s n)) (uncovered_free s.bundle.blocks [] n at) ∙ ap not (uncovered_open s n at))
      by (Some c) at = sym (ap (λ b. b && not (is_open s n)) (free_none s.bundle.blocks n ∙ ap (λ o. not (is_some o)) at))

  split : (o : OpId) → is_among (first_ops s.bundle.blocks) o ≡ (is_among (ciphers s.bundle.blocks) o || is_among (ops_of Bib (read_those (is_visible_bib sealed) s.bundle.blocks)) o)
  split o =
      list_any-append (is_op o) (ops_of Bcb (read_those is_cipher s.bundle.blocks)) (ops_of Bib (read_those (is_visible_bib sealed) s.bundle.blocks))
      ∙ ap (λ ops. is_among ops o || is_among (ops_of Bib (read_those (is_visible_bib sealed) s.bundle.blocks)) o) (first_ciphers s.bundle.blocks)

  open_bcb : (o : OpId) → o.service ≡ Bcb → is_among (first_ops s.bundle.blocks) o ≡ (is_operation s o && (is_shown s.bundle.blocks [] o && true))
  unfolding is_operation is_shown
  open_bcb o bcb =
      split o
      ∙ (ap (λ b. is_among (ciphers s.bundle.blocks) o || b) (no_bib_ops o (read_those (is_visible_bib sealed) s.bundle.blocks) bcb)
      ∙ (or_none (is_among (ciphers s.bundle.blocks) o)
      ∙ (sym (and_true (is_among (ciphers s.bundle.blocks) o))
      ∙ ap (λ (v : Service). is_operation_by s o v && ((not (is_bib v) || is_free s.bundle.blocks [] o.block) && true)) (sym bcb))))

  bib_by : (o : OpId) (f : Bool) → is_free s.bundle.blocks [] o.block ≡ f → ops_at (is_visible_bib sealed) (block_at s.bundle.blocks o.block) o.target ≡ ((is_open s o.block && applies_to (block_at (plain s).blocks o.block) o.target) && (f && true))
  bib_by o true free =
      let none = uncovered_if s.bundle.blocks o.block free in
      by (block_at s.bundle.blocks o.block) refl
      ∙ (ap (λ x. applies_to x o.target) (sym (uncovered_plain_at s o.block none))
      ∙ (ap (λ b. b && applies_to (block_at (plain s).blocks o.block) o.target) (sym (uncovered_open s o.block none))
      ∙ sym (and_true (is_open s o.block && applies_to (block_at (plain s).blocks o.block) o.target))))
    where
      by : (at : Option Block) → block_at s.bundle.blocks o.block ≡ at → ops_at (is_visible_bib sealed) at o.target ≡ applies_to at o.target
      by None at = refl
      by (Some block) at =
          let n = (block_at_number s.bundle.blocks o.block block at).1 in
          ap (λ b. (eqb block.kind 11 && not b) && has (targets_of (read_body block.body)) o.target) (ap (has sealed) n ∙ (first_sealed_is s.bundle.blocks o.block ∙ ap not free))
          ∙ ap (λ b. b && has (targets_of (read_body block.body)) o.target) (and_true (eqb block.kind 11))
  bib_by o false free =
      by (block_at s.bundle.blocks o.block) refl ∙ sym (and_false (is_open s o.block && applies_to (block_at (plain s).blocks o.block) o.target))
    where
      by : (at : Option Block) → block_at s.bundle.blocks o.block ≡ at → ops_at (is_visible_bib sealed) at o.target ≡ false
      by None at = refl
      by (Some block) at =
          let n = (block_at_number s.bundle.blocks o.block block at).1 in
          ap (λ b. (eqb block.kind 11 && not b) && has (targets_of (read_body block.body)) o.target) (ap (has sealed) n ∙ (first_sealed_is s.bundle.blocks o.block ∙ ap not free))
          ∙ ap (λ b. b && has (targets_of (read_body block.body)) o.target) (and_false (eqb block.kind 11))

  open_bib : (o : OpId) → o.service ≡ Bib → is_among (first_ops s.bundle.blocks) o ≡ (is_operation s o && (is_shown s.bundle.blocks [] o && true))
  unfolding is_operation is_shown
  open_bib o bib =
      split o
      ∙ (ap (λ b. b || is_among (ops_of Bib (read_those (is_visible_bib sealed) s.bundle.blocks)) o) (no_bcb_by s.bundle.blocks o (is_among (ciphers s.bundle.blocks) o) bib refl)
      ∙ (among_read (is_visible_bib sealed) o bib s.bundle.blocks shape.distinct
      ∙ (bib_by o (is_free s.bundle.blocks [] o.block) refl
      ∙ ap (λ (v : Service). is_operation_by s o v && ((not (is_bib v) || is_free s.bundle.blocks [] o.block) && true)) (sym bib))))

  first_open : (o : OpId) → is_among (first_ops s.bundle.blocks) o ≡ (is_operation s o && (is_shown s.bundle.blocks [] o && not (is_among [] o)))
  first_open o = by o.service refl
    where
      by : (service : Service) → o.service ≡ service → is_among (first_ops s.bundle.blocks) o ≡ (is_operation s o && (is_shown s.bundle.blocks [] o && true))
      by Bib e = open_bib o e
      by Bcb e = open_bcb o e

  legal_first : Legal s []
  unfolding Legal
  legal_first = tt

  pub kept_first : IsKept s [] s.bundle (read_those is_cipher s.bundle.blocks ++ read_those (is_visible_bib sealed) s.bundle.blocks) sealed [] (first_ops s.bundle.blocks) (ready_among sealed (first_ops s.bundle.blocks)) []
  kept_first = record {
    shape = shape;
    shape_now = shape;
    begun = begun;
    legal = legal_first;
    now_is = sym (shown_first s);
    held_is = first_held_is;
    sealed_is = first_sealed_is s.bundle.blocks;
    stuck_is = stuck_first;
    open_is = first_open;
    ready_is = ready_from s [] sealed (first_ops s.bundle.blocks) shape.distinct (first_sealed_is s.bundle.blocks) first_open;
    verdicts_are = refl;
  }
