-- The first that stands in the way of a session, over lists and by relations.
use Rattle.std.proofs.Common.{◌≡◌, ◌≢◌, ℕ, ◌%◌, ◌≤◌, Bool, true, false, cond, eqb, Option, Some, None, Result, Err, refl, sym, ◌∙◌, ap, subst, arith}
use Rattle.std.proofs.lemmas.Bool.{eqb-true, eq-eqb}
use Rattle.cbor_profile.specs.declared.fault.Fault.{Fault}
use Rattle.bp_blocks.specs.declared.block.Block.{Block}
use Rattle.bp_bundle.specs.Shape.{Contents}
use Rattle.bpsec_asb.specs.declared.asb.Asb.{Asb}
use Rattle.bpsec_asb.specs.Operations.{NumbersAreDistinct}
use Rattle.bpsec_asb.specs.Reading.{read_body}
use Rattle.bpsec_asb.proofs.Members.{among}
use Rattle.bpsec_node.specs.Site.{block_at}
use Rattle.bpsec_node.specs.Begin.{IsBroken, IsFirstDouble, CanBegin, IsBeginFault}
use Rattle.bpsec_node.specs.declared.begin.BeginFault.{BeginFault}
use Rattle.bpsec_node.specs.declared.begin.BeginFault.TheVariants as faults
use Rattle.bpsec_node.specs.Least.{is_cipher, read_those, least_broken, double_of}
use Rattle.bpsec_node.specs.Start.{first_covers, fault_of, begin_fault}
use Rattle.bpsec_node.proofs.Operations.{at_itself}
use Rattle.bpsec_node.proofs.Began.{all_readable, first_unreadable, first_double_is, can_begin}

some_same : {A : Type 0} (x y : A) → ◌≡◌ {A = Option A} (Some x) (Some y) → x ≡ y
some_same x y e = cc

true_false : (b : Bool) → b ≡ true → b ≡ false → ⊥
true_false b is not' = let t : true ≡ false = sym is ∙ not' in absurd cc

-- it stands in the way, and isn't want of memory
abbrev pub Stands : Contents → BeginFault → Type 0
Stands bundle fault = (fault ≢ faults.NoMemory) × IsBeginFault bundle fault

-- ---- what is found

module _ (bundle : Contents) where
  abbrev broken : Option (ℕ × Fault)
  broken = least_broken (read_those is_cipher bundle.blocks)

  abbrev double : Option (ℕ × ℕ × ℕ)
  double = double_of (first_covers bundle.blocks)

  by_double : (d : Option (ℕ × ℕ × ℕ)) → eqb (bundle.primary.flags % 2) 1 ≡ false → broken ≡ None → double ≡ d → (fault : BeginFault) → fault_of None d ≡ Some fault → Stands bundle fault
  by_double None whole none is fault e = absurd cc
  by_double (Some (target, first, second)) whole none is fault e =
      subst (Stands bundle) (some_same (faults.DoubleCipher target first second) fault e)
      (λ memory. cc, (whole, all_readable bundle.blocks none, first_double_is bundle.blocks target first second is))

  by_broken : (b : Option (ℕ × Fault)) → eqb (bundle.primary.flags % 2) 1 ≡ false → broken ≡ b → (fault : BeginFault) → fault_of b double ≡ Some fault → Stands bundle fault
  by_broken None whole is fault e = by_double double whole is refl fault e
  by_broken (Some (number, f)) whole is fault e =
      subst (Stands bundle) (some_same (faults.BrokenBcb number f) fault e) (λ memory. cc, (whole, first_unreadable bundle.blocks number f is))

  by_fragment : (b : Bool) → eqb (bundle.primary.flags % 2) 1 ≡ b → (fault : BeginFault) → cond b (Some faults.IsFragment) (fault_of broken double) ≡ Some fault → Stands bundle fault
  by_fragment true is fault e = subst (Stands bundle) (some_same faults.IsFragment fault e) (λ memory. cc, is)
  by_fragment false is fault e = by_broken broken is refl fault e

  pub fault_stands : (fault : BeginFault) → begin_fault bundle ≡ Some fault → Stands bundle fault
  unfolding begin_fault
  fault_stands fault e = by_fragment (eqb (bundle.primary.flags % 2) 1) refl fault e

  none_double : (d : Option (ℕ × ℕ × ℕ)) → eqb (bundle.primary.flags % 2) 1 ≡ false → broken ≡ None → double ≡ d → fault_of None d ≡ None → CanBegin bundle
  none_double None whole none is e = can_begin bundle whole none is
  none_double (Some (target, first, second)) whole none is e = absurd cc

  none_broken : (b : Option (ℕ × Fault)) → eqb (bundle.primary.flags % 2) 1 ≡ false → broken ≡ b → fault_of b double ≡ None → CanBegin bundle
  none_broken None whole is e = none_double double whole is refl e
  none_broken (Some (number, f)) whole is e = absurd cc

  none_fragment : (b : Bool) → eqb (bundle.primary.flags % 2) 1 ≡ b → cond b (Some faults.IsFragment) (fault_of broken double) ≡ None → CanBegin bundle
  none_fragment true is e = absurd cc
  none_fragment false is e = none_broken broken is refl e

  pub no_fault_begins : begin_fault bundle ≡ None → CanBegin bundle
  unfolding begin_fault
  no_fault_begins e = none_fragment (eqb (bundle.primary.flags % 2) 1) refl e

  -- ---- what stands in the way is found

  nothing_stands : (fault : BeginFault) → CanBegin bundle → Stands bundle fault → ⊥
  nothing_stands faults.IsFragment can (real, is) = true_false (eqb (bundle.primary.flags % 2) 1) is can.whole
  nothing_stands (faults.BrokenBcb number f) can (real, is) = can.readable number f is.1.broken
  nothing_stands (faults.DoubleCipher target first second) can (real, is) =
      let same : first ≡ second = can.once target first second is.2.covers_first is.2.covers_second in
      let apart = is.2.apart in
      omega arith
  nothing_stands faults.NoMemory can (real, is) = real refl

  pub begins_no_fault : CanBegin bundle → begin_fault bundle ≡ None
  begins_no_fault can = by (begin_fault bundle) refl
    where
      by : (f : Option BeginFault) → begin_fault bundle ≡ f → begin_fault bundle ≡ None
      by None is = is
      by (Some fault) is = absurd (nothing_stands fault can (fault_stands fault is))

  -- ---- there is one

  same_broken : (n m : ℕ) (f g : Fault) → NumbersAreDistinct bundle.blocks → n ≡ m → IsBroken bundle.blocks n f → IsBroken bundle.blocks m g → f ≡ g
  same_broken n m f g distinct e a b =
      let number : a.block.number ≡ b.block.number = a.number_is ∙ e ∙ sym b.number_is in
      let here : block_at bundle.blocks a.block.number ≡ Some a.block = at_itself bundle.blocks a.block distinct (among bundle.blocks a.block a.there) in
      let there : block_at bundle.blocks b.block.number ≡ Some b.block = at_itself bundle.blocks b.block distinct (among bundle.blocks b.block b.there) in
      let block : a.block ≡ b.block = some_same a.block b.block (sym here ∙ ap (block_at bundle.blocks) number ∙ there) in
      same_fault (sym a.unreadable ∙ ap (λ (x : Block). read_body x.body) block ∙ b.unreadable)
    where
      same_fault : ◌≡◌ {A = Result Asb Fault} (Err f) (Err g) → f ≡ g
      same_fault e' = cc

  -- the numbers of two such triples are the same
  first_same : (t f s f' s' : ℕ) → IsFirstDouble bundle.blocks t f s → IsFirstDouble bundle.blocks t f' s' → f ≡ f'
  first_same t f s f' s' a b = by (eqb f f') refl
    where
      by : (v : Bool) → eqb f f' ≡ v → f ≡ f'
      by true is = eqb-true f f' is
      by false is =
          let other : f ≢ f' = λ e. true_false (eqb f f') (eq-eqb f f' e) is in
          let one : s ≤ f' = a.least f' b.covers_first (λ e. other (sym e)) in
          let two : s' ≤ f = b.least f a.covers_first other in
          let x = a.apart in
          let y = b.apart in
          absurd (omega arith)

  second_same : (t f s s' : ℕ) → IsFirstDouble bundle.blocks t f s → IsFirstDouble bundle.blocks t f s' → s ≡ s'
  second_same t f s s' a b =
      let x = a.apart in
      let y = b.apart in
      let one : s ≤ s' = a.least s' b.covers_second (λ e. omega arith) in
      let two : s' ≤ s = b.least s a.covers_second (λ e. omega arith) in
      omega arith

  target_same : (t f s t' f' s' : ℕ) → IsFirstDouble bundle.blocks t f s → IsFirstDouble bundle.blocks t' f' s' → t ≡ t'
  target_same t f s t' f' s' a b =
      let x = a.apart in
      let y = b.apart in
      let one : t ≤ t' = a.lowest t' f' s' b.covers_first b.covers_second (λ e. omega arith) in
      let two : t' ≤ t = b.lowest t f s a.covers_first a.covers_second (λ e. omega arith) in
      omega arith

  double_same : (t f s t' f' s' : ℕ) → IsFirstDouble bundle.blocks t f s → IsFirstDouble bundle.blocks t' f' s' → faults.DoubleCipher t f s ≡ faults.DoubleCipher t' f' s'
  double_same t f s t' f' s' a b =
      let target = target_same t f s t' f' s' a b in
      let a' : IsFirstDouble bundle.blocks t' f s = subst (λ n. IsFirstDouble bundle.blocks n f s) target a in
      let first = first_same t' f s f' s' a' b in
      let a'' : IsFirstDouble bundle.blocks t' f' s = subst (λ n. IsFirstDouble bundle.blocks t' n s) first a' in
      let second = second_same t' f' s s' a'' b in
      ap (λ n. faults.DoubleCipher n f s) target ∙ ap (λ n. faults.DoubleCipher t' n s) first ∙ ap (λ n. faults.DoubleCipher t' f' n) second

  one_stands : (f g : BeginFault) → NumbersAreDistinct bundle.blocks → Stands bundle f → Stands bundle g → f ≡ g
  one_stands faults.NoMemory g distinct (real, is) there = absurd (real refl)
  one_stands faults.IsFragment faults.NoMemory distinct here (real, is) = absurd (real refl)
  one_stands faults.IsFragment faults.IsFragment distinct here there = refl
  one_stands faults.IsFragment (faults.BrokenBcb m g) distinct here there = absurd (true_false (eqb (bundle.primary.flags % 2) 1) here.1 there.1.0)
  one_stands faults.IsFragment (faults.DoubleCipher t a b) distinct here there = absurd (true_false (eqb (bundle.primary.flags % 2) 1) here.1 there.1.0)
  one_stands (faults.BrokenBcb n f) faults.NoMemory distinct here (real, is) = absurd (real refl)
  one_stands (faults.BrokenBcb n f) faults.IsFragment distinct here there = absurd (true_false (eqb (bundle.primary.flags % 2) 1) there.1 here.1.0)
  one_stands (faults.BrokenBcb n f) (faults.BrokenBcb m g) distinct here there =
      let a = here.1.1 in
      let b = there.1.1 in
      let one : n ≤ m = a.least m g b.broken in
      let two : m ≤ n = b.least n f a.broken in
      let number : n ≡ m = omega arith in
      ap (λ x. faults.BrokenBcb x f) number ∙ ap (λ (x : Fault). faults.BrokenBcb m x) (same_broken n m f g distinct number a.broken b.broken)
  one_stands (faults.BrokenBcb n f) (faults.DoubleCipher t a b) distinct here there = absurd (there.1.1 n f here.1.1.broken)
  one_stands (faults.DoubleCipher t a b) faults.NoMemory distinct here (real, is) = absurd (real refl)
  one_stands (faults.DoubleCipher t a b) faults.IsFragment distinct here there = absurd (true_false (eqb (bundle.primary.flags % 2) 1) there.1 here.1.0)
  one_stands (faults.DoubleCipher t a b) (faults.BrokenBcb m g) distinct here there = absurd (here.1.1 m g there.1.1.broken)
  one_stands (faults.DoubleCipher t a b) (faults.DoubleCipher t' a' b') distinct here there = double_same t a b t' a' b' here.1.2 there.1.2

  pub stands_fault : (fault : BeginFault) → NumbersAreDistinct bundle.blocks → Stands bundle fault → begin_fault bundle ≡ Some fault
  stands_fault fault distinct stands = by (begin_fault bundle) refl
    where
      by : (f : Option BeginFault) → begin_fault bundle ≡ f → begin_fault bundle ≡ Some fault
      by None is = absurd (nothing_stands fault (no_fault_begins is) stands)
      by (Some other) is = is ∙ ap Some (one_stands other fault distinct (fault_stands other is) stands)
