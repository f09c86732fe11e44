-- The least of a list.
use Rattle.std.proofs.Common.{◌≡◌, ◌≢◌, ℕ, ◌<◌, ◌≤◌, inl, inr, ◌⊎◌, Bool, true, false, ◌&&◌, not, cond, eqb, leb, List, [], ◌∷◌, ◌++◌, map, Option, Some, None, Result, Ok, Err, refl, sym, ◌∙◌, ap, subst, arith}
use Rattle.std.specs.Prelude.{filter, fold}
use Rattle.std.proofs.lemmas.Bool.{eqb-true, eq-eqb, ne_eqb}
use Rattle.std.proofs.lemmas.Bool.{leb-true, leb-false}
use Rattle.cbor_profile.specs.declared.fault.Fault.{Fault}
use Rattle.bpsec_asb.specs.declared.asb.Asb.{Asb}
use Rattle.bpsec_asb.specs.declared.operation.OpId.{OpId}
use Rattle.bpsec_asb.proofs.Members.{Among, among-left, among-right, among-append, among-map, from-map, among-filter, from-filter, any-from, from-any}
use Rattle.bpsec_node.specs.declared.held.Held.{Held}
use Rattle.bpsec_node.specs.Least.{smaller_by, smaller_fault, least_of, least_broken, is_double, least_double, is_other, least_block, double_second, double_first, double_at, double_of}

-- ---- the least by a key

some_same : {A : Type 0} (x y : A) → ◌≡◌ {A = Option A} (Some x) (Some y) → x ≡ y
some_same x y e = cc

module _ {A : Type 0} (key : A → ℕ) where
  chosen : (best x : A) → (smaller_by key (Some best) x ≡ Some best) × (key best ≤ key x) ⊎ ((smaller_by key (Some best) x ≡ Some x) × (key x ≤ key best))
  chosen best x = by (leb (key best) (key x)) refl
    where
      by : (b : Bool) → leb (key best) (key x) ≡ b → (cond b (Some best) (Some x) ≡ Some best) × (key best ≤ key x) ⊎ ((cond b (Some best) (Some x) ≡ Some x) × (key x ≤ key best))
      by true e = inl (refl, leb-true (key best) (key x) e)
      by false e = let lt : key x < key best = leb-false (key best) (key x) e in inr (refl, omega arith)

  pub some_stays : (xs : List A) (best : A) → fold (smaller_by key) (Some best) xs ≡ None → ⊥
  some_stays [] best e = cc
  some_stays (x ∷ xs) best e =
      elim (chosen best x) [
        | inl c ↦ some_stays xs best (ap (λ (o : Option A). fold (smaller_by key) o xs) (sym c.0) ∙ e)
        | inr c ↦ some_stays xs x (ap (λ (o : Option A). fold (smaller_by key) o xs) (sym c.0) ∙ e)
      ]

  pub none_at : (xs : List A) (x : A) → fold (smaller_by key) None xs ≡ None → Among x xs → ⊥
  none_at [] x e there = there
  none_at (y ∷ ys) x e there = some_stays ys y e

  -- it is the one that was there or one of the list, and no key is smaller
  pub record IsLeast (best : Option A) (xs : List A) (x : A) : Type 0 where
    pub from : (best ≡ Some x) ⊎ Among x xs
    pub least : (y : A) → Among y xs → key x ≤ key y
    pub before : (b : A) → best ≡ Some b → key x ≤ key b

  pub is_least : (xs : List A) (best : Option A) (x : A) → fold (smaller_by key) best xs ≡ Some x → IsLeast best xs x
  is_least [] None x e = absurd cc
  is_least [] (Some best) x e =
      let same = some_same best x e in
      record { from = inl e; least = λ y there. elim there [ ]; before = λ b is. let s = some_same best b is in omega (arith, ap key (sym same ∙ s)) }
  is_least (z ∷ xs) None x e =
      let l = is_least xs (Some z) x e in
      record {
        from = elim l.from [ inl is ↦ inr (inl (some_same z x is)) | inr there ↦ inr (inr there) ];
        least = λ y there. elim there [ inl is ↦ subst (λ (w : A). key x ≤ key w) is (l.before z refl) | inr more ↦ l.least y more ];
        before = λ b is. absurd cc;
      }
  is_least (z ∷ xs) (Some best) x e =
      elim (chosen best z) [
        | inl c ↦
            let l = is_least xs (Some best) x (ap (λ (o : Option A). fold (smaller_by key) o xs) (sym c.0) ∙ e) in
            let below = l.before best refl in
            record {
              from = elim l.from [ inl is ↦ inl is | inr there ↦ inr (inr there) ];
              least = λ y there. elim there [ inl is ↦ subst (λ (w : A). key x ≤ key w) is (omega (arith, below, c.1)) | inr more ↦ l.least y more ];
              before = λ b is. subst (λ (w : A). key x ≤ key w) (some_same best b is) below;
            }
        | inr c ↦
            let l = is_least xs (Some z) x (ap (λ (o : Option A). fold (smaller_by key) o xs) (sym c.0) ∙ e) in
            let below = l.before z refl in
            record {
              from = elim l.from [ inl is ↦ inr (inl (some_same z x is)) | inr there ↦ inr (inr there) ];
              least = λ y there. elim there [ inl is ↦ subst (λ (w : A). key x ≤ key w) is below | inr more ↦ l.least y more ];
              before = λ b is. subst (λ (w : A). key x ≤ key w) (some_same best b is) (omega (arith, below, c.1));
            }
      ]

-- ---- faults

abbrev fault_of : ℕ → Result Asb Fault → List (ℕ × Fault)
fault_of number (Ok asb) = []
fault_of number (Err fault) = (number, fault) ∷ []

abbrev faults_in : List Held → List (ℕ × Fault)
faults_in [] = []
faults_in (h ∷ held) = fault_of h.number h.read ++ faults_in held

abbrev number_of : ℕ × Fault → ℕ
number_of p = p.0

abbrev step : Option (ℕ × Fault) → Held → Option (ℕ × Fault)
step best h = smaller_fault best h.number h.read

fault_step : (best : Option (ℕ × Fault)) (number : ℕ) (read : Result Asb Fault) → smaller_fault best number read ≡ fold (smaller_by number_of) best (fault_of number read)
fault_step best number (Ok asb) = refl
fault_step best number (Err fault) = refl

fold_append : {A B : Type 0} (f : B → A → B) (b : B) (xs ys : List A) → fold f b (xs ++ ys) ≡ fold f (fold f b xs) ys
fold_append f b [] ys = refl
fold_append f b (x ∷ xs) ys = fold_append f (f b x) xs ys

broken_over : (best : Option (ℕ × Fault)) (held : List Held) → fold step best held ≡ fold (smaller_by number_of) best (faults_in held)
broken_over best [] = refl
broken_over best (h ∷ held) =
    broken_over (step best h) held
    ∙ (ap (λ b. fold (smaller_by number_of) b (faults_in held)) (fault_step best h.number h.read)
    ∙ sym (fold_append (smaller_by number_of) best (fault_of h.number h.read) (faults_in held)))

in_fault : (h : Held) (fault : Fault) → h.read ≡ Err fault → Among (h.number, fault) (fault_of h.number h.read)
in_fault h fault is = by h.read is
  where
    by : (read : Result Asb Fault) → read ≡ Err fault → Among (h.number, fault) (fault_of h.number read)
    by (Ok asb) e = absurd cc
    by (Err other) e = let same : other ≡ fault = cc in inl (ap (λ (f : Fault). (h.number, f)) same)

in_faults : (held : List Held) (h : Held) (fault : Fault) → Among h held → h.read ≡ Err fault → Among (h.number, fault) (faults_in held)
in_faults [] h fault there is = elim there [ ]
in_faults (x ∷ held) h fault (inl e) is = among-left (fault_of x.number x.read) (faults_in held) (h.number, fault) (subst (λ (y : Held). Among (h.number, fault) (fault_of y.number y.read)) (sym e) (in_fault h fault is))
in_faults (x ∷ held) h fault (inr there) is = among-right (fault_of x.number x.read) (faults_in held) (h.number, fault) (in_faults held h fault there is)

from_fault : (number : ℕ) (read : Result Asb Fault) (p : ℕ × Fault) → Among p (fault_of number read) → (p.0 ≡ number) × (read ≡ Err p.1)
from_fault number (Ok asb) p there = absurd there
from_fault number (Err fault) p (inl e) = (ap (λ (q : ℕ × Fault). q.0) (sym e), let f : Fault → Result Asb Fault = λ x. Err x in ap (λ (q : ℕ × Fault). f q.1) e)
from_fault number (Err fault) p (inr there) = absurd there

from_faults : (held : List Held) (p : ℕ × Fault) → Among p (faults_in held) → (h : Held) × Among h held × (h.number ≡ p.0) × (h.read ≡ Err p.1)
from_faults [] p there = elim there [ ]
from_faults (x ∷ held) p there =
    elim (among-append (fault_of x.number x.read) (faults_in held) p there) [
      | inl here ↦ let f = from_fault x.number x.read p here in (x, inl refl, sym f.0, f.1)
      | inr more ↦ let r = from_faults held p more in (r.0, inr r.1, r.2, r.3)
    ]

pub none_broken : (held : List Held) (h : Held) (fault : Fault) → least_broken held ≡ None → Among h held → h.read ≡ Err fault → ⊥
none_broken held h fault e there is = none_at number_of (faults_in held) (h.number, fault) (sym (broken_over None held) ∙ e) (in_faults held h fault there is)

pub record FirstBroken (held : List Held) (number : ℕ) (fault : Fault) : Type 0 where
  pub at : Held
  pub there : Among at held
  pub number_is : at.number ≡ number
  pub read_is : at.read ≡ Err fault
  pub least : (h : Held) (g : Fault) → Among h held → h.read ≡ Err g → number ≤ h.number

pub first_broken : (held : List Held) (number : ℕ) (fault : Fault) → least_broken held ≡ Some (number, fault) → FirstBroken held number fault
first_broken held number fault e =
    let l = is_least number_of (faults_in held) None (number, fault) (sym (broken_over None held) ∙ e) in
    let there : Among (number, fault) (faults_in held) = elim l.from [ inl is ↦ absurd cc | inr there ↦ there ] in
    let f = from_faults held (number, fault) there in
    record { at = f.0; there = f.1; number_is = f.2; read_is = f.3; least = λ h g in' is. l.least (h.number, g) (in_faults held h g in' is) }

-- ---- numbers

pub number_none : (numbers : List ℕ) (n : ℕ) → least_of numbers ≡ None → Among n numbers → ⊥
number_none numbers n e there = none_at (λ m. m) numbers n e there

pub number_least : (numbers : List ℕ) (n : ℕ) → least_of numbers ≡ Some n → Among n numbers × ((m : ℕ) → Among m numbers → n ≤ m)
number_least numbers n e =
    let l = is_least (λ m. m) numbers None n e in
    (elim l.from [ inl is ↦ absurd cc | inr there ↦ there ], l.least)

-- ---- targets that are covered twice

both : (a b : Bool) → (a && b) ≡ true → (a ≡ true) × (b ≡ true)
both true b e = (refl, e)
both false b e = absurd cc

both_true : (a b : Bool) → a ≡ true → b ≡ true → (a && b) ≡ true
both_true true b ea eb = eb
both_true false b ea eb = absurd cc

not_eqb : (a b : ℕ) → a ≢ b → not (eqb a b) ≡ true
not_eqb a b ne = ap not (ne_eqb a b ne)

from_not_eqb : (a b : ℕ) → not (eqb a b) ≡ true → a ≢ b
from_not_eqb a b e same = let t : false ≡ true = sym (ap not (eq-eqb a b same)) ∙ e in cc_absurd t
  where
    cc_absurd : false ≡ true → ⊥
    cc_absurd t = absurd cc

module _ (covers : List OpId) where
  abbrev blocks_of : ℕ → Option ℕ → List ℕ
  blocks_of target other = map (λ (op : OpId). op.block) (filter (λ (op : OpId). eqb op.target target && is_other other op.block) covers)

  in_blocks : (target : ℕ) (other : Option ℕ) (op : OpId) → Among op covers → op.target ≡ target → is_other other op.block ≡ true → Among op.block (blocks_of target other)
  in_blocks target other op there at different =
      among-map (λ (o : OpId). o.block) (filter (λ (o : OpId). eqb o.target target && is_other other o.block) covers) op op.block
      (among-filter (λ (o : OpId). eqb o.target target && is_other other o.block) covers op there (both_true (eqb op.target target) (is_other other op.block) (eq-eqb op.target target at) different)) refl

  from_blocks : (target : ℕ) (other : Option ℕ) (n : ℕ) → Among n (blocks_of target other) → (op : OpId) × Among op covers × (op.target ≡ target) × (is_other other op.block ≡ true) × (op.block ≡ n)
  from_blocks target other n there =
      let m = from-map (λ (o : OpId). o.block) (filter (λ (o : OpId). eqb o.target target && is_other other o.block) covers) n there in
      let f = from-filter (λ (o : OpId). eqb o.target target && is_other other o.block) covers m.0 m.1 in
      let b = both (eqb m.0.target target) (is_other other m.0.block) f.1 in
      (m.0, f.0, eqb-true m.0.target target b.0, b.1, m.2)

  doubled : (a b : OpId) → Among a covers → Among b covers → b.target ≡ a.target → b.block ≢ a.block → Among a.target (map (λ (op : OpId). op.target) (filter (is_double covers) covers))
  doubled a b ha hb target block =
      among-map (λ (op : OpId). op.target) (filter (is_double covers) covers) a a.target
      (among-filter (is_double covers) covers a ha (any-from (λ (o : OpId). eqb o.target a.target && not (eqb o.block a.block)) covers b hb
      (both_true (eqb b.target a.target) (not (eqb b.block a.block)) (eq-eqb b.target a.target target) (not_eqb b.block a.block block)))) refl

  pub record Doubled (target : ℕ) : Type 0 where
    pub one : OpId
    pub other : OpId
    pub one_there : Among one covers
    pub other_there : Among other covers
    pub one_at : one.target ≡ target
    pub other_at : other.target ≡ target
    pub apart : other.block ≢ one.block

  from_doubled : (target : ℕ) → Among target (map (λ (op : OpId). op.target) (filter (is_double covers) covers)) → Doubled target
  from_doubled target there =
      let m = from-map (λ (op : OpId). op.target) (filter (is_double covers) covers) target there in
      let f = from-filter (is_double covers) covers m.0 m.1 in
      let a = from-any (λ (o : OpId). eqb o.target m.0.target && not (eqb o.block m.0.block)) covers f.1 in
      let b = both (eqb a.0.target m.0.target) (not (eqb a.0.block m.0.block)) a.2 in
      record { one = m.0; other = a.0; one_there = f.0; other_there = a.1; one_at = m.2; other_at = eqb-true a.0.target m.0.target b.0 ∙ m.2; apart = from_not_eqb a.0.block m.0.block b.1 }

  -- ---- none

  second_none : (target first : ℕ) → Doubled target → least_block covers target (Some first) ≡ None → ⊥
  second_none target first d e = by (eqb d.one.block first) refl
    where
      by : (b : Bool) → eqb d.one.block first ≡ b → ⊥
      by true is = number_none (blocks_of target (Some first)) d.other.block e (in_blocks target (Some first) d.other d.other_there d.other_at (not_eqb d.other.block first (λ same. d.apart (same ∙ sym (eqb-true d.one.block first is)))))
      by false is = number_none (blocks_of target (Some first)) d.one.block e (in_blocks target (Some first) d.one d.one_there d.one_at (ap not is))

  first_none : (target : ℕ) → Doubled target → (o : Option ℕ) → least_block covers target None ≡ o → double_first covers target o ≡ None → ⊥
  first_none target d None is e = number_none (blocks_of target None) d.one.block is (in_blocks target None d.one d.one_there d.one_at refl)
  first_none target d (Some first) is e = by (least_block covers target (Some first)) refl e
    where
      by : (o : Option ℕ) → least_block covers target (Some first) ≡ o → double_second target first o ≡ None → ⊥
      by None at e' = second_none target first d at
      by (Some second) at e' = absurd cc

  pub none_double : (a b : OpId) → double_of covers ≡ None → Among a covers → Among b covers → b.target ≡ a.target → b.block ≢ a.block → ⊥
  none_double a b e ha hb target block = by (least_double covers) refl e
    where
      by : (o : Option ℕ) → least_double covers ≡ o → double_at covers o ≡ None → ⊥
      by None at e' = number_none (map (λ (op : OpId). op.target) (filter (is_double covers) covers)) a.target at (doubled a b ha hb target block)
      by (Some t) at e' = first_none t (from_doubled t (number_least (map (λ (op : OpId). op.target) (filter (is_double covers) covers)) t at).0) (least_block covers t None) refl e'

  -- ---- some

  pub record FirstDouble (target first second : ℕ) : Type 0 where
    pub one : OpId
    pub one_there : Among one covers
    pub one_at : one.target ≡ target
    pub one_block : one.block ≡ first
    pub other : OpId
    pub other_there : Among other covers
    pub other_at : other.target ≡ target
    pub other_block : other.block ≡ second
    pub apart : first < second
    pub least : (o : OpId) → Among o covers → o.target ≡ target → o.block ≢ first → second ≤ o.block
    pub lowest : (a b : OpId) → Among a covers → Among b covers → b.target ≡ a.target → b.block ≢ a.block → target ≤ a.target

  some_by : (target first second : ℕ) → least_double covers ≡ Some target → least_block covers target None ≡ Some first → least_block covers target (Some first) ≡ Some second → FirstDouble target first second
  some_by target first second et ef es =
      let t = number_least (map (λ (op : OpId). op.target) (filter (is_double covers) covers)) target et in
      let f = number_least (blocks_of target None) first ef in
      let s = number_least (blocks_of target (Some first)) second es in
      let one = from_blocks target None first f.0 in
      let other = from_blocks target (Some first) second s.0 in
      let ne : other.0.block ≢ first = from_not_eqb other.0.block first other.3 in
      let le : first ≤ other.0.block = f.1 other.0.block (in_blocks target None other.0 other.1 other.2 refl) in
      record {
        one = one.0;
        one_there = one.1;
        one_at = one.2;
        one_block = one.4;
        other = other.0;
        other_there = other.1;
        other_at = other.2;
        other_block = other.4;
        apart = let block : other.0.block ≡ second = other.4 in omega arith;
        least = λ o there at different. s.1 o.block (in_blocks target (Some first) o there at (not_eqb o.block first different));
        lowest = λ a b ha hb same different. t.1 a.target (doubled a b ha hb same different);
      }

  pub some_double : (target first second : ℕ) → double_of covers ≡ Some (target, first, second) → FirstDouble target first second
  some_double target first second e = at (least_double covers) refl e
    where
      seconds : (t f : ℕ) → least_double covers ≡ Some t → least_block covers t None ≡ Some f → (o : Option ℕ) → least_block covers t (Some f) ≡ o → double_second t f o ≡ Some (target, first, second) → FirstDouble target first second
      seconds t f et ef None es e' = absurd cc
      seconds t f et ef (Some n) es e' =
          let same : (t, f, n) ≡ (target, first, second) = some_same (t, f, n) (target, first, second) e' in
          subst (λ (p : ℕ × ℕ × ℕ). FirstDouble p.0 p.1 p.2) same (some_by t f n et ef es)

      firsts : (t : ℕ) → least_double covers ≡ Some t → (o : Option ℕ) → least_block covers t None ≡ o → double_first covers t o ≡ Some (target, first, second) → FirstDouble target first second
      firsts t et None ef e' = absurd cc
      firsts t et (Some f) ef e' = seconds t f et ef (least_block covers t (Some f)) refl e'

      at : (o : Option ℕ) → least_double covers ≡ o → double_at covers o ≡ Some (target, first, second) → FirstDouble target first second
      at None et e' = absurd cc
      at (Some t) et e' = firsts t et (least_block covers t None) refl e'
