-- What follows where no reason before `TooLong` holds.
use Rattle.std.proofs.Common.{◌≡◌, ℕ, zero, suc, ◌*◌, ◌+◌, ◌<◌, ◌≤◌, ◌==◌, Bool, true, false, not, cond, IsTrue, List, [], ◌∷◌, ◌++◌, length, get_or, refl, arith}
use Rattle.std.specs.Prelude.{Option, Some, None, All, nat_le, nat_lt, find, option_map, unwrap_or}
use Rattle.std.specs.List.{list_all}
use Rattle.std.specs.Str.{bytes_eq}
use Rattle.std.proofs.lemmas.Bool.{or_parts, and_parts, eqb-true, leb-true}
use Rattle.bpsec_policy.specs.declared.ring.NamedKey.{NamedKey}
use Rattle.bpsec_policy.specs.Ring.{is_named_key, is_ring}
use Rattle.bpsec_plan.specs.declared.item.Item.{Item}
use Rattle.bpsec_plan.specs.declared.item.Item.TheVariants.{Bib, Bcb, Split}
use Rattle.bpsec_plan.specs.Items.{is_item, is_plan, is_cover, is_integrity_variant, is_cipher_variant}
use Rattle.bpsec_facts.specs.declared.reason.PlanReason.{PlanReason}
use Rattle.bpsec_facts.specs.declared.reason.PlanReason.TheVariants as reasons
use Rattle.bpsec_facts.specs.declared.reason.Refusal.{Refusal}
use Rattle.bpsec_facts.specs.Facts.{Facts}
use Rattle.bpsec_facts.specs.Refusal.{at_or, first_at, first_item, first_of, early_refusal, item_reasons, too_many, nowhere, key_length, number_taken, key_named, words_of, cover_cannot_wrap, unreadable, bad_split}
use Rattle.bpsec_facts.proofs.Chains.{at_none, of_none, of_end, if_none, here_not}
use Rattle.bpsec_secure.specs.Usable.{IsUsable}

-- what is used of it
pub record Passed (facts : Facts) : Type 0 where
  pub numbers : first_at (number_taken facts) [] facts.items ≡ None
  pub keys : first_item facts reasons.KeyLength ≡ None
  pub few : nat_lt 64 (length facts.blocks + length facts.items) ≡ false

chain : (facts : Facts) → first_of facts item_reasons (too_many facts) ≡ None → Passed facts
chain facts none =
    let a = of_none facts reasons.NoTarget _ _ none in
    let b = of_none facts reasons.TargetForbidden _ _ a.1 in
    let c = of_none facts reasons.AlreadyThere _ _ b.1 in
    let d = of_none facts reasons.UnderCipher _ _ c.1 in
    let e = of_none facts reasons.NumberTaken _ _ d.1 in
    let f = of_none facts reasons.NoKey _ _ e.1 in
    let g = of_none facts reasons.KeyLength _ _ f.1 in
    let h = of_none facts reasons.IvShared _ _ g.1 in
    let i = of_none facts reasons.IvRepeated _ _ h.1 in
    let j = of_none facts reasons.NoSharedTarget _ _ i.1 in
    let k = of_none facts reasons.PartialOverlap _ _ j.1 in
    let l = of_none facts reasons.BibLeftPlain _ _ k.1 in
    let m = of_none facts reasons.PrimaryCovered _ _ l.1 in
    let n = of_none facts reasons.BadFlags _ _ m.1 in
    record {
      numbers = e.0;
      keys = g.0;
      few = (if_none (nat_lt 64 (length facts.blocks + length facts.items)) (nowhere reasons.TooManyBlocks) None (of_end facts (too_many facts) n.1)).0;
    }

pub passed : (facts : Facts) → early_refusal facts ≡ None → Passed facts
unfolding early_refusal
passed facts none =
    let a = if_none _ (nowhere reasons.IsFragment) _ none in
    let b = at_none reasons.Unreadable (unreadable facts) _ a.1 in
    let c = at_none reasons.BadSplit (first_at (bad_split facts) [] facts.items) _ b.1 in
    chain facts c.1

-- ---- each item

-- a reason that doesn't look at the items before
each_not : (holds : Item → Bool) (before items : List Item) → first_at (λ earlier item. holds item) before items ≡ None → (k : ℕ) (d : Item) → k < length items → holds (get_or items k d) ≡ false
each_not holds before [] none k d within = absurd (omega arith)
each_not holds before (item ∷ more) none zero d within = (here_not (holds item) (length before) _ none).0
each_not holds before (item ∷ more) none (suc k) d within =
    each_not holds (before ++ item ∷ []) more (here_not (holds item) (length before) _ none).1 k d (omega arith)

-- ---- keys

not_true : (b : Bool) → not b ≡ false → b ≡ true
not_true true is = refl
not_true false is = absurd cc

short_by : (o : Option NamedKey) → ((k : NamedKey) → o ≡ Some k → length k.key ≤ 64) → length (unwrap_or (option_map (λ (k : NamedKey). k.key) o) []) ≤ 64
short_by None short = omega arith
short_by (Some k) short = short k refl

found_short_by : (name : List ℕ) (key k : NamedKey) (more : List NamedKey) (b : Bool) → bytes_eq key.name name ≡ b → is_named_key key ≡ true → (find (λ (k : NamedKey). bytes_eq k.name name) more ≡ Some k → length k.key ≤ 64) → find (λ (k : NamedKey). bytes_eq k.name name) (key ∷ more) ≡ Some k → length k.key ≤ 64
found_short_by name key k more true is fits rest found =
    let same : key ≡ k = (let e = rw is at found in cc) in
    let parts = and_parts _ _ fits in
    let lengths = and_parts (nat_le 16 (length key.key)) (nat_le (length key.key) 64) parts.1 in
    let short : length key.key ≤ 64 = leb-true (length key.key) 64 lengths.1 in
    rw (← same) short
found_short_by name key k more false is fits rest found = rest (rw is at found)

found_short : (name : List ℕ) (keys : List NamedKey) → list_all is_named_key keys ≡ true → (k : NamedKey) → find (λ (k : NamedKey). bytes_eq k.name name) keys ≡ Some k → length k.key ≤ 64
found_short name [] all k found = absurd cc
found_short name (key ∷ more) all k found =
    let parts = and_parts (is_named_key key) (list_all is_named_key more) all in
    found_short_by name key k more (bytes_eq key.name name) refl parts.0 (found_short name more parts.1 k) found

pub short_key : (ring : List NamedKey) (name : List ℕ) → IsTrue (is_ring ring) → length (key_named ring name) ≤ 64
unfolding is_ring
short_key ring name rule =
    let parts = and_parts (nat_le (length ring) 256) _ rule in
    let all = and_parts (list_all is_named_key ring) _ parts.1 in
    short_by (find (λ (k : NamedKey). bytes_eq k.name name) ring) (found_short name ring all.0)

-- ---- what items keep

listed : {X : Type 0} (p : X → Bool) (xs : List X) → list_all p xs ≡ true → (k : ℕ) (d : X) → k < length xs → p (get_or xs k d) ≡ true
listed p [] all k d within = absurd (omega arith)
listed p (x ∷ xs) all zero d within = (and_parts (p x) (list_all p xs) all).0
listed p (x ∷ xs) all (suc k) d within = listed p xs (and_parts (p x) (list_all p xs) all).1 k d (omega arith)

usable : (facts : Facts) (item : Item) → IsTrue (is_ring facts.ring) → is_item item ≡ true → key_length facts item ≡ false → IsUsable facts.ring item
unfolding key_length
usable facts (Bib cover) rule form length_fits =
    let parts = and_parts (is_cover cover) (is_integrity_variant cover.variant) form in
    record { keys = record { short = short_key facts.ring cover.key rule; wraps = length_fits }; variant = parts.1 }
usable facts (Bcb cover iv shared_iv tag_in_body) rule form length_fits =
    let parts = and_parts (is_cover cover) _ form in
    let more = and_parts (is_cipher_variant cover.variant) _ parts.1 in
    let ends = and_parts (nat_le 8 (length iv)) (nat_le (length iv) 16) more.1 in
    let lengths = or_parts (not (length (key_named facts.ring cover.key) == 4 * words_of cover.variant)) (cover_cannot_wrap facts.ring cover) length_fits in
    record {
      keys = record { short = short_key facts.ring cover.key rule; wraps = lengths.1 };
      variant = more.0;
      key = eqb-true _ _ (not_true _ lengths.0);
      at_least = leb-true 8 (length iv) ends.0;
      at_most = leb-true (length iv) 16 ends.1;
    }
usable facts (Split split) rule form length_fits = tt

items_of : (items : List Item) → IsTrue (is_plan items) → list_all is_item items ≡ true
unfolding is_plan
items_of items rule = (and_parts (nat_le (length items) 62) _ (and_parts (nat_le 1 (length items)) _ rule).1).1

pub all_usable : (facts : Facts) → Passed facts → IsTrue (is_plan facts.items) → IsTrue (is_ring facts.ring) → All (IsUsable facts.ring) facts.items
all_usable facts passed plan rule = λ k d within.
    usable facts (get_or facts.items k d) rule (listed is_item facts.items (items_of facts.items plan) k d within) (each_not (key_length facts) [] facts.items passed.keys k d within)
