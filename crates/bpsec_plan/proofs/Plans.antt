-- What is read as a plan is one.
use Rattle.std.proofs.Common.{◌≡◌, ℕ, Bool, true, false, cond, List, [], ◌∷◌, length, Option, Some, None, Result, Ok, Err, sym, ◌∙◌, ap, subst}
use Rattle.std.specs.Prelude.{nat_le, codes, unwrap_or, option_and_then}
use Rattle.std.specs.List.{list_all}
use Rattle.std.specs.Str.{bytes_eq}
use Rattle.serde_json.specs.Data.{Data}
use Rattle.bp_crc.specs.declared.kind.CheckKind.{CheckKind}
use Rattle.bp_text.specs.declared.fault.TextReason.{TextReason}
use Rattle.bp_text.specs.declared.fault.TextReason.TheVariants.{WrongShape, UnknownWord, TooMany}
use Rattle.bp_text.specs.declared.shape.Kind.TheVariants.{Text, Name, Number, Distinct, Array}
use Rattle.bp_text.specs.Fault.{unless, wanted, top}
use Rattle.bp_text.specs.Tree.{number_at, text_at, list_at, values_of}
use Rattle.bp_text.specs.Shape.{has, has_only, may_have, is_of, passes, is_name}
use Rattle.bp_text.specs.Field.{bytes_at, eid_at, hex_at, whole_at, wholes_at, optional}
use Rattle.bp_text.specs.Top.{version_at, is_short}
use Rattle.bp_text.specs.Entries.{entries_at}
use Rattle.serde_json.specs.Find.{get}
use Rattle.bpsec_plan.specs.declared.item.Cover.{Cover}
use Rattle.bpsec_plan.specs.declared.item.Item.{Item}
use Rattle.bpsec_plan.specs.declared.item.Item.TheVariants as items
use Rattle.bpsec_plan.specs.Items.{are_targets, is_name_if_any, is_cover, is_integrity_variant, is_cipher_variant, is_item, is_plan}
use Rattle.bp_crc.specs.Item.{check_of}
use Rattle.bpsec_plan.specs.PlanText.{most, is_frame_shape, frame_at, is_cover_shape, cover_at, keys_at, algorithm_at, has_bib_keys, is_bib_shape, bib_at, has_bcb_keys, is_vector_shape, is_bcb_shape, flag_or_false, bcb_at, is_split_shape, split_at, item_by, item_at, is_plan_shape, plan_at}
use Rattle.bpsec_plan.proofs.Steps.{bind_ok, at_entry_ok, unless_ok, wanted_ok, ok_is, both_true, and_true, name_at, hex_within}
use Rattle.bpsec_plan.proofs.Fields.{number_within, optional_name, targets_kept}

-- ---- items

abbrev Frame : Type 0
Frame = ℕ × ℕ × CheckKind × List ℕ

frame_means : (d : Data) (f : Frame) → is_frame_shape d ≡ true → frame_at d ≡ Ok f → are_targets f.3 ≡ true
unfolding is_frame_shape frame_at
frame_means d f shape e =
    let block = bind_ok (whole_at (codes "block") d) _ f e in
    let flags = bind_ok (whole_at (codes "flags") d) _ f block.2 in
    let crc = bind_ok (whole_at (codes "crc") d) _ f flags.2 in
    let targets = bind_ok (wholes_at (codes "targets") d) _ f crc.2 in
    let a = both_true (has (Number most) (codes "block") d) _ shape in
    let b = both_true (has (Number most) (codes "flags") d) _ a.1 in
    let c = both_true (has (Number 2) (codes "crc") d) (has (Distinct 64) (codes "targets") d) b.1 in
    subst (λ (g : Frame). are_targets g.3 ≡ true) (ok_is {E = TextReason} (block.0, flags.0, check_of crc.0, targets.0) f targets.2) (targets_kept (codes "targets") d targets.0 c.1 targets.1)

-- a cover with the variant that the text has
record Covers (d : Data) (cover : Cover) : Type 0 where
  pub kept : is_cover cover ≡ true
  pub variant : number_at (codes "variant") d ≡ Some cover.variant

cover_means : (d : Data) (cover : Cover) → is_cover_shape d ≡ true → cover_at d ≡ Ok cover → Covers d cover
unfolding is_cover_shape cover_at keys_at algorithm_at
cover_means d cover shape e =
    let frame = bind_ok (frame_at d) _ cover e in
    let source = bind_ok (eid_at (codes "source") d) _ cover frame.2 in
    let keys = bind_ok (keys_at d) _ cover source.2 in
    let key = bind_ok (bytes_at (codes "key") d) _ keys.0 keys.1 in
    let wrapped = bind_ok (optional bytes_at (codes "wrapped_with") d) (λ w. Ok (key.0, w)) keys.0 key.2 in
    let algorithm = bind_ok (algorithm_at d) _ cover keys.2 in
    let variant = bind_ok (whole_at (codes "variant") d) _ algorithm.0 algorithm.1 in
    let scope = bind_ok (whole_at (codes "scope") d) (λ n. Ok (variant.0, n)) algorithm.0 variant.2 in
    let a = both_true (is_frame_shape d) _ shape in
    let b = both_true (has Text (codes "source") d) _ a.1 in
    let c = both_true (has Name (codes "key") d) _ b.1 in
    let f = both_true (has (Number 65535) (codes "scope") d) (may_have Name (codes "wrapped_with") d) c.1 in
    let named = name_at (codes "key") d key.0 c.0 (wanted_ok WrongShape _ key.0 key.1) in
    let pair : (key.0, wrapped.0) ≡ keys.0 = ok_is {E = TextReason} (key.0, wrapped.0) keys.0 wrapped.2 in
    let numbers : (variant.0, scope.0) ≡ algorithm.0 = ok_is {E = TextReason} (variant.0, scope.0) algorithm.0 scope.2 in
    let named_keys = subst (λ (k : List ℕ × Option (List ℕ)). (is_name k.0 ≡ true) × (is_name_if_any k.1 ≡ true)) pair (named, optional_name (codes "wrapped_with") d wrapped.0 f.1 wrapped.1) in
    let bits = subst (λ (n : ℕ × ℕ). (number_at (codes "variant") d ≡ Some n.0) × (nat_le n.1 65535 ≡ true)) numbers (wanted_ok WrongShape _ variant.0 variant.1, number_within 65535 (codes "scope") d scope.0 f.0 scope.1) in
    let all = and_true _ _ (frame_means d frame.0 a.0 frame.1) (and_true _ _ named_keys.0 (and_true _ _ named_keys.1 bits.1)) in
    subst (Covers d) (ok_is {E = TextReason} _ cover algorithm.2) (record { kept = all; variant = bits.0 })

variant_passes : (test : ℕ → Bool) (o : Option ℕ) (v : ℕ) → passes test o ≡ true → o ≡ Some v → test v ≡ true
variant_passes test (Some w) v h e = let same : w ≡ v = cc in subst (λ (n : ℕ). test n ≡ true) same h
variant_passes test None v h e = absurd cc

bib_means : (d : Data) (x : Item) → bib_at d ≡ Ok x → is_item x ≡ true
unfolding bib_at is_bib_shape
bib_means d x e =
    let s = bind_ok (unless (is_bib_shape d) WrongShape) _ x e in
    let c = bind_ok (cover_at d) (λ cover. Ok (items.Bib cover)) x s.2 in
    let a = both_true (has_bib_keys d) _ (unless_ok _ WrongShape s.0 s.1) in
    let b = both_true (is_cover_shape d) (passes is_integrity_variant (number_at (codes "variant") d)) a.1 in
    let covers = cover_means d c.0 b.0 c.1 in
    subst (λ (y : Item). is_item y ≡ true) (ok_is {E = TextReason} (items.Bib c.0) x c.2) (and_true _ _ covers.kept (variant_passes is_integrity_variant _ c.0.variant b.1 covers.variant))

bcb_means : (d : Data) (x : Item) → bcb_at d ≡ Ok x → is_item x ≡ true
unfolding bcb_at is_bcb_shape
bcb_means d x e =
    let s = bind_ok (unless (is_bcb_shape d) WrongShape) _ x e in
    let c = bind_ok (cover_at d) _ x s.2 in
    let v = bind_ok (hex_at 8 16 (codes "iv") d) _ x c.2 in
    let a = both_true (has_bcb_keys d) _ (unless_ok _ WrongShape s.0 s.1) in
    let b = both_true (is_cover_shape d) _ a.1 in
    let f = both_true (passes is_cipher_variant (number_at (codes "variant") d)) (is_vector_shape d) b.1 in
    let covers = cover_means d c.0 b.0 c.1 in
    let len = hex_within 8 16 (codes "iv") d v.0 v.1 in
    let all = and_true _ _ covers.kept (and_true _ _ (variant_passes is_cipher_variant _ c.0.variant f.0 covers.variant) (and_true _ _ len.0 len.1)) in
    subst (λ (y : Item). is_item y ≡ true) (ok_is {E = TextReason} (items.Bcb c.0 v.0 (flag_or_false (codes "shared_iv") d) (flag_or_false (codes "tag_in_body") d)) x v.2) all

split_means : (d : Data) (x : Item) → split_at d ≡ Ok x → is_item x ≡ true
unfolding split_at is_split_shape
split_means d x e =
    let s = bind_ok (unless (is_split_shape d) WrongShape) _ x e in
    let f = bind_ok (frame_at d) _ x s.2 in
    let from = bind_ok (whole_at (codes "from") d) _ x f.2 in
    let a = both_true (has_only (codes "service" ∷ codes "block" ∷ codes "flags" ∷ codes "crc" ∷ codes "from" ∷ codes "targets" ∷ []) d) _ (unless_ok _ WrongShape s.0 s.1) in
    let b = both_true (is_frame_shape d) (has (Number most) (codes "from") d) a.1 in
    subst (λ (y : Item). is_item y ≡ true) (ok_is {E = TextReason} _ x from.2) (frame_means d f.0 b.0 f.1)

chosen : (b : Bool) (r s : Result Item TextReason) (x : Item) → (r ≡ Ok x → is_item x ≡ true) → (s ≡ Ok x → is_item x ≡ true) → cond b r s ≡ Ok x → is_item x ≡ true
chosen true r s x h k e = h e
chosen false r s x h k e = k e

item_by_means : (word : Option (List ℕ)) (d : Data) (x : Item) → item_by word d ≡ Ok x → is_item x ≡ true
item_by_means None d x e = absurd cc
item_by_means (Some word) d x e =
    chosen (bytes_eq word (codes "bib")) (bib_at d) _ x (bib_means d x) (chosen (bytes_eq word (codes "bcb")) (bcb_at d) _ x (bcb_means d x)
    (chosen (bytes_eq word (codes "split")) (split_at d) (Err UnknownWord) x (split_means d x) (λ f. absurd cc))) e

pub item_means : (d : Data) (x : Item) → item_at d ≡ Ok x → is_item x ≡ true
unfolding item_at
item_means d x e = item_by_means (text_at (codes "service") d) d x e

-- ---- plans

-- a list that isn't empty
some_items : (d : Data) (ds : List Data) → has (Array 1) (codes "items") d ≡ true → list_at (codes "items") d ≡ Some ds → nat_le 1 (length ds) ≡ true
unfolding has is_of
some_items d ds = go (get (codes "items") d)
  where
    inner : (xs : Option (List Data)) → passes (λ ys. nat_le 1 (length ys)) xs ≡ true → xs ≡ Some ds → nat_le 1 (length ds) ≡ true
    inner (Some xs) h e = let same : xs ≡ ds = cc in subst (λ (ys : List Data). nat_le 1 (length ys) ≡ true) same h
    inner None h e = absurd cc

    go : (o : Option Data) → passes (is_of (Array 1)) o ≡ true → option_and_then values_of o ≡ Some ds → nat_le 1 (length ds) ≡ true
    go (Some v) h e = inner (values_of v) h e
    go None h e = absurd cc

pub plan_means : ((ds : List Data) (xs : List Item) → entries_at item_at 0 [] ds ≡ Ok xs → length xs ≡ length ds)
    → ((ds : List Data) (xs : List Item) → entries_at item_at 0 [] ds ≡ Ok xs → list_all is_item xs ≡ true)
    → (d : Data) (xs : List Item) → plan_at d ≡ Ok xs → is_plan xs ≡ true
unfolding plan_at is_plan is_plan_shape
plan_means all pass d xs e =
    let v = bind_ok (top (version_at (1 ∷ []) d)) _ xs e in
    let s = bind_ok (top (unless (is_plan_shape d) WrongShape)) _ xs v.2 in
    let m = bind_ok (top (unless (is_short 62 (codes "items") d) TooMany)) _ xs s.2 in
    let l = bind_ok (top (wanted WrongShape (list_at (codes "items") d))) _ xs m.2 in
    let shape = both_true (has_only (codes "version" ∷ codes "items" ∷ []) d) (has (Array 1) (codes "items") d) (unless_ok _ WrongShape s.0 (at_entry_ok _ _ s.0 s.1)) in
    let short : is_short 62 (codes "items") d ≡ true = unless_ok _ TooMany m.0 (at_entry_ok _ _ m.0 m.1) in
    let list : list_at (codes "items") d ≡ Some l.0 = wanted_ok WrongShape _ l.0 (at_entry_ok _ _ l.0 l.1) in
    let len : length xs ≡ length l.0 = all l.0 xs l.2 in
    let few : nat_le (length xs) 62 ≡ true = ap (λ (n : ℕ). nat_le n 62) len ∙ (sym (ap (λ (o : Option (List Data)). nat_le (length (unwrap_or o [])) 62) list) ∙ short) in
    let some : nat_le 1 (length xs) ≡ true = ap (λ (n : ℕ). nat_le 1 n) len ∙ some_items d l.0 shape.1 list in
    and_true _ _ some (and_true _ _ few (pass l.0 xs l.2))
