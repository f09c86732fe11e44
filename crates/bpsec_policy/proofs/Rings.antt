-- What is read as a key ring is one.
use Rattle.std.proofs.Common.{◌≡◌, ℕ, true, List, [], ◌∷◌, map, length, Option, Some, Ok, sym, ◌∙◌, ap, subst}
use Rattle.std.specs.Prelude.{nat_le, codes, unwrap_or}
use Rattle.std.specs.List.{IsDistinct}
use Rattle.std.specs.Str.{bytes_eq}
use Rattle.serde_json.specs.Data.{Data}
use Rattle.bp_text.specs.declared.fault.TextReason.{TextReason}
use Rattle.bp_text.specs.declared.fault.TextReason.TheVariants.{WrongShape, TooMany}
use Rattle.bp_text.specs.declared.shape.Kind.TheVariants.{Text, Name}
use Rattle.bp_text.specs.Fault.{unless, wanted, top}
use Rattle.bp_text.specs.Tree.{text_at, list_at}
use Rattle.bp_text.specs.Shape.{has, has_only}
use Rattle.bp_text.specs.Field.{bytes_at, hex_at}
use Rattle.bp_text.specs.Top.{version_at, is_short}
use Rattle.bp_text.specs.Entries.{name_of}
use Rattle.bpsec_policy.specs.declared.ring.NamedKey.{NamedKey}
use Rattle.bpsec_policy.specs.Ring.{is_named_key, is_ring}
use Rattle.bpsec_policy.specs.RingText.{is_key_shape, key_at, is_ring_shape, ring_at}
use Rattle.bpsec_policy.proofs.EntryLaws.{EntryLaws}
use Rattle.bpsec_policy.proofs.Differing.{all_differ-IsDistinct}
use Rattle.bpsec_policy.proofs.Steps.{bind_ok, at_entry_ok, unless_ok, wanted_ok, ok_is, both_true, and_true, name_at, hex_within}

-- ---- keys

key_parts : (d : Data) (x : NamedKey) → key_at d ≡ Ok x → (is_named_key x ≡ true) × (name_of d ≡ Some x.name)
unfolding key_at is_key_shape
key_parts d x e =
    let s = bind_ok (unless (is_key_shape d) WrongShape) _ x e in
    let n = bind_ok (bytes_at (codes "name") d) _ x s.2 in
    let k = bind_ok (hex_at 16 64 (codes "key") d) _ x n.2 in
    let shape = unless_ok (is_key_shape d) WrongShape s.0 s.1 in
    let parts = both_true (has_only (codes "name" ∷ codes "key" ∷ []) d) _ shape in
    let kinds = both_true (has Name (codes "name") d) (has Text (codes "key") d) parts.1 in
    let text : text_at (codes "name") d ≡ Some n.0 = wanted_ok WrongShape _ n.0 n.1 in
    let same : record { name = n.0; key = k.0 } ≡ x = ok_is {E = TextReason} _ x k.2 in
    let len = hex_within 16 64 (codes "key") d k.0 k.1 in
    let named = name_at (codes "name") d n.0 kinds.0 text in
    subst (λ (y : NamedKey). (is_named_key y ≡ true) × (name_of d ≡ Some y.name)) same (and_true _ _ named (and_true _ _ len.0 len.1), text)

-- ---- rings

pub ring_means : EntryLaws key_at → (d : Data) (keys : List NamedKey) → ring_at d ≡ Ok keys → is_ring keys ≡ true
unfolding ring_at is_ring
ring_means laws d keys e =
    let v = bind_ok (top (version_at (1 ∷ []) d)) _ keys e in
    let s = bind_ok (top (unless (is_ring_shape d) WrongShape)) _ keys v.2 in
    let m = bind_ok (top (unless (is_short 256 (codes "keys") d) TooMany)) _ keys s.2 in
    let l = bind_ok (top (wanted WrongShape (list_at (codes "keys") d))) _ keys m.2 in
    let short : is_short 256 (codes "keys") d ≡ true = unless_ok _ TooMany m.0 (at_entry_ok _ _ m.0 m.1) in
    let list : list_at (codes "keys") d ≡ Some l.0 = wanted_ok WrongShape _ l.0 (at_entry_ok _ _ l.0 l.1) in
    let few : nat_le (length l.0) 256 ≡ true = sym (ap (λ (o : Option (List Data)). nat_le (length (unwrap_or o [])) 256) list) ∙ short in
    let len : length keys ≡ length l.0 = laws.all 0 [] l.0 keys l.2 in
    let few_keys : nat_le (length keys) 256 ≡ true = ap (λ (n : ℕ). nat_le n 256) len ∙ few in
    let pass = laws.pass 0 [] l.0 keys is_named_key (λ c x h. (key_parts c x h).0) l.2 in
    let names = laws.names 0 [] l.0 keys (λ k. k.name) (λ c x h. (key_parts c x h).1) l.2 in
    let differ = all_differ-IsDistinct (map (λ (k : NamedKey). k.name) keys) (subst (IsDistinct bytes_eq) names (laws.once 0 [] l.0 keys l.2)) in
    and_true _ _ few_keys (and_true _ _ pass differ)
