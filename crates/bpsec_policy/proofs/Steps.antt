-- Steps that gave a value, and the fields that they read.
use Rattle.std.proofs.Common.{◌≡◌, ℕ, Bool, true, false, ◌&&◌, cond, List, length, Option, Some, None, Result, Ok, Err, refl, subst}
use Rattle.std.specs.Prelude.{nat_le, option_and_then}
use Rattle.cbor_profile.specs.Step.{◌>>=◌}
use Rattle.hex.specs.Hex.{decode_of}
use Rattle.hex.specs.declared.error.FromHexError.{FromHexError}
use Rattle.serde_json.specs.Data.{Data}
use Rattle.serde_json.specs.Find.{get, as_str}
use Rattle.bp_text.specs.declared.fault.TextReason.{TextReason}
use Rattle.bp_text.specs.declared.fault.TextReason.TheVariants.{WrongShape, BadHex}
use Rattle.bp_text.specs.declared.shape.Kind.TheVariants.{Name}
use Rattle.bp_text.specs.Fault.{unless, wanted, at_entry}
use Rattle.bp_text.specs.Tree.{text_at}
use Rattle.bp_text.specs.Shape.{is_of, has, is_name, passes}
use Rattle.bp_text.specs.Field.{hex_at, within}

-- the step before one that gave a value
pub bind_ok : {A B E : Type 0} (r : Result A E) (f : A → Result B E) (y : B) → (r >>= f) ≡ Ok y → (x : A) × (r ≡ Ok x) × (f x ≡ Ok y)
bind_ok (Ok x) f y e = (x, refl, e)
bind_ok (Err d) f y e = absurd cc

pub at_entry_ok : {A : Type 0} (entry : Option ℕ) (r : Result A TextReason) (x : A) → at_entry entry r ≡ Ok x → r ≡ Ok x
at_entry_ok entry (Ok y) x e = cc
at_entry_ok entry (Err reason) x e = absurd cc

pub unless_ok : (b : Bool) (reason : TextReason) (u : Unit {0}) → unless b reason ≡ Ok u → b ≡ true
unless_ok true reason u e = refl
unless_ok false reason u e = absurd cc

pub wanted_ok : {A : Type 0} (reason : TextReason) (o : Option A) (x : A) → wanted reason o ≡ Ok x → o ≡ Some x
wanted_ok reason (Some y) x e = cc
wanted_ok reason None x e = absurd cc

pub ok_is : {A E : Type 0} (x y : A) → (let r : Result A E = Ok x in r ≡ Ok y) → x ≡ y
ok_is x y e = cc

pub both_true : (a b : Bool) → (a && b) ≡ true → (a ≡ true) × (b ≡ true)
both_true true b e = (refl, e)
both_true false b e = absurd cc

pub and_true : (a b : Bool) → a ≡ true → b ≡ true → (a && b) ≡ true
and_true a b h k = rw (h, k) refl

-- ---- fields

-- the text of a field that is a name
pub name_at : (key : List ℕ) (d : Data) (text : List ℕ) → has Name key d ≡ true → text_at key d ≡ Some text → is_name text ≡ true
unfolding has is_of
name_at key d text h e = at (get key d) h e
  where
    inner : (o : Option (List ℕ)) → o ≡ Some text → passes is_name o ≡ true → is_name text ≡ true
    inner (Some t) e h = let same : t ≡ text = cc in subst (λ (x : List ℕ). is_name x ≡ true) same h
    inner None e h = absurd cc

    at : (o : Option Data) → passes (is_of Name) o ≡ true → option_and_then as_str o ≡ Some text → is_name text ≡ true
    at (Some v) h e = inner (as_str v) e h
    at None h e = absurd cc

-- the bytes of a hexadecimal field are within its bounds
pub hex_within : (least most : ℕ) (key : List ℕ) (d : Data) (bytes : List ℕ) → hex_at least most key d ≡ Ok bytes
    → (nat_le least (length bytes) ≡ true) × (nat_le (length bytes) most ≡ true)
unfolding hex_at
hex_within least most key d bytes e =
    let a = bind_ok (wanted WrongShape (text_at key d)) _ bytes e in
    at (decode_of a.0) a.2
  where
    chosen : (b : Bool) (ys : List ℕ) → cond b (Ok ys) (Err BadHex) ≡ Ok bytes → (b ≡ true) × (ys ≡ bytes)
    chosen true ys h = (refl, cc)
    chosen false ys h = absurd cc

    at : (r : Result (List ℕ) FromHexError) → within least most r ≡ Ok bytes → (nat_le least (length bytes) ≡ true) × (nat_le (length bytes) most ≡ true)
    at (Ok ys) h =
        let c = chosen (nat_le least (length ys) && nat_le (length ys) most) ys h in
        subst (λ (zs : List ℕ). (nat_le least (length zs) ≡ true) × (nat_le (length zs) most ≡ true)) c.1 (both_true _ _ c.0)
    at (Err f) h = absurd cc
