-- Bytes that are whole parts, and then something else; and readers that stop behind whole parts.
use Rattle.std.proofs.Common.{◌≡◌, ◌≢◌, ℕ, inl, Bool, true, false, cond, List, [], ◌∷◌, ◌++◌, Result, Ok, Err, refl, sym, ◌∙◌, ap, append_assoc}
use Rattle.std.specs.List.{All, flat_map}
use Rattle.std.proofs.lemmas.Grind.{flat_map-append}
use Rattle.std.proofs.lemmas.List.Elements.{All-append, All-nil, All-cons}
use Rattle.cbor_profile.specs.declared.fault.Reason.{Reason}
use Rattle.cbor_profile.specs.declared.fault.Reason.TheVariants.{Truncated}
use Rattle.whole_tokens.specs.Tokens.{Part, bytes_of, IsPart, IsLast, IsUnfinished}

-- the bytes of some parts
abbrev pub text_of : List Part → List ℕ
text_of parts = flat_map bytes_of parts

-- The bytes are whole parts, and then bytes of a kind.
pub record Parted (Left : List ℕ → Type 0) (bytes : List ℕ) : Type 0 where
  pub parts : List Part
  pub left : List ℕ
  pub are : All IsPart parts
  pub is : bytes ≡ text_of parts ++ left
  pub ends : Left left

pub no_parts : (Left : List ℕ → Type 0) (bytes : List ℕ) → Left bytes → Parted Left bytes
no_parts Left bytes ends = record { parts = []; left = bytes; are = All-nil IsPart; is = refl; ends = ends }

-- one part more before them
pub behind : (Left : List ℕ → Type 0) (part : Part) (bytes rest : List ℕ) → IsPart part → bytes ≡ bytes_of part ++ rest → Parted Left rest → Parted Left bytes
behind Left part bytes rest fits is p = record {
  parts = part ∷ p.parts;
  left = p.left;
  are = All-cons IsPart part p.parts fits p.are;
  is = is ∙ (ap (λ (t : List ℕ). bytes_of part ++ t) p.is ∙ sym (append_assoc (bytes_of part) (text_of p.parts) p.left));
  ends = p.ends;
}

pub one_part : (Left : List ℕ → Type 0) (part : Part) (bytes rest : List ℕ) → IsPart part → bytes ≡ bytes_of part ++ rest → Left rest → Parted Left bytes
one_part Left part bytes rest fits is ends = behind Left part bytes rest fits is (no_parts Left rest ends)

pub parted_then : (First Second : List ℕ → Type 0) (bytes : List ℕ) → Parted First bytes → ((left : List ℕ) → First left → Parted Second left) → Parted Second bytes
parted_then First Second bytes p next =
    let q = next p.left p.ends in
    record {
      parts = p.parts ++ q.parts;
      left = q.left;
      are = All-append IsPart p.parts q.parts p.are q.are;
      is = p.is ∙ (ap (λ (t : List ℕ). text_of p.parts ++ t) q.is
          ∙ (sym (append_assoc (text_of p.parts) (text_of q.parts) q.left) ∙ ap (λ (t : List ℕ). t ++ q.left) (sym (flat_map-append bytes_of p.parts q.parts))));
      ends = q.ends;
    }

-- ---- where a reader stops

-- Reading stops within these bytes, for this reason: behind what may be last, where such bytes are left; or there is less
-- than a token.
pub record Stops (reason : Reason) (Here : List ℕ → Type 0) (bytes : List ℕ) : Type 0 where
  pub placed : reason ≢ Truncated → (last : List ℕ) × (more : List ℕ) × IsLast last × (bytes ≡ last ++ more) × Here more
  pub early : reason ≡ Truncated → IsUnfinished bytes

-- It stops where these bytes begin.
pub stops_here : (reason : Reason) (Here : List ℕ → Type 0) (bytes : List ℕ) → (reason ≢ Truncated → Here bytes) → (reason ≡ Truncated → IsUnfinished bytes) → Stops reason Here bytes
stops_here reason Here bytes here early = record { placed = λ other. ([], bytes, inl refl, refl, here other); early = early }

-- what a reader leaves behind whole parts: with a value, or where it failed
abbrev pub Outcome : {A E : Type 0} → (A → List ℕ → Type 0) → (E → List ℕ → Type 0) → Result A E → List ℕ → Type 0
Outcome Done Failed (Ok x) left = Done x left
Outcome Done Failed (Err e) left = Failed e left

abbrev pub Reads : {A E : Type 0} → (A → List ℕ → Type 0) → (E → List ℕ → Type 0) → List ℕ → Result A E → Type 0
Reads Done Failed bytes r = Parted (Outcome Done Failed r) bytes

pub either : {A E : Type 0} (Done : A → List ℕ → Type 0) (Failed : E → List ℕ → Type 0) (bytes : List ℕ) (b : Bool) (x y : Result A E) → (b ≡ true → Reads Done Failed bytes x) → (b ≡ false → Reads Done Failed bytes y) → Reads Done Failed bytes (cond b x y)
either Done Failed bytes true x y f g = f refl
either Done Failed bytes false x y f g = g refl
