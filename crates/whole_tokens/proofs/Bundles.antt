-- Reading a bundle stops behind whole tokens.
use Rattle.std.proofs.Common.{◌≡◌, ◌≢◌, ℕ, ◌+◌, inl, inr, List, [], ◌∷◌, ◌++◌, length, take, Result, Ok, Err, refl, sym, ◌∙◌, ap, subst, append_assoc, arith}
use Rattle.std.proofs.lemmas.List.{length-append, take_at}
use Rattle.cbor_profile.specs.declared.fault.Fault.{Fault}
use Rattle.cbor_profile.specs.declared.fault.Reason.TheVariants as reasons
use Rattle.cbor_profile.specs.Step.{◌>>=◌}
use Rattle.bp_primary.specs.declared.primary.Primary.{Primary}
use Rattle.bp_blocks.specs.declared.block.Block.{Block}
use Rattle.bp_bundle.specs.Shape.{Contents}
use Rattle.bp_bundle.specs.Tokens.{Cursor, stops}
use Rattle.bp_bundle.specs.FirstFault.{after_byte, begin_at, primary_at, blocks_at, front_at, bundle_at, read_bundle, end_of_input, read_only}
use Rattle.bp_bundle.proofs.HeadsAsSpelled.{IsBytes, TokenLaws, here}
use Rattle.correct_prefix.proofs.StopsBehindPrefix.{stopped}
use Rattle.whole_tokens.specs.Tokens.{begun, IsLast, AreTokens, EndWithinToken}
use Rattle.whole_tokens.proofs.Parted.{text_of, Parted, no_parts, Reads}
use Rattle.whole_tokens.proofs.Cursors.{Stands, behind_value, FaultAt, next, bind_reads, ByteRead, byte_read}
use Rattle.whole_tokens.proofs.Fields.{primary_reads}
use Rattle.whole_tokens.proofs.Blocks.{EndsBundle, blocks_reads}

-- what a reader of these bytes says of tokens: what stands before a fault, or before what is left
abbrev pub Answers : List ℕ → Result (Contents × Cursor) Fault → Type 0
Answers bytes (Ok x) = AreTokens (take x.1.at bytes)
Answers bytes (Err fault) = (fault.reason ≢ reasons.Truncated → AreTokens (take fault.place bytes)) × (fault.reason ≡ reasons.Truncated → EndWithinToken bytes)

-- ---- a place behind whole tokens

-- the bytes before a place that has what is left behind it
before_place : (bytes front more : List ℕ) (place : ℕ) → bytes ≡ front ++ more → place + length more ≡ length bytes → take place bytes ≡ front
before_place bytes front more place is within =
    let len : length front ≡ place = omega (arith, within, ap length is ∙ length-append front more) in
    ap (take place) is ∙ take_at front more place len

tokens_before : (bytes rest more last : List ℕ) (place : ℕ) (p : Parted (λ left. left ≡ last ++ more) rest) → bytes ≡ 0x9f ∷ rest → IsLast last → place + length more ≡ length bytes → AreTokens (take place bytes)
tokens_before bytes rest more last place p is ends within =
    let whole : bytes ≡ begun p.parts last ++ more = is ∙ ap (λ (t : List ℕ). 0x9f ∷ t) (p.is ∙ (ap (λ (t : List ℕ). text_of p.parts ++ t) p.ends ∙ sym (append_assoc (text_of p.parts) last more))) in
    inr (p.parts, last, p.are, ends, before_place bytes (begun p.parts last) more place whole within)

-- ---- behind the first byte

abbrev with_blocks : Primary → List Block × Cursor → Result (Contents × Cursor) Fault
with_blocks primary blocks = Ok (record { primary = primary; blocks = blocks.0 }, blocks.1)

parts_reads : (laws : TokenLaws) (total : ℕ) (cursor : Cursor) → Stands total cursor
    → Reads (EndsBundle total) (FaultAt total) cursor.rest (primary_at cursor >>= λ primary. blocks_at 65 [] primary.1 >>= with_blocks primary.0)
parts_reads laws total cursor s =
    next total behind_value _ cursor.rest (primary_at cursor) _ (primary_reads laws total cursor s)
    (λ primary p. bind_reads total (EndsBundle total) (EndsBundle total) primary.1.rest (blocks_at 65 [] primary.1) (with_blocks primary.0) (blocks_reads laws total 65 [] primary.1 p) (λ blocks left e. no_parts _ left e))

answers_behind : (bytes rest : List ℕ) (r : Result (Contents × Cursor) Fault) → bytes ≡ 0x9f ∷ rest → Reads (EndsBundle (length bytes)) (FaultAt (length bytes)) rest r → Answers bytes r
answers_behind bytes rest (Ok x) is p =
    tokens_before bytes rest x.1.rest (0xff ∷ []) x.1.at (record { parts = p.parts; left = p.left; are = p.are; is = p.is; ends = p.ends.1 }) is (inr (inr refl)) p.ends.0.within
answers_behind bytes rest (Err fault) is p = (
  λ other.
      let q = p.ends.placed other in
      tokens_before bytes rest q.1 q.0 fault.place (record { parts = p.parts; left = p.left; are = p.are; is = p.is; ends = q.3 }) is q.2 q.4,
  λ early. inr (p.parts, p.left, p.are, p.ends.early early, is ∙ ap (λ (t : List ℕ). 0x9f ∷ t) p.is),
)

-- ---- the whole

pub bundle_answers : (laws : TokenLaws) (bytes : List ℕ) → IsBytes bytes → Answers bytes (read_bundle bytes)
unfolding read_bundle bundle_at front_at begin_at
bundle_answers laws bytes fits = by (after_byte 0x9f (stops (here 0 bytes) reasons.NotBundle) (here 0 bytes) bytes) (byte_read (length bytes) 0x9f reasons.NotBundle (here 0 bytes) bytes (λ is. absurd cc) start refl)
  where
    start : Stands (length bytes) (here 0 bytes)
    start = record { within = omega arith; fits = fits }

    by : (r : Result Cursor Fault) → ByteRead (length bytes) 0x9f (here 0 bytes) r
        → Answers bytes ((r >>= primary_at) >>= λ primary. blocks_at 65 [] primary.1 >>= with_blocks primary.0)
    by (Ok after) read = answers_behind bytes after.rest _ read.1 (parts_reads laws (length bytes) after read.0)
    by (Err fault) read = (λ other. inl (ap (λ (n : ℕ). take n bytes) (read.0 other)), λ early. inl (read.1 early))

-- ---- a whole input

-- A fault of a whole input is that of its bundle, or stands behind it.
pub input_answers : (laws : TokenLaws) (bytes : List ℕ) (fault : Fault) → IsBytes bytes → read_only bytes ≡ Err fault → fault.reason ≢ reasons.Truncated → AreTokens (take fault.place bytes)
unfolding read_only
input_answers laws bytes fault fits e other = by (read_bundle bytes) (bundle_answers laws bytes fits) e
  where
    end_by : (x : Contents × Cursor) (rest : List ℕ) → AreTokens (take x.1.at bytes) → end_of_input x.0 x.1 rest ≡ Err fault → AreTokens (take fault.place bytes)
    end_by x [] whole e = absurd cc
    end_by x (first ∷ rest) whole e = subst (λ (n : ℕ). AreTokens (take n bytes)) (sym (stopped {A = Contents} x.1 reasons.Trailing fault e).0) whole

    by : (r : Result (Contents × Cursor) Fault) → Answers bytes r → (r >>= λ x. end_of_input x.0 x.1 x.1.rest) ≡ Err fault → AreTokens (take fault.place bytes)
    by (Ok x) whole e = end_by x x.1.rest whole e
    by (Err found) answers e =
        let same : found ≡ fault = cc in
        subst (λ (f : Fault). AreTokens (take f.place bytes)) same (answers.0 (λ early. other (ap (λ (f : Fault). f.reason) (sym same) ∙ early)))
