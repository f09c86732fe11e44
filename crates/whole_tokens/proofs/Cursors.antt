-- Steps of reading a bundle stop behind whole parts.
use Rattle.std.proofs.Common.{◌≡◌, ◌≢◌, ℕ, ◌+◌, ◌-◌, ◌^◌, ◌<◌, inl, inr, ◌⊎◌, Bool, true, false, cond, eqb, List, [], ◌∷◌, ◌++◌, length, drop, Result, Ok, Err, refl, sym, ◌∙◌, ap, subst, append_assoc, arith}
use Rattle.std.proofs.lemmas.Bool.{eqb-true}
use Rattle.std.proofs.lemmas.List.{length-append, drop_at}
use Rattle.cbor_profile.specs.Head.{head_spelling}
use Rattle.cbor_profile.specs.Put.{uint, byte_string, array_head}
use Rattle.cbor_profile.specs.Step.{◌>>=◌}
use Rattle.cbor_profile.specs.declared.fault.Fault.{Fault}
use Rattle.cbor_profile.specs.declared.fault.Reason.{Reason}
use Rattle.cbor_profile.specs.declared.fault.Reason.TheVariants as reasons
use Rattle.bp_eid.specs.declared.eid.Eid.{Eid}
use Rattle.bp_eid.specs.declared.stop.Stop.{Stop}
use Rattle.bp_eid.specs.Reading as reading
use Rattle.bp_blocks.specs.declared.block.Block.{Block}
use Rattle.bp_bundle.specs.Tokens.{Cursor, place_of, stops, major_of, argument_at}
use Rattle.bp_bundle.specs.FirstFault.{past, after_byte, content_at, after_id, id_at}
use Rattle.bp_bundle.proofs.HeadsAsSpelled.{IsBytes, TokenLaws, Took, ReadsArgument, argument_means}
use Rattle.bp_bundle.proofs.ReadPrimaryIsSpelled.{take_drop_bytes, content_means}
use Rattle.correct_prefix.proofs.StopsBehindPrefix as reached
use Rattle.correct_prefix.proofs.StopsBehindPrefix.{StopsHere, argument_here, content_unfinished}
use Rattle.correct_prefix.proofs.IdStopsBehindPrefix.{placed}
use Rattle.whole_tokens.specs.Tokens.{IsLast}
use Rattle.whole_tokens.specs.Tokens.Part.{Number, Array}
use Rattle.whole_tokens.proofs.Parted.{text_of, no_parts, behind, parted_then, Stops, stops_here, Outcome, Reads}
use Rattle.whole_tokens.proofs.Ids.{StopsAt, Leaves, unfinished_of, id_reads}

-- ---- a type that the crate below doesn't name to others: that of the tokens that its reader of heads takes

abbrev token_type : {T : Type 0} → (List Block → T → Cursor → Result (ℕ × Cursor) Fault) → Type 0
token_type {T} reader = T

abbrev pub Token : Type 0
Token = token_type argument_at

-- ---- where a reader stands

-- It stands within so many bytes.
pub record Stands (total : ℕ) (cursor : Cursor) : Type 0 where
  pub within : cursor.at + length cursor.rest ≡ total
  pub fits : IsBytes cursor.rest

pub stands_after : (total : ℕ) (text : List ℕ) (cursor after : Cursor) → Stands total cursor → Took text cursor after → Stands total after
stands_after total text cursor after s took = record {
  within = omega (arith, s.within, took.moved, ap length took.parts ∙ length-append text after.rest);
  fits = took.fits;
}

-- what was read ends at a cursor, where these bytes are left
abbrev pub Ends : {A : Type 0} → (A → Cursor) → ℕ → A → List ℕ → Type 0
Ends cursor_of total x left = Stands total (cursor_of x) × ((cursor_of x).rest ≡ left)

-- the cursor behind a value, and a cursor alone
abbrev pub behind_value : {A : Type 0} → A × Cursor → Cursor
behind_value x = x.1

abbrev pub itself : Cursor → Cursor
itself cursor = cursor

-- The fault's place is behind so many bytes.
abbrev pub FaultAt : ℕ → Fault → List ℕ → Type 0
FaultAt total fault = Stops fault.reason (λ more. fault.place + length more ≡ total)

-- ---- two steps, the second from where the first ends

pub bind_reads : {A B : Type 0} (total : ℕ) (DoneA : A → List ℕ → Type 0) (DoneB : B → List ℕ → Type 0) (bytes : List ℕ) (r : Result A Fault) (f : A → Result B Fault) → Reads DoneA (FaultAt total) bytes r
    → ((x : A) (left : List ℕ) → DoneA x left → Reads DoneB (FaultAt total) left (f x)) → Reads DoneB (FaultAt total) bytes (r >>= f)
bind_reads total DoneA DoneB bytes (Ok x) f first second = parted_then (DoneA x) (Outcome DoneB (FaultAt total) (f x)) bytes first (λ left done. second x left done)
bind_reads total DoneA DoneB bytes (Err fault) f first second = first

pub next : {A B : Type 0} (total : ℕ) (cursor_of : A → Cursor) (Done : B → List ℕ → Type 0) (bytes : List ℕ) (r : Result A Fault) (f : A → Result B Fault) → Reads (Ends cursor_of total) (FaultAt total) bytes r
    → ((x : A) → Stands total (cursor_of x) → Reads Done (FaultAt total) (cursor_of x).rest (f x)) → Reads Done (FaultAt total) bytes (r >>= f)
next total cursor_of Done bytes r f first second =
    bind_reads total (Ends cursor_of total) Done bytes r f first (λ x left e. subst (λ (l : List ℕ). Reads Done (FaultAt total) l (f x)) e.1 (second x e.0))

-- The token that begins here is refused.
pub refused : {A : Type 0} (total : ℕ) (Done : A → List ℕ → Type 0) (cursor : Cursor) (reason : Reason) → reason ≢ reasons.Truncated → Stands total cursor → Reads Done (FaultAt total) cursor.rest (stops cursor reason)
refused total Done cursor reason other s = no_parts _ cursor.rest (stops_here reason _ cursor.rest (λ _. place_is reason other) (λ early. absurd (other early)))
  where
    place_is : (reason : Reason) → reason ≢ reasons.Truncated → place_of cursor reason + length cursor.rest ≡ total
    place_is reason other = ap (λ (n : ℕ). n + length cursor.rest) (reached.placed cursor reason other) ∙ s.within

-- ---- heads

here_stops : (total major : ℕ) (cursor : Cursor) (fault : Fault) → Stands total cursor → StopsHere major cursor fault → FaultAt total fault cursor.rest
here_stops total major cursor fault s here =
    stops_here fault.reason (λ more. fault.place + length more ≡ total) cursor.rest (λ other. ap (λ (n : ℕ). n + length cursor.rest) (here.place other) ∙ s.within)
    (λ early. unfinished_of (λ m. m ≡ major) cursor.rest (here.unfinished early))

-- a head of the table
argument_next : {A : Type 0} (laws : TokenLaws) (total : ℕ) (Done : A → List ℕ → Type 0) (before : List Block) (token : Token) (cursor : Cursor) (f : ℕ × Cursor → Result A Fault) → Stands total cursor
    → ((x : ℕ × Cursor) → ReadsArgument before token cursor x.0 x.1 → Reads Done (FaultAt total) cursor.rest (f x)) → Reads Done (FaultAt total) cursor.rest (argument_at before token cursor >>= f)
argument_next laws total Done before token cursor f s second = by (argument_at before token cursor) refl
  where
    by : (r : Result (ℕ × Cursor) Fault) → argument_at before token cursor ≡ r → Reads Done (FaultAt total) cursor.rest (r >>= f)
    by (Ok x) is = second x (argument_means laws before token cursor x s.fits is)
    by (Err fault) is = no_parts _ cursor.rest (here_stops total (major_of token) cursor fault s (argument_here before token cursor fault is))

-- a number or the head of an array
pub head_next : {A : Type 0} (laws : TokenLaws) (total : ℕ) (Done : A → List ℕ → Type 0) (before : List Block) (token : Token) (cursor : Cursor) (f : ℕ × Cursor → Result A Fault)
    → (major_of token ≡ 0) ⊎ (major_of token ≡ 4) → Stands total cursor
    → ((x : ℕ × Cursor) → Stands total x.1 → Reads Done (FaultAt total) x.1.rest (f x)) → Reads Done (FaultAt total) cursor.rest (argument_at before token cursor >>= f)
unfolding uint array_head
head_next laws total Done before token cursor f (inl number) s second =
    argument_next laws total Done before token cursor f s
    (λ x h. behind _ (Number x.0) cursor.rest x.1.rest h.fits (h.took.parts ∙ ap (λ (m : ℕ). head_spelling m x.0 ++ x.1.rest) number) (second x (stands_after total _ cursor x.1 s h.took)))
head_next laws total Done before token cursor f (inr array) s second =
    argument_next laws total Done before token cursor f s
    (λ x h. behind _ (Array x.0) cursor.rest x.1.rest h.fits (h.took.parts ∙ ap (λ (m : ℕ). head_spelling m x.0 ++ x.1.rest) array) (second x (stands_after total _ cursor x.1 s h.took)))

-- ---- strings

-- The cursor stands behind the head of a byte string, where these bytes begin.
pub record BehindHead (total len : ℕ) (cursor : Cursor) (bytes : List ℕ) : Type 0 where
  pub is : bytes ≡ head_spelling 2 len ++ cursor.rest
  pub small : len < 2 ^ 64
  pub stands : Stands total cursor

-- the head of a byte string
pub string_next : {A : Type 0} (laws : TokenLaws) (total : ℕ) (Done : A → List ℕ → Type 0) (before : List Block) (token : Token) (cursor : Cursor) (f : ℕ × Cursor → Result A Fault) → major_of token ≡ 2 → Stands total cursor
    → ((x : ℕ × Cursor) → BehindHead total x.0 x.1 cursor.rest → Reads Done (FaultAt total) cursor.rest (f x)) → Reads Done (FaultAt total) cursor.rest (argument_at before token cursor >>= f)
string_next laws total Done before token cursor f string s second =
    argument_next laws total Done before token cursor f s
    (λ x h. second x (record {
      is = h.took.parts ∙ ap (λ (m : ℕ). head_spelling m x.0 ++ x.1.rest) string;
      small = h.fits;
      stands = stands_after total _ cursor x.1 s h.took;
    }))

-- The content of a byte string was read, whose head begins these bytes.
pub record ReadsString (total : ℕ) (content : List ℕ) (after : Cursor) (bytes : List ℕ) : Type 0 where
  pub is : bytes ≡ byte_string content ++ after.rest
  pub small : length content < 2 ^ 64
  pub stands : Stands total after

-- the content of a byte string, behind its head
pub content_next : {A : Type 0} (total len : ℕ) (Done : A → List ℕ → Type 0) (cursor : Cursor) (bytes : List ℕ) (f : List ℕ × Cursor → Result A Fault) → BehindHead total len cursor bytes
    → ((x : List ℕ × Cursor) → ReadsString total x.0 x.1 bytes → Reads Done (FaultAt total) bytes (f x)) → Reads Done (FaultAt total) bytes (content_at len cursor >>= f)
unfolding byte_string
content_next total len Done cursor bytes f h second = by (content_at len cursor) refl
  where
    by : (r : Result (List ℕ × Cursor) Fault) → content_at len cursor ≡ r → Reads Done (FaultAt total) bytes (r >>= f)
    by (Ok x) is =
        let c = content_means len cursor x h.stands.fits is in
        let long = c.long in
        second x (record {
          is = h.is ∙ (ap (λ (t : List ℕ). head_spelling 2 len ++ t) c.took.parts
              ∙ (sym (append_assoc (head_spelling 2 len) x.0 x.1.rest) ∙ ap (λ (n : ℕ). (head_spelling 2 n ++ x.0) ++ x.1.rest) (sym long)));
          small = subst (λ (n : ℕ). n < 2 ^ 64) (sym long) h.small;
          stands = stands_after total x.0 cursor x.1 h.stands c.took;
        })
    by (Err fault) is =
        let missing = content_unfinished len cursor fault is in
        no_parts _ bytes (record {
          placed = λ other. absurd (other missing.0);
          early = λ early. inr (len, head_spelling 2 len, cursor.rest, (h.small, inl refl), missing.1, h.is);
        })

-- It stops behind the head of a byte string.
pub refused_content : {A : Type 0} (total len : ℕ) (Done : A → List ℕ → Type 0) (cursor : Cursor) (bytes : List ℕ) (reason : Reason) → reason ≢ reasons.Truncated → BehindHead total len cursor bytes → Reads Done (FaultAt total) bytes (stops cursor reason)
refused_content total len Done cursor bytes reason other h = no_parts _ bytes (record {
  placed = λ _. (head_spelling 2 len, cursor.rest, inr (inl (len, (h.small, inl refl))), h.is, ap (λ (n : ℕ). n + length cursor.rest) (reached.placed cursor reason other) ∙ h.stands.within);
  early = λ early. absurd (other early);
})

-- ---- single bytes

-- a byte, and where it is missing
abbrev pub ByteRead : ℕ → ℕ → Cursor → Result Cursor Fault → Type 0
ByteRead total byte cursor (Ok after) = Stands total after × (cursor.rest ≡ byte ∷ after.rest)
ByteRead total byte cursor (Err fault) = (fault.reason ≢ reasons.Truncated → fault.place ≡ cursor.at) × (fault.reason ≡ reasons.Truncated → cursor.rest ≡ [])

pub byte_read : (total byte : ℕ) (reason : Reason) (cursor : Cursor) (rest : List ℕ) → reason ≢ reasons.Truncated → Stands total cursor → cursor.rest ≡ rest → ByteRead total byte cursor (after_byte byte (stops cursor reason) cursor rest)
byte_read total byte reason cursor [] other s is = (λ no. absurd (no refl), λ early. is)
byte_read total byte reason cursor (first ∷ rest) other s is = by (eqb first byte) refl
  where
    by : (b : Bool) → eqb first byte ≡ b → ByteRead total byte cursor (cond b (Ok (past 1 cursor)) (stops cursor reason))
    by true e =
        let left : drop 1 cursor.rest ≡ rest = ap (drop 1) is in
        let parts : cursor.rest ≡ byte ∷ drop 1 cursor.rest = is ∙ (ap (λ (b : ℕ). b ∷ rest) (eqb-true _ _ e) ∙ ap (λ (t : List ℕ). byte ∷ t) (sym left)) in
        (record { within = omega (arith, s.within, ap length parts); fits = subst IsBytes (sym left) (take_drop_bytes (first ∷ []) rest (subst IsBytes is s.fits)) }, parts)
    by false e = (λ _. reached.placed cursor reason other, λ early. absurd (other early))

-- ---- ids

pub id_at_reads : (laws : TokenLaws) (total : ℕ) (cursor : Cursor) → Stands total cursor → Reads (Ends behind_value total) (FaultAt total) cursor.rest (id_at cursor)
unfolding id_at reading.read_id
id_at_reads laws total cursor s = by (reading.id_at cursor.rest) (id_reads laws cursor.rest s.fits)
  where
    placed_by : (stop : Stop) (p : Reads {A = Eid × List ℕ} Leaves StopsAt cursor.rest (Err stop)) → stop.reason ≢ reasons.Truncated
        → (last : List ℕ) × (more : List ℕ) × IsLast last × (p.left ≡ last ++ more) × (cursor.at + reading.place_of (length cursor.rest) stop.reason stop.left + length more ≡ total)
    placed_by stop p other =
        let q = p.ends.placed other in
        let all = ap length p.is ∙ length-append (text_of p.parts) p.left in
        let there = ap length q.3 ∙ length-append q.0 q.1 in
        (q.0, q.1, q.2, q.3, ap (λ (n : ℕ). cursor.at + n + length q.1) (placed (length cursor.rest) stop.left stop.reason other) ∙ omega (arith, s.within, all, there, q.4))

    by : (r : Result (Eid × List ℕ) Stop) → Reads Leaves StopsAt cursor.rest r → Reads (Ends behind_value total) (FaultAt total) cursor.rest (after_id cursor (reading.answer cursor.rest r))
    by (Ok x) p =
        let text = text_of p.parts in
        let all = ap length p.is ∙ length-append text p.left in
        let same = ap length p.ends in
        let len : length cursor.rest - length x.1 ≡ length text = omega (arith, all, same) in
        let left : drop (length cursor.rest - length x.1) cursor.rest ≡ p.left = rw (len, p.is) (drop_at text p.left (length text) refl) in
        record {
          parts = p.parts;
          left = p.left;
          are = p.are;
          is = p.is;
          ends = (
            record {
              within = omega (arith, s.within, all, len, ap length left);
              fits = subst IsBytes (sym left) (take_drop_bytes text p.left (subst IsBytes p.is s.fits));
            },
            left,
          );
        }
    by (Err stop) p = record {
      parts = p.parts;
      left = p.left;
      are = p.are;
      is = p.is;
      ends = record { placed = λ other. placed_by stop p other; early = p.ends.early };
    }
