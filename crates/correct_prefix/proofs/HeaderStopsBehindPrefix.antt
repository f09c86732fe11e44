-- Where reading a canonical block stops, what stands before begins one.
use Rattle.std.proofs.Common.{◌≡◌, ℕ, zero, suc, ◌+◌, ◌^◌, ◌<◌, ◌≤◌, inl, Bool, true, false, not, cond, ltb, eqb, ◌||◌, List, [], ◌++◌, length, None, Result, Ok, Err, refl, sym, ◌∙◌, ap, subst, append_assoc, append-nil, arith}
use Rattle.std.specs.Prelude.{bytes_eq, replicate}
use Rattle.std.proofs.lemmas.Bool.{eqb-true, ltb-true, or_from}
use Rattle.cbor_profile.specs.Head.{head_spelling}
use Rattle.cbor_profile.specs.Put.{uint, array_head, byte_string}
use Rattle.cbor_profile.specs.Step.{◌>>=◌}
use Rattle.cbor_profile.specs.declared.fault.Fault.{Fault}
use Rattle.cbor_profile.specs.declared.fault.Reason.TheVariants as reasons
use Rattle.bp_crc.specs.declared.kind.CheckKind.{CheckKind}
use Rattle.bp_crc.specs.declared.kind.CheckKind.TheVariants as kinds
use Rattle.bp_crc.specs.Item.{check_type, check_count, check_item, zeros, check_of}
use Rattle.bp_blocks.specs.declared.block.Block.{Block}
use Rattle.bp_blocks.specs.Spelling as blocks
use Rattle.bp_blocks.specs.Spelling.{IsBlock}
use Rattle.bp_bundle.specs.declared.header.Header.{Header}
use Rattle.bp_bundle.specs.declared.token.Token.TheVariants as tokens
use Rattle.bp_bundle.specs.Faults.{may_have, has_number, has_single, is_repeated}
use Rattle.bp_bundle.specs.Tokens.{Cursor, stops, argument_at}
use Rattle.bp_bundle.specs.FirstFault.{content_at, check_type_at, check_string_at, check_at, header_at, block_of, block_check}
use Rattle.bp_bundle.proofs.HeadsAsSpelled.{IsBytes, took-then, took-same}
use Rattle.bp_bundle.proofs.ReadPrimaryIsSpelled.{Laws, first_holds, content_means, check_type_means, check_size}
use Rattle.bp_bundle.proofs.ReadBundleIsSpelled.{header_text, ReadsHeader, block_text, five_or_six, not_true}
use Rattle.correct_prefix.proofs.FreshNumber.{number_for}
use Rattle.correct_prefix.proofs.StopsBehindPrefix.{Starting, started, Reached, StopsHere, StopsAt, reached_here, reached_at, reached_behind, reached_more, reached_then, stopped_at, argument_here, reached_argument, reached_content}

-- ---- checks

-- just this text
abbrev pub Is : List ℕ → List ℕ → Type 0
Is text found = found ≡ text

abbrev pub with_kind : ℕ × Cursor → Result (CheckKind × Cursor) Fault
with_kind type = Ok (check_of type.0, type.1)

pub check_type_here : (checked : Bool) (cursor : Cursor) (fault : Fault) → check_type_at checked cursor ≡ Err fault → StopsHere 0 cursor fault
unfolding check_type_at
check_type_here checked cursor fault e = by (argument_at [] (tokens.CheckType checked) cursor) refl e
  where
    by : (r : Result (ℕ × Cursor) Fault) → argument_at [] (tokens.CheckType checked) cursor ≡ r → (r >>= with_kind) ≡ Err fault → StopsHere 0 cursor fault
    by (Ok x) is e = absurd cc
    by (Err s) is e = let same : s ≡ fault = cc in argument_here [] (tokens.CheckType checked) cursor fault (is ∙ ap Err same)

-- The head of a check, and its bytes.
string_reached : (laws : Laws) (kind : CheckKind) (check : List ℕ) (cursor : Cursor) (fault : Fault) → length check ≡ length (zeros kind) → IsBytes cursor.rest
    → check_string_at kind check cursor ≡ Err fault → Reached (Is (byte_string check)) cursor fault
unfolding check_string_at byte_string
string_reached laws kind check cursor fault long fits e =
    reached_argument laws.heads (Is (byte_string check)) [] (tokens.CheckString kind) cursor _ fault fits e (length check, check, refl)
    (λ x h k.
    let len = first_holds (eqb x.0 (length (zeros kind))) reasons.WrongValue None h.none_fails in
    let value : x.0 ≡ length check = eqb-true _ _ len.0 ∙ sym long in
    let took = took-same _ _ cursor x.1 (ap (head_spelling 2) value) h.took in
    reached_then (Is (byte_string check)) cursor (content_at x.0 x.1) _ fault k
    (λ is. reached_content (Is (byte_string check)) [] 2 (length check) cursor x.1 fault took (inl refl) (byte_string check, refl, check, refl) (ap (λ (n : ℕ). content_at n x.1) (sym value) ∙ is))
    (λ y is g.
    reached_behind (Is check) (Is (byte_string check)) (head_spelling 2 (length check)) cursor x.1 fault took (λ t same. ap (λ (l : List ℕ). head_spelling 2 (length check) ++ l) same)
    (reached_at (Is check) x.1 fault (check, refl) (wrong (bytes_eq y.0 check) x.1 y.1 g))))
  where
    wrong : (b : Bool) (cursor after : Cursor) → cond b (Ok after) (stops cursor reasons.WrongCheck) ≡ Err fault → StopsAt cursor fault
    wrong true cursor after e = absurd cc
    wrong false cursor after e = stopped_at {A = Cursor} cursor reasons.WrongCheck fault (λ early. absurd cc) e

pub check_reached : (laws : Laws) (kind : CheckKind) (check : List ℕ) (cursor : Cursor) (fault : Fault) → length check ≡ length (zeros kind) → IsBytes cursor.rest
    → check_at kind check cursor ≡ Err fault → Reached (Is (check_item kind check)) cursor fault
unfolding check_at
check_reached laws kinds.None check cursor fault long fits e = absurd cc
check_reached laws kinds.Crc16 check cursor fault long fits e = string_reached laws kinds.Crc16 check cursor fault long fits e
check_reached laws kinds.Crc32c check cursor fault long fits e = string_reached laws kinds.Crc32c check cursor fault long fits e

-- ---- the fields of a canonical block that are still to come, after those that were read

abbrev Bodies : ℕ → ℕ → ℕ → CheckKind → List ℕ → Type 0
Bodies kind number flags crc text =
    (body : List ℕ) × (length body < 2 ^ 63) × (text ≡ byte_string body ++ check_item crc (block_check (record { kind = kind; number = number; flags = flags; crc = crc; body = body })))

abbrev CheckTypes : Bool → ℕ → ℕ → ℕ → List ℕ → Type 0
CheckTypes checked kind number flags text = (crc : CheckKind) × (rest : List ℕ) × (check_count crc ≡ cond checked 1 0) × Bodies kind number flags crc rest × (text ≡ uint (check_type crc) ++ rest)

abbrev Flags : Bool → ℕ → ℕ → List ℕ → Type 0
Flags checked kind number text = (flags : ℕ) × (rest : List ℕ) × (flags < 2 ^ 64) × CheckTypes checked kind number flags rest × (text ≡ uint flags ++ rest)

abbrev Numbers : List Block → Bool → ℕ → List ℕ → Type 0
Numbers before checked kind text =
    (number : ℕ) × (rest : List ℕ) × (number < 2 ^ 64) × (may_have kind number ≡ true) × (has_number before number ≡ false) × Flags checked kind number rest × (text ≡ uint number ++ rest)

abbrev Types : List Block → Bool → List ℕ → Type 0
Types before checked text = (kind : ℕ) × (rest : List ℕ) × (kind < 2 ^ 64) × (has_single before kind ≡ false) × Numbers before checked kind rest × (text ≡ uint kind ++ rest)

abbrev Arrays : List Block → List ℕ → Type 0
Arrays before text = (checked : Bool) × (rest : List ℕ) × Types before checked rest × (text ≡ array_head (5 + cond checked 1 0) ++ rest)

-- ---- some of each

some_body : (kind number flags : ℕ) (crc : CheckKind) → Starting (Bodies kind number flags crc) 2
unfolding byte_string
some_body kind number flags crc = (0, check_item crc (block_check (record { kind = kind; number = number; flags = flags; crc = crc; body = [] })), ([], omega arith, refl))

some_check_type : (checked : Bool) (kind number flags : ℕ) → Starting (CheckTypes checked kind number flags) 0
unfolding uint
some_check_type true kind number flags = let r = started (Bodies kind number flags kinds.Crc16) 2 (some_body kind number flags kinds.Crc16) in (1, r.0, (kinds.Crc16, r.0, refl, r.1, refl {a = uint 1 ++ r.0}))
some_check_type false kind number flags = let r = started (Bodies kind number flags kinds.None) 2 (some_body kind number flags kinds.None) in (0, r.0, (kinds.None, r.0, refl, r.1, refl {a = uint 0 ++ r.0}))

some_flags : (checked : Bool) (kind number : ℕ) → Starting (Flags checked kind number) 0
unfolding uint
some_flags checked kind number = let r = started (CheckTypes checked kind number 0) 0 (some_check_type checked kind number 0) in (0, r.0, (0, r.0, omega arith, r.1, refl))

some_number : (before : List Block) (checked : Bool) (kind : ℕ) → length before ≤ 64 → has_number before 1 ≡ false → Starting (Numbers before checked kind) 0
unfolding uint
some_number before checked kind few free =
    let n = number_for before kind few free in
    let r = started (Flags checked kind n.number) 0 (some_flags checked kind n.number) in
    (n.number, r.0, (n.number, r.0, n.small, n.permitted, n.new, r.1, refl))

-- that of the payload block
some_type : (before : List Block) (checked : Bool) → has_number before 1 ≡ false → Starting (Types before checked) 0
unfolding uint
some_type before checked free =
    let r = started (Flags checked 1 1) 0 (some_flags checked 1 1) in
    (1, uint 1 ++ r.0, (1, uint 1 ++ r.0, omega arith, refl, (1, r.0, omega arith, refl, free, r.1, refl), refl))

some_array : (before : List Block) → has_number before 1 ≡ false → Starting (Arrays before) 4
unfolding array_head
some_array before free = let r = started (Types before false) 0 (some_type before false free) in (5, r.0, (false, r.0, r.1, refl))

-- ---- from field to field

abbrev pub with_len : ℕ → ℕ → ℕ → CheckKind → ℕ × Cursor → Result (Header × Cursor) Fault
with_len kind number flags crc len = Ok (record { kind = kind; number = number; flags = flags; crc = crc; len = len.0 }, len.1)

body_stop : (laws : Laws) (before : List Block) (kind number flags : ℕ) (crc : CheckKind) (cursor : Cursor) (fault : Fault) → IsBytes cursor.rest
    → (argument_at before tokens.Body cursor >>= with_len kind number flags crc) ≡ Err fault → Reached (Bodies kind number flags crc) cursor fault
body_stop laws before kind number flags crc cursor fault fits e =
    reached_argument laws.heads (Bodies kind number flags crc) before tokens.Body cursor (with_len kind number flags crc) fault fits e (some_body kind number flags crc) (λ x h k. absurd cc)

abbrev after_check_type : List Block → ℕ → ℕ → ℕ → CheckKind × Cursor → Result (Header × Cursor) Fault
after_check_type before kind number flags crc = argument_at before tokens.Body crc.1 >>= with_len kind number flags crc.0

check_type_stop : (laws : Laws) (before : List Block) (checked : Bool) (kind number flags : ℕ) (cursor : Cursor) (fault : Fault) → IsBytes cursor.rest
    → (check_type_at checked cursor >>= after_check_type before kind number flags) ≡ Err fault → Reached (CheckTypes checked kind number flags) cursor fault
check_type_stop laws before checked kind number flags cursor fault fits e =
    let Kind = CheckTypes checked kind number flags in
    reached_then Kind cursor (check_type_at checked cursor) (after_check_type before kind number flags) fault e (λ is. reached_here Kind 0 cursor fault (some_check_type checked kind number flags) (check_type_here checked cursor fault is))
    (λ x is k.
    let m = check_type_means laws checked cursor x fits is in
    reached_behind (Bodies kind number flags x.0) Kind (uint (check_type x.0)) cursor x.1 fault m.took (λ t b. (x.0, t, m.count, b, refl)) (body_stop laws before kind number flags x.0 x.1 fault m.took.fits k))

abbrev after_flags : List Block → Bool → ℕ → ℕ → ℕ × Cursor → Result (Header × Cursor) Fault
after_flags before checked kind number flags = check_type_at checked flags.1 >>= after_check_type before kind number flags.0

flags_stop : (laws : Laws) (before : List Block) (checked : Bool) (kind number : ℕ) (cursor : Cursor) (fault : Fault) → IsBytes cursor.rest
    → (argument_at before tokens.Number cursor >>= after_flags before checked kind number) ≡ Err fault → Reached (Flags checked kind number) cursor fault
unfolding uint
flags_stop laws before checked kind number cursor fault fits e =
    reached_argument laws.heads (Flags checked kind number) before tokens.Number cursor (after_flags before checked kind number) fault fits e (some_flags checked kind number)
    (λ x h k.
    reached_behind (CheckTypes checked kind number x.0) (Flags checked kind number) (uint x.0) cursor x.1 fault h.took (λ t c. (x.0, t, h.fits, c, refl)) (check_type_stop laws before checked kind number x.0 x.1 fault h.took.fits k))

abbrev after_number : List Block → Bool → ℕ → ℕ × Cursor → Result (Header × Cursor) Fault
after_number before checked kind number = argument_at before tokens.Number number.1 >>= after_flags before checked kind number.0

number_stop : (laws : Laws) (before : List Block) (checked : Bool) (kind : ℕ) (cursor : Cursor) (fault : Fault) → IsBytes cursor.rest → length before ≤ 64 → has_number before 1 ≡ false
    → (argument_at before (tokens.BlockNumber kind) cursor >>= after_number before checked kind) ≡ Err fault → Reached (Numbers before checked kind) cursor fault
unfolding uint
number_stop laws before checked kind cursor fault fits few free e =
    reached_argument laws.heads (Numbers before checked kind) before (tokens.BlockNumber kind) cursor (after_number before checked kind) fault fits e (some_number before checked kind few free)
    (λ x h k.
    let permitted = first_holds (may_have kind x.0) reasons.WrongValue _ h.none_fails in
    let unused = first_holds (not (has_number before x.0)) reasons.Repeated None permitted.1 in
    reached_behind (Flags checked kind x.0) (Numbers before checked kind) (uint x.0) cursor x.1 fault h.took (λ t c. (x.0, t, h.fits, permitted.0, not_true _ unused.0, c, refl))
    (flags_stop laws before checked kind x.0 x.1 fault h.took.fits k))

abbrev after_type : List Block → Bool → ℕ × Cursor → Result (Header × Cursor) Fault
after_type before checked kind = argument_at before (tokens.BlockNumber kind.0) kind.1 >>= after_number before checked kind.0

type_stop : (laws : Laws) (before : List Block) (checked : Bool) (cursor : Cursor) (fault : Fault) → IsBytes cursor.rest → length before ≤ 64 → has_number before 1 ≡ false
    → (argument_at before tokens.BlockType cursor >>= after_type before checked) ≡ Err fault → Reached (Types before checked) cursor fault
unfolding uint
type_stop laws before checked cursor fault fits few free e =
    reached_argument laws.heads (Types before checked) before tokens.BlockType cursor (after_type before checked) fault fits e (some_type before checked free)
    (λ x h k.
    let single = first_holds (not (has_single before x.0)) reasons.Repeated None h.none_fails in
    reached_behind (Numbers before checked x.0) (Types before checked) (uint x.0) cursor x.1 fault h.took (λ t c. (x.0, t, h.fits, not_true _ single.0, c, refl)) (number_stop laws before checked x.0 x.1 fault h.took.fits few free k))

header_reached : (laws : Laws) (before : List Block) (cursor : Cursor) (fault : Fault) → IsBytes cursor.rest → has_number before 1 ≡ false → header_at before cursor ≡ Err fault → Reached (Arrays before) cursor fault
unfolding header_at array_head
header_reached laws before cursor fault fits free e =
    reached_argument laws.heads (Arrays before) before tokens.BlockArray cursor (λ items. argument_at before tokens.BlockType items.1 >>= after_type before (eqb items.0 6)) fault fits e (some_array before free)
    (λ x h k.
    let some = first_holds (eqb x.0 5 || eqb x.0 6) reasons.WrongCount _ h.none_fails in
    let few = first_holds (ltb (length before) 64) reasons.TooLong None some.1 in
    let count : x.0 ≡ 5 + cond (eqb x.0 6) 1 0 = five_or_six x.0 (eqb x.0 6) some.0 refl in
    reached_behind (Types before (eqb x.0 6)) (Arrays before) (head_spelling 4 x.0) cursor x.1 fault h.took (λ t c. (eqb x.0 6, t, c, ap (λ (n : ℕ). head_spelling 4 n ++ t) count))
    (type_stop laws before (eqb x.0 6) x.1 fault h.took.fits (let lt = ltb-true _ _ few.0 in omega arith) free k))

-- ---- a whole block

-- a block that may follow these
pub record FitsBlock (before : List Block) (block : Block) : Type 0 where
  pub fits : IsBlock block
  pub numbered : may_have block.kind block.number ≡ true
  pub new : is_repeated before block ≡ false

abbrev pub IsNext : List Block → List ℕ → Type 0
IsNext before text = (block : Block) × FitsBlock before block × (text ≡ blocks.spelling block)

seven : (a b c d e f g : List ℕ) → a ++ (b ++ (c ++ (d ++ (e ++ (f ++ g))))) ≡ a ++ b ++ c ++ d ++ e ++ f ++ g
seven a b c d e f g = simp append_assoc refl

array_is_next : (before : List Block) (text : List ℕ) → Arrays before text → IsNext before text
unfolding blocks.spelling blocks.array_with
array_is_next before text (checked, after_array, (kind, after_kind, small_kind, single, (number, after_number', small_number, permitted, unused, (flags, after_flags', small_flags, (crc, after_crc, count, (body, small_body, e6), e5), e4), e3), e2), e1) =
    let block : Block = record { kind = kind; number = number; flags = flags; crc = crc; body = body } in (
      block,
      record {
        fits = record { kind = small_kind; number = small_number; flags = small_flags; body = small_body };
        numbered = permitted;
        new = or_from (has_number before number) (has_single before kind) unused single;
      },
      e1
          ∙ (ap (λ (l : List ℕ). array_head (5 + cond checked 1 0) ++ l) (e2 ∙ ap (λ (l : List ℕ). uint kind ++ l) (e3 ∙ ap (λ (l : List ℕ). uint number ++ l) (e4 ∙ ap (λ (l : List ℕ). uint flags ++ l) (e5 ∙ ap (λ (l : List ℕ). uint (check_type crc) ++ l) e6))))
          ∙ (ap (λ (n : ℕ). array_head (5 + n) ++ (uint kind ++ (uint number ++ (uint flags ++ (uint (check_type crc) ++ (byte_string body ++ check_item crc (block_check block))))))) (sym count)
          ∙ seven (array_head (5 + check_count crc)) (uint kind) (uint number) (uint flags) (uint (check_type crc)) (byte_string body) (check_item crc (block_check block)))),
    )

pub next_reached : (laws : Laws) (before : List Block) (cursor : Cursor) (fault : Fault) → IsBytes cursor.rest → has_number before 1 ≡ false → header_at before cursor ≡ Err fault → Reached (IsNext before) cursor fault
next_reached laws before cursor fault fits free e =
    reached_more (Arrays before) (IsNext before) cursor fault (λ t k. ([], subst (IsNext before) (sym (append-nil t)) (array_is_next before t k))) (header_reached laws before cursor fault fits free e)

-- ---- behind the header

some_bytes : (len : ℕ) → length {A = ℕ} (replicate len 0) ≡ len
some_bytes zero = refl
some_bytes (suc len) = ap suc (some_bytes len)

header_fits : (before : List Block) (cursor : Cursor) (header : Header) (start : Cursor) (body : List ℕ) → ReadsHeader before cursor header start → length body ≡ header.len → FitsBlock before (block_of header body)
header_fits before cursor header start body rh long =
    let room = rh.room in
    record {
      fits = record { kind = rh.kind; number = rh.number; flags = rh.flags; body = omega arith };
      numbered = rh.numbered;
      new = rh.new;
    }

-- where the body is cut
pub body_reached : (laws : Laws) (before : List Block) (cursor : Cursor) (header : Header) (start : Cursor) (fault : Fault) → ReadsHeader before cursor header start → content_at header.len start ≡ Err fault → Reached (IsNext before) cursor fault
unfolding header_text
body_reached laws before cursor header start fault rh e =
    let body : List ℕ = replicate header.len 0 in
    let long = some_bytes header.len in
    let block = block_of header body in
    let front = array_head (5 + check_count header.crc) ++ uint header.kind ++ uint header.number ++ uint header.flags ++ uint (check_type header.crc) in
    let check = check_item header.crc (block_check block) in
    reached_content (IsNext before) front 2 header.len cursor start fault rh.took (inl refl)
    (blocks.spelling block, (block, header_fits before cursor header start body rh long, refl), body ++ check, sym (block_text header body long) ∙ append_assoc (header_text header) body check) e

-- where the check is cut or wrong
pub block_check_reached : (laws : Laws) (before : List Block) (cursor : Cursor) (header : Header) (start : Cursor) (body : List ℕ) (middle : Cursor) (fault : Fault) → ReadsHeader before cursor header start
    → content_at header.len start ≡ Ok (body, middle) → check_at header.crc (block_check (block_of header body)) middle ≡ Err fault → Reached (IsNext before) cursor fault
block_check_reached laws before cursor header start body middle fault rh eb e =
    let content = content_means header.len start (body, middle) rh.took.fits eb in
    let block = block_of header body in
    let check = check_item header.crc (block_check block) in
    reached_behind (Is check) (IsNext before) (header_text header ++ body) cursor middle fault (took-then (header_text header) body cursor start middle rh.took content.took)
    (λ t same. (block, header_fits before cursor header start body rh content.long, ap (λ (l : List ℕ). header_text header ++ body ++ l) same ∙ block_text header body content.long))
    (check_reached laws header.crc (block_check block) middle fault (check_size header.crc _) content.took.fits e)
