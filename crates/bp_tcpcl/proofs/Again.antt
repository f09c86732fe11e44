-- A message that is spelled is read again behind its first byte, whatever follows it.
use Rattle.std.proofs.Common.{◌≡◌, ℕ, ◌+◌, ◌-◌, ◌^◌, ◌<◌, ◌≤◌, Bool, true, false, ltb, List, [], ◌++◌, length, Some, Result, Ok, refl, ◌∙◌, ap, append_assoc, length-append, add_assoc, add-zero, arith}
use Rattle.std.specs.Int.{Width, w8, w16, w32, w64, byte_len}
use Rattle.std.proofs.lemmas.Bool.{le-ltb}
use Rattle.std.proofs.lemmas.List.{take_at, drop_at}
use Rattle.cbor_profile.specs.declared.TheConstants.{BUNDLE_LIMIT}
use Rattle.cbor_profile.proofs.Wide.{IsWide, wide8, wide16, wide32, wide64, read_again}
use Rattle.bp_tcpcl.specs.declared.TheConstants.{EXTENSIONS_LIMIT, INPUT_LIMIT}
use Rattle.bp_tcpcl.specs.declared.message.Message.TheVariants.{Init, Segment, Ack, Refuse, Term, Reject}
use Rattle.bp_tcpcl.specs.declared.message.Item.{Item}
use Rattle.bp_tcpcl.specs.declared.message.Item.TheVariants as items
use Rattle.bp_tcpcl.specs.declared.stop.Stop.{Stop}
use Rattle.bp_tcpcl.specs.Numbers.{number, number_in}
use Rattle.bp_tcpcl.specs.Spelling.{sized, is_start, extension_field, fields, KeepsLimits}
use Rattle.bp_tcpcl.specs.Reading.{Cursor, within, number_at, bytes_at, content_at, sized_at, init_at, extensions_at, least_extensions, transfer_at, segment_at, ack_at, refuse_at, term_at, reject_at}
use Rattle.bp_tcpcl.proofs.FieldsAsSpelled.{length-number}

abbrev pub cursor_at : ℕ → ℕ → List ℕ → Cursor
cursor_at begin at rest = record { begin = begin; at = at; rest = rest }

abbrev pub Read : Type 0
Read = Result (Item × Cursor) Stop

-- the same item, up to the same place
pub ends_at : (item : Item) (begin at end : ℕ) (rest : List ℕ) → at ≡ end → ◌≡◌ {A = Read} (Ok (item, cursor_at begin at rest)) (Ok (item, cursor_at begin end rest))
ends_at item begin at end rest e = let found : ℕ → Read = λ n. Ok (item, cursor_at begin n rest) in ap found e

-- ---- fields

pub in_again : (w : Width) (limit : ℕ) → IsWide w limit → (n : ℕ) (rest : List ℕ) → n < limit → number_in w (number w n ++ rest) ≡ Some n
unfolding number_in number
in_again w limit wide n rest lt =
    let long : ltb (length (number w n ++ rest)) (byte_len w) ≡ false = le-ltb _ _ (omega (arith, length-append (number w n) rest, wide.len n)) in
    rw (long, read_again w limit wide n rest lt) refl

pub within_again : (to_come : ℕ) (cursor : Cursor) → cursor.at + to_come ≤ INPUT_LIMIT → within to_come cursor ≡ Ok cursor
unfolding within
within_again to_come cursor room = let fits : ltb INPUT_LIMIT (cursor.at + to_come) ≡ false = le-ltb _ _ room in rw fits refl

pub number_again : (w : Width) (limit : ℕ) → IsWide w limit → (to_come begin at n : ℕ) (rest : List ℕ) → n < limit → at + byte_len w + to_come ≤ INPUT_LIMIT
    → number_at w to_come (cursor_at begin at (number w n ++ rest)) ≡ Ok (n, cursor_at begin (at + byte_len w) rest)
unfolding number_at
number_again w limit wide to_come begin at n rest lt room =
    rw (in_again w limit wide n rest lt, drop_at (number w n) rest (byte_len w) (length-number w limit wide n), within_again to_come (cursor_at begin (at + byte_len w) rest) room) refl

bytes_again : (to_come begin at : ℕ) (content rest : List ℕ) → at + length content + to_come ≤ INPUT_LIMIT → bytes_at (length content) to_come (cursor_at begin at (content ++ rest)) ≡ Ok (content, cursor_at begin (at + length content) rest)
unfolding bytes_at
bytes_again to_come begin at content rest room =
    let long : ltb (length (content ++ rest)) (length content) ≡ false = le-ltb _ _ (omega (arith, length-append content rest)) in
    rw (long, drop_at content rest (length content) refl, take_at content rest (length content) refl, within_again to_come (cursor_at begin (at + length content) rest) room) refl

content_again : (w : Width) (below : ℕ) → IsWide w below → (limit to_come begin at : ℕ) (content rest : List ℕ) → length content ≤ limit → at + byte_len w + (length content + to_come) ≤ INPUT_LIMIT
    → content_at (length content) (byte_len w) limit to_come (cursor_at begin at (number w (length content) ++ (content ++ rest))) ≡ Ok (content, cursor_at begin (at + byte_len w + length content) rest)
unfolding content_at
content_again w below wide limit to_come begin at content rest short room =
    let fits : ltb limit (length content) ≡ false = le-ltb _ _ short in
    let start : Cursor = cursor_at begin (at + byte_len w) (content ++ rest) in
    rw (fits, drop_at (number w (length content)) (content ++ rest) (byte_len w) (length-number w below wide (length content)), within_again (length content + to_come) start room)
    (bytes_again to_come begin (at + byte_len w) content rest (omega arith))

pub sized_again : (w : Width) (below : ℕ) → IsWide w below → (limit to_come begin at : ℕ) (content rest : List ℕ) → length content < below → length content ≤ limit → at + byte_len w + (length content + to_come) ≤ INPUT_LIMIT
    → sized_at w limit to_come (cursor_at begin at (sized w content ++ rest)) ≡ Ok (content, cursor_at begin (at + byte_len w + length content) rest)
unfolding sized_at
sized_again w below wide limit to_come begin at content rest lt short room =
    ap (λ (xs : List ℕ). sized_at w limit to_come (cursor_at begin at xs)) (append_assoc (number w (length content)) content rest)
    ∙ rw (in_again w below wide (length content) (content ++ rest) lt) (content_again w below wide limit to_come begin at content rest short room)

pub length-sized : (w : Width) (below : ℕ) → IsWide w below → (content : List ℕ) → length (sized w content) ≡ byte_len w + length content
length-sized w below wide content = omega (arith, length-append (number w (length content)) content, length-number w below wide (length content))

-- ---- messages, behind their first byte

pub length-init : (k s t : ℕ) (node extensions : List ℕ) → length (fields (Init k s t node extensions)) ≡ 24 + length node + length extensions
length-init k s t node extensions =
    let last : List ℕ = sized w16 node ++ sized w32 extensions in
    let third : List ℕ = number w64 t ++ last in
    let second : List ℕ = number w64 s ++ third in
    omega (
      arith,
      length-append (number w16 k) second,
      length-append (number w64 s) third,
      length-append (number w64 t) last,
      length-append (sized w16 node) (sized w32 extensions),
      length-number w16 (2 ^ 16) wide16 k,
      length-number w64 (2 ^ 64) wide64 s,
      length-number w64 (2 ^ 64) wide64 t,
      length-sized w16 (2 ^ 16) wide16 node,
      length-sized w32 (2 ^ 32) wide32 extensions,
    )

init_regrouped : (k s t : ℕ) (node extensions rest : List ℕ) → fields (Init k s t node extensions) ++ rest ≡ number w16 k ++ (number w64 s ++ (number w64 t ++ (sized w16 node ++ (sized w32 extensions ++ rest))))
init_regrouped k s t node extensions rest = simp append_assoc

pub init_again : (begin at k s t : ℕ) (node extensions rest : List ℕ) → (k < 2 ^ 16) × (s < 2 ^ 64) × (t < 2 ^ 64) → (length node < 2 ^ 16) × (length extensions ≤ EXTENSIONS_LIMIT)
    → at + (24 + length node + length extensions) ≤ INPUT_LIMIT
    → init_at (cursor_at begin at (fields (Init k s t node extensions) ++ rest)) ≡ Ok (items.Message (Init k s t node extensions), cursor_at begin (at + (24 + length node + length extensions)) rest)
unfolding init_at
init_again begin at k s t node extensions rest fits keeps room =
    let few = keeps.1 in
    let short = keeps.0 in
    let e : List ℕ = sized w32 extensions ++ rest in
    let d : List ℕ = sized w16 node ++ e in
    let c : List ℕ = number w64 t ++ d in
    let b : List ℕ = number w64 s ++ c in
    let item : Item = items.Message (Init k s t node extensions) in
    let all : ℕ = at + 2 + 8 + 8 + 2 + length node + 4 + length extensions in
    let read : init_at (cursor_at begin at (number w16 k ++ b)) ≡ Ok (item, cursor_at begin all rest) =
    rw (
      number_again w16 (2 ^ 16) wide16 22 begin at k b fits.0 (omega arith),
      number_again w64 (2 ^ 64) wide64 14 begin (at + 2) s c fits.1 (omega arith),
      number_again w64 (2 ^ 64) wide64 6 begin (at + 2 + 8) t d fits.2 (omega arith),
      sized_again w16 (2 ^ 16) wide16 (2 ^ 16 - 1) 4 begin (at + 2 + 8 + 8) node e short (omega arith) (omega arith),
      sized_again w32 (2 ^ 32) wide32 EXTENSIONS_LIMIT 0 begin (at + 2 + 8 + 8 + 2 + length node) extensions rest (omega arith) few (omega arith),
    ) refl in
    ap (λ (xs : List ℕ). init_at (cursor_at begin at xs)) (init_regrouped k s t node extensions rest) ∙ (read ∙ ends_at item begin all (at + (24 + length node + length extensions)) rest (omega arith))

-- how many bytes the field of extensions has
abbrev pub extensions_size : Bool → List ℕ → ℕ
extensions_size true extensions = 4 + length extensions
extensions_size false extensions = 0

extensions_again : (start : Bool) (begin at : ℕ) (extensions rest : List ℕ) → length extensions ≤ EXTENSIONS_LIMIT → (start ≡ false → extensions ≡ []) → at + (extensions_size start extensions + 8) ≤ INPUT_LIMIT
    → extensions_at start (cursor_at begin at (extension_field start extensions ++ rest)) ≡ Ok (extensions, cursor_at begin (at + extensions_size start extensions) rest)
unfolding extensions_at
extensions_again true begin at extensions rest few none room =
    sized_again w32 (2 ^ 32) wide32 EXTENSIONS_LIMIT 8 begin at extensions rest (omega arith) few (omega arith)
    ∙ ap found (add_assoc at 4 (length extensions))
  where
    found : ℕ → Result (List ℕ × Cursor) Stop
    found n = Ok (extensions, cursor_at begin n rest)
extensions_again false begin at extensions rest few none room = let e = none refl in rw (e, add-zero) refl

pub length-extensions : (start : Bool) (extensions : List ℕ) → length (extension_field start extensions) ≡ extensions_size start extensions
length-extensions true extensions = length-sized w32 (2 ^ 32) wide32 extensions
length-extensions false extensions = refl

least_is_least : (start : Bool) (extensions : List ℕ) → least_extensions start ≤ extensions_size start extensions
least_is_least true extensions = omega arith
least_is_least false extensions = omega arith

pub length-segment : (flags t : ℕ) (extensions content : List ℕ) → length (fields (Segment flags t extensions content)) ≡ 17 + extensions_size (is_start flags) extensions + length content
length-segment flags t extensions content =
    let start : Bool = is_start flags in
    let last : List ℕ = extension_field start extensions ++ sized w64 content in
    let second : List ℕ = number w64 t ++ last in
    omega (
      arith,
      length-append (number w8 flags) second,
      length-append (number w64 t) last,
      length-append (extension_field start extensions) (sized w64 content),
      length-number w8 (2 ^ 8) wide8 flags,
      length-number w64 (2 ^ 64) wide64 t,
      length-extensions start extensions,
      length-sized w64 (2 ^ 64) wide64 content,
    )

transfer_regrouped : (start : Bool) (flags t : ℕ) (extensions content rest : List ℕ)
    → (number w8 flags ++ (number w64 t ++ (extension_field start extensions ++ sized w64 content))) ++ rest ≡ number w8 flags ++ (number w64 t ++ (extension_field start extensions ++ (sized w64 content ++ rest)))
transfer_regrouped start flags t extensions content rest = simp append_assoc

transfer_again : (start : Bool) (flags begin at t : ℕ) (extensions content rest : List ℕ) → t < 2 ^ 64 → length extensions ≤ EXTENSIONS_LIMIT → length content ≤ BUNDLE_LIMIT → (start ≡ false → extensions ≡ [])
    → at + (16 + extensions_size start extensions + length content) ≤ INPUT_LIMIT
    → transfer_at flags start (cursor_at begin at (number w64 t ++ (extension_field start extensions ++ (sized w64 content ++ rest)))) ≡ Ok (items.Message (Segment flags t extensions content), cursor_at begin (at + (16 + extensions_size start extensions + length content)) rest)
unfolding transfer_at
transfer_again start flags begin at t extensions content rest lt few short none room =
    let least = least_is_least start extensions in
    let c : List ℕ = sized w64 content ++ rest in
    let b : List ℕ = extension_field start extensions ++ c in
    let size : ℕ = extensions_size start extensions in
    let item : Item = items.Message (Segment flags t extensions content) in
    let all : ℕ = at + 8 + size + 8 + length content in
    let read : transfer_at flags start (cursor_at begin at (number w64 t ++ b)) ≡ Ok (item, cursor_at begin all rest) =
    rw (
      number_again w64 (2 ^ 64) wide64 (8 + least_extensions start) begin at t b lt (omega arith),
      extensions_again start begin (at + 8) extensions c few none (omega arith),
      sized_again w64 (2 ^ 64) wide64 BUNDLE_LIMIT 0 begin (at + 8 + size) content rest (omega arith) short (omega arith),
    ) refl in
    read ∙ ends_at item begin all (at + (16 + size + length content)) rest (omega arith)

pub segment_again : (begin at flags t : ℕ) (extensions content rest : List ℕ) → (flags < 2 ^ 8) × (t < 2 ^ 64) → KeepsLimits (Segment flags t extensions content)
    → at + (17 + extensions_size (is_start flags) extensions + length content) ≤ INPUT_LIMIT
    → segment_at (cursor_at begin at (fields (Segment flags t extensions content) ++ rest)) ≡ Ok (items.Message (Segment flags t extensions content), cursor_at begin (at + (17 + extensions_size (is_start flags) extensions + length content)) rest)
unfolding segment_at
segment_again begin at flags t extensions content rest fits keeps room =
    let start : Bool = is_start flags in
    let size : ℕ = extensions_size start extensions in
    let least = least_is_least start extensions in
    let b : List ℕ = number w64 t ++ (extension_field start extensions ++ (sized w64 content ++ rest)) in
    let item : Item = items.Message (Segment flags t extensions content) in
    let all : ℕ = at + 1 + (16 + size + length content) in
    let read : segment_at (cursor_at begin at (number w8 flags ++ b)) ≡ Ok (item, cursor_at begin all rest) =
    rw (
      in_again w8 (2 ^ 8) wide8 flags b fits.0,
      drop_at (number w8 flags) b 1 (length-number w8 (2 ^ 8) wide8 flags),
      within_again (16 + least_extensions start) (cursor_at begin (at + 1) b) (omega arith),
    ) (transfer_again start flags begin (at + 1) t extensions content rest fits.1 keeps.0 keeps.1 keeps.2 (omega arith)) in
    ap (λ (xs : List ℕ). segment_at (cursor_at begin at xs)) (transfer_regrouped start flags t extensions content rest) ∙ (read ∙ ends_at item begin all (at + (17 + size + length content)) rest (omega arith))

pub length-ack : (flags t l : ℕ) → length (fields (Ack flags t l)) ≡ 17
length-ack flags t l =
    omega (arith, length-append (number w8 flags) (number w64 t ++ number w64 l), length-append (number w64 t) (number w64 l), length-number w8 (2 ^ 8) wide8 flags, length-number w64 (2 ^ 64) wide64 t, length-number w64 (2 ^ 64) wide64 l)

pub ack_again : (begin at flags t l : ℕ) (rest : List ℕ) → (flags < 2 ^ 8) × (t < 2 ^ 64) × (l < 2 ^ 64) → at + 17 ≤ INPUT_LIMIT
    → ack_at (cursor_at begin at (fields (Ack flags t l) ++ rest)) ≡ Ok (items.Message (Ack flags t l), cursor_at begin (at + 17) rest)
unfolding ack_at
ack_again begin at flags t l rest fits room =
    let c : List ℕ = number w64 l ++ rest in
    let b : List ℕ = number w64 t ++ c in
    let item : Item = items.Message (Ack flags t l) in
    let regrouped : fields (Ack flags t l) ++ rest ≡ number w8 flags ++ b = simp append_assoc in
    let read : ack_at (cursor_at begin at (number w8 flags ++ b)) ≡ Ok (item, cursor_at begin (at + 1 + 8 + 8) rest) =
    rw (
      number_again w8 (2 ^ 8) wide8 16 begin at flags b fits.0 (omega arith),
      number_again w64 (2 ^ 64) wide64 8 begin (at + 1) t c fits.1 (omega arith),
      number_again w64 (2 ^ 64) wide64 0 begin (at + 1 + 8) l rest fits.2 (omega arith),
    ) refl in
    ap (λ (xs : List ℕ). ack_at (cursor_at begin at xs)) regrouped ∙ (read ∙ ends_at item begin (at + 1 + 8 + 8) (at + 17) rest (omega arith))

pub length-refuse : (reason t : ℕ) → length (fields (Refuse reason t)) ≡ 9
length-refuse reason t = omega (arith, length-append (number w8 reason) (number w64 t), length-number w8 (2 ^ 8) wide8 reason, length-number w64 (2 ^ 64) wide64 t)

pub refuse_again : (begin at reason t : ℕ) (rest : List ℕ) → (reason < 2 ^ 8) × (t < 2 ^ 64) → at + 9 ≤ INPUT_LIMIT
    → refuse_at (cursor_at begin at (fields (Refuse reason t) ++ rest)) ≡ Ok (items.Message (Refuse reason t), cursor_at begin (at + 9) rest)
unfolding refuse_at
refuse_again begin at reason t rest fits room =
    let b : List ℕ = number w64 t ++ rest in
    let item : Item = items.Message (Refuse reason t) in
    let read : refuse_at (cursor_at begin at (number w8 reason ++ b)) ≡ Ok (item, cursor_at begin (at + 1 + 8) rest) =
    rw (number_again w8 (2 ^ 8) wide8 8 begin at reason b fits.0 (omega arith), number_again w64 (2 ^ 64) wide64 0 begin (at + 1) t rest fits.1 (omega arith)) refl in
    ap (λ (xs : List ℕ). refuse_at (cursor_at begin at xs)) (append_assoc (number w8 reason) (number w64 t) rest) ∙ (read ∙ ends_at item begin (at + 1 + 8) (at + 9) rest (omega arith))

pub length-two : (a b : ℕ) → length (number w8 a ++ number w8 b) ≡ 2
length-two a b = omega (arith, length-append (number w8 a) (number w8 b), length-number w8 (2 ^ 8) wide8 a, length-number w8 (2 ^ 8) wide8 b)

pub term_again : (begin at flags reason : ℕ) (rest : List ℕ) → (flags < 2 ^ 8) × (reason < 2 ^ 8) → at + 2 ≤ INPUT_LIMIT
    → term_at (cursor_at begin at (fields (Term flags reason) ++ rest)) ≡ Ok (items.Message (Term flags reason), cursor_at begin (at + 2) rest)
unfolding term_at
term_again begin at flags reason rest fits room =
    let b : List ℕ = number w8 reason ++ rest in
    let item : Item = items.Message (Term flags reason) in
    let read : term_at (cursor_at begin at (number w8 flags ++ b)) ≡ Ok (item, cursor_at begin (at + 1 + 1) rest) =
    rw (number_again w8 (2 ^ 8) wide8 1 begin at flags b fits.0 (omega arith), number_again w8 (2 ^ 8) wide8 0 begin (at + 1) reason rest fits.1 (omega arith)) refl in
    ap (λ (xs : List ℕ). term_at (cursor_at begin at xs)) (append_assoc (number w8 flags) (number w8 reason) rest) ∙ (read ∙ ends_at item begin (at + 1 + 1) (at + 2) rest (omega arith))

pub reject_again : (begin at reason header : ℕ) (rest : List ℕ) → (reason < 2 ^ 8) × (header < 2 ^ 8) → at + 2 ≤ INPUT_LIMIT
    → reject_at (cursor_at begin at (fields (Reject reason header) ++ rest)) ≡ Ok (items.Message (Reject reason header), cursor_at begin (at + 2) rest)
unfolding reject_at
reject_again begin at reason header rest fits room =
    let b : List ℕ = number w8 header ++ rest in
    let item : Item = items.Message (Reject reason header) in
    let read : reject_at (cursor_at begin at (number w8 reason ++ b)) ≡ Ok (item, cursor_at begin (at + 1 + 1) rest) =
    rw (number_again w8 (2 ^ 8) wide8 1 begin at reason b fits.0 (omega arith), number_again w8 (2 ^ 8) wide8 0 begin (at + 1) header rest fits.1 (omega arith)) refl in
    ap (λ (xs : List ℕ). reject_at (cursor_at begin at xs)) (append_assoc (number w8 reason) (number w8 header) rest) ∙ (read ∙ ends_at item begin (at + 1 + 1) (at + 2) rest (omega arith))
