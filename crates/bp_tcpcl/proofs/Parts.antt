-- A part that is spelled is read again, whatever follows it.
use Rattle.std.proofs.Common.{◌≡◌, ℕ, ◌+◌, ◌^◌, ◌<◌, ◌≤◌, Bool, true, false, eqb, List, ◌++◌, length, Result, Ok, refl, sym, ◌∙◌, ap, append_assoc, length-append, add-zero, arith}
use Rattle.std.specs.Int.{w8}
use Rattle.std.proofs.lemmas.Bool.{eq-eqb}
use Rattle.std.proofs.lemmas.List.{drop_at}
use Rattle.cbor_profile.proofs.Wide.{wide8}
use Rattle.bp_tcpcl.specs.declared.TheConstants.{INPUT_LIMIT}
use Rattle.bp_tcpcl.specs.declared.message.Message.{Message}
use Rattle.bp_tcpcl.specs.declared.message.Message.TheVariants.{Init, Segment, Ack, Refuse, KeepAlive, Term, Reject}
use Rattle.bp_tcpcl.specs.declared.message.Item.{Item}
use Rattle.bp_tcpcl.specs.declared.message.Item.TheVariants as items
use Rattle.bp_tcpcl.specs.declared.stop.Stop.{Stop}
use Rattle.bp_tcpcl.specs.Numbers.{number}
use Rattle.bp_tcpcl.specs.Spelling.{is_start, fields, kind, message_bytes, item_bytes, Fits, KeepsLimits, IsPart}
use Rattle.bp_tcpcl.specs.Reading.{Cursor, mark_at, contact_at, kind_at, message_at, part_at, front_at}
use Rattle.bp_tcpcl.proofs.FieldsAsSpelled.{length-number}
use Rattle.bp_tcpcl.proofs.Again.{cursor_at, ends_at, in_again, within_again, number_again, extensions_size, length-init, init_again, length-segment, segment_again, length-ack, ack_again, length-refuse, refuse_again, length-two, term_again, reject_again}

-- ---- messages

kind-lt : (message : Message) → kind message < 2 ^ 8
kind-lt (Init k s t node extensions) = omega arith
kind-lt (Segment flags t extensions content) = omega arith
kind-lt (Ack flags t l) = omega arith
kind-lt (Refuse reason t) = omega arith
kind-lt KeepAlive = omega arith
kind-lt (Term flags reason) = omega arith
kind-lt (Reject reason header) = omega arith

behind_again : (message : Message) (place begin at : ℕ) (rest : List ℕ) → Fits message → KeepsLimits message → at + length (fields message) ≤ INPUT_LIMIT
    → kind_at (kind message) place (cursor_at begin at (fields message ++ rest)) ≡ Ok (items.Message message, cursor_at begin (at + length (fields message)) rest)
unfolding Fits
behind_again (Init k s t node extensions) place begin at rest fits keeps room =
    let len = length-init k s t node extensions in
    let bytes : List ℕ = fields (Init k s t node extensions) ++ rest in
    rw (within_again 24 (cursor_at begin at bytes) (omega arith), len) (init_again begin at k s t node extensions rest fits keeps (omega arith))
behind_again (Segment flags t extensions content) place begin at rest fits keeps room =
    let len = length-segment flags t extensions content in
    let bytes : List ℕ = fields (Segment flags t extensions content) ++ rest in
    rw (within_again 17 (cursor_at begin at bytes) (omega arith), len) (segment_again begin at flags t extensions content rest fits keeps (omega arith))
behind_again (Ack flags t l) place begin at rest fits keeps room =
    let len = length-ack flags t l in
    let bytes : List ℕ = fields (Ack flags t l) ++ rest in
    rw (within_again 17 (cursor_at begin at bytes) (omega arith), len) (ack_again begin at flags t l rest fits (omega arith))
behind_again (Refuse reason t) place begin at rest fits keeps room =
    let len = length-refuse reason t in
    let bytes : List ℕ = fields (Refuse reason t) ++ rest in
    rw (within_again 9 (cursor_at begin at bytes) (omega arith), len) (refuse_again begin at reason t rest fits (omega arith))
behind_again KeepAlive place begin at rest fits keeps room =
    rw (within_again 0 (cursor_at begin at rest) (omega arith)) (ends_at (items.Message KeepAlive) begin at (at + 0) rest (sym (add-zero at)))
behind_again (Term flags reason) place begin at rest fits keeps room =
    let len = length-two flags reason in
    let bytes : List ℕ = fields (Term flags reason) ++ rest in
    rw (within_again 2 (cursor_at begin at bytes) (omega arith), len) (term_again begin at flags reason rest fits (omega arith))
behind_again (Reject reason header) place begin at rest fits keeps room =
    let len = length-two reason header in
    let bytes : List ℕ = fields (Reject reason header) ++ rest in
    rw (within_again 2 (cursor_at begin at bytes) (omega arith), len) (reject_again begin at reason header rest fits (omega arith))

length-message : (message : Message) → length (message_bytes message) ≡ 1 + length (fields message)
unfolding message_bytes
length-message message = omega (arith, length-append (number w8 (kind message)) (fields message), length-number w8 (2 ^ 8) wide8 (kind message))

message_again : (message : Message) (place : ℕ) (rest : List ℕ) → Fits message → KeepsLimits message → place + length (message_bytes message) ≤ INPUT_LIMIT
    → message_at (cursor_at place place (message_bytes message ++ rest)) ≡ Ok (items.Message message, cursor_at place (place + length (message_bytes message)) rest)
unfolding message_at message_bytes
message_again message place rest fits keeps room =
    let len = length-message message in
    let tail : List ℕ = fields message ++ rest in
    let first : List ℕ = number w8 (kind message) in
    let read : message_at (cursor_at place place (first ++ tail)) ≡ Ok (items.Message message, cursor_at place (place + 1 + length (fields message)) rest) =
    rw (in_again w8 (2 ^ 8) wide8 (kind message) tail (kind-lt message), drop_at first tail 1 (length-number w8 (2 ^ 8) wide8 (kind message)))
    (behind_again message place place (place + 1) rest fits keeps (omega arith)) in
    ap (λ (xs : List ℕ). message_at (cursor_at place place xs)) (append_assoc first (fields message) rest) ∙ (read ∙ ends_at (items.Message message) place _ _ rest (omega arith))

-- ---- the contact header

mark_again : (byte begin at : ℕ) (rest : List ℕ) → byte < 2 ^ 8 → mark_at byte (cursor_at begin at (number w8 byte ++ rest)) ≡ Ok (cursor_at begin (at + 1) rest)
unfolding mark_at
mark_again byte begin at rest lt =
    let same : eqb byte byte ≡ true = eq-eqb byte byte refl in
    rw (in_again w8 (2 ^ 8) wide8 byte rest lt, same, drop_at (number w8 byte) rest 1 (length-number w8 (2 ^ 8) wide8 byte)) refl

length-contact : (flags : ℕ) → length (item_bytes (items.Contact flags)) ≡ 6
unfolding item_bytes
length-contact flags =
    let e : List ℕ = number w8 4 ++ number w8 flags in
    let d : List ℕ = number w8 0x21 ++ e in
    let c : List ℕ = number w8 0x6e ++ d in
    let b : List ℕ = number w8 0x74 ++ c in
    omega (
      arith,
      length-append (number w8 0x64) b,
      length-append (number w8 0x74) c,
      length-append (number w8 0x6e) d,
      length-append (number w8 0x21) e,
      length-two 4 flags,
      length-number w8 (2 ^ 8) wide8 0x64,
      length-number w8 (2 ^ 8) wide8 0x74,
      length-number w8 (2 ^ 8) wide8 0x6e,
      length-number w8 (2 ^ 8) wide8 0x21,
    )

contact_again : (flags place : ℕ) (rest : List ℕ) → flags < 2 ^ 8 → place + 6 ≤ INPUT_LIMIT
    → contact_at (cursor_at place place (item_bytes (items.Contact flags) ++ rest)) ≡ Ok (items.Contact flags, cursor_at place (place + 6) rest)
unfolding contact_at item_bytes
contact_again flags place rest lt room =
    let f : List ℕ = number w8 flags ++ rest in
    let e : List ℕ = number w8 4 ++ f in
    let d : List ℕ = number w8 0x21 ++ e in
    let c : List ℕ = number w8 0x6e ++ d in
    let b : List ℕ = number w8 0x74 ++ c in
    let item : Item = items.Contact flags in
    let regrouped : item_bytes (items.Contact flags) ++ rest ≡ number w8 0x64 ++ b = simp append_assoc in
    let all : ℕ = place + 1 + 1 + 1 + 1 + 1 + 1 in
    let read : contact_at (cursor_at place place (number w8 0x64 ++ b)) ≡ Ok (item, cursor_at place all rest) =
    rw (
      mark_again 0x64 place place b (omega arith),
      mark_again 0x74 place (place + 1) c (omega arith),
      mark_again 0x6e place (place + 1 + 1) d (omega arith),
      mark_again 0x21 place (place + 1 + 1 + 1) e (omega arith),
      in_again w8 (2 ^ 8) wide8 4 f (omega arith),
      drop_at (number w8 4) f 1 (length-number w8 (2 ^ 8) wide8 4),
      number_again w8 (2 ^ 8) wide8 0 place (place + 1 + 1 + 1 + 1 + 1) flags rest lt (omega arith),
    ) refl in
    ap (λ (xs : List ℕ). contact_at (cursor_at place place xs)) regrouped ∙ (read ∙ ends_at item place all (place + 6) rest (omega arith))

-- ---- parts

pub part_again : (opened : Bool) (place : ℕ) (item : Item) (rest : List ℕ) → IsPart opened item → place + length (item_bytes item) ≤ INPUT_LIMIT
    → front_at opened place (item_bytes item ++ rest) ≡ Ok (item, cursor_at place (place + length (item_bytes item)) rest)
unfolding part_at IsPart item_bytes
part_again true place (items.Message message) rest is room = message_again message place rest is.0 is.1 room
part_again true place (items.Contact flags) rest is room = absurd is
part_again false place (items.Message message) rest is room = absurd is
part_again false place (items.Contact flags) rest is room =
    let len = length-contact flags in
    contact_again flags place rest is (omega arith) ∙ ends_at (items.Contact flags) place (place + 6) _ rest (omega arith)

-- ---- one spelling

-- a part alone is far from the limit of the input
fields_short : (message : Message) → KeepsLimits message → length (fields message) + 1 ≤ INPUT_LIMIT
fields_short (Init k s t node extensions) keeps = let few = keeps.1 in let short = keeps.0 in omega (arith, length-init k s t node extensions)
fields_short (Segment flags t extensions content) keeps =
    let few = keeps.0 in
    let short = keeps.1 in
    omega (arith, length-segment flags t extensions content, size_short (is_start flags) extensions)
  where
    size_short : (start : Bool) (extensions : List ℕ) → extensions_size start extensions ≤ 4 + length extensions
    size_short true extensions = omega arith
    size_short false extensions = omega arith
fields_short (Ack flags t l) keeps = omega (arith, length-ack flags t l)
fields_short (Refuse reason t) keeps = omega (arith, length-refuse reason t)
fields_short KeepAlive keeps = omega arith
fields_short (Term flags reason) keeps = omega (arith, length-two flags reason)
fields_short (Reject reason header) keeps = omega (arith, length-two reason header)

part_short : (opened : Bool) (item : Item) → IsPart opened item → 0 + length (item_bytes item) ≤ INPUT_LIMIT
unfolding IsPart item_bytes
part_short true (items.Message message) is = let short = fields_short message is.1 in omega (arith, length-message message)
part_short true (items.Contact flags) is = absurd is
part_short false (items.Message message) is = absurd is
part_short false (items.Contact flags) is = omega (arith, length-contact flags)

read_is : (x y : Item × Cursor) → ◌≡◌ {A = Result (Item × Cursor) Stop} (Ok x) (Ok y) → x ≡ y
read_is x y e = cc

pub one_spelling : (opened : Bool) (a b : Item) (x y : List ℕ) → IsPart opened a → IsPart opened b → item_bytes a ++ x ≡ item_bytes b ++ y → (a ≡ b) × (x ≡ y)
one_spelling opened a b x y ha hb e =
    let first = part_again opened 0 a x ha (part_short opened a ha) in
    let second = part_again opened 0 b y hb (part_short opened b hb) in
    let same = read_is (a, cursor_at 0 (0 + length (item_bytes a)) x) (b, cursor_at 0 (0 + length (item_bytes b)) y) (sym first ∙ (ap (front_at opened 0) e ∙ second)) in
    (ap (λ (p : Item × Cursor). p.0) same, ap (λ (p : Item × Cursor). p.1.rest) same)
