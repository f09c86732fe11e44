-- Reading stays within the bundle limit: what is there of a bundle whose bytes end too early is at most a few bytes more.
use Rattle.std.proofs.Common.{◌≡◌, ℕ, zero, suc, ◌+◌, ◌-◌, ◌%◌, ◌≤◌, ◌<◌, Bool, true, false, cond, ltb, eqb, List, [], ◌∷◌, ◌++◌, length, take, Option, Some, None, Result, Ok, Err, refl, ◌∙◌, ap, subst, arith, length-drop}
use Rattle.std.specs.Prelude.{bytes_eq}
use Rattle.std.proofs.lemmas.Bool.{ltb-false, ltb-true}
use Rattle.cbor_profile.specs.Step.{◌>>=◌}
use Rattle.cbor_profile.specs.declared.TheConstants.{BUNDLE_LIMIT}
use Rattle.cbor_profile.specs.declared.head.Head.{Head}
use Rattle.cbor_profile.specs.declared.fault.Reason.{Reason}
use Rattle.cbor_profile.specs.declared.fault.Reason.TheVariants as reasons
use Rattle.cbor_profile.specs.declared.fault.Fault.{Fault}
use Rattle.cbor_profile.specs.Token.{token_head}
use Rattle.bp_crc.specs.declared.kind.CheckKind.{CheckKind}
use Rattle.bp_crc.specs.declared.kind.CheckKind.TheVariants as kinds
use Rattle.bp_eid.specs.declared.eid.Eid.{Eid}
use Rattle.bp_eid.specs.declared.reading.EidAt.{EidAt}
use Rattle.bp_eid.specs.Reading.{read_id}
use Rattle.bp_primary.specs.declared.primary.Primary.{Primary}
use Rattle.bp_primary.specs.declared.primary.Piece.{Piece}
use Rattle.bp_primary.specs.Flags.{is_fragment}
use Rattle.bp_blocks.specs.declared.block.Block.{Block}
use Rattle.bp_crc.specs.Item.{check_of}
use Rattle.bp_bundle.specs.declared.token.Token.{Token}
use Rattle.bp_bundle.specs.declared.token.Token.TheVariants as tokens
use Rattle.bp_bundle.specs.declared.header.Header.{Header}
use Rattle.bp_bundle.specs.Shape.{Contents}
use Rattle.bp_bundle.specs.Faults.{is_payload}
use Rattle.bp_bundle.specs.Tokens.{Cursor, stops, major_of, conditions, first_failing, announced, up_to, after_conditions, after_head, argument_at}
use Rattle.bp_bundle.specs.FirstFault.{past, after_byte, begin_at, end_at, content_at, after_id, id_at, check_type_at, check_string_at, check_at, Nodes, nodes_at, Times, times_at, piece_at, primary_of, primary_check, fields_at, primary_at, header_at, block_of, block_check, next_at, blocks_at, front_at, bundle_at, read_bundle}
use Rattle.bp_bundle.proofs.FewBytes.{token_short_ok, token_short_early, read_id_short, read_id_early}
use Rattle.bp_bundle.proofs.LeftIsLess.{token_shorter}
use Rattle.bp_bundle.proofs.ReadingStays.{id_len}
use Rattle.bp_bundle.proofs.FaultsWithin.{given}
use Rattle.bp_bundle.proofs.MajorTypes.{head_major}

-- what was read is good; and where bytes end too early, fewer are given than the limit and 8 more
unfoldable pub Bounded : {A : Type 0} → (A → Type 0) → ℕ → Result A Fault → Type 0
Bounded Good total (Ok x) = Good x
Bounded Good total (Err fault) = fault.reason ≡ reasons.Truncated → total < BUNDLE_LIMIT + 8

pub then_bounded : {A B : Type 0} (Good : A → Type 0) (Better : B → Type 0) (total : ℕ) (r : Result A Fault) (f : A → Result B Fault) → Bounded Good total r → ((x : A) → Good x → Bounded Better total (f x)) → Bounded Better total (r >>= f)
unfolding Bounded
then_bounded Good Better total (Ok x) f p q = q x p
then_bounded Good Better total (Err fault) f p q = p

either_bounded : {A : Type 0} (Good : A → Type 0) (total : ℕ) (b : Bool) (x y : Result A Fault) → Bounded Good total x → Bounded Good total y → Bounded Good total (cond b x y)
either_bounded Good total true x y p q = p
either_bounded Good total false x y p q = q

ok_bounded : {A : Type 0} (Good : A → Type 0) (total : ℕ) (x : A) → Good x → Bounded Good total (Ok x)
unfolding Bounded
ok_bounded Good total x good = good

other_bounded : {A : Type 0} (Good : A → Type 0) (total : ℕ) (cursor : Cursor) (reason : Reason) → (reason ≡ reasons.Truncated → ⊥) → Bounded Good total (stops cursor reason)
unfolding Bounded
other_bounded Good total cursor reason other = λ early. absurd (other early)

early_bounded : {A : Type 0} (Good : A → Type 0) (total : ℕ) (cursor : Cursor) (reason : Reason) → (reason ≡ reasons.Truncated → total < BUNDLE_LIMIT + 8) → Bounded Good total (stops cursor reason)
unfolding Bounded
early_bounded Good total cursor reason p = p

-- ---- tokens

-- the place after a head is within the limit, and at most nine bytes further
abbrev After : ℕ → ℕ → Head → Cursor → Type 0
After total at head after = (given after ≡ total) × (after.at + announced head < BUNDLE_LIMIT) × (after.at ≤ at + 9)

abbrev Argument : ℕ → ℕ → ℕ × Cursor → Type 0
Argument total at x = (given x.1 ≡ total) × (x.1.at < BUNDLE_LIMIT) × (x.1.at ≤ at + 9)

abbrev String : ℕ → ℕ × Cursor → Type 0
String total x = (given x.1 ≡ total) × (x.1.at + x.0 < BUNDLE_LIMIT)

room_bounded : (Good : ℕ × Cursor → Type 0) (b : Bool) (total : ℕ) (cursor : Cursor) (head : Head) (after : Cursor) → ltb (BUNDLE_LIMIT - 1) (after.at + announced head) ≡ b → (after.at + announced head < BUNDLE_LIMIT → Good (head.value, after)) → Bounded Good total (cond b (stops cursor reasons.TooLong) (Ok (head.value, after)))
room_bounded Good true total cursor head after is good = other_bounded Good total cursor reasons.TooLong (λ e. cc)
room_bounded Good false total cursor head after is good = ok_bounded Good total (head.value, after) (good (let le = ltb-false _ _ is in omega arith))

failing_bounded : (Good : ℕ × Cursor → Type 0) (total : ℕ) (cursor : Cursor) (failing : Option Reason) (head : Head) (after : Cursor) → (failing ≡ Some reasons.Truncated → ⊥) → (after.at + announced head < BUNDLE_LIMIT → Good (head.value, after)) → Bounded Good total (after_conditions cursor failing head after)
failing_bounded Good total cursor (Some reason) head after never good = other_bounded Good total cursor reason (λ e. never (ap (λ (r : Reason). Some r) e))
failing_bounded Good total cursor None head after never good = room_bounded Good (ltb (BUNDLE_LIMIT - 1) (after.at + announced head)) total cursor head after refl good

-- no condition has the reason that bytes end too early
one_reason : (b : Bool) (reason : Reason) (next : Option Reason) → (reason ≡ reasons.Truncated → ⊥) → (next ≡ Some reasons.Truncated → ⊥) → cond b next (Some reason) ≡ Some reasons.Truncated → ⊥
one_reason true reason next other others e = others e
one_reason false reason next other others e = other (some_same e)
  where
    some_same : {r s : Reason} → ◌≡◌ {A = Option Reason} (Some r) (Some s) → r ≡ s
    some_same e = cc

pub never_early : (before : List Block) (token : Token) (n : ℕ) → first_failing (conditions before token) n ≡ Some reasons.Truncated → ⊥
never_early before tokens.PrimaryArray n = one_reason _ reasons.WrongCount None (λ e. cc) (λ e. cc)
never_early before tokens.Version n = one_reason _ reasons.WrongValue None (λ e. cc) (λ e. cc)
never_early before (tokens.BundleFlags items) n = one_reason _ reasons.WrongCount None (λ e. cc) (λ e. cc)
never_early before (tokens.CheckType checked) n = one_reason _ reasons.WrongValue _ (λ e. cc) (one_reason _ reasons.WrongCount None (λ e. cc) (λ e. cc))
never_early before tokens.Pair n = one_reason _ reasons.WrongCount None (λ e. cc) (λ e. cc)
never_early before tokens.Number n = λ e. cc
never_early before (tokens.CheckString kind) n = one_reason _ reasons.WrongValue None (λ e. cc) (λ e. cc)
never_early before tokens.BlockArray n = one_reason _ reasons.WrongCount _ (λ e. cc) (one_reason _ reasons.TooLong None (λ e. cc) (λ e. cc))
never_early before tokens.BlockType n = one_reason _ reasons.Repeated None (λ e. cc) (λ e. cc)
never_early before (tokens.BlockNumber kind) n = one_reason _ reasons.WrongValue _ (λ e. cc) (one_reason _ reasons.Repeated None (λ e. cc) (λ e. cc))
never_early before tokens.Body n = λ e. cc

head_bounded : (Good : ℕ × Cursor → Type 0) (before : List Block) (token : Token) (total : ℕ) (cursor : Cursor) (r : Result (Head × List ℕ) Reason) → token_head (major_of token ∷ []) cursor.rest ≡ r → given cursor ≡ total → cursor.at < BUNDLE_LIMIT
    → ((head : Head) (after : Cursor) → head.major ≡ major_of token → After total cursor.at head after → Good (head.value, after)) → Bounded Good total (after_head before token cursor r)
head_bounded Good before token total cursor (Err reason) is all within good =
    early_bounded Good total cursor reason (λ early. let short = token_short_early (major_of token ∷ []) cursor.rest (is ∙ ap (λ (x : Reason). Err x) early) in omega arith)
head_bounded Good before token total cursor (Ok x) is all within good =
    let short = token_short_ok (major_of token ∷ []) cursor.rest x is in
    let shorter = token_shorter (major_of token ∷ []) cursor.rest x.0 x.1 is in
    failing_bounded Good total cursor (first_failing (conditions before token) x.0.value) x.0 (up_to cursor x.1) (never_early before token x.0.value)
    (λ room. good x.0 (up_to cursor x.1) (head_major (major_of token) cursor.rest x is) (omega arith, room, omega arith))

pub argument_bounded : (before : List Block) (token : Token) (total : ℕ) (cursor : Cursor) → given cursor ≡ total → cursor.at < BUNDLE_LIMIT → Bounded (Argument total cursor.at) total (argument_at before token cursor)
unfolding argument_at
argument_bounded before token total cursor all within =
    head_bounded (Argument total cursor.at) before token total cursor (token_head (major_of token ∷ []) cursor.rest) refl all within (λ head after major is. (is.0, omega (arith, is.1), is.2))

announced_string : (head : Head) → head.major ≡ 2 → announced head ≡ head.value
announced_string head is = rw is refl

pub string_bounded : (before : List Block) (token : Token) (total : ℕ) (cursor : Cursor) → major_of token ≡ 2 → given cursor ≡ total → cursor.at < BUNDLE_LIMIT → Bounded (String total) total (argument_at before token cursor)
unfolding argument_at
string_bounded before token total cursor two all within =
    head_bounded (String total) before token total cursor (token_head (major_of token ∷ []) cursor.rest) refl all within (λ head after major is. (is.0, let e = announced_string head (major ∙ two) in omega (arith, is.1, e)))

abbrev Within : {X : Type 0} → ℕ → X × Cursor → Type 0
Within total x = (given x.1 ≡ total) × (x.1.at < BUNDLE_LIMIT)

abbrev WithinThere : ℕ → Cursor → Type 0
WithinThere total x = (given x ≡ total) × (x.at < BUNDLE_LIMIT)

content_by : (b : Bool) (len total : ℕ) (cursor : Cursor) → ltb (length cursor.rest) len ≡ b → given cursor ≡ total → cursor.at + len < BUNDLE_LIMIT → Bounded (Within total) total (cond b (stops cursor reasons.Truncated) (Ok (take len cursor.rest, past len cursor)))
content_by true len total cursor is all room = early_bounded (Within total) total cursor reasons.Truncated (λ early. let lt = ltb-true _ _ is in omega arith)
content_by false len total cursor is all room = ok_bounded (Within total) total (take len cursor.rest, past len cursor) (let le = ltb-false _ _ is in (omega (arith, length-drop len cursor.rest), omega arith))

pub content_bounded : (len total : ℕ) (cursor : Cursor) → given cursor ≡ total → cursor.at + len < BUNDLE_LIMIT → Bounded (Within total) total (content_at len cursor)
unfolding content_at
content_bounded len total cursor all room = content_by (ltb (length cursor.rest) len) len total cursor refl all room

byte_bounded : (byte : ℕ) (reason : Reason) (total : ℕ) (cursor : Cursor) (bytes : List ℕ) → cursor.rest ≡ bytes → (reason ≡ reasons.Truncated → ⊥) → given cursor ≡ total → cursor.at < BUNDLE_LIMIT → Bounded (λ x. (given x ≡ total) × (x.at ≡ cursor.at + 1)) total (after_byte byte (stops cursor reason) cursor bytes)
byte_bounded byte reason total cursor [] at other all within = early_bounded (λ x. (given x ≡ total) × (x.at ≡ cursor.at + 1)) total cursor reasons.Truncated (λ early. omega (arith, ap (λ (xs : List ℕ). length xs) at))
byte_bounded byte reason total cursor (first ∷ rest) at other all within =
    either_bounded (λ x. (given x ≡ total) × (x.at ≡ cursor.at + 1)) total (eqb first byte) (Ok (past 1 cursor)) (stops cursor reason) (ok_bounded (λ x. (given x ≡ total) × (x.at ≡ cursor.at + 1)) total (past 1 cursor) (omega (arith, length-drop 1 cursor.rest, ap (λ (xs : List ℕ). length xs) at), refl)) (other_bounded (λ x. (given x ≡ total) × (x.at ≡ cursor.at + 1)) total cursor reason other)

begin_bounded : (total : ℕ) (cursor : Cursor) → given cursor ≡ total → cursor.at < BUNDLE_LIMIT → Bounded (λ x. (given x ≡ total) × (x.at ≡ cursor.at + 1)) total (begin_at cursor)
unfolding begin_at
begin_bounded total cursor all within = byte_bounded 0x9f reasons.NotBundle total cursor cursor.rest refl (λ e. cc) all within

pub end_bounded : (total : ℕ) (cursor : Cursor) → given cursor ≡ total → cursor.at < BUNDLE_LIMIT → Bounded (λ x. (given x ≡ total) × (x.at ≡ cursor.at + 1)) total (end_at cursor)
unfolding end_at
end_bounded total cursor all within = byte_bounded 0xff reasons.WrongKind total cursor cursor.rest refl (λ e. cc) all within

-- ---- ids

abbrev Id : ℕ → ℕ → Eid × Cursor → Type 0
Id total at x = (given x.1 ≡ total) × (x.1.at ≤ at + 1051)

id_by : (total : ℕ) (cursor : Cursor) (r : Result EidAt Fault) → read_id cursor.rest ≡ r → given cursor ≡ total → cursor.at < BUNDLE_LIMIT - 4000 → Bounded (Id total cursor.at) total (after_id cursor r)
unfolding Bounded
id_by total cursor (Ok at) is all within = (let le = id_len cursor.rest at is in omega (arith, length-drop at.len cursor.rest), let few = read_id_short cursor.rest at is in omega arith)
id_by total cursor (Err fault) is all within = λ early. let few = read_id_early cursor.rest fault is early in omega arith

id_bounded : (total : ℕ) (cursor : Cursor) → given cursor ≡ total → cursor.at < BUNDLE_LIMIT - 4000 → Bounded (Id total cursor.at) total (id_at cursor)
unfolding id_at
id_bounded total cursor all within = id_by total cursor (read_id cursor.rest) refl all within

-- ---- checks

check_type_bounded : (checked : Bool) (total : ℕ) (cursor : Cursor) → given cursor ≡ total → cursor.at < BUNDLE_LIMIT → Bounded (λ x. (given x.1 ≡ total) × (x.1.at < BUNDLE_LIMIT) × (x.1.at ≤ cursor.at + 9)) total (check_type_at checked cursor)
unfolding check_type_at
check_type_bounded checked total cursor all within =
    then_bounded (Argument total cursor.at) (λ x. (given x.1 ≡ total) × (x.1.at < BUNDLE_LIMIT) × (x.1.at ≤ cursor.at + 9)) total (argument_at [] (tokens.CheckType checked) cursor) _ (argument_bounded [] (tokens.CheckType checked) total cursor all within) (λ x is. ok_bounded (λ y. (given y.1 ≡ total) × (y.1.at < BUNDLE_LIMIT) × (y.1.at ≤ cursor.at + 9)) total (check_of x.0, x.1) is)

check_string_bounded : (kind : CheckKind) (check : List ℕ) (total : ℕ) (cursor : Cursor) → given cursor ≡ total → cursor.at < BUNDLE_LIMIT → Bounded (WithinThere total) total (check_string_at kind check cursor)
unfolding check_string_at
check_string_bounded kind check total cursor all within =
    then_bounded (String total) (WithinThere total) total (argument_at [] (tokens.CheckString kind) cursor) _ (string_bounded [] (tokens.CheckString kind) total cursor refl all within)
    (λ len is. then_bounded (Within total) (WithinThere total) total (content_at len.0 len.1) _ (content_bounded len.0 total len.1 is.0 is.1)
    (λ x at. either_bounded (WithinThere total) total (bytes_eq x.0 check) (Ok x.1) (stops len.1 reasons.WrongCheck) (ok_bounded (WithinThere total) total x.1 at) (other_bounded (WithinThere total) total len.1 reasons.WrongCheck (λ e. cc))))

pub check_bounded : (kind : CheckKind) (check : List ℕ) (total : ℕ) (cursor : Cursor) → given cursor ≡ total → cursor.at < BUNDLE_LIMIT → Bounded (WithinThere total) total (check_at kind check cursor)
unfolding check_at
check_bounded kinds.None check total cursor all within = ok_bounded (WithinThere total) total cursor (all, within)
check_bounded kinds.Crc16 check total cursor all within = check_string_bounded kinds.Crc16 check total cursor all within
check_bounded kinds.Crc32c check total cursor all within = check_string_bounded kinds.Crc32c check total cursor all within

-- ---- the primary block

nodes_bounded : (total : ℕ) (cursor : Cursor) → given cursor ≡ total → cursor.at ≤ 100 → Bounded (Within {X = Nodes} total) total (nodes_at cursor)
unfolding nodes_at
nodes_bounded total cursor all small =
    then_bounded (Id total cursor.at) (Within {X = Nodes} total) total (id_at cursor) _ (id_bounded total cursor all (omega arith))
    (λ a p. then_bounded (Id total a.1.at) (Within {X = Nodes} total) total (id_at a.1) _ (id_bounded total a.1 p.0 (omega (arith, p.1)))
    (λ b q. then_bounded (Id total b.1.at) (Within {X = Nodes} total) total (id_at b.1) _ (id_bounded total b.1 q.0 (omega (arith, p.1, q.1)))
    (λ c r. ok_bounded (Within {X = Nodes} total) total (record { destination = a.0; source = b.0; report_to = c.0 }, c.1) (r.0, omega (arith, p.1, q.1, r.1)))))

times_bounded : (total : ℕ) (cursor : Cursor) → given cursor ≡ total → cursor.at < BUNDLE_LIMIT → Bounded (Within {X = Times} total) total (times_at cursor)
unfolding times_at
times_bounded total cursor all within =
    then_bounded (Argument total cursor.at) (Within {X = Times} total) total (argument_at [] tokens.Pair cursor) _ (argument_bounded [] tokens.Pair total cursor all within)
    (λ p i. then_bounded (Argument total p.1.at) (Within {X = Times} total) total (argument_at [] tokens.Number p.1) _ (argument_bounded [] tokens.Number total p.1 i.0 i.1)
    (λ a j. then_bounded (Argument total a.1.at) (Within {X = Times} total) total (argument_at [] tokens.Number a.1) _ (argument_bounded [] tokens.Number total a.1 j.0 j.1)
    (λ b k. then_bounded (Argument total b.1.at) (Within {X = Times} total) total (argument_at [] tokens.Number b.1) _ (argument_bounded [] tokens.Number total b.1 k.0 k.1)
    (λ c l. ok_bounded (Within {X = Times} total) total (record { created = a.0; sequence = b.0; lifetime = c.0 }, c.1) (l.0, l.1)))))

piece_bounded : (fragmented : Bool) (total : ℕ) (cursor : Cursor) → given cursor ≡ total → cursor.at < BUNDLE_LIMIT → Bounded (Within {X = Piece} total) total (piece_at fragmented cursor)
unfolding piece_at
piece_bounded false total cursor all within = ok_bounded (Within {X = Piece} total) total (record { offset = 0; total = 0 }, cursor) (all, within)
piece_bounded true total cursor all within =
    then_bounded (Argument total cursor.at) (Within {X = Piece} total) total (argument_at [] tokens.Number cursor) _ (argument_bounded [] tokens.Number total cursor all within)
    (λ a j. then_bounded (Argument total a.1.at) (Within {X = Piece} total) total (argument_at [] tokens.Number a.1) _ (argument_bounded [] tokens.Number total a.1 j.0 j.1)
    (λ b k. ok_bounded (Within {X = Piece} total) total (record { offset = a.0; total = b.0 }, b.1) (k.0, k.1)))

fields_bounded : (total : ℕ) (cursor : Cursor) → given cursor ≡ total → cursor.at ≤ 1 → Bounded (Within {X = Primary} total) total (fields_at cursor)
unfolding fields_at
fields_bounded total cursor all small =
    then_bounded (Argument total cursor.at) (Within {X = Primary} total) total (argument_at [] tokens.PrimaryArray cursor) _ (argument_bounded [] tokens.PrimaryArray total cursor all (omega arith))
    (λ items a. then_bounded (Argument total items.1.at) (Within {X = Primary} total) total (argument_at [] tokens.Version items.1) _ (argument_bounded [] tokens.Version total items.1 a.0 a.1)
    (λ version b. then_bounded (Argument total version.1.at) (Within {X = Primary} total) total (argument_at [] (tokens.BundleFlags items.0) version.1) _ (argument_bounded [] (tokens.BundleFlags items.0) total version.1 b.0 b.1)
    (λ flags c. then_bounded (λ x. (given x.1 ≡ total) × (x.1.at < BUNDLE_LIMIT) × (x.1.at ≤ flags.1.at + 9)) (Within {X = Primary} total) total (check_type_at (eqb (items.0 % 2) 1) flags.1) _ (check_type_bounded (eqb (items.0 % 2) 1) total flags.1 c.0 c.1)
    (λ crc d. then_bounded (Within {X = Nodes} total) (Within {X = Primary} total) total (nodes_at crc.1) _ (nodes_bounded total crc.1 d.0 (omega (arith, a.2, b.2, c.2, d.2)))
    (λ nodes e. then_bounded (Within {X = Times} total) (Within {X = Primary} total) total (times_at nodes.1) _ (times_bounded total nodes.1 e.0 e.1)
    (λ times f. then_bounded (Within {X = Piece} total) (Within {X = Primary} total) total (piece_at (is_fragment flags.0) times.1) _ (piece_bounded (is_fragment flags.0) total times.1 f.0 f.1)
    (λ piece g. ok_bounded (Within {X = Primary} total) total (primary_of flags.0 crc.0 nodes.0 times.0 piece.0, piece.1) g)))))))

primary_bounded : (total : ℕ) (cursor : Cursor) → given cursor ≡ total → cursor.at ≤ 1 → Bounded (Within {X = Primary} total) total (primary_at cursor)
unfolding primary_at
primary_bounded total cursor all small =
    then_bounded (Within {X = Primary} total) (Within {X = Primary} total) total (fields_at cursor) _ (fields_bounded total cursor all small)
    (λ primary a. then_bounded (WithinThere total) (Within {X = Primary} total) total (check_at primary.0.crc (primary_check primary.0) primary.1) _ (check_bounded primary.0.crc (primary_check primary.0) total primary.1 a.0 a.1)
    (λ after b. ok_bounded (Within {X = Primary} total) total (primary.0, after) b))

front_bounded : (total : ℕ) (cursor : Cursor) → given cursor ≡ total → cursor.at ≡ 0 → Bounded (Within {X = Primary} total) total (front_at cursor)
unfolding front_at
front_bounded total cursor all start =
    then_bounded (λ x. (given x ≡ total) × (x.at ≡ cursor.at + 1)) (Within {X = Primary} total) total (begin_at cursor) primary_at (begin_bounded total cursor all (omega arith)) (λ after is. primary_bounded total after is.0 (omega (arith, is.1)))

-- ---- canonical blocks

abbrev HeaderAt : ℕ → Header × Cursor → Type 0
HeaderAt total x = (given x.1 ≡ total) × (x.1.at + x.0.len < BUNDLE_LIMIT)

header_bounded : (before : List Block) (total : ℕ) (cursor : Cursor) → given cursor ≡ total → cursor.at < BUNDLE_LIMIT → Bounded (HeaderAt total) total (header_at before cursor)
unfolding header_at
header_bounded before total cursor all within =
    then_bounded (Argument total cursor.at) (HeaderAt total) total (argument_at before tokens.BlockArray cursor) _ (argument_bounded before tokens.BlockArray total cursor all within)
    (λ items a. then_bounded (Argument total items.1.at) (HeaderAt total) total (argument_at before tokens.BlockType items.1) _ (argument_bounded before tokens.BlockType total items.1 a.0 a.1)
    (λ kind b. then_bounded (Argument total kind.1.at) (HeaderAt total) total (argument_at before (tokens.BlockNumber kind.0) kind.1) _ (argument_bounded before (tokens.BlockNumber kind.0) total kind.1 b.0 b.1)
    (λ number c. then_bounded (Argument total number.1.at) (HeaderAt total) total (argument_at before tokens.Number number.1) _ (argument_bounded before tokens.Number total number.1 c.0 c.1)
    (λ flags d. then_bounded (λ x. (given x.1 ≡ total) × (x.1.at < BUNDLE_LIMIT) × (x.1.at ≤ flags.1.at + 9)) (HeaderAt total) total (check_type_at (eqb items.0 6) flags.1) _ (check_type_bounded (eqb items.0 6) total flags.1 d.0 d.1)
    (λ crc e. then_bounded (String total) (HeaderAt total) total (argument_at before tokens.Body crc.1) _ (string_bounded before tokens.Body total crc.1 refl e.0 e.1)
    (λ len f. ok_bounded (HeaderAt total) total (record { kind = kind.0; number = number.0; flags = flags.0; crc = crc.0; len = len.0 }, len.1) f))))))

abbrev Anywhere : {X : Type 0} → ℕ → X × Cursor → Type 0
Anywhere total x = given x.1 ≡ total

blocks_bounded : (count : ℕ) (before : List Block) (total : ℕ) (cursor : Cursor) → given cursor ≡ total → cursor.at < BUNDLE_LIMIT → Bounded (Anywhere {X = List Block} total) total (blocks_at count before cursor)
unfolding blocks_at
blocks_bounded zero before total cursor all within = other_bounded (Anywhere {X = List Block} total) total cursor reasons.TooLong (λ e. cc)
blocks_bounded (suc count) before total cursor all within =
    then_bounded (HeaderAt total) (Anywhere {X = List Block} total) total (header_at before cursor) _ (header_bounded before total cursor all within)
    (λ header a. then_bounded (Within {X = List ℕ} total) (Anywhere {X = List Block} total) total (content_at header.0.len header.1) _ (content_bounded header.0.len total header.1 a.0 a.1)
    (λ body b. then_bounded (WithinThere total) (Anywhere {X = List Block} total) total (check_at header.0.crc (block_check (block_of header.0 body.0)) body.1) (λ after. next_at (blocks_at count) before (block_of header.0 body.0) after) (check_bounded header.0.crc (block_check (block_of header.0 body.0)) total body.1 b.0 b.1)
    (λ after c. either_bounded (Anywhere {X = List Block} total) total (is_payload (block_of header.0 body.0)) _ _
    (then_bounded (λ x. (given x ≡ total) × (x.at ≡ after.at + 1)) (Anywhere {X = List Block} total) total (end_at after) (λ end. Ok (before ++ block_of header.0 body.0 ∷ [], end)) (end_bounded total after c.0 c.1) (λ end d. ok_bounded (Anywhere {X = List Block} total) total (before ++ block_of header.0 body.0 ∷ [], end) d.0))
    (blocks_bounded count (before ++ block_of header.0 body.0 ∷ []) total after c.0 c.1))))

bundle_bounded : (total : ℕ) (cursor : Cursor) → given cursor ≡ total → cursor.at ≡ 0 → Bounded (Anywhere {X = Contents} total) total (bundle_at cursor)
unfolding bundle_at
bundle_bounded total cursor all start =
    then_bounded (Within {X = Primary} total) (Anywhere {X = Contents} total) total (front_at cursor) _ (front_bounded total cursor all start)
    (λ primary a. then_bounded (Anywhere {X = List Block} total) (Anywhere {X = Contents} total) total (blocks_at 65 [] primary.1) _ (blocks_bounded 65 [] total primary.1 a.0 a.1)
    (λ blocks b. ok_bounded (Anywhere {X = Contents} total) total (record { primary = primary.0; blocks = blocks.0 }, blocks.1) b))

-- fewer bytes are there of a bundle that isn't whole than the limit and 8 more
pub early_is_small : (bytes : List ℕ) (fault : Fault) → read_bundle bytes ≡ Err fault → fault.reason ≡ reasons.Truncated → length bytes < BUNDLE_LIMIT + 8
unfolding read_bundle Bounded
early_is_small bytes fault is early = let all : 0 + length bytes ≡ length bytes = omega arith in subst (Bounded (Anywhere {X = Contents} (length bytes)) (length bytes)) is (bundle_bounded (length bytes) (record { at = 0; rest = bytes }) all refl) early
