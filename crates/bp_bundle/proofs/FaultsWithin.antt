-- Reading keeps the number of all bytes given; no fault stands behind them, and where bytes end too early, it is their number.
use Rattle.std.proofs.Common.{◌≡◌, ℕ, zero, suc, ◌+◌, ◌-◌, ◌%◌, ◌≤◌, Bool, true, false, cond, ltb, eqb, List, [], ◌∷◌, ◌++◌, length, take, Option, Some, None, Result, Ok, Err, refl, sym, ◌∙◌, ap, arith, length-drop}
use Rattle.std.specs.Prelude.{bytes_eq}
use Rattle.std.proofs.lemmas.Bool.{ltb-false}
use Rattle.cbor_profile.specs.Step.{◌>>=◌}
use Rattle.cbor_profile.specs.declared.TheConstants.{BUNDLE_LIMIT}
use Rattle.cbor_profile.specs.declared.head.Head.{Head}
use Rattle.cbor_profile.specs.declared.fault.Reason.{Reason}
use Rattle.cbor_profile.specs.declared.fault.Reason.TheVariants as reasons
use Rattle.cbor_profile.specs.declared.fault.Fault.{Fault}
use Rattle.cbor_profile.specs.Token.{token_head}
use Rattle.bp_crc.specs.declared.kind.CheckKind.{CheckKind}
use Rattle.bp_crc.specs.declared.kind.CheckKind.TheVariants as kinds
use Rattle.bp_eid.specs.declared.eid.Eid.{Eid}
use Rattle.bp_eid.specs.declared.reading.EidAt.{EidAt}
use Rattle.bp_eid.specs.declared.stop.Stop.{Stop}
use Rattle.bp_eid.specs.Reading.{read_id, answer, place_of as id_place, fault_of, id_at as reading_at}
use Rattle.bp_primary.specs.Flags.{is_fragment}
use Rattle.bp_blocks.specs.declared.block.Block.{Block}
use Rattle.bp_crc.specs.Item.{check_of}
use Rattle.bp_bundle.specs.declared.token.Token.{Token}
use Rattle.bp_bundle.specs.declared.token.Token.TheVariants as tokens
use Rattle.bp_bundle.specs.Faults.{is_payload}
use Rattle.bp_bundle.specs.Tokens.{Cursor, stops, major_of, conditions, first_failing, announced, up_to, after_conditions, after_head, argument_at}
use Rattle.bp_bundle.specs.FirstFault.{past, after_byte, begin_at, end_at, content_at, after_id, id_at, check_type_at, check_string_at, check_at, nodes_at, times_at, piece_at, primary_of, primary_check, fields_at, primary_at, header_at, block_of, block_check, next_at, closed_at, blocks_at, front_at, bundle_at}
use Rattle.bp_bundle.proofs.LeftIsLess.{token_shorter}
use Rattle.bp_bundle.proofs.ReadingStays.{id_len}

-- how many bytes were given
abbrev pub given : Cursor → ℕ
given cursor = cursor.at + length cursor.rest

-- as many bytes are given still; a fault stands within them, and bytes that end too early do so there
unfoldable pub Ends : {A : Type 0} → (A → Cursor) → ℕ → Result A Fault → Type 0
Ends end total (Ok x) = given (end x) ≡ total
Ends end total (Err fault) = (fault.reason ≡ reasons.Truncated → fault.place ≡ total) × (fault.place ≤ total)

abbrev pub second : {X : Type 0} → X × Cursor → Cursor
second x = x.1

abbrev pub itself : Cursor → Cursor
itself cursor = cursor

pub then_ends : {A B : Type 0} (end : A → Cursor) (end' : B → Cursor) (total : ℕ) (r : Result A Fault) (f : A → Result B Fault) → Ends end total r → ((x : A) → given (end x) ≡ total → Ends end' total (f x)) → Ends end' total (r >>= f)
unfolding Ends
then_ends end end' total (Ok x) f p q = q x p
then_ends end end' total (Err fault) f p q = p

pub either_ends : {A : Type 0} (end : A → Cursor) (total : ℕ) (b : Bool) (x y : Result A Fault) → Ends end total x → Ends end total y → Ends end total (cond b x y)
either_ends end total true x y p q = p
either_ends end total false x y p q = q

pub ok_ends : {A : Type 0} (end : A → Cursor) (total : ℕ) (x : A) → given (end x) ≡ total → Ends end total (Ok x)
unfolding Ends
ok_ends end total x is = is

pub stops_end : {A : Type 0} (end : A → Cursor) (total : ℕ) (cursor : Cursor) (reason : Reason) → given cursor ≡ total → Ends end total (stops cursor reason)
unfolding Ends
stops_end end total cursor reasons.NotBundle is = (λ early. absurd cc, omega arith)
stops_end end total cursor reasons.Truncated is = (λ early. is, omega arith)
stops_end end total cursor reasons.NotShortest is = (λ early. absurd cc, omega arith)
stops_end end total cursor reasons.WrongKind is = (λ early. absurd cc, omega arith)
stops_end end total cursor reasons.WrongCount is = (λ early. absurd cc, omega arith)
stops_end end total cursor reasons.WrongValue is = (λ early. absurd cc, omega arith)
stops_end end total cursor reasons.WrongText is = (λ early. absurd cc, omega arith)
stops_end end total cursor reasons.WrongCheck is = (λ early. absurd cc, omega arith)
stops_end end total cursor reasons.TooLong is = (λ early. absurd cc, omega arith)
stops_end end total cursor reasons.Trailing is = (λ early. absurd cc, omega arith)
stops_end end total cursor reasons.Repeated is = (λ early. absurd cc, omega arith)

-- ---- tokens

conditions_end : (total : ℕ) (cursor : Cursor) (failing : Option Reason) (head : Head) (after : Cursor) → given cursor ≡ total → given after ≡ total → Ends second total (after_conditions cursor failing head after)
conditions_end total cursor (Some reason) head after is then = stops_end second total cursor reason is
conditions_end total cursor None head after is then =
    either_ends second total (ltb (BUNDLE_LIMIT - 1) (after.at + announced head)) (stops cursor reasons.TooLong) (Ok (head.value, after)) (stops_end second total cursor reasons.TooLong is) (ok_ends second total (head.value, after) then)

head_ends : (before : List Block) (token : Token) (cursor : Cursor) (r : Result (Head × List ℕ) Reason) → token_head (major_of token ∷ []) cursor.rest ≡ r → Ends second (given cursor) (after_head before token cursor r)
head_ends before token cursor (Err reason) is = stops_end second (given cursor) cursor reason refl
head_ends before token cursor (Ok x) is =
    let shorter = token_shorter (major_of token ∷ []) cursor.rest x.0 x.1 is in
    conditions_end (given cursor) cursor (first_failing (conditions before token) x.0.value) x.0 (up_to cursor x.1) refl (omega arith)

argument_by : (before : List Block) (token : Token) (cursor : Cursor) → Ends second (given cursor) (argument_at before token cursor)
unfolding argument_at
argument_by before token cursor = head_ends before token cursor (token_head (major_of token ∷ []) cursor.rest) refl

pub argument_ends : (before : List Block) (token : Token) (total : ℕ) (cursor : Cursor) → given cursor ≡ total → Ends second total (argument_at before token cursor)
argument_ends before token total cursor is = rw (← is) (argument_by before token cursor)

past_given : (count : ℕ) (cursor : Cursor) → count ≤ length cursor.rest → given (past count cursor) ≡ given cursor
past_given count cursor within = omega (arith, length-drop count cursor.rest)

byte_ends : (byte : ℕ) (reason : Reason) (total : ℕ) (cursor : Cursor) (bytes : List ℕ) → cursor.rest ≡ bytes → given cursor ≡ total → Ends itself total (after_byte byte (stops cursor reason) cursor bytes)
byte_ends byte reason total cursor [] at is = stops_end itself total cursor reasons.Truncated is
byte_ends byte reason total cursor (first ∷ rest) at is =
    let one : 1 ≤ length cursor.rest = omega (arith, ap (λ (xs : List ℕ). length xs) at) in
    either_ends itself total (eqb first byte) (Ok (past 1 cursor)) (stops cursor reason) (ok_ends itself total (past 1 cursor) (past_given 1 cursor one ∙ is)) (stops_end itself total cursor reason is)

pub begin_ends : (total : ℕ) (cursor : Cursor) → given cursor ≡ total → Ends itself total (begin_at cursor)
unfolding begin_at
begin_ends total cursor is = byte_ends 0x9f reasons.NotBundle total cursor cursor.rest refl is

pub end_ends : (total : ℕ) (cursor : Cursor) → given cursor ≡ total → Ends itself total (end_at cursor)
unfolding end_at
end_ends total cursor is = byte_ends 0xff reasons.WrongKind total cursor cursor.rest refl is

content_by : (b : Bool) (len total : ℕ) (cursor : Cursor) → ltb (length cursor.rest) len ≡ b → given cursor ≡ total → Ends second total (cond b (stops cursor reasons.Truncated) (Ok (take len cursor.rest, past len cursor)))
content_by true len total cursor e is = stops_end second total cursor reasons.Truncated is
content_by false len total cursor e is = ok_ends second total (take len cursor.rest, past len cursor) (past_given len cursor (ltb-false _ _ e) ∙ is)

pub content_ends : (len total : ℕ) (cursor : Cursor) → given cursor ≡ total → Ends second total (content_at len cursor)
unfolding content_at
content_ends len total cursor is = content_by (ltb (length cursor.rest) len) len total cursor refl is

-- ---- ids

id_early : (bytes : List ℕ) (read : Result (Eid × List ℕ) Stop) (fault : Fault) → answer bytes read ≡ Err fault → fault.reason ≡ reasons.Truncated → fault.place ≡ length bytes
id_early bytes (Ok x) fault is early = absurd cc
id_early bytes (Err stop) fault is early =
    let same : fault_of (length bytes) stop ≡ fault = cc in
    let reason : stop.reason ≡ reasons.Truncated = ap (λ (f : Fault). f.reason) same ∙ early in
    sym (ap (λ (f : Fault). f.place) same) ∙ ap (λ (r : Reason). id_place (length bytes) r stop.left) reason

pub id_fault_early : (bytes : List ℕ) (fault : Fault) → read_id bytes ≡ Err fault → fault.reason ≡ reasons.Truncated → fault.place ≡ length bytes
unfolding read_id
id_fault_early bytes fault is early = id_early bytes (reading_at bytes) fault is early

placed_within : (given left : ℕ) (reason : Reason) → id_place given reason left ≤ given
placed_within given left reasons.NotBundle = omega arith
placed_within given left reasons.Truncated = omega arith
placed_within given left reasons.NotShortest = omega arith
placed_within given left reasons.WrongKind = omega arith
placed_within given left reasons.WrongCount = omega arith
placed_within given left reasons.WrongValue = omega arith
placed_within given left reasons.WrongText = omega arith
placed_within given left reasons.WrongCheck = omega arith
placed_within given left reasons.TooLong = omega arith
placed_within given left reasons.Trailing = omega arith
placed_within given left reasons.Repeated = omega arith

id_within : (bytes : List ℕ) (read : Result (Eid × List ℕ) Stop) (fault : Fault) → answer bytes read ≡ Err fault → fault.place ≤ length bytes
id_within bytes (Ok x) fault is = absurd cc
id_within bytes (Err stop) fault is =
    let same : fault_of (length bytes) stop ≡ fault = cc in
    rw (← same) (placed_within (length bytes) stop.left stop.reason)

id_fault_within : (bytes : List ℕ) (fault : Fault) → read_id bytes ≡ Err fault → fault.place ≤ length bytes
unfolding read_id
id_fault_within bytes fault is = id_within bytes (reading_at bytes) fault is

id_by : (total : ℕ) (cursor : Cursor) (r : Result EidAt Fault) → read_id cursor.rest ≡ r → given cursor ≡ total → Ends second total (after_id cursor r)
unfolding Ends
id_by total cursor (Ok at) e is = past_given at.len cursor (id_len cursor.rest at e) ∙ is
id_by total cursor (Err fault) e is = (λ early. let place = id_fault_early cursor.rest fault e early in omega arith, let place = id_fault_within cursor.rest fault e in omega arith)

pub id_ends : (total : ℕ) (cursor : Cursor) → given cursor ≡ total → Ends second total (id_at cursor)
unfolding id_at
id_ends total cursor is = id_by total cursor (read_id cursor.rest) refl is

-- ---- checks

pub check_type_ends : (checked : Bool) (total : ℕ) (cursor : Cursor) → given cursor ≡ total → Ends second total (check_type_at checked cursor)
unfolding check_type_at
check_type_ends checked total cursor is =
    then_ends second second total (argument_at [] (tokens.CheckType checked) cursor) _ (argument_ends [] (tokens.CheckType checked) total cursor is) (λ x at. ok_ends second total (check_of x.0, x.1) at)

check_string_ends : (kind : CheckKind) (check : List ℕ) (total : ℕ) (cursor : Cursor) → given cursor ≡ total → Ends itself total (check_string_at kind check cursor)
unfolding check_string_at
check_string_ends kind check total cursor is =
    then_ends second itself total (argument_at [] (tokens.CheckString kind) cursor) _ (argument_ends [] (tokens.CheckString kind) total cursor is)
    (λ len at. then_ends second itself total (content_at len.0 len.1) _ (content_ends len.0 total len.1 at)
    (λ x then. either_ends itself total (bytes_eq x.0 check) (Ok x.1) (stops len.1 reasons.WrongCheck) (ok_ends itself total x.1 then) (stops_end itself total len.1 reasons.WrongCheck at)))

pub check_ends : (kind : CheckKind) (check : List ℕ) (total : ℕ) (cursor : Cursor) → given cursor ≡ total → Ends itself total (check_at kind check cursor)
unfolding check_at
check_ends kinds.None check total cursor is = ok_ends itself total cursor is
check_ends kinds.Crc16 check total cursor is = check_string_ends kinds.Crc16 check total cursor is
check_ends kinds.Crc32c check total cursor is = check_string_ends kinds.Crc32c check total cursor is

-- ---- the primary block

nodes_end : (total : ℕ) (cursor : Cursor) → given cursor ≡ total → Ends second total (nodes_at cursor)
unfolding nodes_at
nodes_end total cursor is =
    then_ends second second total (id_at cursor) _ (id_ends total cursor is)
    (λ a at. then_ends second second total (id_at a.1) _ (id_ends total a.1 at)
    (λ b bt. then_ends second second total (id_at b.1) _ (id_ends total b.1 bt)
    (λ c ct. ok_ends second total (record { destination = a.0; source = b.0; report_to = c.0 }, c.1) ct)))

times_end : (total : ℕ) (cursor : Cursor) → given cursor ≡ total → Ends second total (times_at cursor)
unfolding times_at
times_end total cursor is =
    then_ends second second total (argument_at [] tokens.Pair cursor) _ (argument_ends [] tokens.Pair total cursor is)
    (λ p pt. then_ends second second total (argument_at [] tokens.Number p.1) _ (argument_ends [] tokens.Number total p.1 pt)
    (λ a at. then_ends second second total (argument_at [] tokens.Number a.1) _ (argument_ends [] tokens.Number total a.1 at)
    (λ b bt. then_ends second second total (argument_at [] tokens.Number b.1) _ (argument_ends [] tokens.Number total b.1 bt)
    (λ c ct. ok_ends second total (record { created = a.0; sequence = b.0; lifetime = c.0 }, c.1) ct))))

piece_ends : (fragmented : Bool) (total : ℕ) (cursor : Cursor) → given cursor ≡ total → Ends second total (piece_at fragmented cursor)
unfolding piece_at
piece_ends false total cursor is = ok_ends second total (record { offset = 0; total = 0 }, cursor) is
piece_ends true total cursor is =
    then_ends second second total (argument_at [] tokens.Number cursor) _ (argument_ends [] tokens.Number total cursor is)
    (λ a at. then_ends second second total (argument_at [] tokens.Number a.1) _ (argument_ends [] tokens.Number total a.1 at)
    (λ b bt. ok_ends second total (record { offset = a.0; total = b.0 }, b.1) bt))

fields_end : (total : ℕ) (cursor : Cursor) → given cursor ≡ total → Ends second total (fields_at cursor)
unfolding fields_at
fields_end total cursor is =
    then_ends second second total (argument_at [] tokens.PrimaryArray cursor) _ (argument_ends [] tokens.PrimaryArray total cursor is)
    (λ items at. then_ends second second total (argument_at [] tokens.Version items.1) _ (argument_ends [] tokens.Version total items.1 at)
    (λ version bt. then_ends second second total (argument_at [] (tokens.BundleFlags items.0) version.1) _ (argument_ends [] (tokens.BundleFlags items.0) total version.1 bt)
    (λ flags ct. then_ends second second total (check_type_at (eqb (items.0 % 2) 1) flags.1) _ (check_type_ends (eqb (items.0 % 2) 1) total flags.1 ct)
    (λ crc dt. then_ends second second total (nodes_at crc.1) _ (nodes_end total crc.1 dt)
    (λ nodes et. then_ends second second total (times_at nodes.1) _ (times_end total nodes.1 et)
    (λ times ft. then_ends second second total (piece_at (is_fragment flags.0) times.1) _ (piece_ends (is_fragment flags.0) total times.1 ft)
    (λ piece gt. ok_ends second total (primary_of flags.0 crc.0 nodes.0 times.0 piece.0, piece.1) gt)))))))

pub primary_ends : (total : ℕ) (cursor : Cursor) → given cursor ≡ total → Ends second total (primary_at cursor)
unfolding primary_at
primary_ends total cursor is =
    then_ends second second total (fields_at cursor) _ (fields_end total cursor is)
    (λ primary at. then_ends itself second total (check_at primary.0.crc (primary_check primary.0) primary.1) _ (check_ends primary.0.crc (primary_check primary.0) total primary.1 at)
    (λ after bt. ok_ends second total (primary.0, after) bt))

pub front_ends : (total : ℕ) (cursor : Cursor) → given cursor ≡ total → Ends second total (front_at cursor)
unfolding front_at
front_ends total cursor is = then_ends itself second total (begin_at cursor) primary_at (begin_ends total cursor is) (λ after at. primary_ends total after at)

-- ---- canonical blocks

pub header_ends : (before : List Block) (total : ℕ) (cursor : Cursor) → given cursor ≡ total → Ends second total (header_at before cursor)
unfolding header_at
header_ends before total cursor is =
    then_ends second second total (argument_at before tokens.BlockArray cursor) _ (argument_ends before tokens.BlockArray total cursor is)
    (λ items at. then_ends second second total (argument_at before tokens.BlockType items.1) _ (argument_ends before tokens.BlockType total items.1 at)
    (λ kind bt. then_ends second second total (argument_at before (tokens.BlockNumber kind.0) kind.1) _ (argument_ends before (tokens.BlockNumber kind.0) total kind.1 bt)
    (λ number ct. then_ends second second total (argument_at before tokens.Number number.1) _ (argument_ends before tokens.Number total number.1 ct)
    (λ flags dt. then_ends second second total (check_type_at (eqb items.0 6) flags.1) _ (check_type_ends (eqb items.0 6) total flags.1 dt)
    (λ crc et. then_ends second second total (argument_at before tokens.Body crc.1) _ (argument_ends before tokens.Body total crc.1 et)
    (λ len ft. ok_ends second total (record { kind = kind.0; number = number.0; flags = flags.0; crc = crc.0; len = len.0 }, len.1) ft))))))

abbrev pub ReadingEnds : (List Block → Cursor → Result (List Block × Cursor) Fault) → Type 0
ReadingEnds go = (before : List Block) (total : ℕ) (cursor : Cursor) → given cursor ≡ total → Ends second total (go before cursor)

pub closed_ends : (go : List Block → Cursor → Result (List Block × Cursor) Fault) → ReadingEnds go → (before : List Block) (block : Block) (total : ℕ) (cursor : Cursor) → given cursor ≡ total → Ends second total (closed_at go before block cursor)
closed_ends go ends before block total cursor is =
    then_ends itself second total (check_at block.crc (block_check block) cursor) (λ after. next_at go before block after) (check_ends block.crc (block_check block) total cursor is)
    (λ after at. either_ends second total (is_payload block) _ _ (then_ends itself second total (end_at after) (λ end. Ok (before ++ block ∷ [], end)) (end_ends total after at) (λ end et. ok_ends second total (before ++ block ∷ [], end) et)) (ends (before ++ block ∷ []) total after at))

pub blocks_end : (count : ℕ) → ReadingEnds (blocks_at count)
unfolding blocks_at
blocks_end zero before total cursor is = stops_end second total cursor reasons.TooLong is
blocks_end (suc count) before total cursor is =
    then_ends second second total (header_at before cursor) _ (header_ends before total cursor is)
    (λ header at. then_ends second second total (content_at header.0.len header.1) _ (content_ends header.0.len total header.1 at)
    (λ body bt. closed_ends (blocks_at count) (blocks_end count) before (block_of header.0 body.0) total body.1 bt))

pub bundle_ends : (total : ℕ) (cursor : Cursor) → given cursor ≡ total → Ends second total (bundle_at cursor)
unfolding bundle_at
bundle_ends total cursor is =
    then_ends second second total (front_at cursor) _ (front_ends total cursor is)
    (λ primary at. then_ends second second total (blocks_at 65 [] primary.1) _ (blocks_end 65 [] total primary.1 at)
    (λ blocks bt. ok_ends second total (record { primary = primary.0; blocks = blocks.0 }, blocks.1) bt))
