-- What was read, and a fault but for bytes that end too early, stay when bytes are added.
use Rattle.std.proofs.Common.{◌≡◌, ◌≢◌, ℕ, zero, suc, ◌+◌, ◌-◌, ◌/◌, ◌%◌, ◌≤◌, Bool, true, false, cond, ltb, eqb, List, [], ◌∷◌, ◌++◌, length, take, Option, Some, None, Result, Ok, Err, refl, sym, ◌∙◌, ap, arith}
use Rattle.std.specs.Prelude.{bytes_eq}
use Rattle.std.specs.List.{list_any}
use Rattle.std.proofs.lemmas.Bool.{le-ltb, ltb-false}
use Rattle.std.proofs.lemmas.List.{length-append, take-append-le, drop-append-le}
use Rattle.cbor_profile.specs.declared.TheConstants.{BUNDLE_LIMIT}
use Rattle.cbor_profile.specs.declared.head.Head.{Head}
use Rattle.cbor_profile.specs.declared.head.HeadRead.{HeadRead}
use Rattle.cbor_profile.specs.declared.head.HeadRead.TheVariants.{Whole, Short, NotShortest, Bad}
use Rattle.cbor_profile.specs.declared.fault.Reason.{Reason}
use Rattle.cbor_profile.specs.declared.fault.Reason.TheVariants as reasons
use Rattle.cbor_profile.specs.declared.fault.Fault.{Fault}
use Rattle.cbor_profile.specs.Head.{read_head, is_bad, following, argument, least}
use Rattle.cbor_profile.specs.Step.{◌>>=◌}
use Rattle.cbor_profile.specs.Token.{token_head, after_read}
use Rattle.bp_crc.specs.declared.kind.CheckKind.{CheckKind}
use Rattle.bp_crc.specs.declared.kind.CheckKind.TheVariants as kinds
use Rattle.bp_eid.specs.declared.eid.Eid.{Eid}
use Rattle.bp_eid.specs.declared.reading.EidAt.{EidAt}
use Rattle.bp_eid.specs.declared.stop.Stop.{Stop}
use Rattle.bp_eid.specs.Reading.{read_id, answer, id_at as reading_at}
use Rattle.bp_primary.specs.Flags.{is_fragment}
use Rattle.bp_blocks.specs.declared.block.Block.{Block}
use Rattle.bp_crc.specs.Item.{check_of}
use Rattle.bp_bundle.specs.declared.token.Token.{Token}
use Rattle.bp_bundle.specs.declared.token.Token.TheVariants as tokens
use Rattle.bp_bundle.specs.Faults.{is_payload}
use Rattle.bp_bundle.specs.Tokens.{Cursor, stops, major_of, conditions, first_failing, announced, up_to, after_conditions, after_head, argument_at}
use Rattle.bp_bundle.specs.FirstFault.{past, after_byte, begin_at, end_at, content_at, after_id, id_at, check_type_at, check_string_at, check_at, nodes_at, times_at, piece_at, primary_of, primary_check, fields_at, primary_at, header_at, block_of, block_check, next_at, closed_at, blocks_at, front_at, bundle_at}

-- the laws of the crates below
pub record GrowthLaws : Type 0 where
  pub heads : (bytes more : List ℕ) → (read_head bytes ≡ Short → ⊥) → read_head (bytes ++ more) ≡ read_head bytes
  pub ids : (bytes more : List ℕ) (at : EidAt) → read_id bytes ≡ Ok at → read_id (bytes ++ more) ≡ Ok at
  pub id_faults : (bytes more : List ℕ) (fault : Fault) → read_id bytes ≡ Err fault → fault.reason ≢ reasons.Truncated → read_id (bytes ++ more) ≡ Err fault

-- ---- steps

abbrev pub more_at : List ℕ → Cursor → Cursor
more_at more cursor = record { at = cursor.at; rest = cursor.rest ++ more }

abbrev pub with_more : {X : Type 0} → List ℕ → X × Cursor → X × Cursor
with_more more x = (x.0, more_at more x.1)

-- what was read, changed so, or the same fault
abbrev pub grown : {A : Type 0} → (A → A) → Result A Fault → Result A Fault
grown e (Ok x) = Ok (e x)
grown e (Err fault) = Err fault

-- it isn't that bytes end too early
unfoldable pub Stays : {A : Type 0} → Result A Fault → Type 0
Stays (Ok x) = Unit {0}
Stays (Err fault) = fault.reason ≢ reasons.Truncated

abbrev pub Grows : {A : Type 0} → (A → A) → Result A Fault → Result A Fault → Type 0
Grows e r r' = Stays r → r' ≡ grown e r

pub stays_ok : {A : Type 0} (e : A → A) (r r' : Result A Fault) (x : A) → Grows e r r' → r ≡ Ok x → r' ≡ Ok (e x)
unfolding Stays
stays_ok e (Ok y) r' x grows is = grows tt ∙ ap (grown e) is
stays_ok e (Err fault) r' x grows is = absurd cc

pub stays_err : {A : Type 0} (e : A → A) (r r' : Result A Fault) (fault : Fault) → Grows e r r' → r ≡ Err fault → fault.reason ≢ reasons.Truncated → r' ≡ Err fault
unfolding Stays
stays_err e (Ok y) r' fault grows is other = absurd cc
stays_err e (Err own) r' fault grows is other =
    let same : own ≡ fault = cc in
    grows (λ early. other (ap (λ (f : Fault). f.reason) (sym same) ∙ early)) ∙ ap (grown e) is

pub then_grows : {A B : Type 0} (e : A → A) (e' : B → B) (r r' : Result A Fault) (f g : A → Result B Fault) → Grows e r r' → ((x : A) → Grows e' (f x) (g (e x))) → Grows e' (r >>= f) (r' >>= g)
unfolding Stays
then_grows e e' (Ok x) r' f g p q stays = rw (p tt) (q x stays)
then_grows e e' (Err fault) r' f g p q stays = rw (p stays) refl

pub either_grows : {A : Type 0} (e : A → A) (b : Bool) (x x' y y' : Result A Fault) → Grows e x x' → Grows e y y' → Grows e (cond b x y) (cond b x' y')
either_grows e true x x' y y' p q stays = p stays
either_grows e false x x' y y' p q stays = q stays

pub ok_grows : {A : Type 0} (e : A → A) (x : A) → Grows e (Ok x) (Ok (e x))
ok_grows e x stays = refl

pub stops_grows : {A : Type 0} (e : A → A) (cursor : Cursor) (more : List ℕ) (reason : Reason) → Grows e (stops cursor reason) (stops (more_at more cursor) reason)
unfolding Stays
stops_grows e cursor more reasons.NotBundle stays = refl
stops_grows e cursor more reasons.Truncated stays = absurd (stays refl)
stops_grows e cursor more reasons.NotShortest stays = refl
stops_grows e cursor more reasons.WrongKind stays = refl
stops_grows e cursor more reasons.WrongCount stays = refl
stops_grows e cursor more reasons.WrongValue stays = refl
stops_grows e cursor more reasons.WrongText stays = refl
stops_grows e cursor more reasons.WrongCheck stays = refl
stops_grows e cursor more reasons.TooLong stays = refl
stops_grows e cursor more reasons.Trailing stays = refl
stops_grows e cursor more reasons.Repeated stays = refl

-- ---- heads

pub let_by : (b : Bool) (x y z : HeadRead) → cond b x y ≡ z → (x ≡ z → ⊥) → (b ≡ false) × (y ≡ z)
let_by true x y z e differs = absurd (differs e)
let_by false x y z e differs = (refl, e)

whole_len : (bytes : List ℕ) (head : Head) (len : ℕ) → read_head bytes ≡ Whole head len → len ≤ length bytes
unfolding read_head
whole_len [] head len e = absurd cc
whole_len (first ∷ rest) head len e =
    let a = let_by (is_bad first) Bad _ (Whole head len) e (λ h. cc) in
    let b = let_by (ltb (length rest) (following (first % 32))) Short _ (Whole head len) a.1 (λ h. cc) in
    let c = let_by (ltb (argument (first % 32) rest) (least (first % 32))) NotShortest _ (Whole head len) b.1 (λ h. cc) in
    let long : following (first % 32) ≤ length rest = ltb-false _ _ b.0 in
    let same : following (first % 32) + 1 ≡ len = cc in
    omega arith

abbrev grown_token : List ℕ → Result (Head × List ℕ) Reason → Result (Head × List ℕ) Reason
grown_token more (Ok x) = Ok (x.0, x.1 ++ more)
grown_token more (Err reason) = Err reason

after_grows : (bytes more : List ℕ) (read : HeadRead) → ((head : Head) (len : ℕ) → read ≡ Whole head len → len ≤ length bytes) → (read ≡ Short → ⊥) → after_read (bytes ++ more) read ≡ grown_token more (after_read bytes read)
after_grows bytes more (Whole head len) long whole = let le = long head len refl in rw drop-append-le refl
after_grows bytes more Short long whole = absurd (whole refl)
after_grows bytes more NotShortest long whole = refl
after_grows bytes more Bad long whole = refl

among_grows : (b : Bool) (more : List ℕ) (x y : Result (Head × List ℕ) Reason) → ((x ≡ Err reasons.Truncated → ⊥) → y ≡ grown_token more x) → (cond b x (Err reasons.WrongKind) ≡ Err reasons.Truncated → ⊥)
    → cond b y (Err reasons.WrongKind) ≡ grown_token more (cond b x (Err reasons.WrongKind))
among_grows true more x y same stays = same stays
among_grows false more x y same stays = refl

token_grows : (laws : GrowthLaws) (kinds bytes more : List ℕ) → (token_head kinds bytes ≡ Err reasons.Truncated → ⊥) → token_head kinds (bytes ++ more) ≡ grown_token more (token_head kinds bytes)
unfolding token_head
token_grows laws kinds [] more stays = absurd (stays refl)
token_grows laws kinds (first ∷ rest) more stays =
    let bytes : List ℕ = first ∷ rest in
    among_grows (list_any (λ kind. eqb kind (first / 32)) kinds) more (after_read bytes (read_head bytes)) (after_read (bytes ++ more) (read_head (bytes ++ more))) (λ whole.
    let read : read_head bytes ≡ Short → ⊥ = λ e. whole (ap (after_read bytes) e) in
    ap (after_read (bytes ++ more)) (laws.heads bytes more read) ∙ after_grows bytes more (read_head bytes) (λ head len e. whole_len bytes head len e) read) stays

-- ---- arguments

up_to_grows : (cursor : Cursor) (more rest : List ℕ) → up_to (more_at more cursor) (rest ++ more) ≡ more_at more (up_to cursor rest)
up_to_grows cursor more rest =
    let same : length (cursor.rest ++ more) - length (rest ++ more) ≡ length cursor.rest - length rest = omega (arith, length-append cursor.rest more, length-append rest more) in
    ap (λ (n : ℕ). record { at = cursor.at + n; rest = rest ++ more }) same

conditions_grow : (cursor : Cursor) (more : List ℕ) (failing : Option Reason) (head : Head) (after : Cursor) → Grows (with_more more) (after_conditions cursor failing head after) (after_conditions (more_at more cursor) failing head (more_at more after))
conditions_grow cursor more (Some reason) head after = stops_grows (with_more more) cursor more reason
conditions_grow cursor more None head after =
    either_grows (with_more more) (ltb (BUNDLE_LIMIT - 1) (after.at + announced head)) (stops cursor reasons.TooLong) _ (Ok (head.value, after)) _ (stops_grows (with_more more) cursor more reasons.TooLong) (ok_grows (with_more more) (head.value, after))

reason_of : {A : Type 0} {r s : Reason} → ◌≡◌ {A = Result A Reason} (Err r) (Err s) → r ≡ s
reason_of e = cc

head_grows : (before : List Block) (token : Token) (cursor : Cursor) (more : List ℕ) (r r' : Result (Head × List ℕ) Reason) → ((r ≡ Err reasons.Truncated → ⊥) → r' ≡ grown_token more r)
    → Grows (with_more more) (after_head before token cursor r) (after_head before token (more_at more cursor) r')
unfolding Stays
head_grows before token cursor more (Err reason) r' same stays =
    rw (same (λ e. stays (reason_of e))) (stops_grows (with_more more) cursor more reason stays)
head_grows before token cursor more (Ok x) r' same stays =
    rw (same (λ e. absurd cc)) (rw (up_to_grows cursor more x.1) (conditions_grow cursor more (first_failing (conditions before token) x.0.value) x.0 (up_to cursor x.1) stays))

pub argument_grows : (laws : GrowthLaws) (before : List Block) (token : Token) (cursor : Cursor) (more : List ℕ) → Grows (with_more more) (argument_at before token cursor) (argument_at before token (more_at more cursor))
unfolding argument_at
argument_grows laws before token cursor more =
    head_grows before token cursor more (token_head (major_of token ∷ []) cursor.rest) (token_head (major_of token ∷ []) (cursor.rest ++ more)) (λ whole. token_grows laws (major_of token ∷ []) cursor.rest more whole)

-- ---- other tokens

past_grows : (count : ℕ) (cursor : Cursor) (more : List ℕ) → count ≤ length cursor.rest → past count (more_at more cursor) ≡ more_at more (past count cursor)
past_grows count cursor more within = ap (λ (rest : List ℕ). record { at = cursor.at + count; rest = rest }) (drop-append-le count cursor.rest more within)

abbrev found : Cursor → Result Cursor Fault
found cursor = Ok cursor

byte_grows : (byte : ℕ) (reason : Reason) (cursor : Cursor) (more bytes : List ℕ) → cursor.rest ≡ bytes → Grows (more_at more) (after_byte byte (stops cursor reason) cursor bytes) (after_byte byte (stops (more_at more cursor) reason) (more_at more cursor) (bytes ++ more))
unfolding Stays
byte_grows byte reason cursor more [] is stays = absurd (stays refl)
byte_grows byte reason cursor more (first ∷ rest) is stays =
    let one : 1 ≤ length cursor.rest = omega (arith, ap (λ (xs : List ℕ). length xs) is) in
    either_grows (more_at more) (eqb first byte) (Ok (past 1 cursor)) (Ok (past 1 (more_at more cursor))) (stops cursor reason) (stops (more_at more cursor) reason) (λ _. ap found (past_grows 1 cursor more one)) (stops_grows (more_at more) cursor more reason) stays

pub begin_grows : (cursor : Cursor) (more : List ℕ) → Grows (more_at more) (begin_at cursor) (begin_at (more_at more cursor))
unfolding begin_at
begin_grows cursor more = byte_grows 0x9f reasons.NotBundle cursor more cursor.rest refl

pub end_grows : (cursor : Cursor) (more : List ℕ) → Grows (more_at more) (end_at cursor) (end_at (more_at more cursor))
unfolding end_at
end_grows cursor more = byte_grows 0xff reasons.WrongKind cursor more cursor.rest refl

content_by : (b : Bool) (len : ℕ) (cursor : Cursor) (more : List ℕ) → ltb (length cursor.rest) len ≡ b → Grows (with_more more) (cond b (stops cursor reasons.Truncated) (Ok (take len cursor.rest, past len cursor))) (content_at len (more_at more cursor))
unfolding content_at Stays
content_by true len cursor more e stays = absurd (stays refl)
content_by false len cursor more e stays =
    let long : len ≤ length cursor.rest = ltb-false _ _ e in
    let longer : ltb (length (cursor.rest ++ more)) len ≡ false = le-ltb _ _ (omega (arith, length-append cursor.rest more)) in
    rw (longer, take-append-le len cursor.rest more long, drop-append-le len cursor.rest more long) refl

pub content_grows : (len : ℕ) (cursor : Cursor) (more : List ℕ) → Grows (with_more more) (content_at len cursor) (content_at len (more_at more cursor))
unfolding content_at
content_grows len cursor more = content_by (ltb (length cursor.rest) len) len cursor more refl

-- ---- ids

answer_len : (bytes : List ℕ) (read : Result (Eid × List ℕ) Stop) (at : EidAt) → answer bytes read ≡ Ok at → at.len ≤ length bytes
answer_len bytes (Ok x) at is =
    let same : length bytes - length x.1 ≡ at.len = cc in
    omega arith
answer_len bytes (Err stop) at is = absurd cc

pub id_len : (bytes : List ℕ) (at : EidAt) → read_id bytes ≡ Ok at → at.len ≤ length bytes
unfolding read_id
id_len bytes at is = answer_len bytes (reading_at bytes) at is

abbrev read : Eid × Cursor → Result (Eid × Cursor) Fault
read x = Ok x

id_by : (laws : GrowthLaws) (cursor : Cursor) (more : List ℕ) (r : Result EidAt Fault) → read_id cursor.rest ≡ r → Grows (with_more more) (after_id cursor r) (after_id (more_at more cursor) (read_id (cursor.rest ++ more)))
unfolding Stays
id_by laws cursor more (Ok at) is stays = rw (laws.ids cursor.rest more at is) (ap (λ (c : Cursor). read (at.eid, c)) (past_grows at.len cursor more (id_len cursor.rest at is)))
id_by laws cursor more (Err fault) is stays = rw (laws.id_faults cursor.rest more fault is stays) refl

pub id_grows : (laws : GrowthLaws) (cursor : Cursor) (more : List ℕ) → Grows (with_more more) (id_at cursor) (id_at (more_at more cursor))
unfolding id_at
id_grows laws cursor more = id_by laws cursor more (read_id cursor.rest) refl

-- ---- checks

pub check_type_grows : (laws : GrowthLaws) (checked : Bool) (cursor : Cursor) (more : List ℕ) → Grows (with_more more) (check_type_at checked cursor) (check_type_at checked (more_at more cursor))
unfolding check_type_at
check_type_grows laws checked cursor more =
    then_grows (with_more more) (with_more more) (argument_at [] (tokens.CheckType checked) cursor) (argument_at [] (tokens.CheckType checked) (more_at more cursor)) _ _ (argument_grows laws [] (tokens.CheckType checked) cursor more)
    (λ x. ok_grows (with_more more) (check_of x.0, x.1))

check_string_grows : (laws : GrowthLaws) (kind : CheckKind) (check : List ℕ) (cursor : Cursor) (more : List ℕ) → Grows (more_at more) (check_string_at kind check cursor) (check_string_at kind check (more_at more cursor))
unfolding check_string_at
check_string_grows laws kind check cursor more =
    then_grows (with_more more) (more_at more) (argument_at [] (tokens.CheckString kind) cursor) (argument_at [] (tokens.CheckString kind) (more_at more cursor)) _ _ (argument_grows laws [] (tokens.CheckString kind) cursor more)
    (λ len. then_grows (with_more more) (more_at more) (content_at len.0 len.1) (content_at len.0 (more_at more len.1)) _ _ (content_grows len.0 len.1 more)
    (λ x. either_grows (more_at more) (bytes_eq x.0 check) (Ok x.1) (Ok (more_at more x.1)) (stops len.1 reasons.WrongCheck) (stops (more_at more len.1) reasons.WrongCheck) (ok_grows (more_at more) x.1) (stops_grows (more_at more) len.1 more reasons.WrongCheck)))

pub check_grows : (laws : GrowthLaws) (kind : CheckKind) (check : List ℕ) (cursor : Cursor) (more : List ℕ) → Grows (more_at more) (check_at kind check cursor) (check_at kind check (more_at more cursor))
unfolding check_at
check_grows laws kinds.None check cursor more = ok_grows (more_at more) cursor
check_grows laws kinds.Crc16 check cursor more = check_string_grows laws kinds.Crc16 check cursor more
check_grows laws kinds.Crc32c check cursor more = check_string_grows laws kinds.Crc32c check cursor more

-- ---- the primary block

nodes_grow : (laws : GrowthLaws) (cursor : Cursor) (more : List ℕ) → Grows (with_more more) (nodes_at cursor) (nodes_at (more_at more cursor))
unfolding nodes_at
nodes_grow laws cursor more =
    then_grows (with_more more) (with_more more) (id_at cursor) (id_at (more_at more cursor)) _ _ (id_grows laws cursor more)
    (λ a. then_grows (with_more more) (with_more more) (id_at a.1) (id_at (more_at more a.1)) _ _ (id_grows laws a.1 more)
    (λ b. then_grows (with_more more) (with_more more) (id_at b.1) (id_at (more_at more b.1)) _ _ (id_grows laws b.1 more)
    (λ c. ok_grows (with_more more) (record { destination = a.0; source = b.0; report_to = c.0 }, c.1))))

abbrev arg : Token → Cursor → Result (ℕ × Cursor) Fault
arg token cursor = argument_at [] token cursor

times_grow : (laws : GrowthLaws) (cursor : Cursor) (more : List ℕ) → Grows (with_more more) (times_at cursor) (times_at (more_at more cursor))
unfolding times_at
times_grow laws cursor more =
    then_grows (with_more more) (with_more more) (arg tokens.Pair cursor) (arg tokens.Pair (more_at more cursor)) _ _ (argument_grows laws [] tokens.Pair cursor more)
    (λ p. then_grows (with_more more) (with_more more) (arg tokens.Number p.1) (arg tokens.Number (more_at more p.1)) _ _ (argument_grows laws [] tokens.Number p.1 more)
    (λ a. then_grows (with_more more) (with_more more) (arg tokens.Number a.1) (arg tokens.Number (more_at more a.1)) _ _ (argument_grows laws [] tokens.Number a.1 more)
    (λ b. then_grows (with_more more) (with_more more) (arg tokens.Number b.1) (arg tokens.Number (more_at more b.1)) _ _ (argument_grows laws [] tokens.Number b.1 more)
    (λ c. ok_grows (with_more more) (record { created = a.0; sequence = b.0; lifetime = c.0 }, c.1)))))

piece_grows : (laws : GrowthLaws) (fragmented : Bool) (cursor : Cursor) (more : List ℕ) → Grows (with_more more) (piece_at fragmented cursor) (piece_at fragmented (more_at more cursor))
unfolding piece_at
piece_grows laws false cursor more = ok_grows (with_more more) (record { offset = 0; total = 0 }, cursor)
piece_grows laws true cursor more =
    then_grows (with_more more) (with_more more) (arg tokens.Number cursor) (arg tokens.Number (more_at more cursor)) _ _ (argument_grows laws [] tokens.Number cursor more)
    (λ a. then_grows (with_more more) (with_more more) (arg tokens.Number a.1) (arg tokens.Number (more_at more a.1)) _ _ (argument_grows laws [] tokens.Number a.1 more)
    (λ b. ok_grows (with_more more) (record { offset = a.0; total = b.0 }, b.1)))

fields_grow : (laws : GrowthLaws) (cursor : Cursor) (more : List ℕ) → Grows (with_more more) (fields_at cursor) (fields_at (more_at more cursor))
unfolding fields_at
fields_grow laws cursor more =
    then_grows (with_more more) (with_more more) (arg tokens.PrimaryArray cursor) (arg tokens.PrimaryArray (more_at more cursor)) _ _ (argument_grows laws [] tokens.PrimaryArray cursor more)
    (λ items. then_grows (with_more more) (with_more more) (arg tokens.Version items.1) (arg tokens.Version (more_at more items.1)) _ _ (argument_grows laws [] tokens.Version items.1 more)
    (λ version. then_grows (with_more more) (with_more more) (arg (tokens.BundleFlags items.0) version.1) (arg (tokens.BundleFlags items.0) (more_at more version.1)) _ _ (argument_grows laws [] (tokens.BundleFlags items.0) version.1 more)
    (λ flags. then_grows (with_more more) (with_more more) (check_type_at (eqb (items.0 % 2) 1) flags.1) (check_type_at (eqb (items.0 % 2) 1) (more_at more flags.1)) _ _ (check_type_grows laws (eqb (items.0 % 2) 1) flags.1 more)
    (λ crc. then_grows (with_more more) (with_more more) (nodes_at crc.1) (nodes_at (more_at more crc.1)) _ _ (nodes_grow laws crc.1 more)
    (λ nodes. then_grows (with_more more) (with_more more) (times_at nodes.1) (times_at (more_at more nodes.1)) _ _ (times_grow laws nodes.1 more)
    (λ times. then_grows (with_more more) (with_more more) (piece_at (is_fragment flags.0) times.1) (piece_at (is_fragment flags.0) (more_at more times.1)) _ _ (piece_grows laws (is_fragment flags.0) times.1 more)
    (λ piece. ok_grows (with_more more) (primary_of flags.0 crc.0 nodes.0 times.0 piece.0, piece.1))))))))

pub primary_grows : (laws : GrowthLaws) (cursor : Cursor) (more : List ℕ) → Grows (with_more more) (primary_at cursor) (primary_at (more_at more cursor))
unfolding primary_at
primary_grows laws cursor more =
    then_grows (with_more more) (with_more more) (fields_at cursor) (fields_at (more_at more cursor)) _ _ (fields_grow laws cursor more)
    (λ primary. then_grows (more_at more) (with_more more) (check_at primary.0.crc (primary_check primary.0) primary.1) (check_at primary.0.crc (primary_check primary.0) (more_at more primary.1)) _ _ (check_grows laws primary.0.crc (primary_check primary.0) primary.1 more)
    (λ after. ok_grows (with_more more) (primary.0, after)))

pub front_grows : (laws : GrowthLaws) (cursor : Cursor) (more : List ℕ) → Grows (with_more more) (front_at cursor) (front_at (more_at more cursor))
unfolding front_at
front_grows laws cursor more =
    then_grows (more_at more) (with_more more) (begin_at cursor) (begin_at (more_at more cursor)) primary_at primary_at (begin_grows cursor more) (λ after. primary_grows laws after more)

-- ---- canonical blocks

pub header_grows : (laws : GrowthLaws) (before : List Block) (cursor : Cursor) (more : List ℕ) → Grows (with_more more) (header_at before cursor) (header_at before (more_at more cursor))
unfolding header_at
header_grows laws before cursor more =
    then_grows (with_more more) (with_more more) (argument_at before tokens.BlockArray cursor) (argument_at before tokens.BlockArray (more_at more cursor)) _ _ (argument_grows laws before tokens.BlockArray cursor more)
    (λ items. then_grows (with_more more) (with_more more) (argument_at before tokens.BlockType items.1) (argument_at before tokens.BlockType (more_at more items.1)) _ _ (argument_grows laws before tokens.BlockType items.1 more)
    (λ kind. then_grows (with_more more) (with_more more) (argument_at before (tokens.BlockNumber kind.0) kind.1) (argument_at before (tokens.BlockNumber kind.0) (more_at more kind.1)) _ _ (argument_grows laws before (tokens.BlockNumber kind.0) kind.1 more)
    (λ number. then_grows (with_more more) (with_more more) (argument_at before tokens.Number number.1) (argument_at before tokens.Number (more_at more number.1)) _ _ (argument_grows laws before tokens.Number number.1 more)
    (λ flags. then_grows (with_more more) (with_more more) (check_type_at (eqb items.0 6) flags.1) (check_type_at (eqb items.0 6) (more_at more flags.1)) _ _ (check_type_grows laws (eqb items.0 6) flags.1 more)
    (λ crc. then_grows (with_more more) (with_more more) (argument_at before tokens.Body crc.1) (argument_at before tokens.Body (more_at more crc.1)) _ _ (argument_grows laws before tokens.Body crc.1 more)
    (λ len. ok_grows (with_more more) (record { kind = kind.0; number = number.0; flags = flags.0; crc = crc.0; len = len.0 }, len.1)))))))

abbrev pub Reading : Type 0
Reading = List Block → Cursor → Result (List Block × Cursor) Fault

abbrev pub ReadingGrows : Reading → Type 0
ReadingGrows go = (before : List Block) (cursor : Cursor) (more : List ℕ) → Grows (with_more more) (go before cursor) (go before (more_at more cursor))

pub next_grows : (go : Reading) → ReadingGrows go → (before : List Block) (block : Block) (cursor : Cursor) (more : List ℕ) → Grows (with_more more) (next_at go before block cursor) (next_at go before block (more_at more cursor))
next_grows go grows before block cursor more =
    either_grows (with_more more) (is_payload block) _ _ _ _
    (then_grows (more_at more) (with_more more) (end_at cursor) (end_at (more_at more cursor)) (λ after. Ok (before ++ block ∷ [], after)) (λ after. Ok (before ++ block ∷ [], after)) (end_grows cursor more) (λ after. ok_grows (with_more more) (before ++ block ∷ [], after)))
    (grows (before ++ block ∷ []) cursor more)

pub closed_grows : (laws : GrowthLaws) (go : Reading) → ReadingGrows go → (before : List Block) (block : Block) (cursor : Cursor) (more : List ℕ) → Grows (with_more more) (closed_at go before block cursor) (closed_at go before block (more_at more cursor))
closed_grows laws go grows before block cursor more =
    then_grows (more_at more) (with_more more) (check_at block.crc (block_check block) cursor) (check_at block.crc (block_check block) (more_at more cursor)) (λ after. next_at go before block after) (λ after. next_at go before block after) (check_grows laws block.crc (block_check block) cursor more) (λ after. next_grows go grows before block after more)

pub blocks_grow : (laws : GrowthLaws) (count : ℕ) → ReadingGrows (blocks_at count)
unfolding blocks_at
blocks_grow laws zero before cursor more = stops_grows (with_more more) cursor more reasons.TooLong
blocks_grow laws (suc count) before cursor more =
    then_grows (with_more more) (with_more more) (header_at before cursor) (header_at before (more_at more cursor)) _ _ (header_grows laws before cursor more)
    (λ header. then_grows (with_more more) (with_more more) (content_at header.0.len header.1) (content_at header.0.len (more_at more header.1)) _ _ (content_grows header.0.len header.1 more)
    (λ body. closed_grows laws (blocks_at count) (blocks_grow laws count) before (block_of header.0 body.0) body.1 more))

-- ---- bundles

pub bundle_grows : (laws : GrowthLaws) (cursor : Cursor) (more : List ℕ) → Grows (with_more more) (bundle_at cursor) (bundle_at (more_at more cursor))
unfolding bundle_at
bundle_grows laws cursor more =
    then_grows (with_more more) (with_more more) (front_at cursor) (front_at (more_at more cursor)) _ _ (front_grows laws cursor more)
    (λ primary. then_grows (with_more more) (with_more more) (blocks_at 65 [] primary.1) (blocks_at 65 [] (more_at more primary.1)) _ _ (blocks_grow laws 65 [] primary.1 more)
    (λ blocks. ok_grows (with_more more) (record { primary = primary.0; blocks = blocks.0 }, blocks.1)))
