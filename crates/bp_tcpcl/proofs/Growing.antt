-- A part that was read, and a fault, stay when bytes are added.
use Rattle.std.proofs.Common.{◌≡◌, ℕ, ◌+◌, ◌-◌, ◌^◌, ◌≤◌, Bool, true, false, cond, ltb, eqb, List, [], ◌++◌, length, take, Some, None, Result, Ok, Err, refl, ◌∙◌, ap, length-append, arith}
use Rattle.std.specs.Int.{Width, w8, w16, w32, w64, byte_len, from_be_bytes}
use Rattle.std.proofs.lemmas.Bool.{le-ltb, ltb-false}
use Rattle.std.proofs.lemmas.List.{take-append-le, drop-append-le}
use Rattle.cbor_profile.specs.declared.TheConstants.{BUNDLE_LIMIT}
use Rattle.cbor_profile.specs.Step.{◌>>=◌}
use Rattle.bp_tcpcl.specs.declared.TheConstants.{EXTENSIONS_LIMIT, INPUT_LIMIT}
use Rattle.bp_tcpcl.specs.declared.reason.LinkReason.{LinkReason}
use Rattle.bp_tcpcl.specs.declared.reason.LinkReason.TheVariants.{NotContact, Version, UnknownMessage, TooLong, TooMuch}
use Rattle.bp_tcpcl.specs.declared.message.Message.TheVariants.{Init, Segment, Ack, Refuse, KeepAlive, Term, Reject}
use Rattle.bp_tcpcl.specs.declared.message.Item.{Item}
use Rattle.bp_tcpcl.specs.declared.message.Item.TheVariants as items
use Rattle.bp_tcpcl.specs.declared.stop.Stop.{Stop}
use Rattle.bp_tcpcl.specs.declared.stop.Stop.TheVariants.{More, Fault}
use Rattle.bp_tcpcl.specs.Numbers.{number_in}
use Rattle.bp_tcpcl.specs.Spelling.{is_start}
use Rattle.bp_tcpcl.specs.Reading.{Cursor, past, faulty, wanted, within, number_at, bytes_at, content_at, sized_at, mark_at, contact_at, init_at, extensions_at, least_extensions, transfer_at, segment_at, ack_at, refuse_at, term_at, reject_at, kind_at, message_at, part_at, front_at}

-- ---- steps

abbrev pub more_at : List ℕ → Cursor → Cursor
more_at more cursor = record { begin = cursor.begin; at = cursor.at; rest = cursor.rest ++ more }

abbrev pub with_more : {X : Type 0} → List ℕ → X × Cursor → X × Cursor
with_more more x = (x.0, more_at more x.1)

-- what was read, changed so, or why nothing was
abbrev pub grown : {A : Type 0} → (A → A) → Result A Stop → Result A Stop
grown e (Ok x) = Ok (e x)
grown e (Err stop) = Err stop

-- it isn't that more bytes are wanted
unfoldable pub Stays : {A : Type 0} → Result A Stop → Type 0
Stays (Ok x) = Unit {0}
Stays (Err More) = ⊥
Stays (Err (Fault place reason)) = Unit {0}

abbrev pub Grows : {A : Type 0} → (A → A) → Result A Stop → Result A Stop → Type 0
Grows e r r' = Stays r → r' ≡ grown e r

pub then_grows : {A B : Type 0} (e : A → A) (e' : B → B) (r r' : Result A Stop) (f g : A → Result B Stop) → Grows e r r' → ((x : A) → Grows e' (f x) (g (e x))) → Grows e' (r >>= f) (r' >>= g)
unfolding Stays
then_grows e e' (Ok x) r' f g p q stays = rw (p tt) (q x stays)
then_grows e e' (Err More) r' f g p q stays = absurd stays
then_grows e e' (Err (Fault place reason)) r' f g p q stays = rw (p tt) refl

either_grows : {A : Type 0} (e : A → A) (b : Bool) (x x' y y' : Result A Stop) → Grows e x x' → Grows e y y' → Grows e (cond b x y) (cond b x' y')
either_grows e true x x' y y' p q stays = p stays
either_grows e false x x' y y' p q stays = q stays

ok_grows : {A : Type 0} (e : A → A) (x : A) → Grows e (Ok x) (Ok (e x))
ok_grows e x stays = refl

faulty_grows : {A : Type 0} (e : A → A) (place : ℕ) (reason : LinkReason) → Grows e (faulty place reason) (faulty place reason)
faulty_grows e place reason stays = refl

-- ---- fields

within_grows : (to_come : ℕ) (cursor : Cursor) (more : List ℕ) → Grows (more_at more) (within to_come cursor) (within to_come (more_at more cursor))
unfolding within
within_grows to_come cursor more =
    either_grows (more_at more) (ltb INPUT_LIMIT (cursor.at + to_come)) (faulty cursor.begin TooMuch) (faulty cursor.begin TooMuch) (Ok cursor) (Ok (more_at more cursor))
    (faulty_grows (more_at more) cursor.begin TooMuch) (ok_grows (more_at more) cursor)

past_grows : (count : ℕ) (cursor : Cursor) (more : List ℕ) → count ≤ length cursor.rest → past count (more_at more cursor) ≡ more_at more (past count cursor)
past_grows count cursor more within = ap (λ (rest : List ℕ). record { begin = cursor.begin; at = cursor.at + count; rest = rest }) (drop-append-le count cursor.rest more within)

field_by : {A : Type 0} (b : Bool) (w : Width) (e : A → A) (cursor : Cursor) (more : List ℕ) (f g : ℕ → Result A Stop) → ltb (length cursor.rest) (byte_len w) ≡ b
    → (byte_len w ≤ length cursor.rest → (value : ℕ) → Grows e (f value) (g value))
    → Grows e (wanted (cond b None (Some (from_be_bytes w (take (byte_len w) cursor.rest)))) >>= f) (wanted (number_in w (cursor.rest ++ more)) >>= g)
unfolding number_in Stays
field_by true w e cursor more f g is grows stays = absurd stays
field_by false w e cursor more f g is grows stays =
    let long : byte_len w ≤ length cursor.rest = ltb-false _ _ is in
    let longer : ltb (length (cursor.rest ++ more)) (byte_len w) ≡ false = le-ltb _ _ (omega (arith, length-append cursor.rest more)) in
    rw (longer, take-append-le (byte_len w) cursor.rest more long) (grows long (from_be_bytes w (take (byte_len w) cursor.rest)) stays)

-- what comes of a number at the front
field_grows : {A : Type 0} (w : Width) (e : A → A) (cursor : Cursor) (more : List ℕ) (f g : ℕ → Result A Stop) → (byte_len w ≤ length cursor.rest → (value : ℕ) → Grows e (f value) (g value))
    → Grows e (wanted (number_in w cursor.rest) >>= f) (wanted (number_in w (cursor.rest ++ more)) >>= g)
unfolding number_in
field_grows w e cursor more f g grows = field_by (ltb (length cursor.rest) (byte_len w)) w e cursor more f g refl grows

number_grows : (w : Width) (to_come : ℕ) (cursor : Cursor) (more : List ℕ) → Grows (with_more more) (number_at w to_come cursor) (number_at w to_come (more_at more cursor))
unfolding number_at
number_grows w to_come cursor more =
    field_grows w (with_more more) cursor more _ _ (λ long value.
    let start : Cursor = past (byte_len w) cursor in
    rw (past_grows (byte_len w) cursor more long)
    (then_grows (more_at more) (with_more more) (within to_come start) (within to_come (more_at more start)) (λ after. Ok (value, after)) (λ after. Ok (value, after)) (within_grows to_come start more) (λ after. ok_grows (with_more more) (value, after))))

bytes_by : (b : Bool) (len to_come : ℕ) (cursor : Cursor) (more : List ℕ) → ltb (length cursor.rest) len ≡ b
    → Grows (with_more more) (cond b (Err More) (within to_come (past len cursor) >>= λ after. Ok (take len cursor.rest, after))) (bytes_at len to_come (more_at more cursor))
unfolding bytes_at Stays
bytes_by true len to_come cursor more is stays = absurd stays
bytes_by false len to_come cursor more is stays =
    let long : len ≤ length cursor.rest = ltb-false _ _ is in
    let longer : ltb (length (cursor.rest ++ more)) len ≡ false = le-ltb _ _ (omega (arith, length-append cursor.rest more)) in
    let start : Cursor = past len cursor in
    let front : List ℕ = take len cursor.rest in
    rw (longer, take-append-le len cursor.rest more long, past_grows len cursor more long)
    (then_grows (more_at more) (with_more more) (within to_come start) (within to_come (more_at more start)) (λ after. Ok (front, after)) (λ after. Ok (front, after)) (within_grows to_come start more) (λ after. ok_grows (with_more more) (front, after)) stays)

bytes_grows : (len to_come : ℕ) (cursor : Cursor) (more : List ℕ) → Grows (with_more more) (bytes_at len to_come cursor) (bytes_at len to_come (more_at more cursor))
unfolding bytes_at
bytes_grows len to_come cursor more = bytes_by (ltb (length cursor.rest) len) len to_come cursor more refl

content_grows : (len size limit to_come : ℕ) (cursor : Cursor) (more : List ℕ) → size ≤ length cursor.rest → Grows (with_more more) (content_at len size limit to_come cursor) (content_at len size limit to_come (more_at more cursor))
unfolding content_at
content_grows len size limit to_come cursor more long =
    let start : Cursor = past size cursor in
    rw (past_grows size cursor more long)
    (either_grows (with_more more) (ltb limit len) (faulty cursor.at TooLong) (faulty cursor.at TooLong) _ _ (faulty_grows (with_more more) cursor.at TooLong)
    (then_grows (more_at more) (with_more more) (within (len + to_come) start) (within (len + to_come) (more_at more start)) (bytes_at len to_come) (bytes_at len to_come) (within_grows (len + to_come) start more) (λ after. bytes_grows len to_come after more)))

sized_grows : (w : Width) (limit to_come : ℕ) (cursor : Cursor) (more : List ℕ) → Grows (with_more more) (sized_at w limit to_come cursor) (sized_at w limit to_come (more_at more cursor))
unfolding sized_at
sized_grows w limit to_come cursor more = field_grows w (with_more more) cursor more _ _ (λ long len. content_grows len (byte_len w) limit to_come cursor more long)

-- ---- the contact header

mark_grows : (byte : ℕ) (cursor : Cursor) (more : List ℕ) → Grows (more_at more) (mark_at byte cursor) (mark_at byte (more_at more cursor))
unfolding mark_at
mark_grows byte cursor more =
    field_grows w8 (more_at more) cursor more _ _ (λ long found.
    rw (past_grows 1 cursor more long)
    (either_grows (more_at more) (eqb found byte) (Ok (past 1 cursor)) (Ok (more_at more (past 1 cursor))) _ _ (ok_grows (more_at more) (past 1 cursor)) (faulty_grows (more_at more) cursor.begin NotContact)))

contact_grows : (cursor : Cursor) (more : List ℕ) → Grows (with_more more) (contact_at cursor) (contact_at (more_at more cursor))
unfolding contact_at
contact_grows cursor more =
    let m : Cursor → Cursor = more_at more in
    let e : Item × Cursor → Item × Cursor = with_more more in
    then_grows m e (mark_at 0x64 cursor) (mark_at 0x64 (m cursor)) _ _ (mark_grows 0x64 cursor more)
    (λ a. then_grows m e (mark_at 0x74 a) (mark_at 0x74 (m a)) _ _ (mark_grows 0x74 a more)
    (λ b. then_grows m e (mark_at 0x6e b) (mark_at 0x6e (m b)) _ _ (mark_grows 0x6e b more)
    (λ c. then_grows m e (mark_at 0x21 c) (mark_at 0x21 (m c)) _ _ (mark_grows 0x21 c more)
    (λ d. field_grows w8 e d more _ _ (λ long version.
    let start : Cursor = past 1 d in
    rw (past_grows 1 d more long)
    (either_grows e (eqb version 4) _ _ (faulty d.at Version) (faulty d.at Version)
    (then_grows (with_more more) e (number_at w8 0 start) (number_at w8 0 (m start)) _ _ (number_grows w8 0 start more) (λ flags. ok_grows e (items.Contact flags.0, flags.1)))
    (faulty_grows e d.at Version)))))))

-- ---- messages

init_grows : (cursor : Cursor) (more : List ℕ) → Grows (with_more more) (init_at cursor) (init_at (more_at more cursor))
unfolding init_at
init_grows cursor more =
    let m : Cursor → Cursor = more_at more in
    let e : Item × Cursor → Item × Cursor = with_more more in
    then_grows (with_more more) e (number_at w16 22 cursor) (number_at w16 22 (m cursor)) _ _ (number_grows w16 22 cursor more)
    (λ k. then_grows (with_more more) e (number_at w64 14 k.1) (number_at w64 14 (m k.1)) _ _ (number_grows w64 14 k.1 more)
    (λ s. then_grows (with_more more) e (number_at w64 6 s.1) (number_at w64 6 (m s.1)) _ _ (number_grows w64 6 s.1 more)
    (λ t. then_grows (with_more more) e (sized_at w16 (2 ^ 16 - 1) 4 t.1) (sized_at w16 (2 ^ 16 - 1) 4 (m t.1)) _ _ (sized_grows w16 (2 ^ 16 - 1) 4 t.1 more)
    (λ n. then_grows (with_more more) e (sized_at w32 EXTENSIONS_LIMIT 0 n.1) (sized_at w32 EXTENSIONS_LIMIT 0 (m n.1)) _ _ (sized_grows w32 EXTENSIONS_LIMIT 0 n.1 more)
    (λ x. ok_grows e (items.Message (Init k.0 s.0 t.0 n.0 x.0), x.1))))))

extensions_grows : (start : Bool) (cursor : Cursor) (more : List ℕ) → Grows (with_more more) (extensions_at start cursor) (extensions_at start (more_at more cursor))
unfolding extensions_at
extensions_grows false cursor more = ok_grows (with_more more) ([], cursor)
extensions_grows true cursor more = sized_grows w32 EXTENSIONS_LIMIT 8 cursor more

transfer_grows : (flags : ℕ) (start : Bool) (cursor : Cursor) (more : List ℕ) → Grows (with_more more) (transfer_at flags start cursor) (transfer_at flags start (more_at more cursor))
unfolding transfer_at
transfer_grows flags start cursor more =
    let m : Cursor → Cursor = more_at more in
    let e : Item × Cursor → Item × Cursor = with_more more in
    let least : ℕ = 8 + least_extensions start in
    then_grows (with_more more) e (number_at w64 least cursor) (number_at w64 least (m cursor)) _ _ (number_grows w64 least cursor more)
    (λ t. then_grows (with_more more) e (extensions_at start t.1) (extensions_at start (m t.1)) _ _ (extensions_grows start t.1 more)
    (λ x. then_grows (with_more more) e (sized_at w64 BUNDLE_LIMIT 0 x.1) (sized_at w64 BUNDLE_LIMIT 0 (m x.1)) _ _ (sized_grows w64 BUNDLE_LIMIT 0 x.1 more)
    (λ c. ok_grows e (items.Message (Segment flags t.0 x.0 c.0), c.1))))

segment_grows : (cursor : Cursor) (more : List ℕ) → Grows (with_more more) (segment_at cursor) (segment_at (more_at more cursor))
unfolding segment_at
segment_grows cursor more =
    let e : Item × Cursor → Item × Cursor = with_more more in
    field_grows w8 e cursor more _ _ (λ long flags.
    let start : Cursor = past 1 cursor in
    let least : ℕ = 16 + least_extensions (is_start flags) in
    rw (past_grows 1 cursor more long)
    (then_grows (more_at more) e (within least start) (within least (more_at more start)) _ _ (within_grows least start more) (λ after. transfer_grows flags (is_start flags) after more)))

ack_grows : (cursor : Cursor) (more : List ℕ) → Grows (with_more more) (ack_at cursor) (ack_at (more_at more cursor))
unfolding ack_at
ack_grows cursor more =
    let m : Cursor → Cursor = more_at more in
    let e : Item × Cursor → Item × Cursor = with_more more in
    then_grows (with_more more) e (number_at w8 16 cursor) (number_at w8 16 (m cursor)) _ _ (number_grows w8 16 cursor more)
    (λ f. then_grows (with_more more) e (number_at w64 8 f.1) (number_at w64 8 (m f.1)) _ _ (number_grows w64 8 f.1 more)
    (λ t. then_grows (with_more more) e (number_at w64 0 t.1) (number_at w64 0 (m t.1)) _ _ (number_grows w64 0 t.1 more)
    (λ l. ok_grows e (items.Message (Ack f.0 t.0 l.0), l.1))))

refuse_grows : (cursor : Cursor) (more : List ℕ) → Grows (with_more more) (refuse_at cursor) (refuse_at (more_at more cursor))
unfolding refuse_at
refuse_grows cursor more =
    let m : Cursor → Cursor = more_at more in
    let e : Item × Cursor → Item × Cursor = with_more more in
    then_grows (with_more more) e (number_at w8 8 cursor) (number_at w8 8 (m cursor)) _ _ (number_grows w8 8 cursor more)
    (λ f. then_grows (with_more more) e (number_at w64 0 f.1) (number_at w64 0 (m f.1)) _ _ (number_grows w64 0 f.1 more)
    (λ t. ok_grows e (items.Message (Refuse f.0 t.0), t.1)))

term_grows : (cursor : Cursor) (more : List ℕ) → Grows (with_more more) (term_at cursor) (term_at (more_at more cursor))
unfolding term_at
term_grows cursor more =
    let m : Cursor → Cursor = more_at more in
    let e : Item × Cursor → Item × Cursor = with_more more in
    then_grows (with_more more) e (number_at w8 1 cursor) (number_at w8 1 (m cursor)) _ _ (number_grows w8 1 cursor more)
    (λ f. then_grows (with_more more) e (number_at w8 0 f.1) (number_at w8 0 (m f.1)) _ _ (number_grows w8 0 f.1 more)
    (λ r. ok_grows e (items.Message (Term f.0 r.0), r.1)))

reject_grows : (cursor : Cursor) (more : List ℕ) → Grows (with_more more) (reject_at cursor) (reject_at (more_at more cursor))
unfolding reject_at
reject_grows cursor more =
    let m : Cursor → Cursor = more_at more in
    let e : Item × Cursor → Item × Cursor = with_more more in
    then_grows (with_more more) e (number_at w8 1 cursor) (number_at w8 1 (m cursor)) _ _ (number_grows w8 1 cursor more)
    (λ f. then_grows (with_more more) e (number_at w8 0 f.1) (number_at w8 0 (m f.1)) _ _ (number_grows w8 0 f.1 more)
    (λ r. ok_grows e (items.Message (Reject f.0 r.0), r.1)))

behind_grows : (to_come : ℕ) (cursor : Cursor) (more : List ℕ) (read : Cursor → Result (Item × Cursor) Stop) → ((after : Cursor) → Grows (with_more more) (read after) (read (more_at more after)))
    → Grows (with_more more) (within to_come cursor >>= read) (within to_come (more_at more cursor) >>= read)
behind_grows to_come cursor more read grows =
    then_grows (more_at more) (with_more more) (within to_come cursor) (within to_come (more_at more cursor)) read read (within_grows to_come cursor more) grows

kind_grows : (which place : ℕ) (rest : Cursor) (more : List ℕ) → Grows (with_more more) (kind_at which place rest) (kind_at which place (more_at more rest))
kind_grows which place rest more =
    let e : Item × Cursor → Item × Cursor = with_more more in
    let still : Cursor → Result (Item × Cursor) Stop = λ (after : Cursor). Ok (items.Message KeepAlive, after) in
    either_grows e (eqb which 1) _ _ _ _ (behind_grows 17 rest more segment_at (λ after. segment_grows after more))
    (either_grows e (eqb which 2) _ _ _ _ (behind_grows 17 rest more ack_at (λ after. ack_grows after more))
    (either_grows e (eqb which 3) _ _ _ _ (behind_grows 9 rest more refuse_at (λ after. refuse_grows after more))
    (either_grows e (eqb which 4) _ _ _ _ (behind_grows 0 rest more still (λ after. ok_grows e (items.Message KeepAlive, after)))
    (either_grows e (eqb which 5) _ _ _ _ (behind_grows 2 rest more term_at (λ after. term_grows after more))
    (either_grows e (eqb which 6) _ _ _ _ (behind_grows 2 rest more reject_at (λ after. reject_grows after more))
    (either_grows e (eqb which 7) _ _ _ _ (behind_grows 24 rest more init_at (λ after. init_grows after more)) (faulty_grows e place UnknownMessage)))))))

message_grows : (cursor : Cursor) (more : List ℕ) → Grows (with_more more) (message_at cursor) (message_at (more_at more cursor))
unfolding message_at
message_grows cursor more =
    field_grows w8 (with_more more) cursor more _ _ (λ long which. rw (past_grows 1 cursor more long) (kind_grows which cursor.at (past 1 cursor) more))

part_grows : (opened : Bool) (cursor : Cursor) (more : List ℕ) → Grows (with_more more) (part_at opened cursor) (part_at opened (more_at more cursor))
unfolding part_at
part_grows true cursor more = message_grows cursor more
part_grows false cursor more = contact_grows cursor more

-- ---- both sides

pub part_stays : (opened : Bool) (place : ℕ) (bytes more : List ℕ) (x : Item × Cursor) → front_at opened place bytes ≡ Ok x → front_at opened place (bytes ++ more) ≡ Ok (with_more more x)
unfolding Stays
part_stays opened place bytes more x is =
    part_grows opened (record { begin = place; at = place; rest = bytes }) more (rw is tt) ∙ ap (grown (with_more more)) is

pub fault_stays : (opened : Bool) (place : ℕ) (bytes more : List ℕ) (at : ℕ) (reason : LinkReason) → front_at opened place bytes ≡ Err (Fault at reason) → front_at opened place (bytes ++ more) ≡ Err (Fault at reason)
unfolding Stays
fault_stays opened place bytes more at reason is =
    part_grows opened (record { begin = place; at = place; rest = bytes }) more (rw is tt) ∙ ap (grown (with_more more)) is
