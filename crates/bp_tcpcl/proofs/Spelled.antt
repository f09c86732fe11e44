-- A part that was read is spelled so.
use Rattle.std.proofs.Common.{◌≡◌, ℕ, ◌+◌, ◌-◌, ◌^◌, ◌<◌, ◌≤◌, Bool, true, false, eqb, List, [], ◌++◌, length, Result, Ok, Err, refl, sym, ap, subst, arith}
use Rattle.std.specs.Prelude.{IfOk}
use Rattle.std.specs.Int.{w8, w16, w32, w64}
use Rattle.std.proofs.lemmas.Bool.{eqb-true}
use Rattle.cbor_profile.specs.declared.TheConstants.{BUNDLE_LIMIT}
use Rattle.cbor_profile.specs.Step.{◌>>=◌}
use Rattle.cbor_profile.proofs.Wide.{IsBytes, wide8, wide16, wide32, wide64}
use Rattle.bp_tcpcl.specs.declared.TheConstants.{EXTENSIONS_LIMIT, INPUT_LIMIT}
use Rattle.bp_tcpcl.specs.declared.reason.LinkReason.TheVariants.{NotContact, Version}
use Rattle.bp_tcpcl.specs.declared.message.Message.{Message}
use Rattle.bp_tcpcl.specs.declared.message.Message.TheVariants.{Init, Segment, Ack, Refuse, KeepAlive, Term, Reject}
use Rattle.bp_tcpcl.specs.declared.message.Item.{Item}
use Rattle.bp_tcpcl.specs.declared.message.Item.TheVariants as items
use Rattle.bp_tcpcl.specs.declared.stop.Stop.{Stop}
use Rattle.bp_tcpcl.specs.Numbers.{number, number_in}
use Rattle.bp_tcpcl.specs.Spelling.{sized, is_start, extension_field, fields, kind, message_bytes, item_bytes, Fits, KeepsLimits, IsPart}
use Rattle.bp_tcpcl.specs.Reading.{Cursor, past, faulty, wanted, within, number_at, sized_at, mark_at, contact_at, init_at, extensions_at, least_extensions, transfer_at, segment_at, ack_at, refuse_at, term_at, reject_at, kind_at, message_at, part_at, front_at}
use Rattle.bp_tcpcl.proofs.Steps.{then_sound, either_sound, sound_at, Reads, Reads-then}
use Rattle.bp_tcpcl.proofs.FieldsAsSpelled.{InFront, wanted_sound, front_reads, IsWithin, within_sound, ReadsNumber, number_sound, ReadsSized, sized_sound}

-- ---- messages, behind their first byte

-- a message of this kind, with its fields
pub record ReadsFields (which : ℕ) (cursor : Cursor) (x : Item × Cursor) : Type 0 where
  pub message : Message
  pub is : x.0 ≡ items.Message message
  pub kind : kind message ≡ which
  pub takes : Reads cursor (fields message) x.1
  pub fits : Fits message
  pub keeps : KeepsLimits message
  pub room : x.1.at ≤ INPUT_LIMIT

init_sound : (cursor : Cursor) → IsBytes cursor.rest → IfOk (init_at cursor) (ReadsFields 7 cursor)
unfolding init_at Fits
init_sound cursor bytes =
    let Q : Item × Cursor → Type 0 = ReadsFields 7 cursor in
    then_sound (ReadsNumber w16 (2 ^ 16) cursor) Q (number_at w16 22 cursor) _ (number_sound w16 (2 ^ 16) 22 wide16 cursor bytes)
    (λ k a. then_sound (ReadsNumber w64 (2 ^ 64) k.1) Q (number_at w64 14 k.1) _ (number_sound w64 (2 ^ 64) 14 wide64 k.1 a.takes.rest_fits)
    (λ s b. then_sound (ReadsNumber w64 (2 ^ 64) s.1) Q (number_at w64 6 s.1) _ (number_sound w64 (2 ^ 64) 6 wide64 s.1 b.takes.rest_fits)
    (λ t c. then_sound (ReadsSized w16 (2 ^ 16 - 1) t.1) Q (sized_at w16 (2 ^ 16 - 1) 4 t.1) _ (sized_sound w16 (2 ^ 16) (2 ^ 16 - 1) 4 wide16 t.1 c.takes.rest_fits)
    (λ n d. then_sound (ReadsSized w32 EXTENSIONS_LIMIT n.1) Q (sized_at w32 EXTENSIONS_LIMIT 0 n.1) _ (sized_sound w32 (2 ^ 32) EXTENSIONS_LIMIT 0 wide32 n.1 d.takes.rest_fits)
    (λ e f.
    let last = Reads-then t.1 (sized w16 n.0) n.1 (sized w32 e.0) e.1 d.takes f.takes in
    let third = Reads-then s.1 (number w64 t.0) t.1 _ e.1 c.takes last in
    let second = Reads-then k.1 (number w64 s.0) s.1 _ e.1 b.takes third in
    let short = d.short in
    record {
      message = Init k.0 s.0 t.0 n.0 e.0;
      is = refl;
      kind = refl;
      takes = Reads-then cursor (number w16 k.0) k.1 _ e.1 a.takes second;
      fits = (a.below, b.below, c.below);
      keeps = (omega arith, f.short);
      room = f.room;
    })))))

-- the extensions of a segment
record ReadsExtensions (start : Bool) (cursor : Cursor) (x : List ℕ × Cursor) : Type 0 where
  pub takes : Reads cursor (extension_field start x.0) x.1
  pub short : length x.0 ≤ EXTENSIONS_LIMIT
  pub none : start ≡ false → x.0 ≡ []

extensions_sound : (start : Bool) (cursor : Cursor) → IsBytes cursor.rest → IfOk (extensions_at start cursor) (ReadsExtensions start cursor)
unfolding extensions_at
extensions_sound false cursor bytes = record {
  takes = record { parts = refl; at = omega arith; rest_fits = bytes };
  short = omega arith;
  none = λ _. refl;
}
extensions_sound true cursor bytes = started (sized_at w32 EXTENSIONS_LIMIT 8 cursor) (sized_sound w32 (2 ^ 32) EXTENSIONS_LIMIT 8 wide32 cursor bytes)
  where
    started : (r : Result (List ℕ × Cursor) Stop) → IfOk r (ReadsSized w32 EXTENSIONS_LIMIT cursor) → IfOk r (ReadsExtensions true cursor)
    started (Err stop) h = tt
    started (Ok x) h = record { takes = h.takes; short = h.short; none = λ e. absurd cc }

record ReadsTransfer (flags : ℕ) (start : Bool) (cursor : Cursor) (x : Item × Cursor) : Type 0 where
  pub transfer : ℕ
  pub extensions : List ℕ
  pub content : List ℕ
  pub is : x.0 ≡ items.Message (Segment flags transfer extensions content)
  pub takes : Reads cursor (number w64 transfer ++ (extension_field start extensions ++ sized w64 content)) x.1
  pub below : transfer < 2 ^ 64
  pub few : length extensions ≤ EXTENSIONS_LIMIT
  pub short : length content ≤ BUNDLE_LIMIT
  pub none : start ≡ false → extensions ≡ []
  pub room : x.1.at ≤ INPUT_LIMIT

transfer_sound : (flags : ℕ) (start : Bool) (cursor : Cursor) → IsBytes cursor.rest → IfOk (transfer_at flags start cursor) (ReadsTransfer flags start cursor)
unfolding transfer_at
transfer_sound flags start cursor bytes =
    let Q : Item × Cursor → Type 0 = ReadsTransfer flags start cursor in
    let least : ℕ = 8 + least_extensions start in
    then_sound (ReadsNumber w64 (2 ^ 64) cursor) Q (number_at w64 least cursor) _ (number_sound w64 (2 ^ 64) least wide64 cursor bytes)
    (λ t a. then_sound (ReadsExtensions start t.1) Q (extensions_at start t.1) _ (extensions_sound start t.1 a.takes.rest_fits)
    (λ e b. then_sound (ReadsSized w64 BUNDLE_LIMIT e.1) Q (sized_at w64 BUNDLE_LIMIT 0 e.1) _ (sized_sound w64 (2 ^ 64) BUNDLE_LIMIT 0 wide64 e.1 b.takes.rest_fits)
    (λ c d.
    let last = Reads-then t.1 (extension_field start e.0) e.1 (sized w64 c.0) c.1 b.takes d.takes in
    record {
      transfer = t.0;
      extensions = e.0;
      content = c.0;
      is = refl;
      takes = Reads-then cursor (number w64 t.0) t.1 _ c.1 a.takes last;
      below = a.below;
      few = b.short;
      short = d.short;
      none = b.none;
      room = d.room;
    })))

segment_sound : (cursor : Cursor) → IsBytes cursor.rest → IfOk (segment_at cursor) (ReadsFields 1 cursor)
unfolding segment_at Fits
segment_sound cursor bytes =
    let Q : Item × Cursor → Type 0 = ReadsFields 1 cursor in
    then_sound (InFront w8 (2 ^ 8) cursor.rest) Q (wanted (number_in w8 cursor.rest)) _ (wanted_sound w8 (2 ^ 8) wide8 cursor.rest bytes)
    (λ flags h.
    let least : ℕ = 16 + least_extensions (is_start flags) in
    then_sound (IsWithin least (past 1 cursor)) Q (within least (past 1 cursor)) _ (within_sound least (past 1 cursor))
    (λ after is.
    let front : Reads cursor (number w8 flags) after = subst (λ (c : Cursor). Reads cursor (number w8 flags) c) (sym is.same) (front_reads w8 (2 ^ 8) wide8 cursor flags bytes h) in
    joined flags h.below after front (transfer_at flags (is_start flags) after) (transfer_sound flags (is_start flags) after front.rest_fits)))
  where
    joined : (flags : ℕ) → flags < 2 ^ 8 → (after : Cursor) → Reads cursor (number w8 flags) after → (r : Result (Item × Cursor) Stop) → IfOk r (ReadsTransfer flags (is_start flags) after) → IfOk r (ReadsFields 1 cursor)
    joined flags below after front (Err stop) h = tt
    joined flags below after front (Ok x) h = record {
      message = Segment flags h.transfer h.extensions h.content;
      is = h.is;
      kind = refl;
      takes = Reads-then cursor (number w8 flags) after _ x.1 front h.takes;
      fits = (below, h.below);
      keeps = (h.few, h.short, h.none);
      room = h.room;
    }

ack_sound : (cursor : Cursor) → IsBytes cursor.rest → IfOk (ack_at cursor) (ReadsFields 2 cursor)
unfolding ack_at Fits
ack_sound cursor bytes =
    let Q : Item × Cursor → Type 0 = ReadsFields 2 cursor in
    then_sound (ReadsNumber w8 (2 ^ 8) cursor) Q (number_at w8 16 cursor) _ (number_sound w8 (2 ^ 8) 16 wide8 cursor bytes)
    (λ f a. then_sound (ReadsNumber w64 (2 ^ 64) f.1) Q (number_at w64 8 f.1) _ (number_sound w64 (2 ^ 64) 8 wide64 f.1 a.takes.rest_fits)
    (λ t b. then_sound (ReadsNumber w64 (2 ^ 64) t.1) Q (number_at w64 0 t.1) _ (number_sound w64 (2 ^ 64) 0 wide64 t.1 b.takes.rest_fits)
    (λ l c. record {
      message = Ack f.0 t.0 l.0;
      is = refl;
      kind = refl;
      takes = Reads-then cursor (number w8 f.0) f.1 _ l.1 a.takes (Reads-then f.1 (number w64 t.0) t.1 (number w64 l.0) l.1 b.takes c.takes);
      fits = (a.below, b.below, c.below);
      keeps = tt;
      room = c.room;
    })))

refuse_sound : (cursor : Cursor) → IsBytes cursor.rest → IfOk (refuse_at cursor) (ReadsFields 3 cursor)
unfolding refuse_at Fits
refuse_sound cursor bytes =
    let Q : Item × Cursor → Type 0 = ReadsFields 3 cursor in
    then_sound (ReadsNumber w8 (2 ^ 8) cursor) Q (number_at w8 8 cursor) _ (number_sound w8 (2 ^ 8) 8 wide8 cursor bytes)
    (λ f a. then_sound (ReadsNumber w64 (2 ^ 64) f.1) Q (number_at w64 0 f.1) _ (number_sound w64 (2 ^ 64) 0 wide64 f.1 a.takes.rest_fits)
    (λ t b. record {
      message = Refuse f.0 t.0;
      is = refl;
      kind = refl;
      takes = Reads-then cursor (number w8 f.0) f.1 (number w64 t.0) t.1 a.takes b.takes;
      fits = (a.below, b.below);
      keeps = tt;
      room = b.room;
    }))

term_sound : (cursor : Cursor) → IsBytes cursor.rest → IfOk (term_at cursor) (ReadsFields 5 cursor)
unfolding term_at Fits
term_sound cursor bytes =
    let Q : Item × Cursor → Type 0 = ReadsFields 5 cursor in
    then_sound (ReadsNumber w8 (2 ^ 8) cursor) Q (number_at w8 1 cursor) _ (number_sound w8 (2 ^ 8) 1 wide8 cursor bytes)
    (λ f a. then_sound (ReadsNumber w8 (2 ^ 8) f.1) Q (number_at w8 0 f.1) _ (number_sound w8 (2 ^ 8) 0 wide8 f.1 a.takes.rest_fits)
    (λ r b. record {
      message = Term f.0 r.0;
      is = refl;
      kind = refl;
      takes = Reads-then cursor (number w8 f.0) f.1 (number w8 r.0) r.1 a.takes b.takes;
      fits = (a.below, b.below);
      keeps = tt;
      room = b.room;
    }))

reject_sound : (cursor : Cursor) → IsBytes cursor.rest → IfOk (reject_at cursor) (ReadsFields 6 cursor)
unfolding reject_at Fits
reject_sound cursor bytes =
    let Q : Item × Cursor → Type 0 = ReadsFields 6 cursor in
    then_sound (ReadsNumber w8 (2 ^ 8) cursor) Q (number_at w8 1 cursor) _ (number_sound w8 (2 ^ 8) 1 wide8 cursor bytes)
    (λ f a. then_sound (ReadsNumber w8 (2 ^ 8) f.1) Q (number_at w8 0 f.1) _ (number_sound w8 (2 ^ 8) 0 wide8 f.1 a.takes.rest_fits)
    (λ r b. record {
      message = Reject f.0 r.0;
      is = refl;
      kind = refl;
      takes = Reads-then cursor (number w8 f.0) f.1 (number w8 r.0) r.1 a.takes b.takes;
      fits = (a.below, b.below);
      keeps = tt;
      room = b.room;
    }))

keepalive_sound : (cursor after : Cursor) → IsBytes cursor.rest → IsWithin 0 cursor after → ReadsFields 4 cursor (items.Message KeepAlive, after)
unfolding Fits
keepalive_sound cursor after bytes is =
    let room = is.room in
    record {
      message = KeepAlive;
      is = refl;
      kind = refl;
      takes = subst (λ (c : Cursor). Reads cursor [] c) (sym is.same) (record { parts = refl; at = omega arith; rest_fits = bytes });
      fits = tt;
      keeps = tt;
      room = omega (arith, ap (λ (c : Cursor). c.at) is.same);
    }

-- ---- by the first byte

behind_sound : (which to_come : ℕ) (cursor : Cursor) (read : Cursor → Result (Item × Cursor) Stop) → IfOk (read cursor) (ReadsFields which cursor) → IfOk (within to_come cursor >>= read) (ReadsFields which cursor)
behind_sound which to_come cursor read h =
    then_sound (IsWithin to_come cursor) (ReadsFields which cursor) (within to_come cursor) read (within_sound to_come cursor)
    (λ after is. subst (λ (c : Cursor). IfOk (read c) (ReadsFields which cursor)) (sym is.same) h)

kind_sound : (which place : ℕ) (rest : Cursor) → IsBytes rest.rest → IfOk (kind_at which place rest) (ReadsFields which rest)
kind_sound which place rest bytes =
    let Q : Item × Cursor → Type 0 = ReadsFields which rest in
    let one : (n : ℕ) (r : Result (Item × Cursor) Stop) → IfOk r (ReadsFields n rest) → eqb which n ≡ true → IfOk r Q = λ n r h e. subst (λ (m : ℕ). IfOk r (ReadsFields m rest)) (sym (eqb-true which n e)) h in
    either_sound Q (eqb which 1) _ _ (one 1 _ (behind_sound 1 17 rest segment_at (segment_sound rest bytes)))
    (λ _. either_sound Q (eqb which 2) _ _ (one 2 _ (behind_sound 2 17 rest ack_at (ack_sound rest bytes)))
    (λ _. either_sound Q (eqb which 3) _ _ (one 3 _ (behind_sound 3 9 rest refuse_at (refuse_sound rest bytes)))
    (λ _. either_sound Q (eqb which 4) _ _ (one 4 _ (then_sound (IsWithin 0 rest) (ReadsFields 4 rest) (within 0 rest) _ (within_sound 0 rest) (λ after is. keepalive_sound rest after bytes is)))
    (λ _. either_sound Q (eqb which 5) _ _ (one 5 _ (behind_sound 5 2 rest term_at (term_sound rest bytes)))
    (λ _. either_sound Q (eqb which 6) _ _ (one 6 _ (behind_sound 6 2 rest reject_at (reject_sound rest bytes)))
    (λ _. either_sound Q (eqb which 7) _ _ (one 7 _ (behind_sound 7 24 rest init_at (init_sound rest bytes)))
    (λ _. tt)))))))

-- ---- parts

-- a part, with its bytes
pub record ReadsPart (opened : Bool) (cursor : Cursor) (x : Item × Cursor) : Type 0 where
  pub is : IsPart opened x.0
  pub takes : Reads cursor (item_bytes x.0) x.1
  pub room : x.1.at ≤ INPUT_LIMIT

message_sound : (cursor : Cursor) → IsBytes cursor.rest → IfOk (message_at cursor) (ReadsPart true cursor)
unfolding message_at IsPart item_bytes message_bytes
message_sound cursor bytes =
    then_sound (InFront w8 (2 ^ 8) cursor.rest) (ReadsPart true cursor) (wanted (number_in w8 cursor.rest)) _ (wanted_sound w8 (2 ^ 8) wide8 cursor.rest bytes)
    (λ which h.
    let front = front_reads w8 (2 ^ 8) wide8 cursor which bytes h in
    whole which front (kind_at which cursor.at (past 1 cursor)) (kind_sound which cursor.at (past 1 cursor) front.rest_fits))
  where
    part_of : (item : Item) (message : Message) (after : Cursor) → item ≡ items.Message message → ReadsPart true cursor (items.Message message, after) → ReadsPart true cursor (item, after)
    part_of item message after is h = subst (λ (i : Item). ReadsPart true cursor (i, after)) (sym is) h

    whole : (which : ℕ) → Reads cursor (number w8 which) (past 1 cursor) → (r : Result (Item × Cursor) Stop) → IfOk r (ReadsFields which (past 1 cursor)) → IfOk r (ReadsPart true cursor)
    whole which front (Err stop) h = tt
    whole which front (Ok x) h =
        let first : Reads cursor (number w8 (kind h.message)) (past 1 cursor) = subst (λ (n : ℕ). Reads cursor (number w8 n) (past 1 cursor)) (sym h.kind) front in
        part_of x.0 h.message x.1 h.is (record {
          is = (h.fits, h.keeps);
          takes = Reads-then cursor (number w8 (kind h.message)) (past 1 cursor) (fields h.message) x.1 first h.takes;
          room = h.room;
        })

-- one of the first four bytes
mark_sound : (byte : ℕ) (cursor : Cursor) → IsBytes cursor.rest → IfOk (mark_at byte cursor) (Reads cursor (number w8 byte))
unfolding mark_at
mark_sound byte cursor bytes =
    then_sound (InFront w8 (2 ^ 8) cursor.rest) (Reads cursor (number w8 byte)) (wanted (number_in w8 cursor.rest)) _ (wanted_sound w8 (2 ^ 8) wide8 cursor.rest bytes)
    (λ found h. either_sound (Reads cursor (number w8 byte)) (eqb found byte) (Ok (past 1 cursor)) (faulty cursor.begin NotContact)
    (λ e. subst (λ (n : ℕ). Reads cursor (number w8 n) (past 1 cursor)) (eqb-true found byte e) (front_reads w8 (2 ^ 8) wide8 cursor found bytes h)) (λ _. tt))

contact_sound : (cursor : Cursor) → IsBytes cursor.rest → IfOk (contact_at cursor) (ReadsPart false cursor)
unfolding contact_at IsPart item_bytes
contact_sound cursor bytes =
    let Q : Item × Cursor → Type 0 = ReadsPart false cursor in
    then_sound (Reads cursor (number w8 0x64)) Q (mark_at 0x64 cursor) _ (mark_sound 0x64 cursor bytes)
    (λ a p. then_sound (Reads a (number w8 0x74)) Q (mark_at 0x74 a) _ (mark_sound 0x74 a p.rest_fits)
    (λ b q. then_sound (Reads b (number w8 0x6e)) Q (mark_at 0x6e b) _ (mark_sound 0x6e b q.rest_fits)
    (λ c r. then_sound (Reads c (number w8 0x21)) Q (mark_at 0x21 c) _ (mark_sound 0x21 c r.rest_fits)
    (λ d s. then_sound (InFront w8 (2 ^ 8) d.rest) Q (wanted (number_in w8 d.rest)) _ (wanted_sound w8 (2 ^ 8) wide8 d.rest s.rest_fits)
    (λ version h. either_sound Q (eqb version 4) _ (faulty d.at Version)
    (λ e.
    let found : Reads d (number w8 4) (past 1 d) = subst (λ (n : ℕ). Reads d (number w8 n) (past 1 d)) (eqb-true version 4 e) (front_reads w8 (2 ^ 8) wide8 d version s.rest_fits h) in
    then_sound (ReadsNumber w8 (2 ^ 8) (past 1 d)) Q (number_at w8 0 (past 1 d)) _ (number_sound w8 (2 ^ 8) 0 wide8 (past 1 d) found.rest_fits)
    (λ flags f.
    let fifth = Reads-then d (number w8 4) (past 1 d) (number w8 flags.0) flags.1 found f.takes in
    let fourth = Reads-then c (number w8 0x21) d _ flags.1 s fifth in
    let third = Reads-then b (number w8 0x6e) c _ flags.1 r fourth in
    let second = Reads-then a (number w8 0x74) b _ flags.1 q third in
    record {
      is = f.below;
      takes = Reads-then cursor (number w8 0x64) a _ flags.1 p second;
      room = f.room;
    })) (λ _. tt))))))

pub part_sound : (opened : Bool) (cursor : Cursor) → IsBytes cursor.rest → IfOk (part_at opened cursor) (ReadsPart opened cursor)
unfolding part_at
part_sound true cursor bytes = message_sound cursor bytes
part_sound false cursor bytes = contact_sound cursor bytes

pub part_means : (opened : Bool) (place : ℕ) (bytes : List ℕ) (x : Item × Cursor) → IsBytes bytes → front_at opened place bytes ≡ Ok x
    → IsPart opened x.0 × (bytes ≡ item_bytes x.0 ++ x.1.rest) × (x.1.at ≡ place + length (item_bytes x.0)) × (x.1.at ≤ INPUT_LIMIT)
part_means opened place bytes x fits e =
    let start : Cursor = record { begin = place; at = place; rest = bytes } in
    let h = sound_at (ReadsPart opened start) (part_at opened start) x (part_sound opened start fits) e in
    (h.is, h.takes.parts, h.takes.at, h.room)
