-- The fields that were read are spelled so.
use Rattle.std.proofs.Common.{◌≡◌, ℕ, ◌+◌, ◌<◌, ◌≤◌, Bool, true, false, cond, ltb, List, ◌++◌, length, take, drop, Some, None, Result, Ok, Err, refl, sym, ◌∙◌, ap, subst, arith}
use Rattle.std.specs.Prelude.{IfOk}
use Rattle.std.specs.Int.{Width, byte_len, to_be_bytes, from_be_bytes}
use Rattle.std.proofs.lemmas.Bool.{ltb-false}
use Rattle.std.proofs.lemmas.List.{take-append-drop, length-take}
use Rattle.cbor_profile.proofs.Wide.{IsBytes, IsBytes-take, IsBytes-drop, IsWide}
use Rattle.bp_tcpcl.specs.declared.TheConstants.{INPUT_LIMIT}
use Rattle.bp_tcpcl.specs.declared.reason.LinkReason.TheVariants.{TooLong, TooMuch}
use Rattle.bp_tcpcl.specs.declared.stop.Stop.{Stop}
use Rattle.bp_tcpcl.specs.declared.stop.Stop.TheVariants.{More}
use Rattle.bp_tcpcl.specs.Numbers.{number, number_in}
use Rattle.bp_tcpcl.specs.Spelling.{sized}
use Rattle.bp_tcpcl.specs.Reading.{Cursor, past, faulty, wanted, within, number_at, bytes_at, content_at, sized_at}
use Rattle.bp_tcpcl.proofs.Steps.{then_sound, either_sound, Reads, Reads-then}

-- ---- numbers

-- a number at the front
pub record InFront (w : Width) (limit : ℕ) (bytes : List ℕ) (value : ℕ) : Type 0 where
  pub there : byte_len w ≤ length bytes
  pub parts : bytes ≡ number w value ++ drop (byte_len w) bytes
  pub below : value < limit

front_is : (w : Width) (limit : ℕ) → IsWide w limit → (bytes : List ℕ) → IsBytes bytes → byte_len w ≤ length bytes → InFront w limit bytes (from_be_bytes w (take (byte_len w) bytes))
unfolding number
front_is w limit wide bytes fits long =
    let front : List ℕ = take (byte_len w) bytes in
    let len : length front ≡ byte_len w = omega (arith, length-take (byte_len w) bytes) in
    let back : to_be_bytes w (from_be_bytes w front) ≡ front = wide.back front len (IsBytes-take (byte_len w) bytes fits) in
    record {
      there = long;
      parts = sym (take-append-drop (byte_len w) bytes) ∙ ap (λ (t : List ℕ). t ++ drop (byte_len w) bytes) (sym back);
      below = wide.below front (IsBytes-take (byte_len w) bytes fits);
    }

wanted_by : (b : Bool) (w : Width) (limit : ℕ) (bytes : List ℕ) → (b ≡ false → InFront w limit bytes (from_be_bytes w (take (byte_len w) bytes)))
    → IfOk (wanted (cond b None (Some (from_be_bytes w (take (byte_len w) bytes))))) (InFront w limit bytes)
wanted_by true w limit bytes h = tt
wanted_by false w limit bytes h = h refl

pub wanted_sound : (w : Width) (limit : ℕ) → IsWide w limit → (bytes : List ℕ) → IsBytes bytes → IfOk (wanted (number_in w bytes)) (InFront w limit bytes)
unfolding number_in
wanted_sound w limit wide bytes fits =
    wanted_by (ltb (length bytes) (byte_len w)) w limit bytes (λ e. front_is w limit wide bytes fits (ltb-false _ _ e))

pub length-number : (w : Width) (limit : ℕ) → IsWide w limit → (n : ℕ) → length (number w n) ≡ byte_len w
unfolding number
length-number w limit wide n = wide.len n

-- what a number at the front takes
pub front_reads : (w : Width) (limit : ℕ) → IsWide w limit → (cursor : Cursor) (value : ℕ) → IsBytes cursor.rest → InFront w limit cursor.rest value → Reads cursor (number w value) (past (byte_len w) cursor)
front_reads w limit wide cursor value fits h = record {
  parts = h.parts;
  at = ap (λ (n : ℕ). cursor.at + n) (sym (length-number w limit wide value));
  rest_fits = IsBytes-drop (byte_len w) cursor.rest fits;
}

-- ---- the limit of the input

-- it is that place, within the limit
pub record IsWithin (to_come : ℕ) (cursor after : Cursor) : Type 0 where
  pub same : after ≡ cursor
  pub room : cursor.at + to_come ≤ INPUT_LIMIT

pub within_sound : (to_come : ℕ) (cursor : Cursor) → IfOk (within to_come cursor) (IsWithin to_come cursor)
unfolding within
within_sound to_come cursor =
    either_sound (IsWithin to_come cursor) (ltb INPUT_LIMIT (cursor.at + to_come)) (faulty cursor.begin TooMuch) (Ok cursor) (λ _. tt)
    (λ e. record { same = refl; room = ltb-false _ _ e })

-- ---- fields

pub record ReadsNumber (w : Width) (limit : ℕ) (cursor : Cursor) (x : ℕ × Cursor) : Type 0 where
  pub takes : Reads cursor (number w x.0) x.1
  pub below : x.0 < limit
  pub room : x.1.at ≤ INPUT_LIMIT

pub number_sound : (w : Width) (limit to_come : ℕ) → IsWide w limit → (cursor : Cursor) → IsBytes cursor.rest → IfOk (number_at w to_come cursor) (ReadsNumber w limit cursor)
unfolding number_at
number_sound w limit to_come wide cursor fits =
    then_sound (InFront w limit cursor.rest) (ReadsNumber w limit cursor) (wanted (number_in w cursor.rest)) _ (wanted_sound w limit wide cursor.rest fits)
    (λ value h. then_sound (IsWithin to_come (past (byte_len w) cursor)) (ReadsNumber w limit cursor) (within to_come (past (byte_len w) cursor)) _ (within_sound to_come (past (byte_len w) cursor))
    (λ after is. let room = is.room in record {
      takes = subst (λ (c : Cursor). Reads cursor (number w value) c) (sym is.same) (front_reads w limit wide cursor value fits h);
      below = h.below;
      room = omega (arith, ap (λ (c : Cursor). c.at) is.same);
    }))

pub record ReadsBytes (len : ℕ) (cursor : Cursor) (x : List ℕ × Cursor) : Type 0 where
  pub takes : Reads cursor x.0 x.1
  pub size : length x.0 ≡ len
  pub room : x.1.at ≤ INPUT_LIMIT

bytes_sound : (len to_come : ℕ) (cursor : Cursor) → IsBytes cursor.rest → IfOk (bytes_at len to_come cursor) (ReadsBytes len cursor)
unfolding bytes_at
bytes_sound len to_come cursor fits =
    either_sound (ReadsBytes len cursor) (ltb (length cursor.rest) len) (Err More) _ (λ _. tt)
    (λ e.
    let long : len ≤ length cursor.rest = ltb-false _ _ e in
    let size : length (take len cursor.rest) ≡ len = omega (arith, length-take len cursor.rest) in
    then_sound (IsWithin to_come (past len cursor)) (ReadsBytes len cursor) (within to_come (past len cursor)) _ (within_sound to_come (past len cursor))
    (λ after is. let room = is.room in record {
      takes = subst (λ (c : Cursor). Reads cursor (take len cursor.rest) c) (sym is.same) (record {
        parts = sym (take-append-drop len cursor.rest);
        at = ap (λ (n : ℕ). cursor.at + n) (sym size);
        rest_fits = IsBytes-drop len cursor.rest fits;
      });
      size = size;
      room = omega (arith, ap (λ (c : Cursor). c.at) is.same);
    }))

pub record ReadsSized (w : Width) (limit : ℕ) (cursor : Cursor) (x : List ℕ × Cursor) : Type 0 where
  pub takes : Reads cursor (sized w x.0) x.1
  pub short : length x.0 ≤ limit
  pub room : x.1.at ≤ INPUT_LIMIT

content_sound : (w : Width) (below limit to_come len : ℕ) → IsWide w below → (cursor : Cursor) → IsBytes cursor.rest → InFront w below cursor.rest len
    → IfOk (content_at len (byte_len w) limit to_come cursor) (ReadsSized w limit cursor)
unfolding content_at
content_sound w below limit to_come len wide cursor fits h =
    let start : Cursor = past (byte_len w) cursor in
    either_sound (ReadsSized w limit cursor) (ltb limit len) (faulty cursor.at TooLong) _ (λ _. tt)
    (λ e.
    let short : len ≤ limit = ltb-false _ _ e in
    then_sound (IsWithin (len + to_come) start) (ReadsSized w limit cursor) (within (len + to_come) start) (bytes_at len to_come) (within_sound (len + to_come) start)
    (λ after is.
    let front : Reads cursor (number w len) after = subst (λ (c : Cursor). Reads cursor (number w len) c) (sym is.same) (front_reads w below wide cursor len fits h) in
    sized_so w limit len cursor after front short (bytes_at len to_come after) (bytes_sound len to_come after front.rest_fits)))
  where
    sized_so : (w : Width) (limit len : ℕ) (cursor after : Cursor) → Reads cursor (number w len) after → len ≤ limit → (r : Result (List ℕ × Cursor) Stop) → IfOk r (ReadsBytes len after) → IfOk r (ReadsSized w limit cursor)
    sized_so w limit len cursor after front short (Err stop) h = tt
    sized_so w limit len cursor after front short (Ok x) h =
        let number_is : Reads cursor (number w (length x.0)) after = subst (λ (n : ℕ). Reads cursor (number w n) after) (sym h.size) front in
        record {
          takes = Reads-then cursor (number w (length x.0)) after x.0 x.1 number_is h.takes;
          short = omega (arith, h.size);
          room = h.room;
        }

pub sized_sound : (w : Width) (below limit to_come : ℕ) → IsWide w below → (cursor : Cursor) → IsBytes cursor.rest → IfOk (sized_at w limit to_come cursor) (ReadsSized w limit cursor)
unfolding sized_at
sized_sound w below limit to_come wide cursor fits =
    then_sound (InFront w below cursor.rest) (ReadsSized w limit cursor) (wanted (number_in w cursor.rest)) _ (wanted_sound w below wide cursor.rest fits)
    (λ len h. content_sound w below limit to_come len wide cursor fits h)
