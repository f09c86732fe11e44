-- What each step of the decoder leaves to be read.
use Rattle.std.proofs.Common.{◌≡◌, ℕ, suc, ◌+◌, ◌-◌, ◌<◌, ◌≤◌, Bool, true, false, cond, ltb, eqb, ◌||◌, List, [], ◌∷◌, ◌++◌, length, take, drop, Option, Some, None, Result, Ok, Err, refl, sym, ◌∙◌, ap, arith, append_assoc, length-drop}
use Rattle.std.proofs.lemmas.Bool.{le-ltb, ltb-false, ltb-true, lt-ltb}
use Rattle.std.proofs.lemmas.List.{length-append, take-append-le, drop-append-le}
use Rattle.std.proofs.Math.Seq.{take-append-add, drop-append-add}
use Rattle.cbor_profile.specs.declared.TheConstants.{BUNDLE_LIMIT}
use Rattle.cbor_profile.specs.declared.head.Head.{Head}
use Rattle.cbor_profile.specs.declared.fault.Reason.{Reason}
use Rattle.cbor_profile.specs.declared.fault.Reason.TheVariants as reasons
use Rattle.cbor_profile.specs.declared.fault.Fault.{Fault}
use Rattle.cbor_profile.specs.Step.{◌>>=◌}
use Rattle.cbor_profile.specs.Token.{token_head}
use Rattle.bp_primary.specs.declared.primary.Primary.{Primary}
use Rattle.bp_blocks.specs.declared.block.Block.{Block}
use Rattle.bp_bundle.specs.declared.token.Token.{Token}
use Rattle.bp_bundle.specs.declared.token.Token.TheVariants as tokens
use Rattle.bp_bundle.specs.declared.header.Header.{Header}
use Rattle.bp_bundle.specs.declared.stage.Begun.{Begun}
use Rattle.bp_bundle.specs.declared.stage.Open.{Open}
use Rattle.bp_bundle.specs.declared.stage.Closing.{Closing}
use Rattle.bp_bundle.specs.declared.stage.Stage.TheVariants as stages
use Rattle.bp_bundle.specs.Shape.{Contents}
use Rattle.bp_bundle.specs.Faults.{is_payload}
use Rattle.bp_bundle.specs.Tokens.{Cursor, stops, major_of, conditions, first_failing, announced, up_to, after_conditions, after_head, argument_at}
use Rattle.bp_bundle.specs.FirstFault.{past, end_at, content_at, check_type_at, check_at, header_at, block_of, block_check, next_at, closed_at, blocks_at, front_at, bundle_at}
use Rattle.cbor_profile.specs.declared.fault.SpellError.{SpellError}
use Rattle.cbor_profile.specs.declared.fault.SpellError.TheVariants as errors
use Rattle.bp_bundle.specs.Step.{Fails}
use Rattle.bp_bundle.specs.Machine.{more_at, with_primary, rest_at, resume, Follows}
use Rattle.bp_bundle.proofs.ReadingStays.{GrowthLaws, with_more, front_grows, header_grows, check_grows, end_grows}
use Rattle.bp_bundle.proofs.FaultsWithin.{given, second, itself, front_ends, header_ends, check_ends, end_ends}
use Rattle.bp_bundle.proofs.MajorTypes.{head_major}
use Rattle.bp_bundle.proofs.StatesGoOn.{bind_assoc, ends_ok, grows_ok}

-- ---- the front

pub front_follows : (laws : GrowthLaws) (cursor : Cursor) (primary : Primary) (after : Cursor) (begun : Begun) → begun.primary ≡ primary → begun.blocks ≡ [] → front_at cursor ≡ Ok (primary, after) → Follows stages.Front cursor (stages.Header begun) after
unfolding resume bundle_at
front_follows laws cursor primary after begun p b is = record {
  same = λ more.
      let grown = grows_ok (with_more more) (front_at cursor) (front_at (more_at more cursor)) (primary, after) (front_grows laws cursor more) is in
      rw (grown, p, b) refl;
  given = ends_ok second (given cursor) (front_at cursor) (primary, after) (front_ends (given cursor) cursor refl) is;
}

pub front_fails : (cursor : Cursor) (fault : Fault) → front_at cursor ≡ Err fault → resume stages.Front cursor ≡ Err fault
unfolding resume bundle_at
front_fails cursor fault is = rw is refl

-- ---- headers

bind_ok : {A B : Type 0} (r : Result A Fault) (f : A → Result B Fault) (y : B) → (r >>= f) ≡ Ok y → (x : A) × (r ≡ Ok x)
bind_ok (Ok x) f y e = (x, refl)
bind_ok (Err fault) f y e = absurd cc

none_fails_by : (cursor : Cursor) (failing : Option Reason) (head : Head) (after : Cursor) (x : ℕ × Cursor) → after_conditions cursor failing head after ≡ Ok x → (failing ≡ None) × (x.0 ≡ head.value)
none_fails_by cursor (Some reason) head after x e = absurd cc
none_fails_by cursor None head after x e = (refl, room_by (ltb (BUNDLE_LIMIT - 1) (after.at + announced head)) cursor head after x e)
  where
    room_by : (b : Bool) (cursor : Cursor) (head : Head) (after : Cursor) (x : ℕ × Cursor) → cond b (stops cursor reasons.TooLong) (Ok (head.value, after)) ≡ Ok x → x.0 ≡ head.value
    room_by true cursor head after x e = absurd cc
    room_by false cursor head after x e = cc

argument_by : (before : List Block) (token : Token) (cursor : Cursor) (r : Result (Head × List ℕ) Reason) (x : ℕ × Cursor) → after_head before token cursor r ≡ Ok x → first_failing (conditions before token) x.0 ≡ None
argument_by before token cursor (Err reason) x e = absurd cc
argument_by before token cursor (Ok y) x e =
    let none = none_fails_by cursor (first_failing (conditions before token) y.0.value) y.0 (up_to cursor y.1) x e in
    ap (first_failing (conditions before token)) none.1 ∙ none.0

argument_fits : (before : List Block) (token : Token) (cursor : Cursor) (x : ℕ × Cursor) → argument_at before token cursor ≡ Ok x → first_failing (conditions before token) x.0 ≡ None
unfolding argument_at
argument_fits before token cursor x e = argument_by before token cursor (token_head (major_of token ∷ []) cursor.rest) x e

room_of : (a b : Bool) → cond a (cond b None (Some reasons.TooLong)) (Some reasons.WrongCount) ≡ None → b ≡ true
room_of true true e = refl
room_of true false e = absurd cc
room_of false b e = absurd cc

pub header_few : (before : List Block) (cursor : Cursor) (x : Header × Cursor) → header_at before cursor ≡ Ok x → length before < 64
unfolding header_at
header_few before cursor x e =
    let items = bind_ok (argument_at before tokens.BlockArray cursor) _ x e in
    let fits = argument_fits before tokens.BlockArray cursor items.0 items.1 in
    ltb-true (length before) 64 (room_of (eqb items.0.0 5 || eqb items.0.0 6) (ltb (length before) 64) fits)

bind_step : {A B : Type 0} (r : Result A Fault) (f : A → Result B Fault) (y : B) → (r >>= f) ≡ Ok y → (x : A) × (r ≡ Ok x) × (f x ≡ Ok y)
bind_step (Ok x) f y e = (x, refl, e)
bind_step (Err fault) f y e = absurd cc

room_left : (b : Bool) (cursor : Cursor) (head : Head) (after : Cursor) (x : ℕ × Cursor) → ltb (BUNDLE_LIMIT - 1) (after.at + announced head) ≡ b → cond b (stops cursor reasons.TooLong) (Ok (head.value, after)) ≡ Ok x → (x.0 ≡ head.value) × (after.at + announced head < BUNDLE_LIMIT)
room_left true cursor head after x is e = absurd cc
room_left false cursor head after x is e = (cc, let le = ltb-false _ _ is in omega arith)

conditions_room : (cursor : Cursor) (failing : Option Reason) (head : Head) (after : Cursor) (x : ℕ × Cursor) → after_conditions cursor failing head after ≡ Ok x → (x.0 ≡ head.value) × (after.at + announced head < BUNDLE_LIMIT)
conditions_room cursor (Some reason) head after x e = absurd cc
conditions_room cursor None head after x e = room_left (ltb (BUNDLE_LIMIT - 1) (after.at + announced head)) cursor head after x refl e

announced_by : (head : Head) → head.major ≡ 2 → announced head ≡ head.value
announced_by head is = rw is refl

body_by : (before : List Block) (cursor : Cursor) (r : Result (Head × List ℕ) Reason) (x : ℕ × Cursor) → token_head (2 ∷ []) cursor.rest ≡ r → after_head before tokens.Body cursor r ≡ Ok x → x.0 < BUNDLE_LIMIT
body_by before cursor (Err reason) x is e = absurd cc
body_by before cursor (Ok y) x is e =
    let room = conditions_room cursor None y.0 (up_to cursor y.1) x e in
    let string = announced_by y.0 (head_major 2 cursor.rest y is) in
    omega (arith, room.0, room.1, string)

body_small : (before : List Block) (cursor : Cursor) (x : ℕ × Cursor) → argument_at before tokens.Body cursor ≡ Ok x → x.0 < BUNDLE_LIMIT
unfolding argument_at
body_small before cursor x e = body_by before cursor (token_head (2 ∷ []) cursor.rest) x refl e

header_is : (header : Header) (after : Cursor) (x : Header × Cursor) → ◌≡◌ {A = Result (Header × Cursor) Fault} (Ok (header, after)) (Ok x) → header ≡ x.0
header_is header after x e = cc

pub header_small : (before : List Block) (cursor : Cursor) (x : Header × Cursor) → header_at before cursor ≡ Ok x → x.0.len < BUNDLE_LIMIT
unfolding header_at
header_small before cursor x e =
    let a = bind_step (argument_at before tokens.BlockArray cursor) _ x e in
    let b = bind_step (argument_at before tokens.BlockType a.0.1) _ x a.2 in
    let c = bind_step (argument_at before (tokens.BlockNumber b.0.0) b.0.1) _ x b.2 in
    let d = bind_step (argument_at before tokens.Number c.0.1) _ x c.2 in
    let f = bind_step (check_type_at (eqb a.0.0 6) d.0.1) _ x d.2 in
    let g = bind_step (argument_at before tokens.Body f.0.1) _ x f.2 in
    let small = body_small before f.0.1 g.0 g.1 in
    let len = ap (λ (h : Header). h.len) (header_is _ g.0.1 x g.2) in
    omega arith

one_less : (n : ℕ) → n < 64 → 65 - n ≡ suc (64 - n)
one_less n few = omega arith

blocks_so : (laws : GrowthLaws) (begun : Begun) (cursor : Cursor) (header : Header) (after : Cursor) → length begun.blocks < 64 → header_at begun.blocks cursor ≡ Ok (header, after)
    → blocks_at (65 - length begun.blocks) begun.blocks cursor ≡ (content_at header.len after >>= λ body. closed_at (blocks_at (64 - length begun.blocks)) begun.blocks (block_of header body.0) body.1)
unfolding blocks_at
blocks_so laws begun cursor header after few is = rw (one_less (length begun.blocks) few, is) refl

pub header_follows : (laws : GrowthLaws) (begun : Begun) (cursor : Cursor) (header : Header) (after : Cursor) (opened : Open) → opened.begun ≡ begun → opened.header ≡ header → opened.body ≡ [] → header_at begun.blocks cursor ≡ Ok (header, after)
    → Follows (stages.Header begun) cursor (stages.Body opened) after
unfolding resume rest_at
header_follows laws begun cursor header after opened b h none is = record {
  same = λ more.
      let few = header_few begun.blocks cursor (header, after) is in
      let grown = grows_ok (with_more more) (header_at begun.blocks cursor) (header_at begun.blocks (more_at more cursor)) (header, after) (header_grows laws begun.blocks cursor more) is in
      let whole : header.len - 0 ≡ header.len = omega arith in
      rw (b, h, none, whole, blocks_so laws begun (more_at more cursor) header (more_at more after) few grown)
      (bind_assoc (content_at header.len (more_at more after)) _ _);
  given = ends_ok second (given cursor) (header_at begun.blocks cursor) (header, after) (header_ends begun.blocks (given cursor) cursor refl) is;
}

pub header_fails : (begun : Begun) (cursor : Cursor) (fault : Fault) → header_at begun.blocks cursor ≡ Err fault → resume (stages.Header begun) cursor ≡ Err fault
unfolding resume blocks_at
header_fails begun cursor fault is =
    let few : length begun.blocks ≤ 64 = begun.few in
    let less : 65 - length begun.blocks ≡ suc (64 - length begun.blocks) = omega arith in
    rw (less, is) refl

-- ---- bodies

content_short : (n : ℕ) (cursor : Cursor) → length cursor.rest < n → content_at n cursor ≡ stops cursor reasons.Truncated
unfolding content_at
content_short n cursor short = rw (lt-ltb (length cursor.rest) n short) refl

content_long : (n : ℕ) (cursor : Cursor) → n ≤ length cursor.rest → content_at n cursor ≡ Ok (take n cursor.rest, past n cursor)
unfolding content_at
content_long n cursor long = rw (le-ltb (length cursor.rest) n long) refl

take_past : (n : ℕ) (came more : List ℕ) → length came ≤ n → take n (came ++ more) ≡ came ++ take (n - length came) more
take_past n came more within =
    let whole : length came + (n - length came) ≡ n = omega arith in
    ap (λ (k : ℕ). take k (came ++ more)) (sym whole) ∙ take-append-add came more (n - length came)

drop_past : (n : ℕ) (came more : List ℕ) → length came ≤ n → drop n (came ++ more) ≡ drop (n - length came) more
drop_past n came more within =
    let whole : length came + (n - length came) ≡ n = omega arith in
    ap (λ (k : ℕ). drop k (came ++ more)) (sym whole) ∙ drop-append-add came more (n - length came)

-- after some of a content has come, the rest of it comes
split_by : (b : Bool) {A : Type 0} (n : ℕ) (at : ℕ) (came more : List ℕ) (f : List ℕ × Cursor → Result A Fault) → length came ≤ n → ltb (length more) (n - length came) ≡ b
    → (content_at n (record { at = at; rest = came ++ more }) >>= f) ≡ (content_at (n - length came) (record { at = at + length came; rest = more }) >>= λ x. f (came ++ x.0, x.1))
split_by true n at came more f within is =
    let short : length more < n - length came = ltb-true _ _ is in
    let all : length (came ++ more) < n = omega (arith, length-append came more) in
    let place : at + length (came ++ more) ≡ at + length came + length more = omega (arith, length-append came more) in
    rw (content_short n (record { at = at; rest = came ++ more }) all, content_short (n - length came) (record { at = at + length came; rest = more }) short, place) refl
split_by false n at came more f within is =
    let long : n - length came ≤ length more = ltb-false _ _ is in
    let all : n ≤ length (came ++ more) = omega (arith, length-append came more) in
    let taken : take n (came ++ more) ≡ came ++ take (n - length came) more = take_past n came more within in
    let left : drop n (came ++ more) ≡ drop (n - length came) more = drop_past n came more within in
    let place : at + n ≡ at + length came + (n - length came) = omega arith in
    rw (content_long n (record { at = at; rest = came ++ more }) all, content_long (n - length came) (record { at = at + length came; rest = more }) long, taken, left, place) refl

content_splits : {A : Type 0} (n : ℕ) (at : ℕ) (came more : List ℕ) (f : List ℕ × Cursor → Result A Fault) → length came ≤ n
    → (content_at n (record { at = at; rest = came ++ more }) >>= f) ≡ (content_at (n - length came) (record { at = at + length came; rest = more }) >>= λ x. f (came ++ x.0, x.1))
content_splits n at came more f within = split_by (ltb (length more) (n - length came)) n at came more f within refl

pub body_follows : (opened next : Open) (cursor : Cursor) → next.begun ≡ opened.begun → next.header ≡ opened.header → next.body ≡ opened.body ++ cursor.rest → length opened.body + length cursor.rest ≤ opened.header.len
    → Follows (stages.Body opened) cursor (stages.Body next) (record { at = cursor.at + length cursor.rest; rest = [] })
unfolding resume
body_follows opened next cursor b h grew within = record {
  same = λ more.
      let left : opened.header.len - length (opened.body ++ cursor.rest) ≡ opened.header.len - length opened.body - length cursor.rest = omega (arith, length-append opened.body cursor.rest) in
      let fits : length cursor.rest ≤ opened.header.len - length opened.body = omega arith in
      rw (b, h, grew, left)
      (content_splits (opened.header.len - length opened.body) cursor.at cursor.rest more (λ x. rest_at opened.begun (block_of opened.header (opened.body ++ x.0)) x.1) fits
      ∙ ap (λ (f : List ℕ × Cursor → Result (Contents × Cursor) Fault). content_at (opened.header.len - length opened.body - length cursor.rest) (record { at = cursor.at + length cursor.rest; rest = more }) >>= f) (λ i x. rest_at opened.begun (block_of opened.header (sym (append_assoc opened.body cursor.rest x.0) i)) x.1));
  given = omega arith;
}

pub body_waits : (next : Open) (at : ℕ) → length next.body < next.header.len → resume (stages.Body next) (record { at = at; rest = [] }) ≡ Err (record { place = at + 0; reason = reasons.Truncated })
unfolding resume
body_waits next at short =
    let none : 0 < next.header.len - length next.body = omega arith in
    rw (content_short (next.header.len - length next.body) (record { at = at; rest = [] }) none) refl

pub body_closes : (opened : Open) (closing : Closing) (cursor : Cursor) (n : ℕ) → n + length opened.body ≡ opened.header.len → n ≤ length cursor.rest → closing.begun ≡ opened.begun → closing.block ≡ block_of opened.header (opened.body ++ take n cursor.rest)
    → Follows (stages.Body opened) cursor (stages.Tail closing) (past n cursor)
unfolding resume
body_closes opened closing cursor n size long b is = record {
  same = λ more.
      let left : opened.header.len - length opened.body ≡ n = omega arith in
      let longer : n ≤ length (cursor.rest ++ more) = omega (arith, length-append cursor.rest more) in
      rw (b, is, left, content_long n (more_at more cursor) longer, take-append-le n cursor.rest more long, drop-append-le n cursor.rest more long) refl;
  given = omega (arith, length-drop n cursor.rest);
}

-- ---- after the body

checked : (laws : GrowthLaws) (closing : Closing) (cursor after : Cursor) → check_at closing.block.crc (block_check closing.block) cursor ≡ Ok after
    → rest_at closing.begun closing.block cursor ≡ with_primary closing.begun.primary (next_at (blocks_at (64 - length closing.begun.blocks)) closing.begun.blocks closing.block after)
unfolding rest_at
checked laws closing cursor after is = rw is refl

check_more : (laws : GrowthLaws) (closing : Closing) (cursor after : Cursor) (more : List ℕ) → check_at closing.block.crc (block_check closing.block) cursor ≡ Ok after → check_at closing.block.crc (block_check closing.block) (more_at more cursor) ≡ Ok (more_at more after)
check_more laws closing cursor after more is =
    grows_ok (more_at more) (check_at closing.block.crc (block_check closing.block) cursor) (check_at closing.block.crc (block_check closing.block) (more_at more cursor)) after (check_grows laws closing.block.crc (block_check closing.block) cursor more) is

check_given : (closing : Closing) (cursor after : Cursor) → check_at closing.block.crc (block_check closing.block) cursor ≡ Ok after → given after ≡ given cursor
check_given closing cursor after is = ends_ok itself (given cursor) (check_at closing.block.crc (block_check closing.block) cursor) after (check_ends closing.block.crc (block_check closing.block) (given cursor) cursor refl) is

pub tail_follows : (laws : GrowthLaws) (closing : Closing) (begun : Begun) (cursor after : Cursor) → check_at closing.block.crc (block_check closing.block) cursor ≡ Ok after → is_payload closing.block ≡ false → begun.primary ≡ closing.begun.primary → begun.blocks ≡ closing.begun.blocks ++ closing.block ∷ []
    → Follows (stages.Tail closing) cursor (stages.Header begun) after
unfolding resume
tail_follows laws closing begun cursor after is other p b = record {
  same = λ more.
      let left : 65 - length (closing.begun.blocks ++ closing.block ∷ []) ≡ 64 - length closing.begun.blocks = omega (arith, length-append closing.begun.blocks (closing.block ∷ [])) in
      rw (checked laws closing (more_at more cursor) (more_at more after) (check_more laws closing cursor after more is), other, p, b, left) refl;
  given = check_given closing cursor after is;
}

pub tail_ends : (laws : GrowthLaws) (closing : Closing) (begun : Begun) (cursor after end : Cursor) → check_at closing.block.crc (block_check closing.block) cursor ≡ Ok after → is_payload closing.block ≡ true → end_at after ≡ Ok end → begun.primary ≡ closing.begun.primary → begun.blocks ≡ closing.begun.blocks ++ closing.block ∷ []
    → Follows (stages.Tail closing) cursor (stages.Done begun) end
unfolding resume
tail_ends laws closing begun cursor after end is payload ended p b = record {
  same = λ more.
      let grown = grows_ok (more_at more) (end_at after) (end_at (more_at more after)) end (end_grows after more) ended in
      rw (checked laws closing (more_at more cursor) (more_at more after) (check_more laws closing cursor after more is), payload, grown, p, b) refl;
  given = ends_ok itself (given after) (end_at after) end (end_ends (given after) after refl) ended ∙ check_given closing cursor after is;
}

pub check_fails : (closing : Closing) (cursor : Cursor) (fault : Fault) → check_at closing.block.crc (block_check closing.block) cursor ≡ Err fault → resume (stages.Tail closing) cursor ≡ Err fault
unfolding resume rest_at
check_fails closing cursor fault is = rw is refl

pub end_fails : (laws : GrowthLaws) (closing : Closing) (cursor after : Cursor) (fault : Fault) → check_at closing.block.crc (block_check closing.block) cursor ≡ Ok after → is_payload closing.block ≡ true → end_at after ≡ Err fault → resume (stages.Tail closing) cursor ≡ Err fault
unfolding resume
end_fails laws closing cursor after fault is payload ended = rw (checked laws closing cursor after is, payload, ended) refl

-- ---- errors with want of memory

pub front_error : (cursor : Cursor) (error : SpellError) → Fails error (front_at cursor) → Fails error (resume stages.Front cursor)
front_error cursor errors.NoMemory fails = tt
front_error cursor (errors.Fault fault) fails = front_fails cursor fault fails
