-- What a stream answers to one more piece.
use Rattle.std.proofs.Common.{◌≡◌, ℕ, ◌+◌, ◌-◌, ◌<◌, ◌≤◌, inl, inr, Bool, true, false, List, [], ◌∷◌, ◌++◌, length, take, drop, Option, Some, None, Result, Ok, Err, refl, sym, ◌∙◌, ap, subst, append_assoc, append-nil, length-append, arith}
use Rattle.std.proofs.lemmas.Bool.{cases_lt}
use Rattle.std.proofs.lemmas.List.{take_at, take-append-le, take-append-drop, take_all}
use Rattle.std.proofs.Math.Seq.{take-append-add}
use Rattle.bp_tcpcl.specs.declared.TheConstants.{INPUT_LIMIT}
use Rattle.bp_tcpcl.specs.declared.message.Item.{Item}
use Rattle.bp_tcpcl.specs.declared.reason.LinkError.{LinkError}
use Rattle.bp_tcpcl.specs.declared.stop.Stop.{Stop}
use Rattle.bp_tcpcl.specs.declared.stop.Stop.TheVariants.{More}
use Rattle.bp_tcpcl.specs.declared.stream.Taken.{Taken}
use Rattle.bp_tcpcl.specs.Numbers.{number_in}
use Rattle.bp_tcpcl.specs.Spelling.{item_bytes, stream_bytes, IsPart, IsStream, is_opened}
use Rattle.bp_tcpcl.specs.Reading.{Cursor, mark_at, contact_at, message_at, part_at, front_at}
use Rattle.bp_tcpcl.specs.Taking.{Link, GivesPart, TakesAll, Takes, Feeds, Took, with_item, TookMore, FindsPart}

-- no byte begins a part
pub nothing_waits : (opened : Bool) (place : ℕ) → front_at opened place [] ≡ Err More
unfolding part_at message_at contact_at mark_at number_in
nothing_waits true place = refl
nothing_waits false place = refl

-- what is spelled as a part is read so
abbrev pub ReadsAgain : Type 0
ReadsAgain = (opened : Bool) (place : ℕ) (item : Item) (rest : List ℕ) → IsPart opened item → place + length (item_bytes item) ≤ INPUT_LIMIT
    → front_at opened place (item_bytes item ++ rest) ≡ Ok (item, record { begin = place; at = place + length (item_bytes item); rest = rest })

-- ---- a part is given

-- bytes that begin with no whole part don't reach its end
not_whole : ReadsAgain → (opened : Bool) (place : ℕ) (pending text rest piece : List ℕ) (item : Item) → IsPart opened item → place + length (item_bytes item) ≤ INPUT_LIMIT → text ≡ item_bytes item → pending ++ piece ≡ text ++ rest
    → length text ≤ length pending → front_at opened place pending ≡ Err More → ⊥
not_whole again opened place pending text rest piece item is room e same short waits =
    let len : ℕ = length text in
    let front : take len pending ≡ text = sym (take-append-le len pending piece short) ∙ (ap (take len) same ∙ take_at text rest len refl) in
    let whole : pending ≡ item_bytes item ++ drop len pending = sym (take-append-drop len pending) ∙ ap (λ (t : List ℕ). t ++ drop len pending) (front ∙ e) in
    let read = again opened place item (drop len pending) is room in
    let both = sym waits ∙ (ap (front_at opened place) whole ∙ read) in
    absurd (differ both)
  where
    differ : {A : Type 0} {x : A} → ◌≡◌ {A = Result A Stop} (Err More) (Ok x) → ⊥
    differ e = cc

spelled_front : (pending piece text rest : List ℕ) → pending ++ piece ≡ text ++ rest → length pending ≤ length text → pending ++ take (length text - length pending) piece ≡ text
spelled_front pending piece text rest same long =
    let count : ℕ = length text - length pending in
    let size : length pending + count ≡ length text = omega arith in
    sym (take-append-add pending piece count) ∙ (ap (λ (n : ℕ). take n (pending ++ piece)) size ∙ (ap (take (length text)) same ∙ take_at text rest (length text) refl))

pub gives_part : ReadsAgain → (old new : Link) (piece : List ℕ) (item : Item) (len count : ℕ) → front_at old.opened old.place old.pending ≡ Err More → FindsPart old.opened old.place (old.pending ++ piece) item len → count ≡ len - length old.pending
    → new ≡ record { opened = true; place = old.place + len; pending = []; met = None } → GivesPart old piece count item new
gives_part again old new piece item len count waits found is made =
    let text : List ℕ = item_bytes item in
    let size = found.size in
    let long : length old.pending < length text =
    elim (cases_lt (length old.pending) (length text)) [
      | inl lt ↦ lt
      | inr le ↦ absurd (not_whole again old.opened old.place old.pending text found.rest piece item found.is found.room refl found.spelled le waits)
    ] in
    let counted : count ≡ length text - length old.pending = omega arith in
    let fits : length old.pending + length piece ≡ length text + length found.rest = sym (length-append old.pending piece) ∙ (ap (λ (xs : List ℕ). length xs) found.spelled ∙ length-append text found.rest) in
    record {
      spells = ap (λ (n : ℕ). old.pending ++ take n piece) counted ∙ spelled_front old.pending piece text found.rest found.spelled (omega arith);
      is = found.is;
      within = omega arith;
      room = found.room;
      becomes = made ∙ ap (λ (n : ℕ). record { opened = true; place = old.place + n; pending = []; met = None }) size;
    }

-- ---- a whole stream so far

append_messages : (items : List Item) (item : Item) → IsStream true items → IsPart true item → IsStream true (items ++ (item ∷ []))
unfolding IsStream
append_messages [] item are is = (is, tt)
append_messages (first ∷ more) item are is = (are.0, append_messages more item are.1 is)

append_stream : (items : List Item) (item : Item) → IsStream false items → IsPart (is_opened items) item → IsStream false (items ++ (item ∷ []))
unfolding IsStream
append_stream [] item are is = (is, tt)
append_stream (first ∷ more) item are is = (are.0, append_messages more item are.1 is)

append_opened : (items : List Item) (item : Item) → is_opened (items ++ (item ∷ [])) ≡ true
append_opened [] item = refl
append_opened (first ∷ more) item = refl

append_bytes : (items : List Item) (item : Item) → stream_bytes (items ++ (item ∷ [])) ≡ stream_bytes items ++ item_bytes item
unfolding stream_bytes
append_bytes [] item = append-nil (item_bytes item)
append_bytes (first ∷ more) item = ap (λ (t : List ℕ). item_bytes first ++ t) (append_bytes more item) ∙ sym (append_assoc (item_bytes first) (stream_bytes more) (item_bytes item))

took_part : (old new : Link) (piece : List ℕ) (items : List Item) (bytes : List ℕ) (count : ℕ) (item : Item) → Took old items bytes → GivesPart old piece count item new → Took new (items ++ (item ∷ [])) (bytes ++ take count piece)
took_part old new piece items bytes count item took gives =
    let text : List ℕ = item_bytes item in
    let made : Link = record { opened = true; place = old.place + length text; pending = []; met = None } in
    let size : length (stream_bytes (items ++ (item ∷ []))) ≡ length (stream_bytes items) + length text = ap (λ (xs : List ℕ). length xs) (append_bytes items item) ∙ length-append (stream_bytes items) text in
    let all : bytes ++ take count piece ≡ stream_bytes (items ++ (item ∷ [])) =
    ap (λ (xs : List ℕ). xs ++ take count piece) took.spelled
    ∙ (append_assoc (stream_bytes items) old.pending (take count piece) ∙ (ap (λ (xs : List ℕ). stream_bytes items ++ xs) gives.spells ∙ sym (append_bytes items item))) in
    let place = took.place in
    let fresh : Took made (items ++ (item ∷ [])) (bytes ++ take count piece) = record {
      none = refl;
      are = append_stream items item took.are (subst (λ (o : Bool). IsPart o item) took.opened gives.is);
      opened = sym (append_opened items item);
      place = omega arith;
      spelled = all ∙ sym (append-nil (stream_bytes (items ++ (item ∷ []))));
      waits = nothing_waits true (old.place + length text);
    } in
    subst (λ (l : Link). Took l (items ++ (item ∷ [])) (bytes ++ take count piece)) (sym gives.becomes) fresh

took_all : (old new : Link) (piece : List ℕ) (items : List Item) (bytes : List ℕ) (count : ℕ) → Took old items bytes → TakesAll old piece count new → Took new items (bytes ++ take count piece)
took_all old new piece items bytes count took takes =
    let made : Link = record { opened = old.opened; place = old.place; pending = old.pending ++ piece; met = None } in
    let whole : take count piece ≡ piece = ap (λ (n : ℕ). take n piece) takes.all ∙ take_all (length piece) piece (omega arith) in
    let all : bytes ++ take count piece ≡ stream_bytes items ++ (old.pending ++ piece) =
    ap (λ (xs : List ℕ). bytes ++ xs) whole ∙ (ap (λ (xs : List ℕ). xs ++ piece) took.spelled ∙ append_assoc (stream_bytes items) old.pending piece) in
    let same : Took made items (bytes ++ take count piece) = record {
      none = refl;
      are = took.are;
      opened = took.opened;
      place = took.place;
      spelled = all;
      waits = ap (front_at old.opened old.place) (append-nil (old.pending ++ piece)) ∙ takes.more;
    } in
    subst (λ (l : Link). Took l items (bytes ++ take count piece)) (sym takes.becomes) same

took_by : (old new : Link) (piece : List ℕ) (items : List Item) (bytes : List ℕ) (count : ℕ) (found : Option Item) → Took old items bytes → Takes old piece count found new → Took new (with_item items found) (bytes ++ take count piece)
took_by old new piece items bytes count (Some item) took takes = took_part old new piece items bytes count item took takes
took_by old new piece items bytes count None took takes = took_all old new piece items bytes count took takes

pub took_more : (old new : Link) (piece : List ℕ) (result : Result Taken LinkError) (items : List Item) (bytes : List ℕ) → (old.met ≡ None → Feeds old piece new result) → Took old items bytes → TookMore items bytes piece new result
took_more old new piece (Ok taken) items bytes feeds took = took_by old new piece items bytes taken.taken taken.item took (feeds took.none)
took_more old new piece (Err error) items bytes feeds took = tt

-- ---- the end of the input, and the beginning

pub empty_waits : (opened : Bool) (place : ℕ) (pending : List ℕ) → pending ≡ [] → front_at opened place pending ≡ Err More
empty_waits opened place pending none = ap (front_at opened place) none ∙ nothing_waits opened place

pub took_nothing : (pending : List ℕ) → pending ≡ [] → Took (record { opened = false; place = 0; pending = pending; met = None }) [] []
unfolding IsStream stream_bytes
took_nothing pending none = record { none = refl; are = tt; opened = refl; place = refl; spelled = sym none; waits = empty_waits false 0 (pending ++ []) (append-nil pending ∙ none) }

pub no_bytes : (xs : List ℕ) → length xs ≡ 0 → xs ≡ []
no_bytes [] none = refl
no_bytes (x ∷ xs) none = absurd (omega arith)

-- ---- what the calls of `feed` come to

-- what was found at the front of some bytes
pub found_part : (opened : Bool) (place : ℕ) (bytes : List ℕ) (item found : Item) (after : Cursor) (len : ℕ) → item ≡ found
    → IsPart opened found × (bytes ≡ item_bytes found ++ after.rest) × (after.at ≡ place + length (item_bytes found)) × (after.at ≤ INPUT_LIMIT) → len ≡ length bytes - length after.rest
    → FindsPart opened place bytes item len
found_part opened place bytes item found after len same means counted =
    let whole : length bytes ≡ length (item_bytes found) + length after.rest = ap (λ (xs : List ℕ). length xs) means.1 ∙ length-append (item_bytes found) after.rest in
    let at = means.2 in
    let room = means.3 in
    subst (λ (i : Item). FindsPart opened place bytes i len) (sym same) (record {
      rest = after.rest;
      spelled = means.1;
      size = omega arith;
      room = omega arith;
      is = means.0;
    })

-- a part was found and given
pub whole_feeds : ReadsAgain → (start old new : Link) (piece all : List ℕ) (item : Item) (len count place : ℕ) (met : Option LinkError) (result : Result Taken LinkError) → start ≡ old → front_at start.opened start.place start.pending ≡ Err More
    → FindsPart start.opened start.place all item len → all ≡ start.pending ++ piece → count ≡ len - length start.pending → place ≡ old.place → met ≡ old.met
    → new ≡ record { opened = true; place = place + len; pending = []; met = met } → result ≡ Ok (record { taken = count; item = Some item }) → old.met ≡ None → Feeds old piece new result
whole_feeds again start old new piece all item len count place met result same waits found all_is counted place_is met_is kept result_is none =
    let waiting : front_at old.opened old.place old.pending ≡ Err More = subst (λ (l : Link). front_at l.opened l.place l.pending ≡ Err More) same waits in
    let part : FindsPart old.opened old.place (old.pending ++ piece) item len =
    subst (λ (l : Link). FindsPart l.opened l.place (l.pending ++ piece) item len) same (subst (λ (xs : List ℕ). FindsPart start.opened start.place xs item len) all_is found) in
    let size : length start.pending ≡ length old.pending = ap (λ (l : Link). length l.pending) same in
    let made : new ≡ record { opened = true; place = old.place + len; pending = []; met = None } = kept ∙ (ap (kept_at met) place_is ∙ ap (met_at old.place) (met_is ∙ none)) in
    subst (λ (r : Result Taken LinkError). Feeds old piece new r) (sym result_is) (gives_part again old new piece item len count waiting part (omega arith) made)
  where
    kept_at : Option LinkError → ℕ → Link
    kept_at m p = record { opened = true; place = p + len; pending = []; met = m }

    met_at : ℕ → Option LinkError → Link
    met_at p m = record { opened = true; place = p + len; pending = []; met = m }
