-- What is read as a primary block is spelled so.
use Rattle.std.proofs.Common.{◌≡◌, ℕ, zero, suc, ◌+◌, ◌-◌, ◌%◌, ◌^◌, ◌<◌, ◌≤◌, Bool, true, false, not, cond, ltb, leb, eqb, ◌&&◌, List, [], ◌∷◌, ◌++◌, length, take, drop, Option, Some, None, Result, Ok, Err, refl, sym, ◌∙◌, ap, subst, arith}
use Rattle.std.specs.Option.{ForSome}
use Rattle.std.specs.Prelude.{bytes_eq}
use Rattle.std.proofs.lemmas.Bool.{ltb-false, leb-true, eqb-true, and_parts}
use Rattle.std.proofs.lemmas.List.{take-append-drop, length-take, length-append, drop_at}
use Rattle.std.proofs.lemmas.Slice.Eq.{bytes_eq-Decides}
use Rattle.cbor_profile.specs.Head.{head_spelling}
use Rattle.cbor_profile.specs.Put.{uint, array_head, byte_string}
use Rattle.cbor_profile.specs.Step.{◌>>=◌}
use Rattle.cbor_profile.specs.declared.fault.Fault.{Fault}
use Rattle.cbor_profile.specs.declared.fault.Reason.{Reason}
use Rattle.cbor_profile.specs.declared.fault.Reason.TheVariants as reasons
use Rattle.bp_crc.specs.declared.kind.CheckKind.{CheckKind}
use Rattle.bp_crc.specs.declared.kind.CheckKind.TheVariants as kinds
use Rattle.bp_crc.specs.Item.{check_type, check_count, check_item, zeros, check_of}
use Rattle.bp_crc.specs.Check.{check_bytes}
use Rattle.bp_eid.specs.declared.eid.Eid.{Eid}
use Rattle.bp_eid.specs.declared.stop.Stop.{Stop}
use Rattle.bp_eid.specs.EndpointId as ids
use Rattle.bp_eid.specs.Reading as reading
use Rattle.bp_primary.specs.declared.primary.Primary.{Primary}
use Rattle.bp_primary.specs.declared.primary.Piece.{Piece}
use Rattle.bp_primary.specs.Flags.{is_fragment}
use Rattle.bp_primary.specs.Fragment.{fragment_items, fragment_count}
use Rattle.bp_primary.specs.Spelling as primaries
use Rattle.bp_primary.specs.Spelling.{IsPrimary}
use Rattle.bp_blocks.specs.declared.block.Block.{Block}
use Rattle.bp_bundle.specs.declared.token.Token.TheVariants as tokens
use Rattle.bp_bundle.specs.Faults.{exactly}
use Rattle.bp_bundle.specs.Tokens.{Cursor, stops, argument_at}
use Rattle.bp_bundle.specs.FirstFault.{past, content_at, after_id, id_at, check_type_at, check_string_at, check_at, Nodes, nodes_at, Times, times_at, piece_at, piece_if, primary_of, primary_check, fields_at, primary_at}
use Rattle.bp_bundle.proofs.HeadsAsSpelled.{IsBytes, TokenLaws, bind_ok, ok_is, passed, Took, took-then, took-same, argument_means}

-- ---- ids

-- the law of ids, as the crate below gives it
pub record IdLaws : Type 0 where
  pub again : (eid : Eid) (rest : List ℕ) → ids.Fits eid → reading.id_at (ids.spelling eid ++ rest) ≡ Ok (eid, rest)
  pub means : (bytes : List ℕ) (eid : Eid) (rest : List ℕ) → IsBytes bytes → reading.id_at bytes ≡ Ok (eid, rest) → (bytes ≡ ids.spelling eid ++ rest) × ids.Fits eid

pub record Laws : Type 0 where
  pub heads : TokenLaws
  pub ids : IdLaws

pub take_drop_bytes : (text rest : List ℕ) → IsBytes (text ++ rest) → IsBytes rest
take_drop_bytes [] rest fits = fits
take_drop_bytes (b ∷ text) rest fits = take_drop_bytes text rest (λ i. fits (suc i))

-- an id that was read
pub record ReadsId (cursor : Cursor) (eid : Eid) (after : Cursor) : Type 0 where
  pub took : Took (ids.spelling eid) cursor after
  pub fits : ids.Fits eid

id_read : (laws : IdLaws) (cursor : Cursor) (r : Result (Eid × List ℕ) Stop) (x : Eid × Cursor) → IsBytes cursor.rest → reading.id_at cursor.rest ≡ r
    → after_id cursor (reading.answer cursor.rest r) ≡ Ok x → ReadsId cursor x.0 x.1
id_read laws cursor (Err stop) x fits is e = absurd cc
id_read laws cursor (Ok y) x fits is e =
    let m = laws.means cursor.rest y.0 y.1 fits is in
    let text = ids.spelling y.0 in
    let l = ap length m.0 ∙ length-append text y.1 in
    let len : length cursor.rest - length y.1 ≡ length text = omega arith in
    let rest : drop (length cursor.rest - length y.1) cursor.rest ≡ y.1 = rw (len, m.0) (drop_at text y.1 (length text) refl) in
    subst (λ (z : Eid × Cursor). ReadsId cursor z.0 z.1) (ok_is (y.0, past (length cursor.rest - length y.1) cursor) x e) (record {
      took = record {
        parts = m.0 ∙ ap (λ (t : List ℕ). text ++ t) (sym rest);
        moved = ap (λ (n : ℕ). cursor.at + n) len;
        fits = rw rest (take_drop_bytes text y.1 (subst IsBytes m.0 fits));
      };
      fits = m.1;
    })

pub id_means : (laws : Laws) (cursor : Cursor) (x : Eid × Cursor) → IsBytes cursor.rest → id_at cursor ≡ Ok x → ReadsId cursor x.0 x.1
unfolding id_at reading.read_id
id_means laws cursor x fits e = id_read laws.ids cursor (reading.id_at cursor.rest) x fits refl e

-- ---- contents and checks

pub record ReadsContent (len : ℕ) (cursor : Cursor) (content : List ℕ) (after : Cursor) : Type 0 where
  pub took : Took content cursor after
  pub long : length content ≡ len

pub content_means : (len : ℕ) (cursor : Cursor) (x : List ℕ × Cursor) → IsBytes cursor.rest → content_at len cursor ≡ Ok x → ReadsContent len cursor x.0 x.1
unfolding content_at
content_means len cursor x fits e =
    let p = passed (ltb (length cursor.rest) len) cursor reasons.Truncated (Ok (take len cursor.rest, past len cursor)) x e in
    let long : len ≤ length cursor.rest = ltb-false _ _ p.0 in
    let whole = take-append-drop len cursor.rest in
    let size : length (take len cursor.rest) ≡ len = omega (arith, length-take len cursor.rest) in
    subst (λ (y : List ℕ × Cursor). ReadsContent len cursor y.0 y.1) (ok_is (take len cursor.rest, past len cursor) x p.1) (record {
      took = record {
        parts = sym whole;
        moved = ap (λ (n : ℕ). cursor.at + n) (sym size);
        fits = take_drop_bytes (take len cursor.rest) (drop len cursor.rest) (rw whole fits);
      };
      long = size;
    })

-- the first of some conditions, and the others
pub first_holds : (b : Bool) (reason : Reason) (next : Option Reason) → cond b next (Some reason) ≡ None → (b ≡ true) × (next ≡ None)
first_holds true reason next e = (refl, e)
first_holds false reason next e = absurd cc

-- a check type that was read
pub record ReadsCheckType (checked : Bool) (cursor : Cursor) (kind : CheckKind) (after : Cursor) : Type 0 where
  pub took : Took (uint (check_type kind)) cursor after
  pub count : check_count kind ≡ cond checked 1 0

pub exactly_is : (a b : Bool) → exactly a b ≡ true → a ≡ b
exactly_is true true is = refl
exactly_is true false is = absurd cc
exactly_is false true is = absurd cc
exactly_is false false is = refl

type_kind : (type : ℕ) (checked : Bool) → type ≤ 2 → not (eqb type 0) ≡ checked → (check_type (check_of type) ≡ type) × (check_count (check_of type) ≡ cond checked 1 0)
type_kind zero checked le e = (refl, rw (← e) refl)
type_kind (suc zero) checked le e = (refl, rw (← e) refl)
type_kind (suc (suc zero)) checked le e = (refl, rw (← e) refl)
type_kind (suc (suc (suc type))) checked le e = absurd (omega arith)

pub check_type_means : (laws : Laws) (checked : Bool) (cursor : Cursor) (x : CheckKind × Cursor) → IsBytes cursor.rest → check_type_at checked cursor ≡ Ok x → ReadsCheckType checked cursor x.0 x.1
unfolding check_type_at uint
check_type_means laws checked cursor x fits e =
    let b = bind_ok (argument_at [] (tokens.CheckType checked) cursor) (λ type. Ok (check_of type.0, type.1)) x e in
    let h = argument_means laws.heads [] (tokens.CheckType checked) cursor b.0 fits b.1 in
    let small = first_holds (leb b.0.0 2) reasons.WrongValue _ h.none_fails in
    let there = first_holds (exactly (not (eqb b.0.0 0)) checked) reasons.WrongCount None small.1 in
    let kind = type_kind b.0.0 checked (leb-true _ _ small.0) (exactly_is (not (eqb b.0.0 0)) checked there.0) in
    subst (λ (y : CheckKind × Cursor). ReadsCheckType checked cursor y.0 y.1) (ok_is (check_of b.0.0, b.0.1) x b.2) (record {
      took = took-same (head_spelling 0 b.0.0) (head_spelling 0 (check_type (check_of b.0.0))) cursor b.0.1 (ap (head_spelling 0) (sym kind.0)) h.took;
      count = kind.1;
    })

check_string_means : (laws : Laws) (kind : CheckKind) (check : List ℕ) (cursor after : Cursor) → length check ≡ length (zeros kind) → IsBytes cursor.rest
    → check_string_at kind check cursor ≡ Ok after → Took (byte_string check) cursor after
unfolding check_string_at byte_string
check_string_means laws kind check cursor after long fits e =
    let b = bind_ok (argument_at [] (tokens.CheckString kind) cursor) (λ len. content_at len.0 len.1 >>= λ found. cond (bytes_eq found.0 check) (Ok found.1) (stops len.1 reasons.WrongCheck)) after e in
    let h = argument_means laws.heads [] (tokens.CheckString kind) cursor b.0 fits b.1 in
    let c = bind_ok (content_at b.0.0 b.0.1) (λ found. cond (bytes_eq found.0 check) (Ok found.1) (stops b.0.1 reasons.WrongCheck)) after b.2 in
    let content = content_means b.0.0 b.0.1 c.0 h.took.fits c.1 in
    let same = let_through (bytes_eq c.0.0 check) b.0.1 reasons.WrongCheck (Ok c.0.1) after c.2 in
    let is : c.0.0 ≡ check = (bytes_eq-Decides c.0.0 check).0 same.0 in
    let len = first_holds (eqb b.0.0 (length (zeros kind))) reasons.WrongValue None h.none_fails in
    let value : b.0.0 ≡ length check = eqb-true _ _ len.0 ∙ sym long in
    subst (λ (c : Cursor). Took (head_spelling 2 (length check) ++ check) cursor c) (ok_is c.0.1 after same.1)
    (took-then (head_spelling 2 (length check)) check cursor b.0.1 c.0.1 (took-same _ _ cursor b.0.1 (ap (head_spelling 2) value) h.took) (took-same _ _ b.0.1 c.0.1 is content.took))
  where
    let_through : (b : Bool) (cursor : Cursor) (reason : Reason) (x : Result Cursor Fault) (y : Cursor) → cond b x (stops cursor reason) ≡ Ok y → (b ≡ true) × (x ≡ Ok y)
    let_through true cursor reason x y e = (refl, e)
    let_through false cursor reason x y e = absurd cc

nothing_took : (cursor after : Cursor) → IsBytes cursor.rest → ◌≡◌ {A = Result Cursor Fault} (Ok cursor) (Ok after) → Took [] cursor after
nothing_took cursor after fits e = subst (Took [] cursor) (ok_is cursor after e) (record { parts = refl; moved = omega arith; fits = fits })

pub check_means : (laws : Laws) (kind : CheckKind) (check : List ℕ) (cursor after : Cursor) → length check ≡ length (zeros kind) → IsBytes cursor.rest
    → check_at kind check cursor ≡ Ok after → Took (check_item kind check) cursor after
unfolding check_at
check_means laws kinds.None check cursor after long fits e = nothing_took cursor after fits e
check_means laws kinds.Crc16 check cursor after long fits e = check_string_means laws kinds.Crc16 check cursor after long fits e
check_means laws kinds.Crc32c check cursor after long fits e = check_string_means laws kinds.Crc32c check cursor after long fits e

pub check_size : (kind : CheckKind) (bytes : List ℕ) → length (check_bytes kind bytes) ≡ length (zeros kind)
check_size kinds.None bytes = refl
check_size kinds.Crc16 bytes = refl
check_size kinds.Crc32c bytes = refl

-- ---- the primary block

pub number_means : (laws : Laws) (before : List Block) (cursor : Cursor) (x : ℕ × Cursor) → IsBytes cursor.rest → argument_at before tokens.Number cursor ≡ Ok x → Took (uint x.0) cursor x.1 × (x.0 < 2 ^ 64)
unfolding uint
number_means laws before cursor x fits e = let h = argument_means laws.heads before tokens.Number cursor x fits e in (h.took, h.fits)

pub pair_means : (laws : Laws) (cursor : Cursor) (x : ℕ × Cursor) → IsBytes cursor.rest → argument_at [] tokens.Pair cursor ≡ Ok x → Took (array_head 2) cursor x.1
unfolding array_head
pair_means laws cursor x fits e =
    let h = argument_means laws.heads [] tokens.Pair cursor x fits e in
    let two = first_holds (eqb x.0 2) reasons.WrongCount None h.none_fails in
    took-same _ _ cursor x.1 (ap (head_spelling 4) (eqb-true _ _ two.0)) h.took

pub record ReadsNodes (cursor : Cursor) (nodes : Nodes) (after : Cursor) : Type 0 where
  pub took : Took (ids.spelling nodes.destination ++ ids.spelling nodes.source ++ ids.spelling nodes.report_to) cursor after
  pub destination : ids.Fits nodes.destination
  pub source : ids.Fits nodes.source
  pub report_to : ids.Fits nodes.report_to

pub nodes_means : (laws : Laws) (cursor : Cursor) (x : Nodes × Cursor) → IsBytes cursor.rest → nodes_at cursor ≡ Ok x → ReadsNodes cursor x.0 x.1
unfolding nodes_at
nodes_means laws cursor x fits e =
    let a = bind_ok (id_at cursor) _ x e in
    let ra = id_means laws cursor a.0 fits a.1 in
    let b = bind_ok (id_at a.0.1) _ x a.2 in
    let rb = id_means laws a.0.1 b.0 ra.took.fits b.1 in
    let c = bind_ok (id_at b.0.1) _ x b.2 in
    let rc = id_means laws b.0.1 c.0 rb.took.fits c.1 in
    subst (λ (y : Nodes × Cursor). ReadsNodes cursor y.0 y.1) (ok_is (record { destination = a.0.0; source = b.0.0; report_to = c.0.0 }, c.0.1) x c.2) (record {
      took = took-then _ _ cursor b.0.1 c.0.1 (took-then _ _ cursor a.0.1 b.0.1 ra.took rb.took) rc.took;
      destination = ra.fits;
      source = rb.fits;
      report_to = rc.fits;
    })

pub record ReadsTimes (cursor : Cursor) (times : Times) (after : Cursor) : Type 0 where
  pub took : Took (array_head 2 ++ uint times.created ++ uint times.sequence ++ uint times.lifetime) cursor after
  pub created : times.created < 2 ^ 64
  pub sequence : times.sequence < 2 ^ 64
  pub lifetime : times.lifetime < 2 ^ 64

pub times_means : (laws : Laws) (cursor : Cursor) (x : Times × Cursor) → IsBytes cursor.rest → times_at cursor ≡ Ok x → ReadsTimes cursor x.0 x.1
unfolding times_at
times_means laws cursor x fits e =
    let p = bind_ok (argument_at [] tokens.Pair cursor) _ x e in
    let rp = pair_means laws cursor p.0 fits p.1 in
    let a = bind_ok (argument_at [] tokens.Number p.0.1) _ x p.2 in
    let ra = number_means laws [] p.0.1 a.0 rp.fits a.1 in
    let b = bind_ok (argument_at [] tokens.Number a.0.1) _ x a.2 in
    let rb = number_means laws [] a.0.1 b.0 ra.0.fits b.1 in
    let c = bind_ok (argument_at [] tokens.Number b.0.1) _ x b.2 in
    let rc = number_means laws [] b.0.1 c.0 rb.0.fits c.1 in
    subst (λ (y : Times × Cursor). ReadsTimes cursor y.0 y.1) (ok_is (record { created = a.0.0; sequence = b.0.0; lifetime = c.0.0 }, c.0.1) x c.2) (record {
      took = took-then _ _ cursor b.0.1 c.0.1 (took-then _ _ cursor a.0.1 b.0.1 (took-then _ _ cursor p.0.1 a.0.1 rp ra.0) rb.0) rc.0;
      created = ra.1;
      sequence = rb.1;
      lifetime = rc.1;
    })

record ReadsPiece (fragmented : Bool) (cursor : Cursor) (piece : Piece) (after : Cursor) : Type 0 where
  pub took : Took (fragment_items (piece_if fragmented piece)) cursor after
  pub offset : piece.offset < 2 ^ 64
  pub total : piece.total < 2 ^ 64

piece_means : (laws : Laws) (fragmented : Bool) (cursor : Cursor) (x : Piece × Cursor) → IsBytes cursor.rest → piece_at fragmented cursor ≡ Ok x → ReadsPiece fragmented cursor x.0 x.1
unfolding piece_at fragment_items
piece_means laws false cursor x fits e =
    subst (λ (y : Piece × Cursor). ReadsPiece false cursor y.0 y.1) (ok_is (record { offset = 0; total = 0 }, cursor) x e) (record {
      took = record { parts = refl; moved = omega arith; fits = fits };
      offset = omega arith;
      total = omega arith;
    })
piece_means laws true cursor x fits e =
    let a = bind_ok (argument_at [] tokens.Number cursor) _ x e in
    let ra = number_means laws [] cursor a.0 fits a.1 in
    let b = bind_ok (argument_at [] tokens.Number a.0.1) _ x a.2 in
    let rb = number_means laws [] a.0.1 b.0 ra.0.fits b.1 in
    subst (λ (y : Piece × Cursor). ReadsPiece true cursor y.0 y.1) (ok_is (record { offset = a.0.0; total = b.0.0 }, b.0.1) x b.2) (record {
      took = took-then _ _ cursor a.0.1 b.0.1 ra.0 rb.0;
      offset = ra.1;
      total = rb.1;
    })

-- ---- the array up to the check

pub few_items : (items : ℕ) → (leb 8 items && leb items 11) ≡ true → (8 ≤ items) × (items ≤ 11)
few_items items e = let parts = and_parts (leb 8 items) (leb items 11) e in (leb-true _ _ parts.0, leb-true _ _ parts.1)

-- how many items there are, by the two tests on their number
items_by : (n : ℕ) → n ≤ 3 → (fragmented checked : Bool) → leb 10 (8 + n) ≡ fragmented → eqb ((8 + n) % 2) 1 ≡ checked → 8 + n ≡ 8 + cond fragmented 2 0 + cond checked 1 0
items_by zero le fragmented checked e f = rw (← e, ← f) refl
items_by (suc zero) le fragmented checked e f = rw (← e, ← f) refl
items_by (suc (suc zero)) le fragmented checked e f = rw (← e, ← f) refl
items_by (suc (suc (suc zero))) le fragmented checked e f = rw (← e, ← f) refl
items_by (suc (suc (suc (suc n)))) le fragmented checked e f = absurd (omega arith)

pub items_are : (items : ℕ) → 8 ≤ items → items ≤ 11 → (fragmented checked : Bool) → leb 10 items ≡ fragmented → eqb (items % 2) 1 ≡ checked
    → items ≡ 8 + cond fragmented 2 0 + cond checked 1 0
items_are items low high fragmented checked e f =
    let whole : 8 + (items - 8) ≡ items = omega arith in
    sym whole ∙ items_by (items - 8) (omega arith) fragmented checked (rw whole e) (rw whole f)

pub piece_count : (fragmented : Bool) (piece : Piece) → fragment_count (piece_if fragmented piece) ≡ cond fragmented 2 0
piece_count true piece = refl
piece_count false piece = refl

pub piece_fits : (fragmented : Bool) (piece : Piece) → piece.offset < 2 ^ 64 → piece.total < 2 ^ 64 → ForSome (piece_if fragmented piece) (λ p. (p.offset < 2 ^ 64) × (p.total < 2 ^ 64))
piece_fits true piece offset total = λ p e. let P : Piece → Type 0 = λ q. (q.offset < 2 ^ 64) × (q.total < 2 ^ 64) in subst P (some_is piece p e) (offset, total)
  where
    some_is : (a b : Piece) → ◌≡◌ {A = Option Piece} (Some a) (Some b) → a ≡ b
    some_is a b e = cc
piece_fits false piece offset total = λ p e. absurd cc

pub record ReadsFields (cursor : Cursor) (primary : Primary) (after : Cursor) : Type 0 where
  pub took : Took (primaries.front primary ++ primaries.nodes primary ++ primaries.times primary ++ fragment_items primary.fragment) cursor after
  pub fits : IsPrimary primary

pub front_is : (items flags : ℕ) (kind : CheckKind) (nodes : Nodes) (times : Times) (piece : Piece) → items ≡ 8 + fragment_count (piece_if (is_fragment flags) piece) + check_count kind
    → array_head items ++ uint 7 ++ uint flags ++ uint (check_type kind) ≡ primaries.front (primary_of flags kind nodes times piece)
unfolding primaries.front
front_is items flags kind nodes times piece count = rw count refl

pub nodes_are : (flags : ℕ) (kind : CheckKind) (nodes : Nodes) (times : Times) (piece : Piece)
    → ids.spelling nodes.destination ++ ids.spelling nodes.source ++ ids.spelling nodes.report_to ≡ primaries.nodes (primary_of flags kind nodes times piece)
unfolding primaries.nodes
nodes_are flags kind nodes times piece = refl

pub times_are : (flags : ℕ) (kind : CheckKind) (nodes : Nodes) (times : Times) (piece : Piece)
    → array_head 2 ++ uint times.created ++ uint times.sequence ++ uint times.lifetime ≡ primaries.times (primary_of flags kind nodes times piece)
unfolding primaries.times
times_are flags kind nodes times piece = refl

-- the head of the array, the version, the flags and the check type
record ReadsFront (cursor : Cursor) (items flags : ℕ) (kind : CheckKind) (after : Cursor) : Type 0 where
  pub took : Took (array_head items ++ uint 7 ++ uint flags ++ uint (check_type kind)) cursor after
  pub fits : flags < 2 ^ 64
  pub count : items ≡ 8 + cond (is_fragment flags) 2 0 + check_count kind

front_means : (laws : Laws) (cursor : Cursor) (items version flags : ℕ × Cursor) (kind : CheckKind × Cursor) → IsBytes cursor.rest → argument_at [] tokens.PrimaryArray cursor ≡ Ok items
    → argument_at [] tokens.Version items.1 ≡ Ok version → argument_at [] (tokens.BundleFlags items.0) version.1 ≡ Ok flags → check_type_at (eqb (items.0 % 2) 1) flags.1 ≡ Ok kind
    → ReadsFront cursor items.0 flags.0 kind.0 kind.1
unfolding array_head uint
front_means laws cursor items version flags kind fits ei ev ef ek =
    let ri = argument_means laws.heads [] tokens.PrimaryArray cursor items fits ei in
    let rv = argument_means laws.heads [] tokens.Version items.1 version ri.took.fits ev in
    let rf = argument_means laws.heads [] (tokens.BundleFlags items.0) version.1 flags rv.took.fits ef in
    let rk = check_type_means laws (eqb (items.0 % 2) 1) flags.1 kind rf.took.fits ek in
    let few = first_holds (leb 8 items.0 && leb items.0 11) reasons.WrongCount None ri.none_fails in
    let within = few_items items.0 few.0 in
    let seven = first_holds (eqb version.0 7) reasons.WrongValue None rv.none_fails in
    let flagged = first_holds (exactly (is_fragment flags.0) (leb 10 items.0)) reasons.WrongCount None rf.none_fails in
    let fragmented = exactly_is (is_fragment flags.0) (leb 10 items.0) flagged.0 in
    let count = items_are items.0 within.0 within.1 (is_fragment flags.0) (eqb (items.0 % 2) 1) (sym fragmented) refl in
    let seventh = took-same (head_spelling 0 version.0) (head_spelling 0 7) items.1 version.1 (ap (head_spelling 0) (eqb-true _ _ seven.0)) rv.took in
    record {
      took = took-then _ _ cursor flags.1 kind.1 (took-then _ _ cursor version.1 flags.1 (took-then _ _ cursor items.1 version.1 ri.took seventh) rf.took) rk.took;
      fits = rf.fits;
      count = count ∙ ap (λ (n : ℕ). 8 + cond (is_fragment flags.0) 2 0 + n) (sym rk.count);
    }

pub fields_means : (laws : Laws) (cursor : Cursor) (x : Primary × Cursor) → IsBytes cursor.rest → fields_at cursor ≡ Ok x → ReadsFields cursor x.0 x.1
unfolding fields_at
fields_means laws cursor x fits e =
    let i = bind_ok (argument_at [] tokens.PrimaryArray cursor) _ x e in
    let v = bind_ok (argument_at [] tokens.Version i.0.1) _ x i.2 in
    let f = bind_ok (argument_at [] (tokens.BundleFlags i.0.0) v.0.1) _ x v.2 in
    let k = bind_ok (check_type_at (eqb (i.0.0 % 2) 1) f.0.1) _ x f.2 in
    let front = front_means laws cursor i.0 v.0 f.0 k.0 fits i.1 v.1 f.1 k.1 in
    let n = bind_ok (nodes_at k.0.1) _ x k.2 in
    let rn = nodes_means laws k.0.1 n.0 front.took.fits n.1 in
    let t = bind_ok (times_at n.0.1) _ x n.2 in
    let rt = times_means laws n.0.1 t.0 rn.took.fits t.1 in
    let p = bind_ok (piece_at (is_fragment f.0.0) t.0.1) _ x t.2 in
    let rp = piece_means laws (is_fragment f.0.0) t.0.1 p.0 rt.took.fits p.1 in
    let primary : Primary = primary_of f.0.0 k.0.0 n.0.0 t.0.0 p.0.0 in
    let counted = front.count ∙ ap (λ (m : ℕ). 8 + m + check_count k.0.0) (sym (piece_count (is_fragment f.0.0) p.0.0)) in
    let a = took-same _ _ cursor k.0.1 (front_is i.0.0 f.0.0 k.0.0 n.0.0 t.0.0 p.0.0 counted) front.took in
    let b = took-same _ _ k.0.1 n.0.1 (nodes_are f.0.0 k.0.0 n.0.0 t.0.0 p.0.0) rn.took in
    let c = took-same _ _ n.0.1 t.0.1 (times_are f.0.0 k.0.0 n.0.0 t.0.0 p.0.0) rt.took in
    subst (λ (y : Primary × Cursor). ReadsFields cursor y.0 y.1) (ok_is (primary, p.0.1) x p.2) (record {
      took = took-then _ _ cursor t.0.1 p.0.1 (took-then _ _ cursor n.0.1 t.0.1 (took-then _ _ cursor k.0.1 n.0.1 a b) c) rp.took;
      fits = record {
        flags = front.fits;
        destination = rn.destination;
        source = rn.source;
        report_to = rn.report_to;
        created = rt.created;
        sequence = rt.sequence;
        lifetime = rt.lifetime;
        fragment = piece_fits (is_fragment f.0.0) p.0.0 rp.offset rp.total;
      };
    })

-- ---- the whole

pub record ReadsPrimary (cursor : Cursor) (primary : Primary) (after : Cursor) : Type 0 where
  pub took : Took (primaries.spelling primary) cursor after
  pub fits : IsPrimary primary

pub primary_means : (laws : Laws) (cursor : Cursor) (x : Primary × Cursor) → IsBytes cursor.rest → primary_at cursor ≡ Ok x → ReadsPrimary cursor x.0 x.1
unfolding primary_at primaries.spelling primaries.array_with
primary_means laws cursor x fits e =
    let f = bind_ok (fields_at cursor) _ x e in
    let rf = fields_means laws cursor f.0 fits f.1 in
    let c = bind_ok (check_at f.0.0.crc (primary_check f.0.0) f.0.1) (λ after. Ok (f.0.0, after)) x f.2 in
    let rc = check_means laws f.0.0.crc (primary_check f.0.0) f.0.1 c.0 (check_size f.0.0.crc _) rf.took.fits c.1 in
    subst (λ (y : Primary × Cursor). ReadsPrimary cursor y.0 y.1) (ok_is (f.0.0, c.0) x c.2) (record {
      took = took-then _ _ cursor f.0.1 c.0 rf.took rc;
      fits = rf.fits;
    })
