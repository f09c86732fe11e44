-- What is spelled as a bundle is read as that bundle, whatever follows it.
use Rattle.std.proofs.Common.{◌≡◌, ℕ, zero, suc, ◌+◌, ◌-◌, ◌%◌, ◌^◌, ◌<◌, ◌≤◌, Bool, true, false, not, cond, ltb, leb, eqb, ◌&&◌, ◌||◌, is_some, List, [], ◌∷◌, ◌++◌, length, Option, Some, None, Result, Ok, refl, sym, ◌∙◌, ap, subst, append_assoc, add-zero, arith}
use Rattle.std.proofs.Math.Bool.{Bool-set}
use Rattle.std.specs.Prelude.{bytes_eq}
use Rattle.std.specs.List.{All, AllPairs, HoldsAt, flat_map}
use Rattle.std.specs.Option.{ForSome}
use Rattle.std.proofs.lemmas.Bool.{le-ltb, lt-ltb, eq-eqb, eqb-true, or_parts, le-leb}
use Rattle.std.proofs.lemmas.List.{length-append, take_at, drop_at}
use Rattle.std.proofs.lemmas.Slice.Eq.{bytes_eq-Decides}
use Rattle.cbor_profile.specs.Head.{head_spelling}
use Rattle.cbor_profile.specs.Put.{uint, array_head, byte_string}
use Rattle.cbor_profile.specs.Step.{◌>>=◌}
use Rattle.cbor_profile.specs.declared.TheConstants.{BUNDLE_LIMIT}
use Rattle.cbor_profile.specs.declared.fault.Fault.{Fault}
use Rattle.bp_crc.specs.declared.kind.CheckKind.{CheckKind}
use Rattle.bp_crc.specs.declared.kind.CheckKind.TheVariants as kinds
use Rattle.bp_crc.specs.Item.{check_type, check_count, check_item, zeros, check_of}
use Rattle.bp_eid.specs.declared.eid.Eid.{Eid}
use Rattle.bp_eid.specs.EndpointId as ids
use Rattle.bp_eid.specs.Reading as reading
use Rattle.bp_primary.specs.declared.primary.Primary.{Primary}
use Rattle.bp_primary.specs.declared.primary.Piece.{Piece}
use Rattle.bp_primary.specs.Flags.{is_fragment}
use Rattle.bp_primary.specs.Fragment.{fragment_items, fragment_count}
use Rattle.bp_primary.specs.Spelling as primaries
use Rattle.bp_primary.specs.Spelling.{IsPrimary}
use Rattle.bp_blocks.specs.declared.block.Block.{Block}
use Rattle.bp_blocks.specs.Spelling as blocks
use Rattle.bp_blocks.specs.Spelling.{IsBlock}
use Rattle.bp_bundle.specs.declared.header.Header.{Header}
use Rattle.bp_bundle.specs.declared.token.Token.TheVariants as tokens
use Rattle.bp_bundle.specs.Shape.{Contents}
use Rattle.bp_bundle.specs.Spelling.{IsPayload, IsNumbered, IsBundle, spelling}
use Rattle.bp_bundle.specs.Faults.{exactly, may_have, has_number, has_single, is_repeated, repeated_from, is_payload}
use Rattle.bp_bundle.specs.Tokens.{Cursor, conditions, first_failing, argument_at}
use Rattle.bp_bundle.specs.FirstFault.{content_at, id_at, check_type_at, check_string_at, check_at, Nodes, nodes_at, Times, times_at, piece_at, piece_if, piece_if_flag, primary_of, primary_check, fields_at, primary_at, header_at, block_of, block_check, next_at, blocks_at, end_at, begin_at, front_at, bundle_at}
use Rattle.bp_bundle.proofs.HeadsAsSpelled.{here, argument_again}
use Rattle.bp_bundle.proofs.ReadPrimaryIsSpelled.{Laws, check_size}
use Rattle.bp_bundle.proofs.ReadBundleIsSpelled.{header_text, block_text}
use Rattle.bp_bundle.proofs.ShapeRules.{Differ}
use Rattle.bp_bundle.proofs.NoFaultOfShape.{well_numbered, none_repeated, is_payload_true}

-- a step that goes on
go_on : {A B : Type 0} (r : Result A Fault) (f : A → Result B Fault) (x : A) (y : Result B Fault) → r ≡ Ok x → f x ≡ y → (r >>= f) ≡ y
go_on r f x y e g = rw e g

moved_to : {A : Type 0} (value : A) (at end : ℕ) (rest : List ℕ) → at ≡ end → ◌≡◌ {A = Result (A × Cursor) Fault} (Ok (value, here at rest)) (Ok (value, here end rest))
moved_to value at end rest e = rw e refl

-- ---- ids, contents, checks

pub id_again : (laws : Laws) (eid : Eid) (at : ℕ) (rest : List ℕ) → ids.Fits eid → id_at (here at (ids.spelling eid ++ rest)) ≡ Ok (eid, here (at + length (ids.spelling eid)) rest)
unfolding id_at reading.read_id
id_again laws eid at rest fits =
    let text = ids.spelling eid in
    let len : length (text ++ rest) - length rest ≡ length text = omega (arith, length-append text rest) in
    rw (laws.ids.again eid rest fits, len, drop_at text rest (length text) refl) refl

pub content_again : (content : List ℕ) (at : ℕ) (rest : List ℕ) → content_at (length content) (here at (content ++ rest)) ≡ Ok (content, here (at + length content) rest)
unfolding content_at
content_again content at rest =
    let long : ltb (length (content ++ rest)) (length content) ≡ false = le-ltb _ _ (omega (arith, length-append content rest)) in
    rw (long, take_at content rest (length content) refl, drop_at content rest (length content) refl) refl

kind_again : (kind : CheckKind) → check_of (check_type kind) ≡ kind
kind_again kinds.None = refl
kind_again kinds.Crc16 = refl
kind_again kinds.Crc32c = refl

small_type : (kind : CheckKind) → check_type kind < 2 ^ 64
small_type kinds.None = omega arith
small_type kinds.Crc16 = omega arith
small_type kinds.Crc32c = omega arith

check_type_again : (laws : Laws) (kind : CheckKind) (checked : Bool) (at : ℕ) (rest : List ℕ) → check_count kind ≡ cond checked 1 0 → at + length (uint (check_type kind)) < BUNDLE_LIMIT
    → check_type_at checked (here at (uint (check_type kind) ++ rest)) ≡ Ok (kind, here (at + length (uint (check_type kind))) rest)
unfolding check_type_at uint
check_type_again laws kind checked at rest count room =
    rw (argument_again laws.heads [] (tokens.CheckType checked) at (check_type kind) rest (small_type kind) (none_fails kind checked count) (omega arith), kind_again kind) refl
  where
    none_fails : (kind : CheckKind) (checked : Bool) → check_count kind ≡ cond checked 1 0 → first_failing (conditions [] (tokens.CheckType checked)) (check_type kind) ≡ None
    none_fails kinds.None true e = absurd (omega arith)
    none_fails kinds.None false e = refl
    none_fails kinds.Crc16 true e = refl
    none_fails kinds.Crc16 false e = absurd (omega arith)
    none_fails kinds.Crc32c true e = refl
    none_fails kinds.Crc32c false e = absurd (omega arith)

few_zeros : (kind : CheckKind) → length (zeros kind) ≤ 4
few_zeros kinds.None = omega arith
few_zeros kinds.Crc16 = omega arith
few_zeros kinds.Crc32c = omega arith

check_string_again : (laws : Laws) (kind : CheckKind) (check : List ℕ) (at : ℕ) (rest : List ℕ) → length check ≡ length (zeros kind) → at + length (byte_string check) < BUNDLE_LIMIT
    → check_string_at kind check (here at (byte_string check ++ rest)) ≡ Ok (here (at + length (byte_string check)) rest)
unfolding check_string_at byte_string
check_string_again laws kind check at rest long room =
    let head = head_spelling 2 (length check) in
    let sum = length-append head check in
    let few = few_zeros kind in
    let regrouped : (head ++ check) ++ rest ≡ head ++ (check ++ rest) = append_assoc head check rest in
    let right : eqb (length check) (length (zeros kind)) ≡ true = eq-eqb _ _ long in
    let same : bytes_eq check check ≡ true = (bytes_eq-Decides check check).1 refl in
    let argument = argument_again laws.heads [] (tokens.CheckString kind) at (length check) (check ++ rest) (omega arith) (rw right refl) (omega arith) in
    let end : at + length head + length check ≡ at + length (head ++ check) = omega arith in
    rw (regrouped, argument, content_again check (at + length head) rest, same, end) refl

pub check_again : (laws : Laws) (kind : CheckKind) (check : List ℕ) (at : ℕ) (rest : List ℕ) → length check ≡ length (zeros kind) → at + length (check_item kind check) < BUNDLE_LIMIT
    → check_at kind check (here at (check_item kind check ++ rest)) ≡ Ok (here (at + length (check_item kind check)) rest)
unfolding check_at
check_again laws kinds.None check at rest long room = rw (add-zero at) refl
check_again laws kinds.Crc16 check at rest long room = check_string_again laws kinds.Crc16 check at rest long room
check_again laws kinds.Crc32c check at rest long room = check_string_again laws kinds.Crc32c check at rest long room

-- ---- the primary block

number_again : (laws : Laws) (before : List Block) (n at : ℕ) (rest : List ℕ) → n < 2 ^ 64 → at + length (uint n) < BUNDLE_LIMIT
    → argument_at before tokens.Number (here at (uint n ++ rest)) ≡ Ok (n, here (at + length (uint n)) rest)
unfolding uint
number_again laws before n at rest fits room = argument_again laws.heads before tokens.Number at n rest fits refl (omega arith)

nodes_again : (laws : Laws) (nodes : Nodes) (at : ℕ) (rest : List ℕ) → ids.Fits nodes.destination → ids.Fits nodes.source → ids.Fits nodes.report_to
    → nodes_at (here at (ids.spelling nodes.destination ++ (ids.spelling nodes.source ++ (ids.spelling nodes.report_to ++ rest))))
    ≡ Ok (nodes, here (at + length (ids.spelling nodes.destination) + length (ids.spelling nodes.source) + length (ids.spelling nodes.report_to)) rest)
unfolding nodes_at
nodes_again laws nodes at rest d s r =
    go_on _ _ _ _ (id_again laws nodes.destination at _ d) (go_on _ _ _ _ (id_again laws nodes.source _ _ s) (go_on _ _ _ _ (id_again laws nodes.report_to _ rest r) refl))

pair_again : (laws : Laws) (at : ℕ) (rest : List ℕ) → at + length (array_head 2) < BUNDLE_LIMIT → argument_at [] tokens.Pair (here at (array_head 2 ++ rest)) ≡ Ok (2, here (at + length (array_head 2)) rest)
unfolding array_head
pair_again laws at rest room = argument_again laws.heads [] tokens.Pair at 2 rest (omega arith) refl (omega arith)

times_again : (laws : Laws) (times : Times) (at end : ℕ) (rest : List ℕ) → times.created < 2 ^ 64 → times.sequence < 2 ^ 64 → times.lifetime < 2 ^ 64
    → end ≡ at + length (array_head 2) + length (uint times.created) + length (uint times.sequence) + length (uint times.lifetime) → end < BUNDLE_LIMIT
    → times_at (here at (array_head 2 ++ (uint times.created ++ (uint times.sequence ++ (uint times.lifetime ++ rest))))) ≡ Ok (times, here end rest)
unfolding times_at
times_again laws times at end rest c s l e room =
    go_on _ _ _ _ (pair_again laws at _ (omega arith)) (go_on _ _ _ _ (number_again laws [] times.created _ _ c (omega arith)) (go_on _ _ _ _ (number_again laws [] times.sequence _ _ s (omega arith))
    (go_on _ _ _ _ (number_again laws [] times.lifetime _ rest l (omega arith)) (moved_to times _ end rest (sym e)))))

-- the place of a fragment, or zeros where there is none
piece_or_zero : Option Piece → Piece
piece_or_zero None = record { offset = 0; total = 0 }
piece_or_zero (Some piece) = piece

piece_again : (laws : Laws) (fragment : Option Piece) (fragmented : Bool) (at end : ℕ) (rest : List ℕ) → is_some fragment ≡ fragmented → ForSome fragment (λ piece. (piece.offset < 2 ^ 64) × (piece.total < 2 ^ 64))
    → end ≡ at + length (fragment_items fragment) → end < BUNDLE_LIMIT → piece_at fragmented (here at (fragment_items fragment ++ rest)) ≡ Ok (piece_or_zero fragment, here end rest)
unfolding piece_at fragment_items piece_or_zero
piece_again laws None true at end rest is fits e room = absurd cc
piece_again laws None false at end rest is fits e room = moved_to _ at end rest (omega arith)
piece_again laws (Some piece) true at end rest is fits e room =
    let small = fits piece refl in
    let sum = length-append (uint piece.offset) (uint piece.total) in
    let regrouped = append_assoc (uint piece.offset) (uint piece.total) rest in
    rw regrouped (go_on _ _ _ _ (number_again laws [] piece.offset at _ small.0 (omega arith)) (go_on _ _ _ _ (number_again laws [] piece.total _ rest small.1 (omega arith)) (moved_to piece _ end rest (omega arith))))
piece_again laws (Some piece) false at end rest is fits e room = absurd cc

piece_back : (fragment : Option Piece) (fragmented : Bool) → is_some fragment ≡ fragmented → piece_if fragmented (piece_or_zero fragment) ≡ fragment
unfolding piece_or_zero
piece_back None true is = absurd cc
piece_back None false is = refl
piece_back (Some piece) true is = refl
piece_back (Some piece) false is = absurd cc

-- ---- the primary block as a value

made : (p : Primary) (fragment : Option Piece) → is_some fragment ≡ is_fragment p.flags → Primary
made p fragment fragmented = record {
  flags = p.flags;
  crc = p.crc;
  destination = p.destination;
  source = p.source;
  report_to = p.report_to;
  created = p.created;
  sequence = p.sequence;
  lifetime = p.lifetime;
  fragment = fragment;
  fragmented = fragmented;
}

IsMade : Primary → Option Piece → Type 0
IsMade p fragment = (fragmented : is_some fragment ≡ is_fragment p.flags) → made p fragment fragmented ≡ p

is_made : (p : Primary) → IsMade p p.fragment
unfolding IsMade made
is_made p fragmented = ap (made p p.fragment) (Bool-set _ _ fragmented p.fragmented)

nodes_of : Primary → Nodes
nodes_of p = record { destination = p.destination; source = p.source; report_to = p.report_to }

times_of : Primary → Times
times_of p = record { created = p.created; sequence = p.sequence; lifetime = p.lifetime }

primary_back : (p : Primary) → primary_of p.flags p.crc (nodes_of p) (times_of p) (piece_or_zero p.fragment) ≡ p
unfolding IsMade made nodes_of times_of
primary_back p =
    let same : piece_if (is_fragment p.flags) (piece_or_zero p.fragment) ≡ p.fragment = piece_back p.fragment (is_fragment p.flags) p.fragmented in
    (subst (IsMade p) (sym same) (is_made p)) (piece_if_flag (is_fragment p.flags) (piece_or_zero p.fragment))

few_by : (items : ℕ) → 8 ≤ items → items ≤ 11 → (leb 8 items && leb items 11) ≡ true
few_by items low high = rw (le-leb _ _ low, le-leb _ _ high) refl

is_exactly : (a b : Bool) → a ≡ b → exactly a b ≡ true
is_exactly true true is = refl
is_exactly true false is = absurd cc
is_exactly false true is = absurd cc
is_exactly false false is = refl

-- what the number of items says
count_says : (fragment : Option Piece) (kind : CheckKind) (fragmented : Bool) → is_some fragment ≡ fragmented
    → (fragmented ≡ leb 10 (8 + fragment_count fragment + check_count kind)) × (check_count kind ≡ cond (eqb ((8 + fragment_count fragment + check_count kind) % 2) 1) 1 0) × (8 + fragment_count fragment + check_count kind ≤ 11)
count_says None kinds.None fragmented is = (sym is, refl, omega arith)
count_says None kinds.Crc16 fragmented is = (sym is, refl, omega arith)
count_says None kinds.Crc32c fragmented is = (sym is, refl, omega arith)
count_says (Some piece) kinds.None fragmented is = (sym is, refl, omega arith)
count_says (Some piece) kinds.Crc16 fragmented is = (sym is, refl, omega arith)
count_says (Some piece) kinds.Crc32c fragmented is = (sym is, refl, omega arith)

-- how many items the array of a primary block has
items_of : Primary → ℕ
items_of p = 8 + fragment_count p.fragment + check_count p.crc

-- the head of the array, the version, the flags and the check type, one after the other
record FrontReads (laws : Laws) (p : Primary) (at end : ℕ) (rest : List ℕ) : Type 0 where
  pub items : argument_at [] tokens.PrimaryArray (here at (array_head (items_of p) ++ (uint 7 ++ (uint p.flags ++ (uint (check_type p.crc) ++ rest)))))
      ≡ Ok (items_of p, here (at + length (array_head (items_of p))) (uint 7 ++ (uint p.flags ++ (uint (check_type p.crc) ++ rest))))
  pub version : argument_at [] tokens.Version (here (at + length (array_head (items_of p))) (uint 7 ++ (uint p.flags ++ (uint (check_type p.crc) ++ rest))))
      ≡ Ok (7, here (at + length (array_head (items_of p)) + length (uint 7)) (uint p.flags ++ (uint (check_type p.crc) ++ rest)))
  pub flags : argument_at [] (tokens.BundleFlags (items_of p)) (here (at + length (array_head (items_of p)) + length (uint 7)) (uint p.flags ++ (uint (check_type p.crc) ++ rest)))
      ≡ Ok (p.flags, here (at + length (array_head (items_of p)) + length (uint 7) + length (uint p.flags)) (uint (check_type p.crc) ++ rest))
  pub crc : check_type_at (eqb (items_of p % 2) 1) (here (at + length (array_head (items_of p)) + length (uint 7) + length (uint p.flags)) (uint (check_type p.crc) ++ rest))
      ≡ Ok (p.crc, here end rest)

front_again : (laws : Laws) (p : Primary) (at end : ℕ) (rest : List ℕ) → IsPrimary p
    → end ≡ at + length (array_head (items_of p)) + length (uint 7) + length (uint p.flags) + length (uint (check_type p.crc)) → end < BUNDLE_LIMIT → FrontReads laws p at end rest
unfolding items_of array_head uint
front_again laws p at end rest fits e room =
    let says = count_says p.fragment p.crc (is_fragment p.flags) p.fragmented in
    let few = few_by (items_of p) (omega arith) says.2 in
    let flagged = is_exactly (is_fragment p.flags) (leb 10 (items_of p)) says.0 in
    record {
      items = argument_again laws.heads [] tokens.PrimaryArray at (items_of p) _ (omega (arith, says.2)) (rw few refl) (omega arith);
      version = argument_again laws.heads [] tokens.Version _ 7 _ (omega arith) refl (omega arith);
      flags = argument_again laws.heads [] (tokens.BundleFlags (items_of p)) _ p.flags _ fits.flags (rw flagged refl) (omega arith);
      crc = check_type_again laws p.crc (eqb (items_of p % 2) 1) _ rest says.1 (omega arith) ∙ moved_to p.crc _ end rest (sym e);
    }

-- the lengths of the parts of a primary block up to its check
front_size : (p : Primary) → length (primaries.front p) ≡ length (array_head (items_of p)) + length (uint 7) + length (uint p.flags) + length (uint (check_type p.crc))
unfolding primaries.front items_of
front_size p = simp length-append

nodes_size : (p : Primary) → length (primaries.nodes p) ≡ length (ids.spelling p.destination) + length (ids.spelling p.source) + length (ids.spelling p.report_to)
unfolding primaries.nodes
nodes_size p = simp length-append

times_size : (p : Primary) → length (primaries.times p) ≡ length (array_head 2) + length (uint p.created) + length (uint p.sequence) + length (uint p.lifetime)
unfolding primaries.times
times_size p = simp length-append

-- the array up to its check, in single items
fields_text : (p : Primary) (rest : List ℕ) → (primaries.front p ++ primaries.nodes p ++ primaries.times p ++ fragment_items p.fragment) ++ rest
    ≡ array_head (items_of p) ++ (uint 7 ++ (uint p.flags ++ (uint (check_type p.crc)
    ++ (ids.spelling p.destination ++ (ids.spelling p.source ++ (ids.spelling p.report_to
    ++ (array_head 2 ++ (uint p.created ++ (uint p.sequence ++ (uint p.lifetime
    ++ (fragment_items p.fragment ++ rest)))))))))))
unfolding primaries.front primaries.nodes primaries.times items_of
fields_text p rest = simp append_assoc

fields_again : (laws : Laws) (p : Primary) (at end : ℕ) (rest : List ℕ) → IsPrimary p
    → end ≡ at + length (primaries.front p) + length (primaries.nodes p) + length (primaries.times p) + length (fragment_items p.fragment) → end < BUNDLE_LIMIT
    → fields_at (here at ((primaries.front p ++ primaries.nodes p ++ primaries.times p ++ fragment_items p.fragment) ++ rest)) ≡ Ok (p, here end rest)
unfolding fields_at nodes_of times_of
fields_again laws p at end rest fits e room =
    let fs = front_size p in
    let ns = nodes_size p in
    let ts = times_size p in
    let a = at + length (primaries.front p) in
    let b = at + length (primaries.front p) + length (ids.spelling p.destination) + length (ids.spelling p.source) + length (ids.spelling p.report_to) in
    let c = at + length (primaries.front p) + length (primaries.nodes p) + length (primaries.times p) in
    let front = front_again laws p at a (ids.spelling p.destination ++ (ids.spelling p.source ++ (ids.spelling p.report_to ++ (array_head 2 ++ (uint p.created ++ (uint p.sequence ++ (uint p.lifetime ++ (fragment_items p.fragment ++ rest)))))))) fits (omega arith) (omega arith) in
    let nodes = nodes_again laws (nodes_of p) a (array_head 2 ++ (uint p.created ++ (uint p.sequence ++ (uint p.lifetime ++ (fragment_items p.fragment ++ rest))))) fits.destination fits.source fits.report_to in
    let times = times_again laws (times_of p) b c (fragment_items p.fragment ++ rest) fits.created fits.sequence fits.lifetime (omega arith) (omega arith) in
    let piece = piece_again laws p.fragment (is_fragment p.flags) c end rest p.fragmented fits.fragment (omega arith) room in
    rw fields_text (go_on _ _ _ _ front.items (go_on _ _ _ _ front.version (go_on _ _ _ _ front.flags (go_on _ _ _ _ front.crc
    (go_on _ _ _ _ nodes (go_on _ _ _ _ times (go_on _ _ _ _ piece (ap (λ (q : Primary). Ok (q, here end rest)) (primary_back p)))))))))

primary_again : (laws : Laws) (p : Primary) (at end : ℕ) (rest : List ℕ) → IsPrimary p → end ≡ at + length (primaries.spelling p) → end < BUNDLE_LIMIT
    → primary_at (here at (primaries.spelling p ++ rest)) ≡ Ok (p, here end rest)
unfolding primary_at primaries.spelling primaries.array_with
primary_again laws p at end rest fits e room =
    let fields = primaries.front p ++ primaries.nodes p ++ primaries.times p ++ fragment_items p.fragment in
    let check = check_item p.crc (primary_check p) in
    let middle = at + length (primaries.front p) + length (primaries.nodes p) + length (primaries.times p) + length (fragment_items p.fragment) in
    let size : length fields ≡ length (primaries.front p) + length (primaries.nodes p) + length (primaries.times p) + length (fragment_items p.fragment) = simp length-append in
    let whole = length-append fields check in
    let first = fields_again laws p at middle (check ++ rest) fits refl (omega arith) in
    let last = check_again laws p.crc (primary_check p) middle rest (check_size p.crc _) (omega arith) in
    let end_is : middle + length check ≡ end = omega arith in
    rw (append_assoc fields check rest) (go_on _ _ _ _ first (go_on _ _ _ _ last (moved_to p (middle + length check) end rest end_is)))

-- ---- canonical blocks

record FitsHeader (before : List Block) (h : Header) : Type 0 where
  pub kind : h.kind < 2 ^ 64
  pub number : h.number < 2 ^ 64
  pub flags : h.flags < 2 ^ 64
  pub few : length before < 64
  pub numbered : may_have h.kind h.number ≡ true
  pub new : is_repeated before (block_of h []) ≡ false

header_again : (laws : Laws) (before : List Block) (h : Header) (at end : ℕ) (rest : List ℕ) → FitsHeader before h → end ≡ at + length (header_text h) → end + h.len < BUNDLE_LIMIT
    → header_at before (here at (header_text h ++ rest)) ≡ Ok (h, here end rest)
unfolding header_at header_text array_head uint
header_again laws before h at end rest fits e room =
    let items = 5 + check_count h.crc in
    let parts = or_parts (has_number before h.number) (has_single before h.kind) fits.new in
    let size : length (head_spelling 4 items ++ head_spelling 0 h.kind ++ head_spelling 0 h.number ++ head_spelling 0 h.flags ++ head_spelling 0 (check_type h.crc) ++ head_spelling 2 h.len)
    ≡ length (head_spelling 4 items) + length (head_spelling 0 h.kind) + length (head_spelling 0 h.number) + length (head_spelling 0 h.flags) + length (head_spelling 0 (check_type h.crc)) + length (head_spelling 2 h.len) = simp length-append in
    let text : (head_spelling 4 items ++ head_spelling 0 h.kind ++ head_spelling 0 h.number ++ head_spelling 0 h.flags ++ head_spelling 0 (check_type h.crc) ++ head_spelling 2 h.len) ++ rest
    ≡ head_spelling 4 items ++ (head_spelling 0 h.kind ++ (head_spelling 0 h.number ++ (head_spelling 0 h.flags ++ (head_spelling 0 (check_type h.crc) ++ (head_spelling 2 h.len ++ rest))))) = simp append_assoc in
    let few : ltb (length before) 64 ≡ true = lt-ltb _ _ fits.few in
    let count = counted h.crc in
    rw text (go_on _ _ _ _ (argument_again laws.heads before tokens.BlockArray at items _ (omega (arith, count.2)) (rw (count.0, few) refl) (omega arith))
    (go_on _ _ _ _ (argument_again laws.heads before tokens.BlockType _ h.kind _ fits.kind (rw parts.1 refl) (omega arith))
    (go_on _ _ _ _ (argument_again laws.heads before (tokens.BlockNumber h.kind) _ h.number _ fits.number (rw (fits.numbered, parts.0) refl) (omega arith))
    (go_on _ _ _ _ (argument_again laws.heads before tokens.Number _ h.flags _ fits.flags refl (omega arith))
    (go_on _ _ _ _ (check_type_again laws h.crc (eqb items 6) _ _ count.1 (omega arith))
    (go_on _ _ _ _ (argument_again laws.heads before tokens.Body _ h.len rest (omega arith) refl (omega arith)) (moved_to h _ end rest (omega arith))))))))
  where
    counted : (kind : CheckKind) → ((eqb (5 + check_count kind) 5 || eqb (5 + check_count kind) 6) ≡ true) × (check_count kind ≡ cond (eqb (5 + check_count kind) 6) 1 0) × (check_count kind ≤ 1)
    counted kinds.None = (refl, refl, omega arith)
    counted kinds.Crc16 = (refl, refl, omega arith)
    counted kinds.Crc32c = (refl, refl, omega arith)

-- the end of a bundle, whatever follows it
end_again : (at : ℕ) (rest : List ℕ) → end_at (here at ((0xff ∷ []) ++ rest)) ≡ Ok (here (at + 1) rest)
unfolding end_at
end_again at rest = refl

-- the rules on blocks that come after others
record GoodTail (before tail : List Block) : Type 0 where
  pub fits : All IsBlock tail
  pub numbered : All IsNumbered tail
  pub unrepeated : repeated_from before tail ≡ None
  pub distinct : AllPairs Differ tail
  pub few : length before + length tail ≤ 64
  pub payload_last : HoldsAt IsPayload tail (length tail - 1)

not_by : (b : Bool) (n : ℕ) (next : Option ℕ) → cond b (Some n) next ≡ None → (b ≡ false) × (next ≡ None)
not_by true n next is = absurd cc
not_by false n next is = (refl, is)

not_false : (b : Bool) → not b ≡ false → b ≡ true
not_false true is = refl
not_false false is = absurd cc

and_false : (a : Bool) → (a && false) ≡ false
and_false true = refl
and_false false = refl

-- the payload block comes last, so no block before it is one
not_payload : (block : Block) (tail : List Block) → 1 ≤ length tail → AllPairs Differ (block ∷ tail) → HoldsAt IsPayload tail (length tail - 1) → is_payload block ≡ false
not_payload block tail some distinct last = by (eqb block.number 1) refl
  where
    by : (b : Bool) → eqb block.number 1 ≡ b → (eqb block.kind 1 && eqb block.number 1) ≡ false
    by true e = absurd (distinct zero (suc (length tail - 1)) block (omega arith) (omega arith) (eqb-true block.number 1 e ∙ sym (last block).1))
    by false e = rw e (and_false (eqb block.kind 1))

good_more : (before : List Block) (block : Block) (tail : List Block) → 1 ≤ length tail → GoodTail before (block ∷ tail) → GoodTail (before ++ block ∷ []) tail
good_more before block tail some good =
    let few = good.few in
    let one : length (block ∷ tail) - 1 ≡ suc (length tail - 1) = omega arith in
    record {
      fits = λ k d within. good.fits (suc k) d (omega arith);
      numbered = λ k d within. good.numbered (suc k) d (omega arith);
      unrepeated = (not_by (is_repeated before block) (length before) (repeated_from (before ++ block ∷ []) tail) good.unrepeated).1;
      distinct = λ i j d below within. good.distinct (suc i) (suc j) d (omega arith) (omega arith);
      few = omega (arith, length-append before (block ∷ []));
      payload_last = λ d. rw one at (good.payload_last d);
    }

header_of : Block → Header
header_of b = record { kind = b.kind; number = b.number; flags = b.flags; crc = b.crc; len = length b.body }

block_again : (laws : Laws) (before : List Block) (block : Block) (at : ℕ) (rest : List ℕ) → FitsHeader before (header_of block) → at + length (blocks.spelling block) < BUNDLE_LIMIT
    → (header_at before (here at (blocks.spelling block ++ rest)) ≡ Ok (header_of block, here (at + length (header_text (header_of block))) (block.body ++ (check_item block.crc (block_check block) ++ rest))))
    × (check_at block.crc (block_check block) (here (at + length (header_text (header_of block)) + length block.body) (check_item block.crc (block_check block) ++ rest)) ≡ Ok (here (at + length (blocks.spelling block)) rest))
unfolding header_of
block_again laws before block at rest fits room =
    let h = header_of block in
    let check = check_item block.crc (block_check block) in
    let text : header_text h ++ block.body ++ check ≡ blocks.spelling block = block_text h block.body refl in
    let whole : blocks.spelling block ++ rest ≡ header_text h ++ (block.body ++ (check ++ rest)) = ap (λ (t : List ℕ). t ++ rest) (sym text) ∙ simp append_assoc in
    let size : length (blocks.spelling block) ≡ length (header_text h) + length block.body + length check = ap length (sym text) ∙ simp length-append in
    let end : at + length (header_text h) + length block.body + length check ≡ at + length (blocks.spelling block) = omega arith in (
      rw whole (header_again laws before h at (at + length (header_text h)) _ fits refl (omega arith)),
      check_again laws block.crc (block_check block) _ rest (check_size block.crc _) (omega arith) ∙ ap (λ (n : ℕ). Ok (here n rest)) end,
    )

fits_header : (before : List Block) (block : Block) (tail : List Block) → GoodTail before (block ∷ tail) → FitsHeader before (header_of block)
unfolding header_of
fits_header before block tail good =
    let few = good.few in
    let fits = good.fits zero block (omega arith) in
    record {
      kind = fits.kind;
      number = fits.number;
      flags = fits.flags;
      few = omega arith;
      numbered = not_false (may_have block.kind block.number) (well_numbered block (good.numbered zero block (omega arith)));
      new = (not_by (is_repeated before block) (length before) (repeated_from (before ++ block ∷ []) tail) good.unrepeated).0;
    }

-- where the block and what comes after it are read, the blocks are
block_then : (laws : Laws) (more : ℕ) (before : List Block) (block : Block) (at : ℕ) (rest : List ℕ) (y : Result (List Block × Cursor) Fault) → FitsHeader before (header_of block) → at + length (blocks.spelling block) < BUNDLE_LIMIT
    → next_at (blocks_at more) before block (here (at + length (blocks.spelling block)) rest) ≡ y → blocks_at (suc more) before (here at (blocks.spelling block ++ rest)) ≡ y
unfolding blocks_at header_of
block_then laws more before block at rest y fits room next =
    let parts = block_again laws before block at rest fits room in
    let check = check_item block.crc (block_check block) in
    go_on _ _ _ _ parts.0 (go_on _ _ _ _ (content_again block.body (at + length (header_text (header_of block))) (check ++ rest)) (go_on _ _ _ _ parts.1 next))

-- the blocks and the end
text_of_all : List Block → List ℕ
text_of_all tail = flat_map blocks.spelling tail ++ 0xff ∷ []

text_parts : (block : Block) (tail : List Block) (rest : List ℕ) → text_of_all (block ∷ tail) ++ rest ≡ blocks.spelling block ++ (text_of_all tail ++ rest)
unfolding text_of_all
text_parts block tail rest = simp append_assoc

text_size : (block : Block) (tail : List Block) → length (text_of_all (block ∷ tail)) ≡ length (blocks.spelling block) + length (text_of_all tail)
unfolding text_of_all
text_size block tail = simp length-append (omega arith)

some_text : (tail : List Block) → 1 ≤ length (text_of_all tail)
unfolding text_of_all
some_text tail = omega (arith, length-append (flat_map blocks.spelling tail) (0xff ∷ []))

last_text : length (text_of_all []) ≡ 1
unfolding text_of_all
last_text = refl

last_parts : (rest : List ℕ) → text_of_all [] ++ rest ≡ (0xff ∷ []) ++ rest
unfolding text_of_all
last_parts rest = refl

one_block : (laws : Laws) (more : ℕ) (before : List Block) (block : Block) (at end : ℕ) (rest : List ℕ) → GoodTail before (block ∷ []) → end ≡ at + length (blocks.spelling block) + 1 → end ≤ BUNDLE_LIMIT
    → blocks_at (suc more) before (here at (blocks.spelling block ++ ((0xff ∷ []) ++ rest))) ≡ Ok (before ++ block ∷ [], here end rest)
one_block laws more before block at end rest good e room =
    let payload = is_payload_true block (good.payload_last block) in
    block_then laws more before block at ((0xff ∷ []) ++ rest) (Ok (before ++ block ∷ [], here end rest)) (fits_header before block [] good) (omega arith)
    (rw (payload, end_again (at + length (blocks.spelling block)) rest) (moved_to (before ++ block ∷ []) (at + length (blocks.spelling block) + 1) end rest (sym e)))

blocks_again : (laws : Laws) (more : ℕ) (before tail : List Block) (at end : ℕ) (rest : List ℕ) → length tail ≤ more → 1 ≤ length tail → GoodTail before tail → end ≡ at + length (text_of_all tail) → end ≤ BUNDLE_LIMIT
    → blocks_at more before (here at (text_of_all tail ++ rest)) ≡ Ok (before ++ tail, here end rest)
blocks_again laws more before [] at end rest long some good e room = absurd (omega arith)
blocks_again laws zero before (block ∷ tail) at end rest long some good e room = absurd (omega arith)
blocks_again laws (suc more) before (block ∷ []) at end rest long some good e room =
    let size = text_size block [] in
    let last : length (text_of_all []) ≡ 1 = last_text in
    rw (text_parts block [] rest, last_parts rest) (one_block laws more before block at end rest good (omega arith) room)
blocks_again laws (suc more) before (block ∷ next ∷ tail) at end rest long some good e room =
    let size = text_size block (next ∷ tail) in
    let more_text = some_text (next ∷ tail) in
    let after = at + length (blocks.spelling block) in
    let others = good_more before block (next ∷ tail) (omega arith) good in
    let payload = not_payload block (next ∷ tail) (omega arith) good.distinct others.payload_last in
    let rec = blocks_again laws more (before ++ block ∷ []) (next ∷ tail) after end rest (omega arith) (omega arith) others (omega arith) room in
    rw (text_parts block (next ∷ tail) rest) (block_then laws more before block at (text_of_all (next ∷ tail) ++ rest) (Ok (before ++ block ∷ next ∷ tail, here end rest)) (fits_header before block (next ∷ tail) good) (omega arith)
    (rw payload (rec ∙ ap (λ (bs : List Block). Ok (bs, here end rest)) (append_assoc before (block ∷ []) (next ∷ tail)))))

-- ---- bundles

bundle_text : (bundle : Contents) (rest : List ℕ) → spelling bundle ++ rest ≡ 0x9f ∷ (primaries.spelling bundle.primary ++ (text_of_all bundle.blocks ++ rest))
unfolding spelling text_of_all
bundle_text bundle rest = ap (λ (t : List ℕ). 0x9f ∷ t) (simp append_assoc)

bundle_size : (bundle : Contents) → length (spelling bundle) ≡ 1 + length (primaries.spelling bundle.primary) + length (text_of_all bundle.blocks)
unfolding spelling text_of_all
bundle_size bundle =
    omega (
      arith,
      length-append (primaries.spelling bundle.primary ++ flat_map blocks.spelling bundle.blocks) (0xff ∷ []),
      length-append (primaries.spelling bundle.primary) (flat_map blocks.spelling bundle.blocks),
      length-append (flat_map blocks.spelling bundle.blocks) (0xff ∷ []),
    )

begin_again : (rest : List ℕ) → begin_at (here 0 (0x9f ∷ rest)) ≡ Ok (here 1 rest)
unfolding begin_at
begin_again rest = refl

front_read : (laws : Laws) (bundle : Contents) (rest : List ℕ) → IsBundle bundle
    → front_at (here 0 (spelling bundle ++ rest)) ≡ Ok (bundle.primary, here (1 + length (primaries.spelling bundle.primary)) (text_of_all bundle.blocks ++ rest))
unfolding front_at
front_read laws bundle rest fits =
    let size = bundle_size bundle in
    let some = some_text bundle.blocks in
    let within = fits.within in
    rw (bundle_text bundle rest) (go_on _ _ _ _ (begin_again (primaries.spelling bundle.primary ++ (text_of_all bundle.blocks ++ rest)))
    (primary_again laws bundle.primary 1 (1 + length (primaries.spelling bundle.primary)) (text_of_all bundle.blocks ++ rest) fits.primary refl (omega arith)))

pub bundle_again : (laws : Laws) (bundle : Contents) (rest : List ℕ) → IsBundle bundle → bundle_at (here 0 (spelling bundle ++ rest)) ≡ Ok (bundle, here (length (spelling bundle)) rest)
unfolding bundle_at
bundle_again laws bundle rest fits =
    let size = bundle_size bundle in
    let few = fits.few in
    let good : GoodTail [] bundle.blocks = record {
      fits = fits.blocks;
      numbered = fits.numbered;
      unrepeated = none_repeated [] bundle.blocks fits.distinct fits.once;
      distinct = fits.distinct;
      few = omega arith;
      payload_last = fits.payload_last;
    } in
    let read = blocks_again laws 65 [] bundle.blocks (1 + length (primaries.spelling bundle.primary)) (length (spelling bundle)) rest (omega arith) fits.some good (omega arith) fits.within in
    go_on _ _ _ _ (front_read laws bundle rest fits) (go_on _ _ _ _ read refl)
