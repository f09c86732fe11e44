-- Where reading a primary block stops, what stands before begins one.
use Rattle.std.proofs.Common.{◌≡◌, ℕ, ◌+◌, ◌%◌, ◌^◌, ◌<◌, Bool, true, false, cond, leb, eqb, ◌&&◌, List, [], ◌++◌, None, Result, Ok, Err, refl, sym, ◌∙◌, ap, subst, append_assoc, append-nil, arith}
use Rattle.std.proofs.lemmas.Bool.{eqb-true}
use Rattle.cbor_profile.specs.Head.{head_spelling}
use Rattle.cbor_profile.specs.Put.{uint, array_head}
use Rattle.cbor_profile.specs.Step.{◌>>=◌}
use Rattle.cbor_profile.specs.declared.fault.Fault.{Fault}
use Rattle.cbor_profile.specs.declared.fault.Reason.TheVariants as reasons
use Rattle.bp_crc.specs.declared.kind.CheckKind.{CheckKind}
use Rattle.bp_crc.specs.declared.kind.CheckKind.TheVariants as kinds
use Rattle.bp_crc.specs.Item.{check_type, check_count, check_item}
use Rattle.bp_eid.specs.declared.eid.Eid.TheVariants.{Null}
use Rattle.bp_primary.specs.declared.primary.Primary.{Primary}
use Rattle.bp_primary.specs.declared.primary.Piece.{Piece}
use Rattle.bp_primary.specs.Flags.{is_fragment}
use Rattle.bp_primary.specs.Fragment.{fragment_items, fragment_count}
use Rattle.bp_primary.specs.Spelling as primaries
use Rattle.bp_primary.specs.Spelling.{IsPrimary}
use Rattle.bp_bundle.specs.declared.token.Token.TheVariants as tokens
use Rattle.bp_bundle.specs.Faults.{exactly}
use Rattle.bp_bundle.specs.Tokens.{Cursor, argument_at}
use Rattle.bp_bundle.specs.FirstFault.{check_type_at, check_at, Nodes, nodes_at, Times, times_at, piece_at, piece_if, primary_of, primary_check, fields_at, primary_at}
use Rattle.bp_bundle.proofs.HeadsAsSpelled.{IsBytes, took-same}
use Rattle.bp_bundle.proofs.ReadPrimaryIsSpelled.{Laws, first_holds, exactly_is, check_type_means, check_size, nodes_means, times_means, few_items, items_are, piece_count, piece_fits, front_is, nodes_are, times_are, fields_means}
use Rattle.correct_prefix.proofs.StopsBehindPrefix.{Some_of, Starting, started, Reached, reached_here, reached_behind, reached_more, reached_then, reached_argument}
use Rattle.correct_prefix.proofs.HeaderStopsBehindPrefix.{Is, check_type_here, check_reached}
use Rattle.correct_prefix.proofs.PartsStopBehindPrefix.{FitNodes, nodes_text, AreNodes, nodes_stop, FitTimes, times_text, AreTimes, times_stop, IsPiece, piece_stop}

-- ---- the fields of a primary block that are still to come, after those that were read

abbrev Pieces : ℕ → CheckKind → Nodes → Times → List ℕ → Type 0
Pieces flags crc nodes times text =
    (piece : Piece) × (piece.offset < 2 ^ 64) × (piece.total < 2 ^ 64)
    × (text ≡ fragment_items (piece_if (is_fragment flags) piece) ++ check_item crc (primary_check (primary_of flags crc nodes times piece)))

abbrev AllTimes : ℕ → CheckKind → Nodes → List ℕ → Type 0
AllTimes flags crc nodes text = (times : Times) × (rest : List ℕ) × FitTimes times × Pieces flags crc nodes times rest × (text ≡ times_text times ++ rest)

abbrev AllNodes : ℕ → CheckKind → List ℕ → Type 0
AllNodes flags crc text = (nodes : Nodes) × (rest : List ℕ) × FitNodes nodes × AllTimes flags crc nodes rest × (text ≡ nodes_text nodes ++ rest)

abbrev CheckTypes : Bool → ℕ → List ℕ → Type 0
CheckTypes checked flags text = (crc : CheckKind) × (rest : List ℕ) × (check_count crc ≡ cond checked 1 0) × AllNodes flags crc rest × (text ≡ uint (check_type crc) ++ rest)

abbrev Flags : Bool → Bool → List ℕ → Type 0
Flags fragmented checked text = (flags : ℕ) × (rest : List ℕ) × (flags < 2 ^ 64) × (is_fragment flags ≡ fragmented) × CheckTypes checked flags rest × (text ≡ uint flags ++ rest)

abbrev Versions : Bool → Bool → List ℕ → Type 0
Versions fragmented checked text = (rest : List ℕ) × Flags fragmented checked rest × (text ≡ uint 7 ++ rest)

abbrev Arrays : List ℕ → Type 0
Arrays text = (fragmented : Bool) × (checked : Bool) × (rest : List ℕ) × Versions fragmented checked rest × (text ≡ array_head (8 + cond fragmented 2 0 + cond checked 1 0) ++ rest)

-- ---- some of each

some_piece : (flags : ℕ) (crc : CheckKind) (nodes : Nodes) (times : Times) → Some_of (Pieces flags crc nodes times)
some_piece flags crc nodes times =
    let piece : Piece = record { offset = 0; total = 0 } in
    (fragment_items (piece_if (is_fragment flags) piece) ++ check_item crc (primary_check (primary_of flags crc nodes times piece)), (piece, omega arith, omega arith, refl))

some_times : (flags : ℕ) (crc : CheckKind) (nodes : Nodes) → Some_of (AllTimes flags crc nodes)
some_times flags crc nodes =
    let times : Times = record { created = 0; sequence = 0; lifetime = 0 } in
    let r = some_piece flags crc nodes times in
    (times_text times ++ r.0, (times, r.0, record { created = omega arith; sequence = omega arith; lifetime = omega arith }, r.1, refl))

some_nodes : (flags : ℕ) (crc : CheckKind) → Some_of (AllNodes flags crc)
some_nodes flags crc =
    let nodes : Nodes = record { destination = Null; source = Null; report_to = Null } in
    let r = some_times flags crc nodes in
    (nodes_text nodes ++ r.0, (nodes, r.0, record { destination = tt; source = tt; report_to = tt }, r.1, refl))

some_check_type : (checked : Bool) (flags : ℕ) → Starting (CheckTypes checked flags) 0
unfolding uint
some_check_type true flags = let r = some_nodes flags kinds.Crc16 in (1, r.0, (kinds.Crc16, r.0, refl, r.1, refl {a = uint 1 ++ r.0}))
some_check_type false flags = let r = some_nodes flags kinds.None in (0, r.0, (kinds.None, r.0, refl, r.1, refl {a = uint 0 ++ r.0}))

some_flags : (fragmented checked : Bool) → Starting (Flags fragmented checked) 0
unfolding uint
some_flags true checked = let r = started (CheckTypes checked 1) 0 (some_check_type checked 1) in (1, r.0, (1, r.0, omega arith, refl, r.1, refl))
some_flags false checked = let r = started (CheckTypes checked 0) 0 (some_check_type checked 0) in (0, r.0, (0, r.0, omega arith, refl, r.1, refl))

some_version : (fragmented checked : Bool) → Starting (Versions fragmented checked) 0
unfolding uint
some_version fragmented checked = let r = started (Flags fragmented checked) 0 (some_flags fragmented checked) in (7, r.0, (r.0, r.1, refl))

some_array : Starting Arrays 4
unfolding array_head
some_array = let r = started (Versions false false) 0 (some_version false false) in (8, r.0, (false, false, r.0, r.1, refl))

-- ---- from field to field

abbrev with_piece : ℕ → CheckKind → Nodes → Times → Piece × Cursor → Result (Primary × Cursor) Fault
with_piece flags crc nodes times piece = Ok (primary_of flags crc nodes times piece.0, piece.1)

own_piece_stop : (laws : Laws) (flags : ℕ) (crc : CheckKind) (nodes : Nodes) (times : Times) (cursor : Cursor) (fault : Fault) → IsBytes cursor.rest
    → (piece_at (is_fragment flags) cursor >>= with_piece flags crc nodes times) ≡ Err fault → Reached (Pieces flags crc nodes times) cursor fault
own_piece_stop laws flags crc nodes times cursor fault fits e =
    let check : Piece → List ℕ = λ piece. check_item crc (primary_check (primary_of flags crc nodes times piece)) in
    reached_then (Pieces flags crc nodes times) cursor (piece_at (is_fragment flags) cursor) (with_piece flags crc nodes times) fault e
    (λ is.
    reached_more (IsPiece (is_fragment flags)) (Pieces flags crc nodes times) cursor fault (λ t k. (check k.0, (k.0, k.1, k.2, ap (λ (l : List ℕ). l ++ check k.0) k.3))) (piece_stop laws (is_fragment flags) cursor fault fits is))
    (λ x is k. absurd cc)

abbrev after_times : ℕ → CheckKind → Nodes → Times × Cursor → Result (Primary × Cursor) Fault
after_times flags crc nodes times = piece_at (is_fragment flags) times.1 >>= with_piece flags crc nodes times.0

own_times_stop : (laws : Laws) (flags : ℕ) (crc : CheckKind) (nodes : Nodes) (cursor : Cursor) (fault : Fault) → IsBytes cursor.rest
    → (times_at cursor >>= after_times flags crc nodes) ≡ Err fault → Reached (AllTimes flags crc nodes) cursor fault
unfolding times_text
own_times_stop laws flags crc nodes cursor fault fits e =
    let Kind = AllTimes flags crc nodes in
    reached_then Kind cursor (times_at cursor) (after_times flags crc nodes) fault e
    (λ is. reached_more AreTimes Kind cursor fault (λ t k. let r = some_piece flags crc nodes k.0 in (r.0, (k.0, r.0, k.1, r.1, ap (λ (l : List ℕ). l ++ r.0) k.2))) (times_stop laws cursor fault fits is))
    (λ x is k.
    let m = times_means laws cursor x fits is in
    reached_behind (Pieces flags crc nodes x.0) Kind (times_text x.0) cursor x.1 fault m.took (λ t p. (x.0, t, record { created = m.created; sequence = m.sequence; lifetime = m.lifetime }, p, refl))
    (own_piece_stop laws flags crc nodes x.0 x.1 fault m.took.fits k))

abbrev after_nodes : ℕ → CheckKind → Nodes × Cursor → Result (Primary × Cursor) Fault
after_nodes flags crc nodes = times_at nodes.1 >>= after_times flags crc nodes.0

own_nodes_stop : (laws : Laws) (flags : ℕ) (crc : CheckKind) (cursor : Cursor) (fault : Fault) → IsBytes cursor.rest
    → (nodes_at cursor >>= after_nodes flags crc) ≡ Err fault → Reached (AllNodes flags crc) cursor fault
unfolding nodes_text
own_nodes_stop laws flags crc cursor fault fits e =
    let Kind = AllNodes flags crc in
    reached_then Kind cursor (nodes_at cursor) (after_nodes flags crc) fault e
    (λ is. reached_more AreNodes Kind cursor fault (λ t k. let r = some_times flags crc k.0 in (r.0, (k.0, r.0, k.1, r.1, ap (λ (l : List ℕ). l ++ r.0) k.2))) (nodes_stop laws cursor fault fits is))
    (λ x is k.
    let m = nodes_means laws cursor x fits is in
    reached_behind (AllTimes flags crc x.0) Kind (nodes_text x.0) cursor x.1 fault m.took (λ t p. (x.0, t, record { destination = m.destination; source = m.source; report_to = m.report_to }, p, refl))
    (own_times_stop laws flags crc x.0 x.1 fault m.took.fits k))

abbrev after_check_type : ℕ → CheckKind × Cursor → Result (Primary × Cursor) Fault
after_check_type flags crc = nodes_at crc.1 >>= after_nodes flags crc.0

check_type_stop : (laws : Laws) (checked : Bool) (flags : ℕ) (cursor : Cursor) (fault : Fault) → IsBytes cursor.rest
    → (check_type_at checked cursor >>= after_check_type flags) ≡ Err fault → Reached (CheckTypes checked flags) cursor fault
check_type_stop laws checked flags cursor fault fits e =
    let Kind = CheckTypes checked flags in
    reached_then Kind cursor (check_type_at checked cursor) (after_check_type flags) fault e (λ is. reached_here Kind 0 cursor fault (some_check_type checked flags) (check_type_here checked cursor fault is))
    (λ x is k.
    let m = check_type_means laws checked cursor x fits is in
    reached_behind (AllNodes flags x.0) Kind (uint (check_type x.0)) cursor x.1 fault m.took (λ t p. (x.0, t, m.count, p, refl)) (own_nodes_stop laws flags x.0 x.1 fault m.took.fits k))

abbrev after_flags : Bool → ℕ × Cursor → Result (Primary × Cursor) Fault
after_flags checked flags = check_type_at checked flags.1 >>= after_check_type flags.0

flags_stop : (laws : Laws) (items : ℕ) (checked : Bool) (cursor : Cursor) (fault : Fault) → IsBytes cursor.rest
    → (argument_at [] (tokens.BundleFlags items) cursor >>= after_flags checked) ≡ Err fault → Reached (Flags (leb 10 items) checked) cursor fault
unfolding uint
flags_stop laws items checked cursor fault fits e =
    let Kind = Flags (leb 10 items) checked in
    reached_argument laws.heads Kind [] (tokens.BundleFlags items) cursor (after_flags checked) fault fits e (some_flags (leb 10 items) checked)
    (λ x h k.
    let flagged = first_holds (exactly (is_fragment x.0) (leb 10 items)) reasons.WrongCount None h.none_fails in
    reached_behind (CheckTypes checked x.0) Kind (uint x.0) cursor x.1 fault h.took (λ t p. (x.0, t, h.fits, exactly_is (is_fragment x.0) (leb 10 items) flagged.0, p, refl)) (check_type_stop laws checked x.0 x.1 fault h.took.fits k))

abbrev after_version : ℕ → ℕ × Cursor → Result (Primary × Cursor) Fault
after_version items version = argument_at [] (tokens.BundleFlags items) version.1 >>= after_flags (eqb (items % 2) 1)

version_stop : (laws : Laws) (items : ℕ) (cursor : Cursor) (fault : Fault) → IsBytes cursor.rest
    → (argument_at [] tokens.Version cursor >>= after_version items) ≡ Err fault → Reached (Versions (leb 10 items) (eqb (items % 2) 1)) cursor fault
unfolding uint
version_stop laws items cursor fault fits e =
    let Kind = Versions (leb 10 items) (eqb (items % 2) 1) in
    reached_argument laws.heads Kind [] tokens.Version cursor (after_version items) fault fits e (some_version (leb 10 items) (eqb (items % 2) 1))
    (λ x h k.
    let seven = first_holds (eqb x.0 7) reasons.WrongValue None h.none_fails in
    reached_behind (Flags (leb 10 items) (eqb (items % 2) 1)) Kind (uint 7) cursor x.1 fault (took-same _ _ cursor x.1 (ap (head_spelling 0) (eqb-true _ _ seven.0)) h.took) (λ t p. (t, p, refl))
    (flags_stop laws items (eqb (items % 2) 1) x.1 fault h.took.fits k))

fields_reached : (laws : Laws) (cursor : Cursor) (fault : Fault) → IsBytes cursor.rest → fields_at cursor ≡ Err fault → Reached Arrays cursor fault
unfolding fields_at array_head
fields_reached laws cursor fault fits e =
    reached_argument laws.heads Arrays [] tokens.PrimaryArray cursor (λ items. argument_at [] tokens.Version items.1 >>= after_version items.0) fault fits e some_array
    (λ x h k.
    let few = first_holds (leb 8 x.0 && leb x.0 11) reasons.WrongCount None h.none_fails in
    let within = few_items x.0 few.0 in
    let count = items_are x.0 within.0 within.1 (leb 10 x.0) (eqb (x.0 % 2) 1) refl refl in
    reached_behind (Versions (leb 10 x.0) (eqb (x.0 % 2) 1)) Arrays (head_spelling 4 x.0) cursor x.1 fault h.took (λ t p. (leb 10 x.0, eqb (x.0 % 2) 1, t, p, ap (λ (n : ℕ). head_spelling 4 n ++ t) count))
    (version_stop laws x.0 x.1 fault h.took.fits k))

-- ---- a whole primary block

abbrev pub IsPrimaryText : List ℕ → Type 0
IsPrimaryText text = (primary : Primary) × IsPrimary primary × (text ≡ primaries.spelling primary)

eight : (a b c d n t f k : List ℕ) → a ++ (b ++ (c ++ (d ++ (n ++ (t ++ (f ++ k)))))) ≡ a ++ b ++ c ++ d ++ n ++ t ++ f ++ k
eight a b c d n t f k = simp append_assoc refl

-- the parts as the spelling names them
named : (items flags : ℕ) (crc : CheckKind) (nodes : Nodes) (times : Times) (piece : Piece) (check : List ℕ) → items ≡ 8 + fragment_count (piece_if (is_fragment flags) piece) + check_count crc
    → array_head items ++ uint 7 ++ uint flags ++ uint (check_type crc) ++ nodes_text nodes ++ times_text times ++ fragment_items (piece_if (is_fragment flags) piece) ++ check
    ≡ primaries.front (primary_of flags crc nodes times piece) ++ primaries.nodes (primary_of flags crc nodes times piece) ++ primaries.times (primary_of flags crc nodes times piece) ++ fragment_items (piece_if (is_fragment flags) piece) ++ check
unfolding nodes_text times_text
named items flags crc nodes times piece check count =
    let primary = primary_of flags crc nodes times piece in
    let F = fragment_items (piece_if (is_fragment flags) piece) in
    ap (λ (l : List ℕ). l ++ nodes_text nodes ++ times_text times ++ F ++ check) (front_is items flags crc nodes times piece count)
    ∙ (ap (λ (l : List ℕ). primaries.front primary ++ l ++ times_text times ++ F ++ check) (nodes_are flags crc nodes times piece) ∙ ap (λ (l : List ℕ). primaries.front primary ++ primaries.nodes primary ++ l ++ F ++ check) (times_are flags crc nodes times piece))

array_is_primary : (text : List ℕ) → Arrays text → IsPrimaryText text
unfolding primaries.spelling primaries.array_with
array_is_primary text (fragmented, checked, after_array, (after_version', (flags, after_flags', small_flags, is_fragmented, (crc, after_crc, count, (nodes, after_nodes', fit_nodes, (times, after_times', fit_times, (piece, offset, total, e7), e6), e5), e4), e3), e2), e1) =
    let primary = primary_of flags crc nodes times piece in
    let fragment : 8 + cond fragmented 2 0 + cond checked 1 0 ≡ 8 + fragment_count (piece_if (is_fragment flags) piece) + check_count crc =
    rw (count, piece_count (is_fragment flags) piece, is_fragmented) refl in
    let check = check_item crc (primary_check primary) in (
      primary,
      record {
        flags = small_flags;
        destination = fit_nodes.destination;
        source = fit_nodes.source;
        report_to = fit_nodes.report_to;
        created = fit_times.created;
        sequence = fit_times.sequence;
        lifetime = fit_times.lifetime;
        fragment = piece_fits (is_fragment flags) piece offset total;
      },
      e1
          ∙ (ap (λ (l : List ℕ). array_head (8 + cond fragmented 2 0 + cond checked 1 0) ++ l) (e2 ∙ ap (λ (l : List ℕ). uint 7 ++ l) (e3 ∙ ap (λ (l : List ℕ). uint flags ++ l) (e4 ∙ ap (λ (l : List ℕ). uint (check_type crc) ++ l) (e5 ∙ ap (λ (l : List ℕ). nodes_text nodes ++ l) (e6 ∙ ap (λ (l : List ℕ). times_text times ++ l) e7)))))
          ∙ (eight (array_head (8 + cond fragmented 2 0 + cond checked 1 0)) (uint 7) (uint flags) (uint (check_type crc)) (nodes_text nodes) (times_text times) (fragment_items (piece_if (is_fragment flags) piece)) check
          ∙ named (8 + cond fragmented 2 0 + cond checked 1 0) flags crc nodes times piece check fragment)),
    )

pub some_primary : Some_of IsPrimaryText
some_primary = let r = started Arrays 4 some_array in (r.0, array_is_primary r.0 r.1)

pub primary_reached : (laws : Laws) (cursor : Cursor) (fault : Fault) → IsBytes cursor.rest → primary_at cursor ≡ Err fault → Reached IsPrimaryText cursor fault
unfolding primary_at primaries.spelling primaries.array_with
primary_reached laws cursor fault fits e =
    reached_then IsPrimaryText cursor (fields_at cursor) _ fault e
    (λ is. reached_more Arrays IsPrimaryText cursor fault (λ t k. ([], subst IsPrimaryText (sym (append-nil t)) (array_is_primary t k))) (fields_reached laws cursor fault fits is))
    (λ x is k.
    let m = fields_means laws cursor x fits is in
    let check = check_item x.0.crc (primary_check x.0) in
    let text = primaries.front x.0 ++ primaries.nodes x.0 ++ primaries.times x.0 ++ fragment_items x.0.fragment in
    reached_behind (Is check) IsPrimaryText text cursor x.1 fault m.took (λ t same. (x.0, m.fits, ap (λ (l : List ℕ). text ++ l) same))
    (reached_then (Is check) x.1 (check_at x.0.crc (primary_check x.0) x.1) (λ after. Ok (x.0, after)) fault k (λ stop. check_reached laws x.0.crc (primary_check x.0) x.1 fault (check_size x.0.crc _) m.took.fits stop) (λ after passed none. absurd cc)))
