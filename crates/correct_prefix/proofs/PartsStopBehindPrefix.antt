-- Where reading the ids, the times or the fragment's place of a primary block stops, what stands before begins them.
use Rattle.std.proofs.Common.{◌≡◌, ℕ, ◌^◌, ◌<◌, Bool, true, false, eqb, List, [], ◌++◌, None, Result, Err, refl, sym, ◌∙◌, ap, subst, append_assoc, append-nil, arith}
use Rattle.std.proofs.lemmas.Bool.{eqb-true}
use Rattle.cbor_profile.specs.Head.{head_spelling}
use Rattle.cbor_profile.specs.Put.{uint, array_head}
use Rattle.cbor_profile.specs.Step.{◌>>=◌}
use Rattle.cbor_profile.specs.declared.fault.Fault.{Fault}
use Rattle.cbor_profile.specs.declared.fault.Reason.TheVariants as reasons
use Rattle.bp_eid.specs.declared.eid.Eid.{Eid}
use Rattle.bp_eid.specs.declared.eid.Eid.TheVariants.{Null}
use Rattle.bp_eid.specs.EndpointId as ids
use Rattle.correct_prefix.specs.Spelled.{IsId}
use Rattle.bp_primary.specs.declared.primary.Piece.{Piece}
use Rattle.bp_primary.specs.Fragment.{fragment_items}
use Rattle.bp_bundle.specs.declared.token.Token.TheVariants as tokens
use Rattle.bp_bundle.specs.Tokens.{Cursor, argument_at}
use Rattle.bp_bundle.specs.FirstFault.{id_at, Nodes, nodes_at, Times, times_at, piece_at, piece_if}
use Rattle.bp_bundle.proofs.HeadsAsSpelled.{IsBytes, took-same}
use Rattle.bp_bundle.proofs.ReadPrimaryIsSpelled.{Laws, first_holds, id_means}
use Rattle.correct_prefix.proofs.StopsBehindPrefix.{Some_of, Reached, reached_behind, reached_more, reached_then, reached_argument}
use Rattle.correct_prefix.proofs.IdStopsBehindPrefix.{id_reached}
use Rattle.correct_prefix.proofs.HeaderStopsBehindPrefix.{Is}

-- ---- the three ids

pub record FitNodes (nodes : Nodes) : Type 0 where
  pub destination : ids.Fits nodes.destination
  pub source : ids.Fits nodes.source
  pub report_to : ids.Fits nodes.report_to

unfoldable pub nodes_text : Nodes → List ℕ
nodes_text nodes = ids.spelling nodes.destination ++ ids.spelling nodes.source ++ ids.spelling nodes.report_to

abbrev pub AreNodes : List ℕ → Type 0
AreNodes text = (nodes : Nodes) × FitNodes nodes × (text ≡ nodes_text nodes)

-- an id, and the text of the kind behind it
abbrev IdThen : (List ℕ → Type 0) → List ℕ → Type 0
IdThen Next text = (text' : List ℕ) × (rest : List ℕ) × IsId text' × Next rest × (text ≡ text' ++ rest)

id_stop : {B : Type 0} (laws : Laws) (Next : List ℕ → Type 0) (cursor : Cursor) (f : Eid × Cursor → Result B Fault) (fault : Fault) → IsBytes cursor.rest → (id_at cursor >>= f) ≡ Err fault → Some_of Next
    → ((x : Eid × Cursor) → IsBytes x.1.rest → f x ≡ Err fault → Reached Next x.1 fault) → Reached (IdThen Next) cursor fault
id_stop laws Next cursor f fault fits e some second =
    reached_then (IdThen Next) cursor (id_at cursor) f fault e (λ is. reached_more IsId (IdThen Next) cursor fault (λ t k. (some.0, (t, some.0, k, some.1, refl))) (id_reached laws.heads cursor fault fits is))
    (λ x is h.
    let m = id_means laws cursor x fits is in
    reached_behind Next (IdThen Next) (ids.spelling x.0) cursor x.1 fault m.took (λ t k. (ids.spelling x.0, t, (x.0, m.fits, refl), k, refl)) (second x m.took.fits h))

null_id : IsId (ids.spelling Null)
null_id = (Null, tt, refl {a = ids.spelling Null})

abbrev One : List ℕ → Type 0
One = IdThen (Is [])

abbrev Two : List ℕ → Type 0
Two = IdThen One

some_one : Some_of One
some_one = (ids.spelling Null ++ [], (ids.spelling Null, [], null_id, refl, refl))

some_two : Some_of Two
some_two = let r = some_one in (ids.spelling Null ++ r.0, (ids.spelling Null, r.0, null_id, r.1, refl))

three_are_nodes : (text : List ℕ) → IdThen Two text → AreNodes text
unfolding nodes_text
three_are_nodes text (a, after_a, (destination, fits_a, is_a), (b, after_b, (source, fits_b, is_b), (c, after_c, (report_to, fits_c, is_c), none, e3), e2), e1) = (
  record { destination = destination; source = source; report_to = report_to },
  record { destination = fits_a; source = fits_b; report_to = fits_c },
  e1 ∙ (ap (λ (l : List ℕ). a ++ l) (e2 ∙ ap (λ (l : List ℕ). b ++ l) (e3 ∙ ap (λ (l : List ℕ). c ++ l) none)) ∙ rw (is_a, is_b, is_c) (simp (append_assoc, append-nil) refl)),
)

pub nodes_stop : (laws : Laws) (cursor : Cursor) (fault : Fault) → IsBytes cursor.rest → nodes_at cursor ≡ Err fault → Reached AreNodes cursor fault
unfolding nodes_at
nodes_stop laws cursor fault fits e =
    reached_more (IdThen Two) AreNodes cursor fault (λ t k. ([], subst AreNodes (sym (append-nil t)) (three_are_nodes t k)))
    (id_stop laws Two cursor _ fault fits e some_two
    (λ a fits_a g. id_stop laws One a.1 _ fault fits_a g some_one (λ b fits_b h. id_stop laws (Is []) b.1 _ fault fits_b h ([], refl) (λ c fits_c k. absurd cc))))

-- ---- numbers

-- a number, and the text of the kind behind it
abbrev NumberThen : (List ℕ → Type 0) → List ℕ → Type 0
NumberThen Next text = (number : ℕ) × (rest : List ℕ) × (number < 2 ^ 64) × Next rest × (text ≡ uint number ++ rest)

number_stop : {B : Type 0} (laws : Laws) (Next : List ℕ → Type 0) (cursor : Cursor) (f : ℕ × Cursor → Result B Fault) (fault : Fault) → IsBytes cursor.rest → (argument_at [] tokens.Number cursor >>= f) ≡ Err fault → Some_of Next
    → ((x : ℕ × Cursor) → IsBytes x.1.rest → f x ≡ Err fault → Reached Next x.1 fault) → Reached (NumberThen Next) cursor fault
unfolding uint
number_stop laws Next cursor f fault fits e some second =
    reached_argument laws.heads (NumberThen Next) [] tokens.Number cursor f fault fits e (0, some.0, (0, some.0, omega arith, some.1, refl))
    (λ x h k. reached_behind Next (NumberThen Next) (uint x.0) cursor x.1 fault h.took (λ t n. (x.0, t, h.fits, n, refl)) (second x h.took.fits k))

abbrev Last : List ℕ → Type 0
Last = NumberThen (Is [])

abbrev LastTwo : List ℕ → Type 0
LastTwo = NumberThen Last

abbrev LastThree : List ℕ → Type 0
LastThree = NumberThen LastTwo

some_last : Some_of Last
some_last = (uint 0 ++ [], (0, [], omega arith, refl, refl))

some_two_numbers : Some_of LastTwo
some_two_numbers = let r = some_last in (uint 0 ++ r.0, (0, r.0, omega arith, r.1, refl))

some_three_numbers : Some_of LastThree
some_three_numbers = let r = some_two_numbers in (uint 0 ++ r.0, (0, r.0, omega arith, r.1, refl))

-- ---- the times

pub record FitTimes (times : Times) : Type 0 where
  pub created : times.created < 2 ^ 64
  pub sequence : times.sequence < 2 ^ 64
  pub lifetime : times.lifetime < 2 ^ 64

unfoldable pub times_text : Times → List ℕ
times_text times = array_head 2 ++ uint times.created ++ uint times.sequence ++ uint times.lifetime

abbrev pub AreTimes : List ℕ → Type 0
AreTimes text = (times : Times) × FitTimes times × (text ≡ times_text times)

three_are_times : (text : List ℕ) → LastThree text → AreTimes (array_head 2 ++ text)
unfolding times_text
three_are_times text (created, after_created, small_created, (sequence, after_sequence, small_sequence, (lifetime, after_lifetime, small_lifetime, none, e3), e2), e1) = (
  record { created = created; sequence = sequence; lifetime = lifetime },
  record { created = small_created; sequence = small_sequence; lifetime = small_lifetime },
  ap (λ (l : List ℕ). array_head 2 ++ l) (e1 ∙ ap (λ (l : List ℕ). uint created ++ l) (e2 ∙ ap (λ (l : List ℕ). uint sequence ++ l) (e3 ∙ (ap (λ (l : List ℕ). uint lifetime ++ l) none ∙ append-nil (uint lifetime)))))
      ∙ simp append_assoc refl,
)

pub times_stop : (laws : Laws) (cursor : Cursor) (fault : Fault) → IsBytes cursor.rest → times_at cursor ≡ Err fault → Reached AreTimes cursor fault
unfolding times_at array_head
times_stop laws cursor fault fits e =
    let some = some_three_numbers in
    reached_argument laws.heads AreTimes [] tokens.Pair cursor _ fault fits e (2, some.0, three_are_times some.0 some.1)
    (λ x h k.
    let two = first_holds (eqb x.0 2) reasons.WrongCount None h.none_fails in
    reached_behind LastThree AreTimes (array_head 2) cursor x.1 fault (took-same _ _ cursor x.1 (ap (head_spelling 4) (eqb-true _ _ two.0)) h.took) three_are_times
    (number_stop laws LastTwo x.1 _ fault h.took.fits k some_two_numbers
    (λ created fits_created g. number_stop laws Last created.1 _ fault fits_created g some_last (λ sequence fits_sequence l. number_stop laws (Is []) sequence.1 _ fault fits_sequence l ([], refl) (λ lifetime small m. absurd cc)))))

-- ---- the place of a fragment

abbrev pub IsPiece : Bool → List ℕ → Type 0
IsPiece fragmented text = (piece : Piece) × (piece.offset < 2 ^ 64) × (piece.total < 2 ^ 64) × (text ≡ fragment_items (piece_if fragmented piece))

two_are_piece : (text : List ℕ) → LastTwo text → IsPiece true text
unfolding fragment_items
two_are_piece text (offset, after_offset, small_offset, (total, after_total, small_total, none, e2), e1) = (
  record { offset = offset; total = total },
  small_offset,
  small_total,
  e1 ∙ ap (λ (l : List ℕ). uint offset ++ l) (e2 ∙ (ap (λ (l : List ℕ). uint total ++ l) none ∙ append-nil (uint total))),
)

pub piece_stop : (laws : Laws) (fragmented : Bool) (cursor : Cursor) (fault : Fault) → IsBytes cursor.rest → piece_at fragmented cursor ≡ Err fault → Reached (IsPiece fragmented) cursor fault
unfolding piece_at
piece_stop laws false cursor fault fits e = absurd cc
piece_stop laws true cursor fault fits e =
    reached_more LastTwo (IsPiece true) cursor fault (λ t k. ([], subst (IsPiece true) (sym (append-nil t)) (two_are_piece t k)))
    (number_stop laws Last cursor _ fault fits e some_last (λ offset fits_offset g. number_stop laws (Is []) offset.1 _ fault fits_offset g ([], refl) (λ total small h. absurd cc)))
