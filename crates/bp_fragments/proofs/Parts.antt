-- A joined bundle has its fragments as parts.
use Rattle.std.proofs.Common.{◌≡◌, ◌⊎◌, inl, inr, ◌<◌, ◌≤◌, ℕ, ◌-◌, eq-eqb, List, [], ◌∷◌, length, Option, Some, None, Ok, sym, ◌∙◌, ap, arith}
use Rattle.std.specs.Prelude.{Contains, option_map, unwrap_or, is_none}
use Rattle.std.specs.List.{slice_get, find, position}
use Rattle.std.proofs.lemmas.Bool.{eqb-true, cases_lt}
use Rattle.bp_fragments.proofs.Lists.{same_list, get_behind}
use Rattle.std.proofs.lemmas.List.{length-map}
use Rattle.std.proofs.lemmas.Option.{slice_get-map}
use Rattle.bp_primary.specs.declared.primary.Primary.{Primary}
use Rattle.bp_blocks.specs.declared.block.Block.{Block}
use Rattle.bp_bundle.specs.Shape.{Contents, body_of, payload}
use Rattle.bp_bundle.specs.Spelling.{IsBundle}
use Rattle.bp_fragments.specs.Fragment.{offset_of, total_of, with_payload}
use Rattle.bp_fragments.specs.Cut.{whole_primary}
use Rattle.bp_fragments.specs.Known.{byte_of, whole_length, known}
use Rattle.bp_fragments.specs.Agreement.{frame, is_first, Agree}
use Rattle.bp_fragments.specs.Joined.{whole_payload, joined, IsJoined}
use Rattle.bp_fragments.proofs.Members.{contains_first, find_is, is_found}
use Rattle.bp_fragments.proofs.Bytes.{byte_within, byte_from, some_byte, length-known, get_known}
use Rattle.bp_fragments.proofs.Same.{fields_are}
use Rattle.bp_fragments.proofs.Finishing.{at_zero, gap_of, known_some}
use Rattle.bp_fragments.proofs.Orders.{joined_first, whole_same, joined_none}
use Rattle.bp_fragments.proofs.Cuts.{with_twice, payload_there}

-- what a bundle is made of that fragments are joined to
record Made (first : Contents) (more : List Contents) (bundle : Contents) : Type 0 where
  gap : position is_none (known (first ∷ more)) ≡ None
  is : record { primary = whole_primary first.primary; blocks = with_payload (whole_payload (known (first ∷ more))) (unwrap_or (option_map frame (find is_first (first ∷ more))) []) } ≡ bundle

made_of : (first : Contents) (more : List Contents) (bundle : Contents) → joined (first ∷ more) ≡ Ok bundle → Made first more bundle
made_of first more bundle is =
    let parts = gap_of (position is_none (known (first ∷ more))) (record { primary = whole_primary first.primary; blocks = with_payload (whole_payload (known (first ∷ more))) (unwrap_or (option_map frame (find is_first (first ∷ more))) []) }) bundle (sym (joined_first first more) ∙ is) in
    record { gap = parts.0; is = parts.2 }

-- the blocks are those of each fragment of offset 0
blocks_of : (first : Contents) (more : List Contents) (bundle piece : Contents) → Agree (first ∷ more) → Made first more bundle → Contains (first ∷ more) piece → offset_of piece ≡ 0 → bundle.blocks ≡ with_payload (whole_payload (known (first ∷ more))) piece.blocks
blocks_of first more bundle piece agree made there zero_offset =
    let found = is_found is_first (first ∷ more) piece there (eq-eqb _ _ zero_offset) in
    let f = find_is is_first (first ∷ more) found.0 found.1 in
    let same : frame found.0 ≡ frame piece = (agree.both found.0 piece f.0 there).frame (eqb-true _ _ f.1) zero_offset in
    ap (λ (b : Contents). b.blocks) (sym made.is)
    ∙ (ap (λ (o : Option Contents). with_payload (whole_payload (known (first ∷ more))) (unwrap_or (option_map frame o) [])) found.1
    ∙ (ap (with_payload (whole_payload (known (first ∷ more)))) same ∙ with_twice piece.blocks (whole_payload (known (first ∷ more))) []))

total_same : (first : Contents) (more : List Contents) (piece : Contents) → Agree (first ∷ more) → Contains (first ∷ more) piece → whole_length (first ∷ more) ≡ total_of piece
total_same first more piece agree there = (fields_are first.primary piece.primary (agree.both first piece (contains_first first more) there).primary).total

payload_is : (first : Contents) (more : List Contents) (bundle : Contents) → Agree (first ∷ more) → ((piece : Contents) → Contains (first ∷ more) piece → IsBundle piece) → Made first more bundle → payload bundle ≡ whole_payload (known (first ∷ more))
payload_is first more bundle agree bundles made =
    let zero_piece = at_zero (first ∷ more) (omega arith) agree made.gap in
    let some = (bundles zero_piece.0 zero_piece.1).some in
    ap (λ (bs : List Block). body_of (slice_get bs (length bs - 1))) (blocks_of first more bundle zero_piece.0 agree made zero_piece.1 zero_piece.2)
    ∙ payload_there zero_piece.0.blocks (whole_payload (known (first ∷ more))) (omega arith)

byte_there : (first : Contents) (more : List Contents) (piece : Contents) (place byte : ℕ) → Agree (first ∷ more) → Contains (first ∷ more) piece → byte_of piece place ≡ Some byte → slice_get (whole_payload (known (first ∷ more))) place ≡ Some byte
byte_there first more piece place byte agree there own =
    let within = byte_within piece place byte own in
    let room = (agree.each piece there).within in
    let total = total_same first more piece agree there in
    let some = some_byte (first ∷ more) piece place byte there own in
    let from = byte_from (first ∷ more) place some.0 some.1 in
    let same : some.0 ≡ byte = (agree.both from.0 piece from.1 there).bytes place some.0 byte from.2 own in
    slice_get-map (λ o. unwrap_or o 0) (known (first ∷ more)) place
    ∙ (ap (option_map (λ o. unwrap_or o 0)) (get_known (first ∷ more) place (omega arith) ∙ ap (λ (o : Option ℕ). Some o) some.1) ∙ ap (λ (n : ℕ). Some n) same)

pub has_parts : (pieces : List Contents) (bundle : Contents) → Agree pieces → ((piece : Contents) → Contains pieces piece → IsBundle piece) → joined pieces ≡ Ok bundle → IsJoined pieces bundle
has_parts [] bundle agree bundles is = absurd (joined_none bundle is)
has_parts (first ∷ more) bundle agree bundles is =
    let made = made_of first more bundle is in
    let own = payload_is first more bundle agree bundles made in
    record {
      primary = λ piece there. ap (λ (b : Contents). b.primary) (sym made.is) ∙ whole_same first.primary piece.primary (fields_are first.primary piece.primary (agree.both first piece (contains_first first more) there).primary);
      blocks = λ piece there zero_offset. blocks_of first more bundle piece agree made there zero_offset ∙ ap (λ (b : List ℕ). with_payload b piece.blocks) (sym own);
      size = λ piece there. ap (λ (b : List ℕ). length b) own ∙ (length-map (known (first ∷ more)) (λ o. unwrap_or o 0) ∙ (length-known (first ∷ more) ∙ total_same first more piece agree there));
      bytes = λ piece place byte there has. ap (λ (b : List ℕ). slice_get b place) own ∙ byte_there first more piece place byte agree there has;
    }

-- ---- there is one such bundle

payload_one : (pieces : List Contents) (a b : Contents) → 0 < length pieces → position is_none (known pieces) ≡ None → IsJoined pieces a → IsJoined pieces b → payload a ≡ payload b
payload_one [] a b some all joined_a joined_b = absurd (omega arith)
payload_one (first ∷ more) a b some all joined_a joined_b = same_list (payload a) (payload b) (λ k. by_length k (cases_lt k (total_of first)))
  where
    there : Contains (first ∷ more) first
    there = contains_first first more

    by_length : (k : ℕ) → (k < total_of first) ⊎ (total_of first ≤ k) → slice_get (payload a) k ≡ slice_get (payload b) k
    by_length k (inl less) =
        let byte = known_some (first ∷ more) k less all in
        let from = byte_from (first ∷ more) k byte.0 byte.1 in
        joined_a.bytes from.0 k byte.0 from.1 from.2 ∙ sym (joined_b.bytes from.0 k byte.0 from.1 from.2)
    by_length k (inr behind) =
        get_behind (payload a) k (omega (arith, joined_a.size first there)) ∙ sym (get_behind (payload b) k (omega (arith, joined_b.size first there)))

pub one_bundle : (pieces : List Contents) (a b : Contents) → 0 < length pieces → Agree pieces → position is_none (known pieces) ≡ None → IsJoined pieces a → IsJoined pieces b → a ≡ b
one_bundle pieces a b some agree all joined_a joined_b =
    let piece = at_zero pieces some agree all in
    let bytes = payload_one pieces a b some all joined_a joined_b in
    let blocks : a.blocks ≡ b.blocks = joined_a.blocks piece.0 piece.1 piece.2 ∙ (ap (λ (xs : List ℕ). with_payload xs piece.0.blocks) bytes ∙ sym (joined_b.blocks piece.0 piece.1 piece.2)) in
    let primary : a.primary ≡ b.primary = joined_a.primary piece.0 piece.1 ∙ sym (joined_b.primary piece.0 piece.1) in
    ap (λ (p : Primary). record { primary = p; blocks = a.blocks }) primary ∙ ap (λ (bs : List Block). record { primary = b.primary; blocks = bs }) blocks
