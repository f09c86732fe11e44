-- A fragment is added to those that agree.
use Rattle.std.proofs.Common.{◌≡◌, ◌⊎◌, inl, inr, ℕ, ◌+◌, ◌-◌, ◌<◌, ◌≤◌, Bool, true, false, not, cond, ltb, leb, eqb, eq-eqb, ◌&&◌, List, [], ◌∷◌, ◌++◌, length, map, get_or, Option, Some, None, Result, Ok, Err, refl, sym, ◌∙◌, ap, subst, arith, length-append}
use Rattle.std.specs.Prelude.{Contains, option_map, OnOk, OnErr, MatchResult}
use Rattle.std.specs.List.{slice_get, find}
use Rattle.std.specs.Option.{option_or, option_flatten, ForSome}
use Rattle.std.proofs.lemmas.Bool.{cases_lt, ltb-false, le-leb, eqb-true}
use Rattle.std.proofs.lemmas.Option.{slice_get-get_or}
use Rattle.cbor_profile.specs.declared.TheConstants.{BUNDLE_LIMIT}
use Rattle.bp_primary.specs.declared.primary.Primary.{Primary}
use Rattle.bp_primary.specs.declared.primary.Piece.{Piece}
use Rattle.bp_primary.specs.Flags.{is_fragment}
use Rattle.bp_blocks.specs.declared.block.Block.{Block}
use Rattle.bp_bundle.specs.Shape.{Contents, payload}
use Rattle.bp_bundle.specs.Spelling.{IsBundle}
use Rattle.bp_fragments.specs.Fragment.{piece_of, offset_of, total_of}
use Rattle.bp_fragments.specs.Cut.{below}
use Rattle.bp_fragments.specs.Known.{byte_of, byte_at, whole_length, known}
use Rattle.bp_fragments.specs.Agreement.{frame, is_first, Gathered, gathered, is_other_bundle, is_other_frame, clash_from, or_next, refusal_of, refusal, IsRefusal, IsPiece, Together, Agree}
use Rattle.bp_fragments.specs.Overlaid.{Overlaid}
use Rattle.bp_fragments.specs.Kept.{AsLongAs, known_before, frame_after, TakesIn}
use Rattle.bp_fragments.specs.Assembled.{Took}
use Rattle.bp_fragments.specs.declared.fault.AddFault.{AddFault}
use Rattle.bp_fragments.specs.declared.fault.AddFault.TheVariants as adds
use Rattle.bp_fragments.proofs.Lists.{same_list, get_behind, get_map_below, length_map_below, map_below_same}
use Rattle.bp_fragments.proofs.Members.{contains_first, contains_none, contains_pushed, find_is, is_found, find_pushed}
use Rattle.bp_fragments.proofs.Bytes.{byte_inside, inside_byte, no_byte, byte_within, byte_pushed, byte_from, some_byte, length-known, get_known, clash_free}
use Rattle.bp_fragments.proofs.Same.{SameFields, fields_are, are_fields, fields_turned, fields_through, own_fields, blocks_are}

-- ---- nothing stands against it

pub record Accepted (kept : Gathered) (primary : Primary) (blocks : List Block) (body : List ℕ) : Type 0 where
  pub fragment : is_fragment primary.flags ≡ true
  pub bundle : is_other_bundle kept.primary primary ≡ false
  pub within : (piece_of primary).offset + length body ≤ (piece_of primary).total
  pub limit : (piece_of primary).total ≤ BUNDLE_LIMIT
  pub same_frame : (piece_of primary).offset ≡ 0 → is_other_frame kept.frame blocks ≡ false
  pub clash : clash_from kept.known (piece_of primary).offset body ≡ None
  pub few : kept.count < 256

chain : (a b c d e f : Bool) (clash : Option AddFault) (v w x y z u : AddFault) → cond a (Some v) (cond b (Some w) (cond c (Some x) (cond d (Some y) (cond e (Some z) (or_next clash (cond f (Some u) None)))))) ≡ None → (a ≡ false) × (b ≡ false) × (c ≡ false) × (d ≡ false) × (e ≡ false) × (clash ≡ None) × (f ≡ false)
chain true b c d e f clash v w x y z u is = absurd cc
chain false true c d e f clash v w x y z u is = absurd cc
chain false false true d e f clash v w x y z u is = absurd cc
chain false false false true e f clash v w x y z u is = absurd cc
chain false false false false true f clash v w x y z u is = absurd cc
chain false false false false false f (Some fault) v w x y z u is = absurd cc
chain false false false false false true None v w x y z u is = absurd cc
chain false false false false false false None v w x y z u is = (refl, refl, refl, refl, refl, refl, refl)

not_false : (b : Bool) → not b ≡ false → b ≡ true
not_false true is = refl
not_false false is = absurd cc

and_false : (a b : Bool) → (a && b) ≡ false → a ≡ true → b ≡ false
and_false true b is here = is
and_false false b is here = absurd cc

less_of : (n : ℕ) → leb 256 n ≡ false → n < 256
less_of n is = elim (cases_lt n 256) [ inl less ↦ less | inr more ↦ absurd (let t = le-leb 256 n more in cc) ]

pub accepted : (kept : Gathered) (primary : Primary) (blocks : List Block) (body : List ℕ) → refusal_of kept primary blocks body ≡ None → Accepted kept primary blocks body
unfolding refusal_of
accepted kept primary blocks body free =
    let facts = chain (not (is_fragment primary.flags)) (is_other_bundle kept.primary primary) (ltb (piece_of primary).total ((piece_of primary).offset + length body)) (ltb BUNDLE_LIMIT (piece_of primary).total)
    (eqb (piece_of primary).offset 0 && is_other_frame kept.frame blocks) (leb 256 kept.count) (clash_from kept.known (piece_of primary).offset body) adds.NotFragment adds.OtherBundle adds.PastTotal adds.OverLimit adds.OtherBlocks adds.TooMany free in
    record {
      fragment = not_false _ facts.0;
      bundle = facts.1;
      within = ltb-false _ _ facts.2;
      limit = ltb-false _ _ facts.3;
      same_frame = λ zero_offset. and_false (eqb (piece_of primary).offset 0) (is_other_frame kept.frame blocks) facts.4 (eq-eqb _ _ zero_offset);
      clash = facts.5;
      few = less_of kept.count facts.6;
    }

pub same_total : (first : Option Primary) (primary : Primary) → is_other_bundle first primary ≡ false → ForSome first (λ own. (piece_of own).total ≡ (piece_of primary).total)
same_total None primary is own there = absurd cc
same_total (Some first) primary is own there =
    let same : first ≡ own = cc in
    ap (λ (p : Primary). (piece_of p).total) (sym same) ∙ (fields_are first primary (not_false _ is)).total

-- it is as long as the first fragment says
pub long_after : (first after : Option Primary) (given : Primary) (piece : Piece) (old new : List (Option ℕ)) (body : List ℕ) → after ≡ option_or first (Some given) → piece ≡ piece_of given → AsLongAs first (length old) → ForSome first (λ own. (piece_of own).total ≡ (piece_of given).total)
    → Overlaid (known_before first piece.total old) piece.offset body new → AsLongAs after (length new)
long_after None after given piece old new body is same long totals over =
    subst (λ (o : Option Primary). AsLongAs o (length new)) (sym is) (over.len ∙ (length_map_below (λ _. None) piece.total ∙ ap (λ (p : Piece). p.total) same))
long_after (Some first) after given piece old new body is same long totals over =
    subst (λ (o : Option Primary). AsLongAs o (length new)) (sym is) (over.len ∙ long)

-- ---- what is told then

primary_pushed : (pieces : List Contents) (piece : Contents) → option_or (option_map (λ p. p.primary) (slice_get pieces 0)) (Some piece.primary) ≡ option_map (λ p. p.primary) (slice_get (pieces ++ piece ∷ []) 0)
primary_pushed [] piece = refl
primary_pushed (first ∷ more) piece = refl

frame_pushed : (pieces : List Contents) (piece : Contents) → frame_after (option_map frame (find is_first pieces)) (offset_of piece) (frame piece) ≡ option_map frame (find is_first (pieces ++ piece ∷ []))
frame_pushed pieces piece = by_found (find is_first pieces) ∙ ap (option_map frame) (sym (find_pushed is_first pieces piece))
  where
    by_test : (b : Bool) → cond b (Some (frame piece)) None ≡ option_map frame (cond b (Some piece) None)
    by_test true = refl
    by_test false = refl

    by_found : (o : Option Contents) → frame_after (option_map frame o) (offset_of piece) (frame piece) ≡ option_map frame (option_or o (cond (is_first piece) (Some piece) None))
    by_found None = by_test (is_first piece)
    by_found (Some first) = refl

base_is : (pieces : List Contents) (piece : Contents) → known_before (option_map (λ p. p.primary) (slice_get pieces 0)) (total_of piece) (known pieces) ≡ map (byte_at pieces) (below (whole_length (pieces ++ piece ∷ [])))
unfolding known
base_is [] piece = map_below_same (λ _. None) (byte_at []) (total_of piece) (λ k less. refl)
base_is (first ∷ more) piece = refl

-- the byte that is known, if it differs from none of the new piece
no_other : (pieces : List Contents) (piece : Contents) (place a b : ℕ) → clash_from (known pieces) (offset_of piece) (payload piece) ≡ None → place < whole_length (pieces ++ piece ∷ []) → byte_at pieces place ≡ Some a → byte_of piece place ≡ Some b → a ≡ b
no_other [] piece place a b free within known_byte own = absurd cc
no_other (first ∷ more) piece place a b free within known_byte own =
    let here = byte_inside piece place b own in
    let at : offset_of piece + (place - offset_of piece) ≡ place = omega (arith, here.0) in
    clash_free (known (first ∷ more)) (offset_of piece) (payload piece) free (place - offset_of piece) b a here.1
    (ap (λ (n : ℕ). option_flatten (slice_get (known (first ∷ more)) n)) at ∙ (ap option_flatten (get_known (first ∷ more) place within) ∙ known_byte))

either_same : (a b : Option ℕ) → ((x y : ℕ) → a ≡ Some x → b ≡ Some y → x ≡ y) → (y : ℕ) → b ≡ Some y → option_or a b ≡ Some y
either_same None b same y is = is
either_same (Some x) b same y is = ap (λ (n : ℕ). Some n) (same x y refl is)

or_none : (a b : Option ℕ) → b ≡ None → option_or a b ≡ a
or_none None b is = is
or_none (Some x) b is = refl

known_pushed : (pieces : List Contents) (piece : Contents) (after : List (Option ℕ)) → offset_of piece + length (payload piece) ≤ whole_length (pieces ++ piece ∷ []) → clash_from (known pieces) (offset_of piece) (payload piece) ≡ None
    → Overlaid (map (byte_at pieces) (below (whole_length (pieces ++ piece ∷ [])))) (offset_of piece) (payload piece) after → after ≡ known (pieces ++ piece ∷ [])
known_pushed pieces piece after within free over = same_list after (known (pieces ++ piece ∷ [])) (λ k. by_length k (cases_lt k (whole_length (pieces ++ piece ∷ []))))
  where
    others : (k : ℕ) → k < whole_length (pieces ++ piece ∷ []) → (k < offset_of piece) ⊎ (offset_of piece + length (payload piece) ≤ k) → slice_get after k ≡ slice_get (known (pieces ++ piece ∷ [])) k
    others k less other =
        over.others k other ∙ (get_map_below (byte_at pieces) (whole_length (pieces ++ piece ∷ [])) k less
        ∙ (ap (λ (o : Option ℕ). Some o) (sym (byte_pushed pieces piece k ∙ or_none (byte_at pieces k) (byte_of piece k) (no_byte piece k other))) ∙ sym (get_known (pieces ++ piece ∷ []) k less)))

    here : (k : ℕ) → k < whole_length (pieces ++ piece ∷ []) → offset_of piece ≤ k → k < offset_of piece + length (payload piece) → slice_get after k ≡ slice_get (known (pieces ++ piece ∷ [])) k
    here k less low high =
        let j : ℕ = k - offset_of piece in
        let at : offset_of piece + j ≡ k = omega arith in
        let byte : ℕ = get_or (payload piece) j 0 in
        let there : slice_get (payload piece) j ≡ Some byte = slice_get-get_or (payload piece) j 0 (omega arith) in
        let own : byte_of piece k ≡ Some byte = ap (byte_of piece) (sym at) ∙ inside_byte piece j byte there in
        ap (slice_get after) (sym at) ∙ (over.there j byte there
        ∙ (ap (λ (o : Option ℕ). Some o) (sym (byte_pushed pieces piece k ∙ either_same (byte_at pieces k) (byte_of piece k) (λ x y p q. no_other pieces piece k x y free less p q) byte own)) ∙ sym (get_known (pieces ++ piece ∷ []) k less)))

    inside : (k : ℕ) → k < whole_length (pieces ++ piece ∷ []) → (k < offset_of piece) ⊎ (offset_of piece ≤ k) → (k < offset_of piece + length (payload piece)) ⊎ (offset_of piece + length (payload piece) ≤ k) → slice_get after k ≡ slice_get (known (pieces ++ piece ∷ [])) k
    inside k less (inl before) high = others k less (inl before)
    inside k less (inr low) (inl high) = here k less low high
    inside k less (inr low) (inr behind) = others k less (inr behind)

    by_length : (k : ℕ) → (k < whole_length (pieces ++ piece ∷ [])) ⊎ (whole_length (pieces ++ piece ∷ []) ≤ k) → slice_get after k ≡ slice_get (known (pieces ++ piece ∷ [])) k
    by_length k (inl less) = inside k less (cases_lt k (offset_of piece)) (cases_lt k (offset_of piece + length (payload piece)))
    by_length k (inr past) =
        get_behind after k (omega (arith, over.len, length_map_below (byte_at pieces) (whole_length (pieces ++ piece ∷ []))))
        ∙ sym (get_behind (known (pieces ++ piece ∷ [])) k (omega (arith, length-known (pieces ++ piece ∷ []))))

-- ---- it agrees with each that was taken

pub piece_is : (piece : Contents) (kept : Gathered) → Accepted kept piece.primary (frame piece) (payload piece) → IsPiece piece
piece_is piece kept accepted = record { fragment = accepted.fragment; within = accepted.within; limit = accepted.limit }

-- the first of those that were taken has the same primary block but for the offset
first_same : (pieces : List Contents) (piece : Contents) (a : Contents) → Agree pieces → Contains pieces a → is_other_bundle (option_map (λ p. p.primary) (slice_get pieces 0)) piece.primary ≡ false → SameFields a.primary piece.primary
first_same [] piece a agree in_pieces is = absurd (contains_none a in_pieces)
first_same (first ∷ more) piece a agree in_pieces is =
    fields_through a.primary first.primary piece.primary (fields_are a.primary first.primary (agree.both a first in_pieces (contains_first first more)).primary) (fields_are first.primary piece.primary (not_false _ is))

first_total : (pieces : List Contents) (piece : Contents) (a : Contents) → Contains pieces a → SameFields a.primary piece.primary → Agree pieces → whole_length (pieces ++ piece ∷ []) ≡ total_of piece
first_total [] piece a in_pieces same agree = refl
first_total (first ∷ more) piece a in_pieces same agree = (fields_are first.primary a.primary (agree.both first a (contains_first first more) in_pieces).primary).total ∙ same.total

pub whole_total : (pieces : List Contents) (piece : Contents) → is_other_bundle (option_map (λ p. p.primary) (slice_get pieces 0)) piece.primary ≡ false → whole_length (pieces ++ piece ∷ []) ≡ total_of piece
whole_total [] piece is = refl
whole_total (first ∷ more) piece is = (fields_are first.primary piece.primary (not_false _ is)).total

other_frame : (found : Option Contents) (piece f : Contents) → found ≡ Some f → is_other_frame (option_map frame found) (frame piece) ≡ false → frame f ≡ frame piece
other_frame None piece f is same = absurd cc
other_frame (Some g) piece f is same = let e : g ≡ f = cc in ap frame (sym e) ∙ blocks_are (frame g) (frame piece) (not_false _ same)

pub goes_with : (pieces : List Contents) (piece : Contents) (a : Contents) → Agree pieces → Contains pieces a → Accepted (gathered pieces) piece.primary (frame piece) (payload piece) → Together a piece
unfolding gathered
goes_with pieces piece a agree in_pieces accepted =
    let fields = first_same pieces piece a agree in_pieces accepted.bundle in
    record {
      primary = are_fields a.primary piece.primary fields;
      frame = λ a_first piece_first.
          let found = is_found is_first pieces a in_pieces (eq-eqb _ _ a_first) in
          let f = find_is is_first pieces found.0 found.1 in
          (agree.both a found.0 in_pieces f.0).frame a_first (eqb-true _ _ f.1) ∙ other_frame (find is_first pieces) piece found.0 found.1 (accepted.same_frame piece_first);
      bytes = λ place x y of_a of_piece.
          let some = some_byte pieces a place x in_pieces of_a in
          let from = byte_from pieces place some.0 some.1 in
          let same : some.0 ≡ x = (agree.both from.0 a from.1 in_pieces).bytes place some.0 x from.2 of_a in
          let within : place < whole_length (pieces ++ piece ∷ []) = (let w = byte_within piece place y of_piece in let room = accepted.within in let t = whole_total pieces piece accepted.bundle in omega arith) in
          sym same ∙ no_other pieces piece place some.0 y accepted.clash within some.1 of_piece;
    }

turned : (a b : Contents) → Together a b → Together b a
turned a b same = record {
  primary = are_fields b.primary a.primary (fields_turned a.primary b.primary (fields_are a.primary b.primary same.primary));
  frame = λ b_first a_first. sym (same.frame a_first b_first);
  bytes = λ place x y of_b of_a. sym (same.bytes place y x of_a of_b);
}

pub alone : (a : Contents) → Together a a
alone a = record {
  primary = are_fields a.primary a.primary (own_fields a.primary);
  frame = λ _ _. refl;
  bytes = λ place x y of_x of_y. cc;
}

pub agree_pushed : (pieces : List Contents) (piece : Contents) → Agree pieces → Accepted (gathered pieces) piece.primary (frame piece) (payload piece) → Agree (pieces ++ piece ∷ [])
agree_pushed pieces piece agree accepted = record {
  each = λ a in_all. each_by a (contains_pushed pieces piece a in_all);
  both = λ a b in_a in_b. both_by a b (contains_pushed pieces piece a in_a) (contains_pushed pieces piece b in_b);
}
  where
    each_by : (a : Contents) → Contains pieces a ⊎ (piece ≡ a) → IsPiece a
    each_by a (inl earlier) = agree.each a earlier
    each_by a (inr last) = subst IsPiece last (piece_is piece (gathered pieces) accepted)

    both_by : (a b : Contents) → Contains pieces a ⊎ (piece ≡ a) → Contains pieces b ⊎ (piece ≡ b) → Together a b
    both_by a b (inl in_a) (inl in_b) = agree.both a b in_a in_b
    both_by a b (inl in_a) (inr is_b) = subst (Together a) is_b (goes_with pieces piece a agree in_a accepted)
    both_by a b (inr is_a) (inl in_b) = subst (λ (x : Contents). Together x b) is_a (turned b piece (goes_with pieces piece b agree in_b accepted))
    both_by a b (inr is_a) (inr is_b) = subst (λ (x : Contents). Together x b) is_a (subst (Together piece) is_b (alone piece))

-- ---- it is taken

told : (pieces : List Contents) (piece : Contents) (before after : Gathered) → before ≡ gathered pieces → Accepted (gathered pieces) piece.primary (frame piece) (payload piece) → TakesIn before piece.primary (frame piece) (payload piece) after → after ≡ gathered (pieces ++ piece ∷ [])
unfolding gathered
told pieces piece before after is accepted takes =
    let own : TakesIn (gathered pieces) piece.primary (frame piece) (payload piece) after = subst (λ (g : Gathered). TakesIn g piece.primary (frame piece) (payload piece) after) is takes in
    let primary = own.primary ∙ primary_pushed pieces piece in
    let blocks = own.frame ∙ frame_pushed pieces piece in
    let total = whole_total pieces piece accepted.bundle in
    let room = accepted.within in
    let bytes : after.known ≡ known (pieces ++ piece ∷ []) = known_pushed pieces piece after.known (omega arith) accepted.clash (subst (λ (base : List (Option ℕ)). Overlaid base (offset_of piece) (payload piece) after.known) (base_is pieces piece) own.known) in
    let count : after.count ≡ length (pieces ++ piece ∷ []) = own.count ∙ sym (length-append pieces (piece ∷ [])) in
    ap (λ (x : Option Primary). record after { primary = x }) primary
    ∙ (ap (λ (x : Option (List Block)). record { primary = (gathered (pieces ++ piece ∷ [])).primary; frame = x; known = after.known; count = after.count }) blocks
    ∙ (ap (λ (x : List (Option ℕ)). record { primary = (gathered (pieces ++ piece ∷ [])).primary; frame = (gathered (pieces ++ piece ∷ [])).frame; known = x; count = after.count }) bytes
    ∙ ap (λ (x : ℕ). record { primary = (gathered (pieces ++ piece ∷ [])).primary; frame = (gathered (pieces ++ piece ∷ [])).frame; known = known (pieces ++ piece ∷ []); count = x }) count))

count_is : (pieces : List Contents) → (gathered pieces).count ≡ length pieces
unfolding gathered
count_is pieces = refl

pub added : (before after : Gathered) (pieces : List Contents) (piece : Contents) → Took before pieces → IsBundle piece → refusal pieces piece ≡ None → TakesIn before piece.primary (frame piece) (payload piece) after → Took after (pieces ++ piece ∷ [])
added before after pieces piece took bundle free takes =
    let nothing_against = accepted (gathered pieces) piece.primary (frame piece) (payload piece) free in
    let few = nothing_against.few in
    let count = count_is pieces in
    record {
      is = told pieces piece before after took.is nothing_against takes;
      few = omega (arith, length-append pieces (piece ∷ []));
      bundles = λ a in_all. bundle_by a (contains_pushed pieces piece a in_all);
      agree = agree_pushed pieces piece took.agree nothing_against;
    }
  where
    bundle_by : (a : Contents) → Contains pieces a ⊎ (piece ≡ a) → IsBundle a
    bundle_by a (inl earlier) = took.bundles a earlier
    bundle_by a (inr last) = subst IsBundle last bundle

pub took_nothing : (known_bytes : List (Option ℕ)) → known_bytes ≡ [] → Took (record { primary = None; frame = None; known = known_bytes; count = 0 }) []
unfolding gathered known
took_nothing known_bytes none = record {
  is = ap (λ (x : List (Option ℕ)). record { primary = None; frame = None; known = x; count = 0 }) none;
  few = omega arith;
  bundles = λ a in_none. absurd (contains_none a in_none);
  agree = record { each = λ a in_none. absurd (contains_none a in_none); both = λ a b in_a in_b. absurd (contains_none a in_a) };
}

-- the refusal of a piece that is taken apart
pub refusal_is : (before : Gathered) (pieces : List Contents) (piece : Contents) (primary : Primary) (blocks : List Block) (body : List ℕ) (answer : Option AddFault) → Took before pieces → primary ≡ piece.primary → blocks ≡ frame piece → body ≡ payload piece → answer ≡ refusal_of before primary blocks body
    → answer ≡ refusal pieces piece
refusal_is before pieces piece primary blocks body answer took p b q is = rw (is, took.is, p, b, q) refl

-- what adding answers: it was taken, or memory ran out
pub answers_so : {A : Type 0} (r : Result A AddFault) (taken P : Type 0) (refused : Option AddFault) → OnOk r taken → OnErr r (r ≡ Err adds.NoMemory) → (taken → P) → MatchResult r (λ _. P) (λ fault. IsRefusal fault refused)
answers_so (Ok x) taken P refused ok memory so = so ok
answers_so {A} (Err fault) taken P refused ok memory so =
    let is : fault ≡ adds.NoMemory = err_is memory in
    subst (λ (f : AddFault). IsRefusal f refused) (sym is) tt
  where
    err_is : ◌≡◌ {A = Result A AddFault} (Err fault) (Err adds.NoMemory) → fault ≡ adds.NoMemory
    err_is e = cc
