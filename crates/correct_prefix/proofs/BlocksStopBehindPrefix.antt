-- Where reading canonical blocks stops, what stands before begins blocks up to the end of a bundle.
use Rattle.std.proofs.Common.{◌≡◌, ℕ, zero, suc, ◌-◌, ◌≤◌, Bool, true, false, cond, eqb, List, [], ◌∷◌, ◌++◌, length, None, Result, Ok, Err, refl, sym, ◌∙◌, ap, subst, append_assoc, append-nil, arith}
use Rattle.std.specs.List.{All, HoldsAt, flat_map}
use Rattle.std.proofs.lemmas.Bool.{or_from}
use Rattle.cbor_profile.specs.declared.fault.Fault.{Fault}
use Rattle.cbor_profile.specs.declared.fault.Reason.TheVariants as reasons
use Rattle.cbor_profile.specs.Step.{◌>>=◌}
use Rattle.bp_crc.specs.declared.kind.CheckKind.TheVariants as kinds
use Rattle.bp_blocks.specs.declared.block.Block.{Block}
use Rattle.bp_blocks.specs.Spelling as blocks
use Rattle.bp_blocks.specs.Spelling.{IsBlock}
use Rattle.bp_bundle.specs.declared.header.Header.{Header}
use Rattle.bp_bundle.specs.Spelling.{IsPayload, IsNumbered}
use Rattle.bp_bundle.specs.Faults.{has_number, has_single, repeated_from, is_payload}
use Rattle.bp_bundle.specs.Tokens.{Cursor, stops}
use Rattle.bp_bundle.specs.FirstFault.{past, after_byte, content_at, check_at, header_at, block_of, block_check, next_at, closed_at, blocks_at, end_at}
use Rattle.bp_bundle.proofs.HeadsAsSpelled.{IsBytes}
use Rattle.bp_bundle.proofs.ReadPrimaryIsSpelled.{Laws}
use Rattle.bp_bundle.proofs.ReadBundleIsSpelled.{ReadsHeader, header_means, body_means, all_more, last_one, last_more}
use Rattle.bp_bundle.proofs.ShapeRules.{numbered_is}
use Rattle.correct_prefix.proofs.FreshNumber.{still_free}
use Rattle.correct_prefix.proofs.StopsBehindPrefix.{Some_of, Reached, StopsAt, reached_at, reached_behind, reached_more, reached_then, stopped_at}
use Rattle.correct_prefix.proofs.HeaderStopsBehindPrefix.{Is, FitsBlock, IsNext, next_reached, body_reached, block_check_reached}

-- ---- blocks up to the end

pub record FitsTail (before tail : List Block) : Type 0 where
  pub fits : All IsBlock tail
  pub numbered : All IsNumbered tail
  pub unrepeated : repeated_from before tail ≡ None
  pub some : 1 ≤ length tail
  pub payload_last : HoldsAt IsPayload tail (length tail - 1)

-- these, and the byte that ends the bundle
abbrev pub IsTail : List Block → List ℕ → Type 0
IsTail before text = (tail : List Block) × FitsTail before tail × (text ≡ flat_map blocks.spelling tail ++ 0xff ∷ [])

one_fits : (before : List Block) (block : Block) → FitsBlock before block → is_payload block ≡ true → FitsTail before (block ∷ [])
one_fits before block one payload = record {
  fits = all_more IsBlock block [] one.fits (λ k d within. absurd (omega arith));
  numbered = all_more IsNumbered block [] (numbered_is block.kind block.number one.numbered) (λ k d within. absurd (omega arith));
  unrepeated = rw one.new refl;
  some = omega arith;
  payload_last = last_one block payload;
}

more_fits : (before : List Block) (block : Block) (tail : List Block) → FitsBlock before block → FitsTail (before ++ block ∷ []) tail → FitsTail before (block ∷ tail)
more_fits before block tail one more = record {
  fits = all_more IsBlock block tail one.fits more.fits;
  numbered = all_more IsNumbered block tail (numbered_is block.kind block.number one.numbered) more.numbered;
  unrepeated = rw one.new more.unrepeated;
  some = omega arith;
  payload_last = last_more block tail more.some more.payload_last;
}

-- ---- what may follow a block: the end behind the payload block, else more blocks

abbrev IsFollowing : Bool → List Block → List ℕ → Type 0
IsFollowing true after text = Is (0xff ∷ []) text
IsFollowing false after text = IsTail after text

followed : (before : List Block) (block : Block) (payload : Bool) → is_payload block ≡ payload → FitsBlock before block → (text : List ℕ) → IsFollowing payload (before ++ block ∷ []) text → IsTail before (blocks.spelling block ++ text)
followed before block true payload one text is =
    (block ∷ [], one_fits before block one payload, ap (λ (t : List ℕ). blocks.spelling block ++ t) is ∙ ap (λ (t : List ℕ). t ++ 0xff ∷ []) (sym (append-nil (blocks.spelling block))))
followed before block false payload one text (tail, fits, is) =
    (block ∷ tail, more_fits before block tail one fits, ap (λ (t : List ℕ). blocks.spelling block ++ t) is ∙ sym (append_assoc (blocks.spelling block) (flat_map blocks.spelling tail) (0xff ∷ [])))

payload_block : Block
payload_block = record { kind = 1; number = 1; flags = 0; crc = kinds.None; body = [] }

payload_fits : (before : List Block) → has_number before 1 ≡ false → FitsBlock before payload_block
unfolding payload_block
payload_fits before free = record {
  fits = record { kind = omega arith; number = omega arith; flags = omega arith; body = omega arith };
  numbered = refl;
  new = or_from (has_number before 1) (has_single before 1) free refl;
}

is_payload_block : is_payload payload_block ≡ true
unfolding payload_block
is_payload_block = refl

pub some_tail : (before : List Block) → has_number before 1 ≡ false → Some_of (IsTail before)
some_tail before free =
    (blocks.spelling payload_block ++ (0xff ∷ []), followed before payload_block true is_payload_block (payload_fits before free) (0xff ∷ []) refl)

some_following : (before : List Block) (block : Block) (payload : Bool) → is_payload block ≡ payload → has_number before 1 ≡ false → FitsBlock before block → Some_of (IsFollowing payload (before ++ block ∷ []))
some_following before block true is free one = (0xff ∷ [], refl)
some_following before block false is free one = some_tail (before ++ block ∷ []) (still_free before block free one.numbered is)

-- A block goes on to the end.
pub goes_on : (before : List Block) → has_number before 1 ≡ false → (text : List ℕ) → IsNext before text → (more : List ℕ) × IsTail before (text ++ more)
goes_on before free text (block, one, is) =
    let more = some_following before block (is_payload block) refl free one in
    let P : List ℕ → Type 0 = λ t. IsTail before (t ++ more.0) in
    (more.0, subst P (sym is) (followed before block (is_payload block) refl one more.0 more.1))

-- ---- where reading stops

end_stop : (cursor : Cursor) (fault : Fault) → end_at cursor ≡ Err fault → StopsAt cursor fault
unfolding end_at
end_stop cursor fault e = by cursor.rest refl e
  where
    other_by : (b : Bool) → cond b (Ok (past 1 cursor)) (stops cursor reasons.WrongKind) ≡ Err fault → StopsAt cursor fault
    other_by true e = absurd cc
    other_by false e = stopped_at {A = Cursor} cursor reasons.WrongKind fault (λ early. absurd cc) e

    by : (rest : List ℕ) → cursor.rest ≡ rest → after_byte 0xff (stops cursor reasons.WrongKind) cursor rest ≡ Err fault → StopsAt cursor fault
    by [] none e = stopped_at {A = Cursor} cursor reasons.Truncated fault (λ early. none) e
    by (first ∷ rest) is e = other_by (eqb first 0xff) e

abbrev ReachesMore : (List Block → Cursor → Result (List Block × Cursor) Fault) → Type 0
ReachesMore more = (before : List Block) (cursor : Cursor) (fault : Fault) → IsBytes cursor.rest → has_number before 1 ≡ false → more before cursor ≡ Err fault → Reached (IsTail before) cursor fault

following_stop : (more : List Block → Cursor → Result (List Block × Cursor) Fault) → ReachesMore more → (before : List Block) (block : Block) (cursor : Cursor) (fault : Fault) (payload : Bool) → is_payload block ≡ payload → IsBytes cursor.rest
    → has_number before 1 ≡ false → FitsBlock before block → cond payload (end_at cursor >>= λ after. Ok (before ++ block ∷ [], after)) (more (before ++ block ∷ []) cursor) ≡ Err fault
    → Reached (IsFollowing payload (before ++ block ∷ [])) cursor fault
following_stop more reaches before block cursor fault true is fits free one e =
    let Kind = Is (0xff ∷ []) in
    reached_then Kind cursor (end_at cursor) (λ after. Ok (before ++ block ∷ [], after)) fault e (λ stop. reached_at Kind cursor fault (0xff ∷ [], refl) (end_stop cursor fault stop)) (λ x stop k. absurd cc)
following_stop more reaches before block cursor fault false is fits free one e = reaches (before ++ block ∷ []) cursor fault fits (still_free before block free one.numbered is) e

closed_stop : (laws : Laws) (more : List Block → Cursor → Result (List Block × Cursor) Fault) → ReachesMore more → (before : List Block) (cursor : Cursor) (header : Header) (start : Cursor) (body : List ℕ) (middle : Cursor) (fault : Fault)
    → has_number before 1 ≡ false → ReadsHeader before cursor header start → content_at header.len start ≡ Ok (body, middle) → closed_at more before (block_of header body) middle ≡ Err fault → Reached (IsTail before) cursor fault
closed_stop laws more reaches before cursor header start body middle fault free rh eb e =
    let block = block_of header body in
    reached_then (IsTail before) cursor (check_at header.crc (block_check block) middle) (next_at more before block) fault e
    (λ is. reached_more (IsNext before) (IsTail before) cursor fault (goes_on before free) (block_check_reached laws before cursor header start body middle fault rh eb is))
    (λ after is k.
    let one = body_means laws before cursor header start body middle after rh eb is in
    let fits : FitsBlock before block = record { fits = one.fits; numbered = one.numbered; new = one.new } in
    reached_behind (IsFollowing (is_payload block) (before ++ block ∷ [])) (IsTail before) (blocks.spelling block) cursor after fault one.took (followed before block (is_payload block) refl fits)
    (following_stop more reaches before block after fault (is_payload block) refl one.took.fits free fits k))

pub blocks_reached : (laws : Laws) (more : ℕ) → ReachesMore (blocks_at more)
unfolding blocks_at
blocks_reached laws zero before cursor fault fits free e =
    reached_at (IsTail before) cursor fault (some_tail before free) (stopped_at {A = List Block × Cursor} cursor reasons.TooLong fault (λ early. absurd cc) e)
blocks_reached laws (suc more) before cursor fault fits free e =
    reached_then (IsTail before) cursor (header_at before cursor) _ fault e (λ is. reached_more (IsNext before) (IsTail before) cursor fault (goes_on before free) (next_reached laws before cursor fault fits free is))
    (λ h is k.
    let rh = header_means laws before cursor h fits is in
    reached_then (IsTail before) cursor (content_at h.0.len h.1) _ fault k
    (λ missing. reached_more (IsNext before) (IsTail before) cursor fault (goes_on before free) (body_reached laws before cursor h.0 h.1 fault rh missing))
    (λ body found g. closed_stop laws (blocks_at more) (blocks_reached laws more) before cursor h.0 h.1 body.0 body.1 fault free rh found g))
