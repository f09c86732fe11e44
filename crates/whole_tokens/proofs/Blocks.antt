-- Reading the canonical blocks stops behind whole parts.
use Rattle.std.proofs.Common.{◌≡◌, ℕ, zero, suc, ◌+◌, inl, List, [], ◌∷◌, ◌++◌, length, Result, Ok, Err, refl, ◌∙◌, ap}
use Rattle.cbor_profile.specs.declared.fault.Fault.{Fault}
use Rattle.cbor_profile.specs.declared.fault.Reason.TheVariants as reasons
use Rattle.cbor_profile.specs.Step.{◌>>=◌}
use Rattle.bp_blocks.specs.declared.block.Block.{Block}
use Rattle.bp_bundle.specs.Faults.{is_payload}
use Rattle.bp_bundle.specs.Tokens.{Cursor, stops}
use Rattle.bp_bundle.specs.FirstFault.{after_byte, end_at, check_at, header_at, block_of, block_check, closed_at, blocks_at}
use Rattle.bp_bundle.proofs.HeadsAsSpelled.{TokenLaws}
use Rattle.whole_tokens.specs.Tokens.Part.{Octets}
use Rattle.whole_tokens.proofs.Ids.{unfinished_of}
use Rattle.whole_tokens.proofs.Parted.{no_parts, behind, either, stops_here, Reads}
use Rattle.whole_tokens.proofs.Cursors.{Stands, itself, FaultAt, bind_reads, next, refused, content_next, ByteRead, byte_read}
use Rattle.whole_tokens.proofs.Fields.{check_reads, EndsInHead, header_reads}

-- what was read ends in the last byte of a bundle
abbrev pub EndsBundle : {A : Type 0} → ℕ → A × Cursor → List ℕ → Type 0
EndsBundle total x left = Stands total x.1 × (left ≡ 0xff ∷ x.1.rest)

end_reads : {A : Type 0} (total : ℕ) (cursor : Cursor) (value : A) → Stands total cursor → Reads (EndsBundle total) (FaultAt total) cursor.rest (end_at cursor >>= λ after. Ok (value, after))
unfolding end_at
end_reads {A} total cursor value s = by (after_byte 0xff (stops cursor reasons.WrongKind) cursor cursor.rest) (byte_read total 0xff reasons.WrongKind cursor cursor.rest (λ is. absurd cc) s refl)
  where
    by : (r : Result Cursor Fault) → ByteRead total 0xff cursor r → Reads (EndsBundle total) (FaultAt total) cursor.rest (r >>= λ after. Ok (value, after))
    by (Ok after) read = no_parts _ cursor.rest read
    by (Err fault) read = no_parts _ cursor.rest (stops_here fault.reason _ cursor.rest (λ other. ap (λ (n : ℕ). n + length cursor.rest) (read.0 other) ∙ s.within) (λ early. unfinished_of (λ m. ⊥) cursor.rest (inl (read.1 early))))

-- the rest of a block after its body
closed_reads : (laws : TokenLaws) (total : ℕ) (more : List Block → Cursor → Result (List Block × Cursor) Fault) (before : List Block) (block : Block) (cursor : Cursor)
    → ((before : List Block) (cursor : Cursor) → Stands total cursor → Reads (EndsBundle total) (FaultAt total) cursor.rest (more before cursor)) → Stands total cursor
    → Reads (EndsBundle total) (FaultAt total) cursor.rest (closed_at more before block cursor)
closed_reads laws total more before block cursor others s =
    next total itself _ cursor.rest (check_at block.crc (block_check block) cursor) _ (check_reads laws total block.crc (block_check block) cursor s)
    (λ after a.
    either (EndsBundle total) (FaultAt total) after.rest (is_payload block) (end_at after >>= λ end. Ok (before ++ block ∷ [], end)) (more (before ++ block ∷ []) after) (λ _. end_reads total after (before ++ block ∷ []) a)
    (λ _. others (before ++ block ∷ []) after a))

pub blocks_reads : (laws : TokenLaws) (total count : ℕ) (before : List Block) (cursor : Cursor) → Stands total cursor → Reads (EndsBundle total) (FaultAt total) cursor.rest (blocks_at count before cursor)
unfolding blocks_at
blocks_reads laws total zero before cursor s = refused {A = List Block × Cursor} total (EndsBundle total) cursor reasons.TooLong (λ is. absurd cc) s
blocks_reads laws total (suc count) before cursor s =
    bind_reads total (EndsInHead total) _ cursor.rest (header_at before cursor) _ (header_reads laws total before cursor s)
    (λ header left h.
    content_next total header.0.len _ header.1 left _ h
    (λ body r. behind _ (Octets body.0) left body.1.rest r.small r.is (closed_reads laws total (blocks_at count) before (block_of header.0 body.0) body.1 (blocks_reads laws total count) r.stands)))
