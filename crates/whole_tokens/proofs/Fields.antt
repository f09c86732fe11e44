-- Reading the fields of blocks stops behind whole parts.
use Rattle.std.proofs.Common.{ℕ, ◌%◌, inl, inr, Bool, true, false, eqb, List, [], Result, Ok, refl}
use Rattle.std.specs.Prelude.{bytes_eq}
use Rattle.cbor_profile.specs.declared.fault.Fault.{Fault}
use Rattle.cbor_profile.specs.declared.fault.Reason.TheVariants as reasons
use Rattle.bp_crc.specs.declared.kind.CheckKind.{CheckKind}
use Rattle.bp_crc.specs.declared.kind.CheckKind.TheVariants as kinds
use Rattle.bp_primary.specs.Flags.{is_fragment}
use Rattle.bp_blocks.specs.declared.block.Block.{Block}
use Rattle.bp_bundle.specs.Tokens.{Cursor, stops}
use Rattle.bp_bundle.specs.FirstFault.{id_at, check_type_at, check_string_at, check_at, nodes_at, times_at, piece_at, fields_at, primary_check, primary_at, header_at}
use Rattle.bp_bundle.proofs.HeadsAsSpelled.{TokenLaws}
use Rattle.whole_tokens.specs.Tokens.Part.{Octets}
use Rattle.whole_tokens.proofs.Parted.{no_parts, one_part, either, Reads}
use Rattle.whole_tokens.proofs.Cursors.{Stands, Ends, behind_value, itself, FaultAt, next, head_next, BehindHead, string_next, content_next, refused_content, id_at_reads}

-- ---- checks

check_type_reads : (laws : TokenLaws) (total : ℕ) (checked : Bool) (cursor : Cursor) → Stands total cursor → Reads (Ends behind_value total) (FaultAt total) cursor.rest (check_type_at checked cursor)
unfolding check_type_at
check_type_reads laws total checked cursor s =
    head_next laws total _ [] _ cursor _ (inl refl) s (λ x after. no_parts _ x.1.rest (after, refl))

check_string_reads : (laws : TokenLaws) (total : ℕ) (kind : CheckKind) (check : List ℕ) (cursor : Cursor) → Stands total cursor → Reads (Ends itself total) (FaultAt total) cursor.rest (check_string_at kind check cursor)
unfolding check_string_at
check_string_reads laws total kind check cursor s =
    string_next laws total _ [] _ cursor _ refl s
    (λ len h.
    content_next total len.0 _ len.1 cursor.rest _ h
    (λ found r.
    either (Ends itself total) (FaultAt total) cursor.rest (bytes_eq found.0 check) (Ok found.1) (stops len.1 reasons.WrongCheck) (λ _. one_part _ (Octets found.0) cursor.rest found.1.rest r.small r.is (r.stands, refl))
    (λ _. refused_content {A = Cursor} total len.0 (Ends itself total) len.1 cursor.rest reasons.WrongCheck (λ is. absurd cc) h)))

pub check_reads : (laws : TokenLaws) (total : ℕ) (kind : CheckKind) (check : List ℕ) (cursor : Cursor) → Stands total cursor → Reads (Ends itself total) (FaultAt total) cursor.rest (check_at kind check cursor)
unfolding check_at
check_reads laws total kinds.None check cursor s = no_parts _ cursor.rest (s, refl)
check_reads laws total kinds.Crc16 check cursor s = check_string_reads laws total kinds.Crc16 check cursor s
check_reads laws total kinds.Crc32c check cursor s = check_string_reads laws total kinds.Crc32c check cursor s

-- ---- the primary block

nodes_reads : (laws : TokenLaws) (total : ℕ) (cursor : Cursor) → Stands total cursor → Reads (Ends behind_value total) (FaultAt total) cursor.rest (nodes_at cursor)
unfolding nodes_at
nodes_reads laws total cursor s =
    next total behind_value _ cursor.rest (id_at cursor) _ (id_at_reads laws total cursor s)
    (λ destination d.
    next total behind_value _ destination.1.rest (id_at destination.1) _ (id_at_reads laws total destination.1 d)
    (λ source o. next total behind_value _ source.1.rest (id_at source.1) _ (id_at_reads laws total source.1 o) (λ report_to r. no_parts _ report_to.1.rest (r, refl))))

times_reads : (laws : TokenLaws) (total : ℕ) (cursor : Cursor) → Stands total cursor → Reads (Ends behind_value total) (FaultAt total) cursor.rest (times_at cursor)
unfolding times_at
times_reads laws total cursor s =
    head_next laws total _ [] _ cursor _ (inr refl) s
    (λ pair p.
    head_next laws total _ [] _ pair.1 _ (inl refl) p
    (λ created c. head_next laws total _ [] _ created.1 _ (inl refl) c (λ sequence q. head_next laws total _ [] _ sequence.1 _ (inl refl) q (λ lifetime l. no_parts _ lifetime.1.rest (l, refl)))))

piece_reads : (laws : TokenLaws) (total : ℕ) (fragmented : Bool) (cursor : Cursor) → Stands total cursor → Reads (Ends behind_value total) (FaultAt total) cursor.rest (piece_at fragmented cursor)
unfolding piece_at
piece_reads laws total false cursor s = no_parts _ cursor.rest (s, refl)
piece_reads laws total true cursor s =
    head_next laws total _ [] _ cursor _ (inl refl) s (λ offset o. head_next laws total _ [] _ offset.1 _ (inl refl) o (λ all a. no_parts _ all.1.rest (a, refl)))

fields_reads : (laws : TokenLaws) (total : ℕ) (cursor : Cursor) → Stands total cursor → Reads (Ends behind_value total) (FaultAt total) cursor.rest (fields_at cursor)
unfolding fields_at
fields_reads laws total cursor s =
    head_next laws total _ [] _ cursor _ (inr refl) s
    (λ items i.
    head_next laws total _ [] _ items.1 _ (inl refl) i
    (λ version v.
    head_next laws total _ [] _ version.1 _ (inl refl) v
    (λ flags f.
    next total behind_value _ flags.1.rest (check_type_at (eqb (items.0 % 2) 1) flags.1) _ (check_type_reads laws total _ flags.1 f)
    (λ crc c.
    next total behind_value _ crc.1.rest (nodes_at crc.1) _ (nodes_reads laws total crc.1 c)
    (λ nodes n.
    next total behind_value _ nodes.1.rest (times_at nodes.1) _ (times_reads laws total nodes.1 n)
    (λ times t. next total behind_value _ times.1.rest (piece_at (is_fragment flags.0) times.1) _ (piece_reads laws total _ times.1 t) (λ piece p. no_parts _ piece.1.rest (p, refl))))))))

pub primary_reads : (laws : TokenLaws) (total : ℕ) (cursor : Cursor) → Stands total cursor → Reads (Ends behind_value total) (FaultAt total) cursor.rest (primary_at cursor)
unfolding primary_at
primary_reads laws total cursor s =
    next total behind_value _ cursor.rest (fields_at cursor) _ (fields_reads laws total cursor s)
    (λ primary p. next total itself _ primary.1.rest (check_at primary.0.crc (primary_check primary.0) primary.1) _ (check_reads laws total _ _ primary.1 p) (λ after a. no_parts _ after.rest (a, refl)))

-- ---- the header of a canonical block

-- the type of what is read
abbrev header_type : {H : Type 0} → (List Block → Cursor → Result (H × Cursor) Fault) → Type 0
header_type {H} reader = H

abbrev Header : Type 0
Header = header_type header_at

-- What was read ends in the head of the body.
abbrev pub EndsInHead : ℕ → Header × Cursor → List ℕ → Type 0
EndsInHead total x left = BehindHead total x.0.len x.1 left

pub header_reads : (laws : TokenLaws) (total : ℕ) (before : List Block) (cursor : Cursor) → Stands total cursor → Reads (EndsInHead total) (FaultAt total) cursor.rest (header_at before cursor)
unfolding header_at
header_reads laws total before cursor s =
    head_next laws total _ before _ cursor _ (inr refl) s
    (λ items i.
    head_next laws total _ before _ items.1 _ (inl refl) i
    (λ kind k.
    head_next laws total _ before _ kind.1 _ (inl refl) k
    (λ number n.
    head_next laws total _ before _ number.1 _ (inl refl) n
    (λ flags f.
    next total behind_value _ flags.1.rest (check_type_at (eqb items.0 6) flags.1) _ (check_type_reads laws total _ flags.1 f)
    (λ crc c. string_next laws total _ before _ crc.1 _ refl c (λ len h. no_parts _ crc.1.rest h))))))
