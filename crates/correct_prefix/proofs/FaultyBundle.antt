-- A token of a bundle that isn't permitted is refused whatever follows it.
use Rattle.std.proofs.Common.{◌≡◌, ◌≢◌, ℕ, zero, suc, ◌+◌, ◌%◌, ◌≤◌, Bool, true, false, cond, eqb, List, [], ◌∷◌, ◌++◌, length, take, drop, Result, Ok, Err, refl, sym, ◌∙◌, ap, append_assoc, append-nil, arith}
use Rattle.std.proofs.lemmas.List.{length-append, take_at, drop_at}
use Rattle.cbor_profile.specs.declared.fault.Reason.TheVariants as reasons
use Rattle.cbor_profile.specs.declared.fault.Fault.{Fault}
use Rattle.cbor_profile.specs.Step.{◌>>=◌}
use Rattle.bp_crc.specs.declared.kind.CheckKind.{CheckKind}
use Rattle.bp_eid.specs.declared.eid.Eid.{Eid}
use Rattle.bp_primary.specs.declared.primary.Primary.{Primary}
use Rattle.bp_primary.specs.declared.primary.Piece.{Piece}
use Rattle.bp_primary.specs.Flags.{is_fragment}
use Rattle.bp_blocks.specs.declared.block.Block.{Block}
use Rattle.bp_bundle.specs.declared.header.Header.{Header}
use Rattle.bp_bundle.specs.declared.token.Token.TheVariants as tokens
use Rattle.bp_bundle.specs.Shape.{Contents}
use Rattle.bp_bundle.specs.Spelling.{Spells, spelling}
use Rattle.bp_bundle.specs.Faults.{is_payload}
use Rattle.bp_bundle.specs.Tokens.{Cursor, argument_at}
use Rattle.bp_bundle.specs.FirstFault.{begin_at, end_at, content_at, id_at, check_type_at, check_at, Nodes, nodes_at, Times, times_at, piece_at, primary_of, primary_check, fields_at, primary_at, header_at, block_of, block_check, closed_at, blocks_at, front_at, bundle_at, read_bundle}
use Rattle.correct_prefix.specs.Prefix.{Begins}
use Rattle.correct_prefix.specs.Bundles.{IsFaulty}
use Rattle.bp_bundle.proofs.HeadsAsSpelled.{IsBytes, here}
use Rattle.bp_bundle.proofs.ReadPrimaryIsSpelled.{check_size}
use Rattle.bp_bundle.proofs.ReadBundleIsSpelled.{header_means}
use Rattle.bp_bundle.proofs.SpelledIsRead.{bundle_again}
use Rattle.correct_prefix.proofs.FaultyToken.{pairs, cursors, Sealed, Seals, seals_then, seals_ok}
use Rattle.correct_prefix.proofs.FaultyHead.{SealLaws, argument_seals}
use Rattle.correct_prefix.proofs.FaultyParts.{id_seals, content_seals, check_type_seals, check_seals, begin_seals, end_seals}

-- ---- the primary block

nodes_seal : (laws : SealLaws) → Seals (pairs Nodes) nodes_at
unfolding nodes_at
nodes_seal laws =
    seals_then (pairs Eid) (pairs Nodes) id_at _ (id_seals laws)
    (λ c a fits is. seals_then (pairs Eid) (pairs Nodes) id_at _ (id_seals laws) (λ c b fits is. seals_then (pairs Eid) (pairs Nodes) id_at _ (id_seals laws) (λ c r fits is. seals_ok (record { destination = a.0; source = b.0; report_to = r.0 }))))

number : (laws : SealLaws) → Seals (pairs ℕ) (argument_at [] tokens.Number)
number laws = argument_seals laws [] tokens.Number

times_seal : (laws : SealLaws) → Seals (pairs Times) times_at
unfolding times_at
times_seal laws =
    seals_then (pairs ℕ) (pairs Times) (argument_at [] tokens.Pair) _ (argument_seals laws [] tokens.Pair)
    (λ c p fits is.
    seals_then (pairs ℕ) (pairs Times) (argument_at [] tokens.Number) _ (number laws)
    (λ c a fits is.
    seals_then (pairs ℕ) (pairs Times) (argument_at [] tokens.Number) _ (number laws)
    (λ c b fits is. seals_then (pairs ℕ) (pairs Times) (argument_at [] tokens.Number) _ (number laws) (λ c l fits is. seals_ok (record { created = a.0; sequence = b.0; lifetime = l.0 })))))

piece_seals : (laws : SealLaws) (fragmented : Bool) → Seals (pairs Piece) (piece_at fragmented)
unfolding piece_at
piece_seals laws false = seals_ok (record { offset = 0; total = 0 })
piece_seals laws true =
    seals_then (pairs ℕ) (pairs Piece) (argument_at [] tokens.Number) _ (number laws)
    (λ c a fits is. seals_then (pairs ℕ) (pairs Piece) (argument_at [] tokens.Number) _ (number laws) (λ c b fits is. seals_ok (record { offset = a.0; total = b.0 })))

fields_seal : (laws : SealLaws) → Seals (pairs Primary) fields_at
unfolding fields_at
fields_seal laws =
    seals_then (pairs ℕ) (pairs Primary) (argument_at [] tokens.PrimaryArray) _ (argument_seals laws [] tokens.PrimaryArray)
    (λ c items fits is.
    seals_then (pairs ℕ) (pairs Primary) (argument_at [] tokens.Version) _ (argument_seals laws [] tokens.Version)
    (λ c version fits is.
    seals_then (pairs ℕ) (pairs Primary) (argument_at [] (tokens.BundleFlags items.0)) _ (argument_seals laws [] (tokens.BundleFlags items.0))
    (λ c flags fits is.
    seals_then (pairs CheckKind) (pairs Primary) (check_type_at (eqb (items.0 % 2) 1)) _ (check_type_seals laws (eqb (items.0 % 2) 1))
    (λ c crc fits is.
    seals_then (pairs Nodes) (pairs Primary) nodes_at _ (nodes_seal laws)
    (λ c nodes fits is.
    seals_then (pairs Times) (pairs Primary) times_at _ (times_seal laws)
    (λ c times fits is. seals_then (pairs Piece) (pairs Primary) (piece_at (is_fragment flags.0)) _ (piece_seals laws (is_fragment flags.0)) (λ c piece fits is. seals_ok (primary_of flags.0 crc.0 nodes.0 times.0 piece.0))))))))

primary_seals : (laws : SealLaws) → Seals (pairs Primary) primary_at
unfolding primary_at
primary_seals laws =
    seals_then (pairs Primary) (pairs Primary) fields_at _ (fields_seal laws)
    (λ c x fits is. seals_then cursors (pairs Primary) (check_at x.0.crc (primary_check x.0)) _ (check_seals laws x.0.crc (primary_check x.0) (check_size x.0.crc _)) (λ c after fits is. seals_ok x.0))

-- ---- canonical blocks

header_seals : (laws : SealLaws) (before : List Block) → Seals (pairs Header) (header_at before)
unfolding header_at
header_seals laws before =
    seals_then (pairs ℕ) (pairs Header) (argument_at before tokens.BlockArray) _ (argument_seals laws before tokens.BlockArray)
    (λ c items fits is.
    seals_then (pairs ℕ) (pairs Header) (argument_at before tokens.BlockType) _ (argument_seals laws before tokens.BlockType)
    (λ c kind fits is.
    seals_then (pairs ℕ) (pairs Header) (argument_at before (tokens.BlockNumber kind.0)) _ (argument_seals laws before (tokens.BlockNumber kind.0))
    (λ c number fits is.
    seals_then (pairs ℕ) (pairs Header) (argument_at before tokens.Number) _ (argument_seals laws before tokens.Number)
    (λ c flags fits is.
    seals_then (pairs CheckKind) (pairs Header) (check_type_at (eqb items.0 6)) _ (check_type_seals laws (eqb items.0 6))
    (λ c crc fits is.
    seals_then (pairs ℕ) (pairs Header) (argument_at before tokens.Body) _ (argument_seals laws before tokens.Body)
    (λ c len fits is. seals_ok (record { kind = kind.0; number = number.0; flags = flags.0; crc = crc.0; len = len.0 })))))))

abbrev Blocks : (Cursor → Result (List Block × Cursor) Fault) → Type 0
Blocks read = Seals (pairs (List Block)) read

following_seals : (more : List Block → Cursor → Result (List Block × Cursor) Fault) (before : List Block) (block : Block) (payload : Bool) → Blocks (more (before ++ block ∷ []))
    → Blocks (λ c. cond payload (end_at c >>= λ after. Ok (before ++ block ∷ [], after)) (more (before ++ block ∷ []) c))
following_seals more before block true rest = seals_then cursors (pairs (List Block)) end_at _ end_seals (λ c after fits is. seals_ok (before ++ block ∷ []))
following_seals more before block false rest = rest

closed_seals : (laws : SealLaws) (more : List Block → Cursor → Result (List Block × Cursor) Fault) (before : List Block) (block : Block) → Blocks (more (before ++ block ∷ [])) → Blocks (closed_at more before block)
closed_seals laws more before block rest =
    seals_then cursors (pairs (List Block)) (check_at block.crc (block_check block)) _ (check_seals laws block.crc (block_check block) (check_size block.crc _)) (λ c after fits is. following_seals more before block (is_payload block) rest)

-- With 64 blocks before, no head of a block is permitted: so one more is always looked at.
blocks_seal : (laws : SealLaws) (more : ℕ) (before : List Block) → length before + more ≡ 65 → 1 ≤ more → Blocks (blocks_at more before)
unfolding blocks_at
blocks_seal laws zero before all some = absurd (omega arith)
blocks_seal laws (suc more) before all some =
    seals_then (pairs Header) (pairs (List Block)) (header_at before) _ (header_seals laws before)
    (λ c h fits is.
    let few = (header_means laws.laws before c h fits is).few in
    seals_then (pairs (List ℕ)) (pairs (List Block)) (content_at h.0.len) _ (content_seals h.0.len)
    (λ c body fits is.
    let block = block_of h.0 body.0 in
    closed_seals laws (blocks_at more) before block (blocks_seal laws more (before ++ block ∷ []) (omega (arith, length-append before (block ∷ []))) (omega arith))))

-- ---- bundles

front_seals : (laws : SealLaws) → Seals (pairs Primary) front_at
unfolding front_at
front_seals laws = seals_then cursors (pairs Primary) begin_at primary_at begin_seals (λ c after fits is. primary_seals laws)

bundle_seals : (laws : SealLaws) → Seals (pairs Contents) bundle_at
unfolding bundle_at
bundle_seals laws =
    seals_then (pairs Primary) (pairs Contents) front_at _ (front_seals laws)
    (λ c x fits is. seals_then (pairs (List Block)) (pairs Contents) (blocks_at 65 []) _ (blocks_seal laws 65 [] (omega arith) (omega arith)) (λ c y fits is. seals_ok (record { primary = x.0; blocks = y.0 })))

not_both : (r : Result (Contents × Cursor) Fault) (x : Contents × Cursor) (fault : Fault) → r ≡ Ok x → r ≡ Err fault → ⊥
not_both (Ok y) x fault a b = cc
not_both (Err y) x fault a b = cc

pub faulty : (laws : SealLaws) (bytes : List ℕ) (fault : Fault) → IsBytes bytes → read_bundle bytes ≡ Err fault → fault.reason ≢ reasons.Truncated → IsFaulty (take fault.place bytes) (drop fault.place bytes)
unfolding read_bundle
faulty laws bytes fault fits e other =
    let s = (bundle_seals laws).sealed (here 0 bytes) fault fits e other in
    let place : fault.place ≡ length s.front = omega (arith, s.place) in
    let front : take fault.place bytes ≡ s.front = ap (λ (n : ℕ). take n bytes) place ∙ (ap (take (length s.front)) s.parts ∙ take_at s.front (s.token ++ s.more) (length s.front) refl) in
    let rest : drop fault.place bytes ≡ s.token ++ s.more = ap (λ (n : ℕ). drop n bytes) place ∙ (ap (drop (length s.front)) s.parts ∙ drop_at s.front (s.token ++ s.more) (length s.front) refl) in
    rw (front, rest) (s.token, s.more, refl, s.is_token, none s)
  where
    none : (s : Sealed bundle_at (here 0 bytes) fault) → Begins (λ text. (bundle : Contents) × Spells bundle text) (s.front ++ s.token) → ⊥
    none s (whole, (bundle, (is_bundle, spelled)), others, begins) =
        let text : whole ≡ s.front ++ (s.token ++ others) = begins ∙ append_assoc s.front s.token others in
        let own : whole ≡ spelling bundle ++ [] = spelled ∙ sym (append-nil (spelling bundle)) in
        not_both (bundle_at (here 0 whole)) (bundle, here (length (spelling bundle)) []) fault (ap (λ (t : List ℕ). bundle_at (here 0 t)) own ∙ bundle_again laws.laws bundle [] is_bundle) (ap (λ (t : List ℕ). bundle_at (here 0 t)) text ∙ s.again others)
