use Rattle.std.proofs.Common.{◌≡◌, ℕ, Option, is_some, ap, sym, subst}
use Rattle.std.proofs.Math.Bool.{Bool-set}
use Rattle.bp_crc.specs.declared.kind.CheckKind.{CheckKind}
use Rattle.bp_primary.specs.Flags.{is_fragment}
use Rattle.bp_primary.specs.declared.primary.Piece.{Piece}
use Rattle.bp_primary.specs.declared.primary.Primary.{Primary}
use Rattle.bp_bundle.specs.FirstFault.{Nodes, Times, piece_if, piece_if_flag, primary_of}
use Rattle.bp_bundle.specs.Step.{nodes_seen, times_seen}
use Rattle.bp_bundle.proofs.front.made.Goals as goal

abbrev with_proof : (flags : ℕ) → CheckKind → Nodes → Times → (fragment : Option Piece) → is_some fragment ≡ is_fragment flags → Primary
with_proof flags crc nodes times fragment fits = record { flags = flags; crc = crc; destination = nodes.destination; source = nodes.source; report_to = nodes.report_to; created = times.created; sequence = times.sequence; lifetime = times.lifetime; fragment = fragment; fragmented = fits }

same : (flags : ℕ) (crc : CheckKind) (nodes : Nodes) (times : Times) (piece : Piece) (fragment : Option Piece) → fragment ≡ piece_if (is_fragment flags) piece → (fits : is_some fragment ≡ is_fragment flags) → with_proof flags crc nodes times fragment fits ≡ primary_of flags crc nodes times piece
same flags crc nodes times piece fragment is = subst (λ (f : Option Piece). (fits : is_some f ≡ is_fragment flags) → with_proof flags crc nodes times f fits ≡ primary_of flags crc nodes times piece) (sym is)
    (λ fits. ap (with_proof flags crc nodes times (piece_if (is_fragment flags) piece)) (Bool-set _ _ fits (piece_if_flag (is_fragment flags) piece)))

pub returns : goal.returns
returns c = same c.args.flags c.args.crc (nodes_seen c.args.ids) (times_seen c.args.clock) c.args.piece c.piece_if.result c.piece_if.ensures _
