use Rattle.std.proofs.Common.{◌≡◌, ℕ, Option, is_some, ap, sym, ◌∙◌, subst}
use Rattle.std.proofs.Math.Bool.{Bool-set}
use Rattle.bp_crc.specs.declared.kind.CheckKind.{CheckKind}
use Rattle.bp_eid.specs.declared.eid.Eid.{Eid}
use Rattle.bp_primary.specs.Flags.{is_fragment}
use Rattle.bp_primary.specs.declared.primary.Piece.{Piece}
use Rattle.bp_primary.specs.declared.primary.Primary.{Primary}
use Rattle.bp_crc.specs.Item.{check_of}
use Rattle.bp_build.specs.BuildText.{place_if, place_if_flag, primary_of}
use Rattle.bp_build.proofs.primary.primary_of.Goals as goal

abbrev with_proof : (flags : ℕ) → CheckKind → Eid × Eid × Eid → ℕ × ℕ × ℕ → (fragment : Option Piece) → is_some fragment ≡ is_fragment flags → Primary
with_proof flags crc nodes times fragment fits = record { flags = flags; crc = crc; destination = nodes.0; source = nodes.1; report_to = nodes.2; created = times.0; sequence = times.1; lifetime = times.2; fragment = fragment; fragmented = fits }

same : (flags crc : ℕ) (kind : CheckKind) (nodes : Eid × Eid × Eid) (times : ℕ × ℕ × ℕ) (place : Piece) (fragment : Option Piece) → kind ≡ check_of crc → fragment ≡ place_if (is_fragment flags) place
    → (fits : is_some fragment ≡ is_fragment flags) → with_proof flags kind nodes times fragment fits ≡ primary_of flags crc nodes times place
same flags crc kind nodes times place fragment checks is =
    subst (λ (f : Option Piece). (fits : is_some f ≡ is_fragment flags) → with_proof flags kind nodes times f fits ≡ primary_of flags crc nodes times place) (sym is)
    (λ fits. ap (with_proof flags kind nodes times (place_if (is_fragment flags) place)) (Bool-set _ _ fits (place_if_flag (is_fragment flags) place))
    ∙ ap (λ (k : CheckKind). with_proof flags k nodes times (place_if (is_fragment flags) place) (place_if_flag (is_fragment flags) place)) checks)

pub returns : goal.returns
returns c = same c.args.flags c.args.crc c.of_number.result c.args.nodes c.args.times c.args.place c.place_if.result c.of_number.ensures c.place_if.ensures _
