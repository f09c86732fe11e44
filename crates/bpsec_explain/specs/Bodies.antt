-- The lines of the bodies of extension blocks (RFC 9171, section 4.4).
use Rattle.std.specs.Prelude.{ℕ, ◌==◌, ◌&&◌, nat_le, if◌then◌else◌, List, [], ◌∷◌, ◌++◌, length, Result, Ok, Err, codes}
use Rattle.cbor_profile.specs.declared.fault.Fault.{Fault}
use Rattle.cbor_profile.specs.Step.{◌>>=◌}
use Rattle.bp_eid.specs.declared.reading.EidAt.{EidAt}
use Rattle.bp_eid.specs.declared.stop.Stop.{Stop}
use Rattle.bp_eid.specs.EndpointId.{text_form}
use Rattle.bp_eid.specs.Reading.{pair_at, number_at, read_id}
use Rattle.bpsec_explain.specs.Texts.{newline, number, unreadable_line}

-- one endpoint id, and nothing more (section 4.4.1)
abbrev pub id_line : ℕ → Result EidAt Fault → List ℕ
id_line given (Ok at) = if at.len == given then codes "previous-node " ++ (text_form at.eid ++ newline) else unreadable_line
id_line given (Err fault) = unreadable_line

unfoldable pub previous_node_line : List ℕ → List ℕ
previous_node_line body = id_line (length body) (read_id body)

-- one number of milliseconds, and nothing more (section 4.4.2)
abbrev pub number_line : Result (ℕ × List ℕ) Stop → List ℕ
number_line (Ok (n, [])) = number (codes "age ") n ++ newline
number_line (Ok (n, byte ∷ bytes)) = unreadable_line
number_line (Err stop) = unreadable_line

unfoldable pub age_line : List ℕ → List ℕ
age_line body = number_line (number_at body)

-- an array of a limit and a count
unfoldable pub hops_at : List ℕ → Result (ℕ × ℕ × List ℕ) Stop
hops_at bytes = do
  rest ← pair_at bytes
  limit ← number_at rest
  count ← number_at limit.1
  Ok (limit.0, count.0, count.1)

abbrev pub limits : ℕ → ℕ → List ℕ
limits limit count = number (codes "hops limit=") limit ++ (number (codes " count=") count ++ newline)

-- a limit of 1 to 255 and a count, and nothing more (section 4.4.3)
abbrev pub hop_line : Result (ℕ × ℕ × List ℕ) Stop → List ℕ
hop_line (Ok (limit, count, [])) =
    if nat_le 1 limit && nat_le limit 255 then limits limit count else unreadable_line
hop_line (Ok (limit, count, byte ∷ bytes)) = unreadable_line
hop_line (Err stop) = unreadable_line

unfoldable pub hops_line : List ℕ → List ℕ
hops_line body = hop_line (hops_at body)
