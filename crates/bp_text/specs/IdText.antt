-- The endpoint id whose text this is (RFC 9171, sections 4.2.5.1.1 and 4.2.5.1.2).
use Rattle.std.specs.Prelude.{ℕ, ◌^◌, ◌==◌, ◌&&◌, nat_lt, Bool, true, if◌then◌else◌, List, drop, codes, Option, Some, None}
use Rattle.std.specs.List.{starts_with, before_first, after_first}
use Rattle.std.specs.Str.{bytes_eq}
use Rattle.std.specs.Str.Parse.{digits_value}
use Rattle.bp_eid.specs.declared.eid.Eid.{Eid}
use Rattle.bp_eid.specs.declared.eid.Eid.TheVariants.{Null, Dtn, Ipn}
use Rattle.bp_eid.specs.DtnText.{is_dtn_text}
use Rattle.bp_eid.specs.EndpointId.{text_form}

abbrev number : List ℕ → ℕ
number digits = digits_value 10 digits

-- the only id whose text it can be: the null id, a text after `dtn:`, or the numbers before and after a dot
abbrev pub candidate : List ℕ → Eid
candidate text =
    if bytes_eq text (codes "dtn:none") then Null
    else if starts_with ◌==◌ text (codes "dtn:") then Dtn (drop 4 text)
    else Ipn (number (before_first (λ b. b == 46) (drop 4 text))) (number (after_first (λ b. b == 46) (drop 4 text)))

-- whether it is an id
abbrev pub is_id : Eid → Bool
is_id Null = true
is_id (Dtn text) = is_dtn_text text
is_id (Ipn node service) = nat_lt node (2 ^ 64) && nat_lt service (2 ^ 64)

-- the id that has this text, if one has it
unfoldable pub id_of_text : List ℕ → Option Eid
id_of_text text =
    if is_id (candidate text) && bytes_eq text (text_form (candidate text)) then Some (candidate text) else None
