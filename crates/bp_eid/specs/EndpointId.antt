-- Endpoint ids: RFC 9171, section 4.2.5.
use Rattle.std.specs.Prelude.{◌≡◌, ◌≢◌, ℕ, ◌^◌, ◌<◌, List, [], ◌∷◌, ◌++◌, codes}
use Rattle.std.specs.Fmt.{decimal}
use Rattle.cbor_profile.specs.Put.{uint, text_string, array_head}
use Rattle.bp_eid.specs.declared.eid.Eid.{Eid}
use Rattle.bp_eid.specs.declared.eid.Eid.TheVariants.{Null, Dtn, Ipn}
use Rattle.bp_eid.specs.DtnText.{IsDtnText, node_name}

-- the number of its scheme: 1 is dtn, 2 is ipn
abbrev pub scheme : Eid → ℕ
scheme Null = 1
scheme (Dtn text) = 1
scheme (Ipn node service) = 2

-- The part specific to its scheme. In the scheme dtn it is 0 for the null id, else a text (section 4.2.5.1.1). In the
-- scheme ipn it is a node number and a service number (section 4.2.5.1.2).
abbrev pub specific_part : Eid → List ℕ
specific_part Null = uint 0
specific_part (Dtn text) = text_string text
specific_part (Ipn node service) = array_head 2 ++ (uint node ++ uint service)

-- an array of both
unfoldable pub spelling : Eid → List ℕ
spelling eid = array_head 2 ++ (uint (scheme eid) ++ specific_part eid)

-- The text, as the URI that the same sections give. Numbers are decimal, without leading zeros.
unfoldable pub text_form : Eid → List ℕ
text_form Null = codes "dtn:none"
text_form (Dtn text) = codes "dtn:" ++ text
text_form (Ipn node service) = codes "ipn:" ++ (decimal node ++ (46 ∷ decimal service))

-- what every id keeps
abbrev pub Fits : Eid → Type 0
Fits Null = Unit {0}
Fits (Dtn text) = IsDtnText text
Fits (Ipn node service) = (node < 2 ^ 64) × (service < 2 ^ 64)

-- it has a text, which takes memory
abbrev pub HasText : Eid → Type 0
HasText Null = ⊥
HasText (Dtn text) = Unit {0}
HasText (Ipn node service) = ⊥

-- Both name endpoints of one node: both are of the scheme ipn and have one node number (section 4.2.5.1.2), or both are of
-- the scheme dtn and have one node name (section 4.2.5.1.1), which isn't empty. That an empty name is of no node is this
-- profile's.
abbrev pub SameNode : Eid → Eid → Type 0
SameNode (Ipn node service) (Ipn other service') = node ≡ other
SameNode (Dtn text) (Dtn other) = (node_name text ≢ []) × (node_name text ≡ node_name other)
SameNode a b = ⊥
