-- The byte lists that spell some id, and those that spell some security block.
use Rattle.std.specs.Prelude.{◌≡◌, ℕ, List}
use Rattle.bp_eid.specs.declared.eid.Eid.{Eid}
use Rattle.bp_eid.specs.EndpointId as ids
use Rattle.bp_eid.specs.EndpointId.{Fits}
use Rattle.bpsec_asb.specs.SecurityBlock as security
use Rattle.bpsec_asb.specs.SecurityBlock.{IsSecurityBlock}
use Rattle.bpsec_asb.specs.declared.asb.Asb.{Asb}

-- the spelling of some id
abbrev pub IsId : List ℕ → Type 0
IsId text = (eid : Eid) × Fits eid × (text ≡ ids.spelling eid)

-- the spelling of some security block
abbrev pub IsSpelling : List ℕ → Type 0
IsSpelling text = (asb : Asb) × IsSecurityBlock asb × (text ≡ security.spelling asb)
