-- The bodies of extension blocks (RFC 9171, section 4.4). A previous node is one endpoint id, an age one unsigned number.
use Rattle.std.specs.Prelude.{ℕ, ◌<◌, ◌≤◌, ◌^◌, List, ◌++◌}
use Rattle.cbor_profile.specs.Put.{uint, array_head}
use Rattle.bp_blocks.specs.declared.bodies.Hops.{Hops}

-- the limit of a hop count is 1 to 255 (section 4.4.3)
abbrev pub IsHops : Hops → Type 0
IsHops value = (1 ≤ value.limit) × (value.limit ≤ 255) × (value.count < 2 ^ 64)

-- a hop count: the limit and the count
unfoldable pub hops : Hops → List ℕ
hops value = array_head 2 ++ uint value.limit ++ uint value.count
