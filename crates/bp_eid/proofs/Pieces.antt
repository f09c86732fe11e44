-- How long the spelling of an id is.
use Rattle.std.proofs.Common.{◌≡◌, ℕ, ◌+◌, List, length, refl, arith}
use Rattle.std.proofs.lemmas.List.{length-append}
use Rattle.cbor_profile.specs.Head.{head_spelling}
use Rattle.cbor_profile.specs.Put.{uint, array_head, text_string}
use Rattle.bp_eid.specs.declared.eid.Eid.TheVariants.{Null, Dtn, Ipn}
use Rattle.bp_eid.specs.EndpointId.{spelling}

pub length-null : length (spelling Null) ≡ 3
unfolding spelling array_head uint
length-null = refl

pub length-dtn : (text : List ℕ) → length (spelling (Dtn text)) ≡ 2 + length (head_spelling 3 (length text)) + length text
unfolding spelling array_head uint text_string
length-dtn text = omega (arith, length-append (head_spelling 3 (length text)) text)

pub length-ipn : (node service : ℕ) → length (spelling (Ipn node service)) ≡ 3 + length (head_spelling 0 node) + length (head_spelling 0 service)
unfolding spelling array_head uint
length-ipn node service = omega (arith, length-append (head_spelling 0 node) (head_spelling 0 service))
