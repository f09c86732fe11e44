-- The bodies of a bundle are short, since the bundle is.
use Rattle.std.proofs.Common.{ℕ, ◌<◌, ◌≤◌, List, length, get_or, arith}
use Rattle.std.specs.List.{flat_map}
use Rattle.std.proofs.lemmas.List.{length-append}
use Rattle.std.proofs.lemmas.List.Folds.{length-flat_map-take}
use Rattle.cbor_profile.specs.Put.{byte_string}
use Rattle.bp_blocks.specs.declared.block.Block.{Block}
use Rattle.bp_blocks.specs.Spelling as canonical
use Rattle.bp_bundle.specs.Shape.{Contents}
use Rattle.bp_bundle.specs.Spelling.{IsBundle, spelling}
use Rattle.bpsec_facts.specs.Left.{AreShort}

-- ---- a block is longer than its body

pub longer : (block : Block) → length block.body ≤ length (canonical.spelling block)
unfolding canonical.spelling canonical.array_with byte_string
longer block = simp length-append (omega arith)

-- one of the blocks has so many bytes at least
bodies_fit : (blocks : List Block) (k : ℕ) (d : Block) → k < length blocks → length (get_or blocks k d).body ≤ length (flat_map canonical.spelling blocks)
bodies_fit blocks k d within = omega (arith, longer (get_or blocks k d), length-flat_map-take canonical.spelling blocks k d within)

pub spelled_longer : (bundle : Contents) → length (flat_map canonical.spelling bundle.blocks) ≤ length (spelling bundle)
unfolding spelling
spelled_longer bundle = simp length-append (omega arith)

pub bundle_short : (bundle : Contents) → IsBundle bundle → AreShort bundle.blocks
bundle_short bundle is = λ k d within. omega (arith, is.within, bodies_fit bundle.blocks k d within, spelled_longer bundle)
