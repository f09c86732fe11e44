use Rattle.std.proofs.Common.{◌≡◌, ◌++◌, [], refl, ◌∙◌, append-nil, append_assoc, arith}
use Rattle.cbor_profile.specs.Head.{head_spelling}
use Rattle.cbor_profile.specs.Put.{uint, array_head}
use Rattle.bp_blocks.specs.declared.bodies.Hops.{Hops}
use Rattle.bp_blocks.specs.Bodies.{hops}
use Rattle.bp_blocks.proofs.bodies.hop_count.Goals as goal

-- a head after another, and nothing after the last
heads : (value : Hops) → hops value ≡ head_spelling 4 2 ++ (head_spelling 0 value.limit ++ (head_spelling 0 value.count ++ []))
unfolding hops uint array_head
heads value =
    append_assoc (head_spelling 4 2) (head_spelling 0 value.limit) (head_spelling 0 value.count)
    ∙ rw append-nil refl

pub returns-in_err-items-clause-found : goal.returns-in_err-items-clause-found
returns-in_err-items-clause-found c = λ value fits e. absurd (c.in_err-items.ensures.found 2 _ (omega arith) (e ∙ heads value))

pub returns-in_err-count-clause-found : goal.returns-in_err-count-clause-found
returns-in_err-count-clause-found c = λ value fits e.
    let items = c.in_ok-items.ensures.found 2 _ (omega arith) (e ∙ heads value) in
    let limit = c.in_ok-limit.ensures.found value.limit _ (omega arith) items.1 in
    absurd (c.in_err-count.ensures.found value.count _ fits.2 limit.1)

pub returns-clause-found : goal.returns-clause-found
returns-clause-found c = λ value fits e.
    let items = c.in_ok-items.ensures.found 2 _ (omega arith) (e ∙ heads value) in
    let limit = c.in_ok-limit.ensures.found value.limit _ (omega arith) items.1 in
    let count = c.in_ok-count.ensures.found value.count _ fits.2 limit.1 in
    grind (arith, items, limit, count, fits)
