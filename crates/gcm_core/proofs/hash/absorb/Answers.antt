use Rattle.std.proofs.Common.{◌≡◌, ◌-◌, ◌*◌, ◌/◌, ◌++◌, List, ℕ, length, take, drop, ap, ◌∙◌, subst, arith, take_all, length-drop}
use Rattle.gcm_core.specs.Hash.{Hashes, filled}
use Rattle.gcm_core.proofs.HashLemmas.{filled_apart}
use Rattle.gcm_core.proofs.hash.absorb.Goals as goal

pub returns : goal.returns
returns c = λ before held.
    let bytes = c.args.bytes.now in
    let n = length bytes / 256 * 256 in
    let rest : take (length bytes - n) (drop n bytes) ≡ drop n bytes =
    take_all (length bytes - n) (drop n bytes) (omega (arith, length-drop n bytes)) in
    let all = c.absorb_blocks-2.ensures (before ++ take n bytes) (c.absorb_groups-hash.ensures before held) in
    subst (λ (t : List ℕ). Hashes c.args.subkey.now t c.absorb_blocks-2.result)
    (ap (λ (t : List ℕ). (before ++ take n bytes) ++ filled t) rest ∙ filled_apart before bytes n (omega arith) (omega arith)) all
