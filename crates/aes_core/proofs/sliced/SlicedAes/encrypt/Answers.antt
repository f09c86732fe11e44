use Rattle.std.proofs.Common.{◌+◌, ap, ◌∙◌, arith}
use Rattle.aes_core.specs.KeyExpansion.{key_expansion}
use Rattle.aes_core.specs.Cipher.{cipher, encryption}
use Rattle.aes_core.specs.Sliced.{AreRoundKeys}
use Rattle.aes_core.proofs.SlicedLemmas.{eight_mapped}
use Rattle.aes_core.proofs.sliced.SlicedAes.encrypt.Goals as goal

pub returns-clause-key : goal.returns-clause-key
returns-clause-key g c = rw c.self.view_is at c.self.invariant.0

pub returns-clause-encrypted : goal.returns-clause-encrypted
unfolding cipher
returns-clause-encrypted g c =
    let nk = g.row.NK in
    let key = c.args.self.now in
    let are : AreRoundKeys (key_expansion nk key) (nk + 7) c.self.inside.round_keys = rw c.self.view_is at c.self.invariant.1 in
    eight_mapped (cipher nk key) c.scattered.result c.args.blocks.now c.scattered.ensures.eight (omega arith)
    (λ j lt.
    c.scattered.ensures.blocks j lt ∙ c.encryption.ensures (key_expansion nk key) (λ i h. are i (omega arith)) j lt
    ∙ ap (encryption (key_expansion nk key) (nk + 6)) (c.gathered.ensures j lt))
