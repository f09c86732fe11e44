use Rattle.std.proofs.Common.{◌∙◌, sym, ap, arith}
use Rattle.cbor_profile.specs.Head.{read_head}
use Rattle.cbor_profile.proofs.Heads.{read-spelling, read-means, IfWhole_from}
use Rattle.cbor_profile.proofs.head.head_at.Goals as goal

pub returns-clause-whole : goal.returns-clause-whole
returns-clause-whole c = IfWhole_from c.read.result _ (λ head len is. read-means c.args.bytes.now head len (λ i. omega (arith, c.type_inv.bytes i)) (sym c.read.ensures ∙ is))

pub returns-clause-found : goal.returns-clause-found
returns-clause-found c = λ head rest h is. c.read.ensures ∙ (ap read_head is ∙ read-spelling head rest h)
