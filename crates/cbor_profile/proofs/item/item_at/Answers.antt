use Rattle.std.proofs.Common.{◌∙◌, ap, arith}
use Rattle.cbor_profile.specs.Item.{read_item}
use Rattle.cbor_profile.proofs.ItemGrammar.{item_read_again, item_read_means}
use Rattle.cbor_profile.proofs.item.item_at.Goals as goal

pub returns-clause-whole : goal.returns-clause-whole
returns-clause-whole c = item_read_means c.args.bytes.now c.read.result (λ i. omega (arith, c.type_inv.bytes i)) c.read.ensures

pub returns-clause-found : goal.returns-clause-found
returns-clause-found c = λ item rest h is. c.read.ensures ∙ (ap read_item is ∙ item_read_again item rest h)
