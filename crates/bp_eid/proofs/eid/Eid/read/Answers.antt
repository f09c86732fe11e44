use Rattle.std.proofs.Common.{arith}
use Rattle.bp_eid.proofs.Tokens.{TokenLaws}
use Rattle.bp_eid.proofs.Read.{is_found, is_read}
use Rattle.bp_eid.proofs.eid.Eid.read.Goals as goal

pub returns-clause-means : goal.returns-clause-means
returns-clause-means c =
    let laws : TokenLaws = record { again = c.tokens_are_read_as_spelled.ensures.again; means = c.tokens_are_read_as_spelled.ensures.means } in
    is_found laws c.args.bytes.now c.front.result (λ i. omega (arith, c.type_inv.bytes i)) c.front.ensures

pub returns-clause-found : goal.returns-clause-found
returns-clause-found c = λ eid rest fits parts.
    let laws : TokenLaws = record { again = c.tokens_are_read_as_spelled.ensures.again; means = c.tokens_are_read_as_spelled.ensures.means } in
    is_read laws c.args.bytes.now c.front.result eid rest c.front.ensures fits parts
