use Rattle.bpsec_node.proofs.Known.{cover_means, cover_none, cover_only, visible_none}
use Rattle.bpsec_node.proofs.laws.covers_are_found.Goals as goal

pub returns-clause-means : goal.returns-clause-means
returns-clause-means c = λ blocks number op small is. cover_means blocks number op small is

pub returns-clause-found : goal.returns-clause-found
returns-clause-found c = λ bundle number is none. cover_none bundle.blocks number is.distinct none

pub returns-clause-only : goal.returns-clause-only
returns-clause-only c = λ bundle number op is can held covered. cover_only bundle.blocks number op is.distinct can.once held covered

pub returns-clause-none : goal.returns-clause-none
returns-clause-none c = λ blocks number small visible. visible_none blocks number small visible
