use Rattle.std.proofs.Common.{rules}
use Rattle.std.specs.Prelude.{not}
use Rattle.std.proofs.lemmas.Fn.{filter_same}
use Rattle.bpsec_node.specs.Situation.{is_op}
use Rattle.bpsec_node.proofs.lists.ops_without.Goals as goal

pub returns : goal.returns
returns c = filter_same _ (λ other. not (is_op c.args.op other)) _ (λ x b f' k. search rules) _ _ c.retain.ensures.filtered
