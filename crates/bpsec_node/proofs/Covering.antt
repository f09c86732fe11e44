-- Whether an operation covers a block.
use Rattle.std.proofs.Common.{◌≡◌, false, not, ◌&&◌, List, sym, ap}
use Rattle.bpsec_asb.specs.declared.operation.Service.{Service}
use Rattle.bpsec_asb.specs.declared.operation.Service.TheVariants.{Bib, Bcb}
use Rattle.bpsec_asb.specs.declared.operation.OpId.{OpId}
use Rattle.bpsec_node.specs.Situation.{Situation}
use Rattle.bpsec_node.specs.Verdict.{is_bib}
use Rattle.bpsec_node.specs.Order.{is_free}
use Rattle.bpsec_node.specs.Session.{is_covering}

pub bib_covering : (s : Situation) (done : List OpId) (op : OpId) → op.service ≡ Bib → false ≡ is_covering s done op
unfolding is_covering
bib_covering s done op service = ap (λ (v : Service). not (is_bib v) && not (is_free s.bundle.blocks done op.target)) (sym service)

pub bcb_covering : (s : Situation) (done : List OpId) (op : OpId) → op.service ≡ Bcb → not (is_free s.bundle.blocks done op.target) ≡ is_covering s done op
unfolding is_covering
bcb_covering s done op service = ap (λ (v : Service). not (is_bib v) && not (is_free s.bundle.blocks done op.target)) (sym service)
