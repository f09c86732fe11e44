-- The order of operations.
use Rattle.std.specs.Prelude.{ℕ}
use Rattle.std.specs.declared.cmp.Ordering.{Ordering}
use Rattle.std.specs.Ordering.{nat_cmp, on, then_cmp}
use Rattle.bpsec_asb.specs.declared.operation.Service.{Service}
use Rattle.bpsec_asb.specs.declared.operation.Service.TheVariants.{Bib, Bcb}
use Rattle.bpsec_asb.specs.declared.operation.OpId.{OpId}

-- bib before bcb
abbrev pub rank : Service → ℕ
rank Bib = 0
rank Bcb = 1

-- service, block, target
abbrev pub op_cmp : OpId → OpId → Ordering
op_cmp = then_cmp (on (λ op. rank op.service) nat_cmp) (then_cmp (on (λ op. op.block) nat_cmp) (on (λ op. op.target) nat_cmp))
