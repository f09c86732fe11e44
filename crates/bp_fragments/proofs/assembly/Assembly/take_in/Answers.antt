use Rattle.std.proofs.Common.{ap, sym, ◌∙◌, arith}
use Rattle.bp_fragments.specs.Agreement.{Gathered}
use Rattle.bp_fragments.proofs.Adding.{accepted, same_total, long_after}
use Rattle.bp_fragments.proofs.assembly.Assembly.take_in.Goals as goal

pub keep_payload-requires-clause-same : goal.keep_payload-requires-clause-same
keep_payload-requires-clause-same c = λ own there.
    let free = accepted c.args.self.now c.args.part.primary c.args.part.frame c.args.part.body c.requires in
    rw c.piece_of-piece.ensures (same_total c.args.self.now.primary c.args.part.primary free.bundle own (ap (λ (g : Gathered). g.primary) (sym c.self.view_is) ∙ there))

pub keep_payload-requires-clause-within : goal.keep_payload-requires-clause-within
keep_payload-requires-clause-within c =
    let free = accepted c.args.self.now c.args.part.primary c.args.part.frame c.args.part.body c.requires in
    rw (c.piece_of-piece.ensures, c.as_slice.ensures) free.within

pub invariant_of-self-2 : goal.invariant_of-self-2
invariant_of-self-2 c =
    let free = accepted c.args.self.now c.args.part.primary c.args.part.frame c.args.part.body c.requires in
    let few = free.few in
    let count = ap (λ (g : Gathered). g.count) c.self.view_is in (
      long_after c.self.inside.primary c.keep_primary.new.first c.args.part.primary c.piece_of-piece.result c.self.inside.payload _ _ c.keep_primary.ensures c.piece_of-piece.ensures c.self.invariant.0
          (λ own there. same_total c.args.self.now.primary c.args.part.primary free.bundle own (ap (λ (g : Gathered). g.primary) (sym c.self.view_is) ∙ there)) c.in-Ok.ensures.ok,
      omega arith,
    )
