use Rattle.std.proofs.Common.{◌≡◌, ◌%◌, ◌==◌, true, false, List, [], refl, sym, ◌∙◌, ap, subst}
use Rattle.bp_primary.specs.declared.primary.Primary.{Primary}
use Rattle.bp_blocks.specs.declared.block.Block.{Block}
use Rattle.bpsec_node.specs.Situation.{meaning}
use Rattle.bpsec_node.specs.Least.{is_cipher, read_those, least_broken, double_of}
use Rattle.bpsec_node.specs.Start.{first_covers, IsStartFault}
use Rattle.bpsec_node.specs.View.{Progress, situation}
use Rattle.bpsec_node.proofs.Began.{not_fragment, a_fragment, is_begin_fault, can_begin, fragment_fault, fault_is, no_fault}
use Rattle.bpsec_node.proofs.Starting.{kept_first}
use Rattle.bpsec_node.proofs.session.Session.begin.Goals as goal

pub returns-in-Err-clause-exact : goal.returns-in-Err-clause-exact
returns-in-Err-clause-exact g c =
    let whole = subst (λ (p : Primary). p.flags % 2 == 1 ≡ false) c.primary.ensures (not_fragment c.is_fragment.result c.primary.result.now.flags c.is_fragment.ensures.flag c.if-is_fragment.false) in
    is_begin_fault c.args.bundle c.in-Err.fault whole (subst (λ (b : List Block). IsStartFault b c.in-Err.fault) c.blocks-2.ensures.blocks c.in-Err.ensures.err)

pub invariant_of-result : goal.invariant_of-result
unfolding situation
invariant_of-result g c =
    let suite = meaning g.S.Suite.scope g.S.Suite.judged g.S.Suite.checked g.S.Suite.opened in
    let p : Progress = record { received = c.args.bundle; policy = c.args.policy.now; done = []; keys = [] } in
    let whole = subst (λ (p : Primary). p.flags % 2 == 1 ≡ false) c.primary.ensures (not_fragment c.is_fragment.result c.primary.result.now.flags c.is_fragment.ensures.flag c.if-is_fragment.false) in
    let begun = can_begin c.args.bundle whole
    (ap (λ (b : List Block). least_broken (read_those is_cipher b)) (sym c.blocks-2.ensures.blocks) ∙ c.in-Ok.ensures.readable)
    (ap (λ (b : List Block). double_of (first_covers b)) (sym c.blocks-2.ensures.blocks) ∙ c.in-Ok.ensures.once) in
    rw (c.new-in-Ok-copy.ensures, c.new-in-Ok-copy-2.ensures, c.new.ensures, c.new-in-Ok-copy-3.ensures, c.in-Ok-copy.ensures, c.in-Ok.ensures.held, c.in-Ok.ensures.sealed, c.in-Ok.ensures.open, c.in-Ok.ensures.ready, c.blocks-2.ensures.blocks)
    (record { keyed = refl; kept = kept_first (situation suite p) c.size-size.ensures.shape begun })

pub returns-in-Ok-copy-clause-exact : goal.returns-in-Ok-copy-clause-exact
returns-in-Ok-copy-clause-exact g c =
    let whole = subst (λ (p : Primary). p.flags % 2 == 1 ≡ false) c.primary.ensures (not_fragment c.is_fragment.result c.primary.result.now.flags c.is_fragment.ensures.flag c.if-is_fragment.false) in
    can_begin c.args.bundle whole
    (ap (λ (b : List Block). least_broken (read_those is_cipher b)) (sym c.blocks-2.ensures.blocks) ∙ c.in-Ok.ensures.readable)
    (ap (λ (b : List Block). double_of (first_covers b)) (sym c.blocks-2.ensures.blocks) ∙ c.in-Ok.ensures.once)

pub returns-in-Err-clause-fault : goal.returns-in-Err-clause-fault
returns-in-Err-clause-fault g c =
    let whole = subst (λ (p : Primary). p.flags % 2 == 1 ≡ false) c.primary.ensures (not_fragment c.is_fragment.result c.primary.result.now.flags c.is_fragment.ensures.flag c.if-is_fragment.false) in
    fault_is c.args.bundle c.in-Err.fault whole (subst (λ (b : List Block). IsStartFault b c.in-Err.fault) c.blocks-2.ensures.blocks c.in-Err.ensures.err)

pub returns-in-Ok-copy-clause-means : goal.returns-in-Ok-copy-clause-means
returns-in-Ok-copy-clause-means g c =
    let whole = subst (λ (p : Primary). p.flags % 2 == 1 ≡ false) c.primary.ensures (not_fragment c.is_fragment.result c.primary.result.now.flags c.is_fragment.ensures.flag c.if-is_fragment.false) in
    no_fault c.args.bundle whole
    (ap (λ (b : List Block). least_broken (read_those is_cipher b)) (sym c.blocks-2.ensures.blocks) ∙ c.in-Ok.ensures.readable)
    (ap (λ (b : List Block). double_of (first_covers b)) (sym c.blocks-2.ensures.blocks) ∙ c.in-Ok.ensures.once)

pub returns-then-is_fragment-clause-fault : goal.returns-then-is_fragment-clause-fault
returns-then-is_fragment-clause-fault g c =
    fragment_fault c.args.bundle (subst (λ (p : Primary). p.flags % 2 == 1 ≡ true) c.primary.ensures (a_fragment c.is_fragment.result c.primary.result.now.flags c.is_fragment.ensures.flag c.if-is_fragment.true))
