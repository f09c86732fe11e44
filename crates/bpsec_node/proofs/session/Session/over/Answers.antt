use Rattle.std.proofs.Common.{◌≡◌, true, false, ◌&&◌, List, sym, ◌∙◌, ap, subst}
use Rattle.std.specs.Prelude.{is_some, option_map, Contains}
use Rattle.bp_primary.specs.declared.primary.Primary.{Primary}
use Rattle.bp_blocks.specs.declared.block.Block.{Block}
use Rattle.bpsec_node.specs.declared.held.Held.{Held}
use Rattle.bpsec_node.specs.Situation.{meaning}
use Rattle.bpsec_node.specs.Site.{Site, block_at, site}
use Rattle.bpsec_node.specs.Order.{ready}
use Rattle.bpsec_node.specs.Session.{find_held}
use Rattle.bpsec_node.specs.View.{Progress, situation}
use Rattle.bpsec_node.specs.Change.{is_readable}
use Rattle.bpsec_node.proofs.Overs.{over_found, over_read, over_site, over_small}
use Rattle.bpsec_node.proofs.session.Session.over.Goals as goal

pub unreachable-requires : goal.unreachable-requires
unfolding situation
unreachable-requires g c =
    let there = subst (λ (p : Progress). Contains (ready (situation (meaning g.S.Suite.scope g.S.Suite.judged g.S.Suite.checked g.S.Suite.opened) p) p.done) c.args.op) (sym c.self.view_is) c.requires in
    let f = over_found _ _ _ _ _ _ _ _ _ c.self.invariant.kept c.args.op there in
    let e : false ≡ true = c.in-None.ensures.exact
    ∙ (ap (λ (blocks : List Block). is_some (block_at blocks c.args.op.block) && is_readable (find_held c.items.result.now c.args.op.block)) c.blocks-2.ensures.blocks
    ∙ (ap (λ (held : List Held). is_some (block_at c.self.inside.shown.blocks c.args.op.block) && is_readable (find_held held c.args.op.block)) c.items.ensures ∙ f)) in
    absurd cc

pub returns-clause-site : goal.returns-clause-site
unfolding situation site
returns-clause-site g c =
    let there = subst (λ (p : Progress). Contains (ready (situation (meaning g.S.Suite.scope g.S.Suite.judged g.S.Suite.checked g.S.Suite.opened) p) p.done) c.args.op) (sym c.self.view_is) c.requires in
    rw (← c.self.view_is)
    (c.in-Some.ensures.site
    ∙ (ap (λ (p : Primary). record { primary = p; security = block_at c.blocks-2.result.now c.args.op.block; target = block_at c.blocks-2.result.now c.args.op.target }) c.primary.ensures
    ∙ (ap (λ (b : List Block). record { primary = c.self.inside.shown.primary; security = block_at b c.args.op.block; target = block_at b c.args.op.target }) c.blocks-2.ensures.blocks
    ∙ over_site _ _ _ _ _ _ _ _ _ c.self.invariant.kept c.args.op there)))

pub returns-clause-read : goal.returns-clause-read
unfolding situation
returns-clause-read g c =
    let there = subst (λ (p : Progress). Contains (ready (situation (meaning g.S.Suite.scope g.S.Suite.judged g.S.Suite.checked g.S.Suite.opened) p) p.done) c.args.op) (sym c.self.view_is) c.requires in
    over_read _ _ _ _ _ _ _ _ _ c.self.invariant.kept c.args.op there c.in-Some.over.security.now c.in-Some.over.asb.now
    (sym (ap (λ (b : List Block). block_at b c.args.op.block) c.blocks-2.ensures.blocks) ∙ sym (ap (λ (x : Site). x.security) c.in-Some.ensures.site))
    (sym (ap (λ (h : List Held). option_map (λ (one : Held). one.read) (find_held h c.args.op.block)) c.items.ensures) ∙ c.in-Some.ensures.read)

pub returns-clause-small : goal.returns-clause-small
unfolding situation
returns-clause-small g c = λ block is.
    let there = subst (λ (p : Progress). Contains (ready (situation (meaning g.S.Suite.scope g.S.Suite.judged g.S.Suite.checked g.S.Suite.opened) p) p.done) c.args.op) (sym c.self.view_is) c.requires in
    over_small _ _ _ _ _ _ _ _ _ c.self.invariant.kept c.args.op there block
    (sym (ap (λ (b : List Block). block_at b c.args.op.target) c.blocks-2.ensures.blocks) ∙ (sym (ap (λ (x : Site). x.target) c.in-Some.ensures.site) ∙ is))
