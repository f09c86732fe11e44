use Rattle.std.proofs.Common.{◌≡◌, ◌+◌, ◌*◌, ◌-◌, ◌<◌, ◌≤◌, List, [], ◌++◌, length, take, drop, Result, Ok, Err, refl, sym, ap, subst, ◌∙◌, arith, length-append, length-drop}
use Rattle.std.proofs.lemmas.List.{drop_all, take-append-le, length-take}
use Rattle.bp_blocks.specs.declared.block.Block.{Block}
use Rattle.bp_bundle.specs.declared.stage.Stage.TheVariants as stages
use Rattle.bp_bundle.specs.declared.stage.Begun.{Begun}
use Rattle.bp_bundle.specs.Tokens.{Cursor}
use Rattle.bp_bundle.specs.FirstFault.{past, block_of}
use Rattle.bp_bundle.specs.Step.{seen}
use Rattle.bp_bundle.specs.Machine.{resume, Follows, Waits}
use Rattle.bp_bundle.proofs.StepsFollow.{body_follows, body_waits, body_closes}
use Rattle.bp_bundle.proofs.steps.at_body.Goals as goal

pub returns-in-Ok : goal.returns-in-Ok
returns-in-Ok c =
    let bytes = c.args.here.rest.now in
    let block = c.args.block in
    let next = c.in-Ok.next in
    let small : length bytes + length block.body < block.header.len = omega (arith, c.if-here-wanted.true, c.len.ensures) in
    let fits : length block.body + length bytes ≤ block.header.len = omega arith in
    let follows = body_follows block next (seen c.args.here) c.in-Ok.ensures.begun c.in-Ok.ensures.header c.in-Ok.ensures.body fits in
    let end : Cursor = record { at = c.args.here.place + length bytes; rest = [] } in
    let there : seen c.past.result ≡ end = c.past.ensures ∙ ap (λ (xs : List _). record { at = c.args.here.place + length bytes; rest = xs }) (drop_all (length bytes) bytes (omega arith)) in
    let short : length next.body < next.header.len = omega (arith, ap (λ (xs : List _). length xs) c.in-Ok.ensures.body, length-append block.body bytes, ap (λ h. h.len) c.in-Ok.ensures.header) in
    let waits = body_waits next (c.args.here.place + length bytes) short in
    subst (λ (there : Cursor). Follows (stages.Body block) (seen c.args.here) (stages.Body next) there × Waits (stages.Body next) there) (sym there) (follows, waits)

pub returns-in-Ok-absorbed : goal.returns-in-Ok-absorbed
returns-in-Ok-absorbed c =
    let block = c.args.block in
    let bytes = c.args.here.rest.now in
    let wanted = block.header.len - c.len.result in
    let fits = block.within in
    let size : wanted + length block.body ≡ block.header.len = omega (arith, c.len.ensures) in
    let long : wanted ≤ length bytes = omega (arith, c.if-here-wanted.false) in
    let body = c.in-Ok-absorbed.ensures.body in
    let closing = c.closed.result in
    let begun = c.closed.ensures.begun ∙ c.in-Ok-absorbed.ensures.begun in
    let is : closing.block ≡ block_of block.header (block.body ++ take wanted bytes) = c.closed.ensures.block ∙ (ap (λ h. block_of h c.in-Ok-absorbed.next.body) c.in-Ok-absorbed.ensures.header ∙ ap (block_of block.header) body) in
    let follows = body_closes block closing (seen c.args.here) wanted size long begun is in
    let room = block.room in (
      subst (λ (there : Cursor). Follows (stages.Body block) (seen c.args.here) (stages.Tail closing) there) (sym c.past-in-Ok-absorbed.ensures) follows,
      omega (arith, ap (λ (b : Begun). length b.blocks) begun),
    )

pub returns-in-Err : goal.returns-in-Err
returns-in-Err c = c.out_of_memory.ensures _ _

pub returns-in-Err-absorbed : goal.returns-in-Err-absorbed
returns-in-Err-absorbed c = c.out_of_memory-in-Err-absorbed.ensures _ _
