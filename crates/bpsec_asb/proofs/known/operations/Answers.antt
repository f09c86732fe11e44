use Rattle.std.proofs.Common.{refl, ◌∙◌, ap, ◌≡◌, List}
use Rattle.std.specs.Prelude.{All, Contains, fold}
use Rattle.std.specs.List.Sorted.{IsStrictlySortedBy}
use Rattle.std.specs.BTreeSet.{insert_key}
use Rattle.bpsec_asb.specs.declared.operation.OpId.{OpId}
use Rattle.bpsec_asb.specs.Operations.{IsKnown}
use Rattle.bpsec_asb.specs.Order.{op_cmp}
use Rattle.bpsec_asb.specs.Known.{ciphers, in_order, known}
use Rattle.bpsec_asb.proofs.KnownSet.{Held}
use Rattle.bpsec_asb.proofs.KnownList.{known_means, known_found, known_ordered, is_known, is_held, if_known}
use Rattle.bpsec_asb.proofs.known.operations.Goals as goal

pub returns-clause-exact : goal.returns-clause-exact
returns-clause-exact c =
    let first : c.add_ciphers.new.ops.keys ≡ in_order (ciphers c.args.blocks.now) = c.in_ok-add_ciphers.ensures.keys ∙ ap (λ (l : List OpId). fold (insert_key op_cmp) l (ciphers c.args.blocks.now)) c.new-ops.ensures.empty in
    let same = is_known c.args.blocks.now c.in_ok-targeted.targeted c.add_ciphers.new.ops.keys c.add_visible.new.ops.keys first c.in_ok-targeted.ensures c.in_ok-add_visible.ensures.keys in
    if_known (λ ops. ops ≡ known c.args.blocks.now) c.listed.result c.add_visible.new.ops.keys (known c.args.blocks.now) c.listed.ensures same refl

pub returns-clause-means : goal.returns-clause-means
returns-clause-means c =
    let first : c.add_ciphers.new.ops.keys ≡ in_order (ciphers c.args.blocks.now) = c.in_ok-add_ciphers.ensures.keys ∙ ap (λ (l : List OpId). fold (insert_key op_cmp) l (ciphers c.args.blocks.now)) c.new-ops.ensures.empty in
    let same = is_known c.args.blocks.now c.in_ok-targeted.targeted c.add_ciphers.new.ops.keys c.add_visible.new.ops.keys first c.in_ok-targeted.ensures c.in_ok-add_visible.ensures.keys in
    let held : Held c.args.blocks.now = is_held c.args.blocks.now c.in_ok-targeted.targeted c.add_ciphers.new.ops.keys first c.in_ok-targeted.ensures c.in_ok-add_ciphers.ensures.held c.in_ok-add_visible.ensures.held in
    if_known (All (IsKnown c.args.blocks.now)) c.listed.result c.add_visible.new.ops.keys (known c.args.blocks.now) c.listed.ensures same (known_means c.args.blocks.now c.requires held)

pub returns-clause-found : goal.returns-clause-found
returns-clause-found c =
    let first : c.add_ciphers.new.ops.keys ≡ in_order (ciphers c.args.blocks.now) = c.in_ok-add_ciphers.ensures.keys ∙ ap (λ (l : List OpId). fold (insert_key op_cmp) l (ciphers c.args.blocks.now)) c.new-ops.ensures.empty in
    let same = is_known c.args.blocks.now c.in_ok-targeted.targeted c.add_ciphers.new.ops.keys c.add_visible.new.ops.keys first c.in_ok-targeted.ensures c.in_ok-add_visible.ensures.keys in
    if_known (λ ops. (op : OpId) → IsKnown c.args.blocks.now op → Contains ops op) c.listed.result c.add_visible.new.ops.keys (known c.args.blocks.now) c.listed.ensures same
    (λ op is. known_found c.args.blocks.now op c.in_ok-add_ciphers.ensures.held is)

pub returns-clause-ordered : goal.returns-clause-ordered
returns-clause-ordered c =
    let first : c.add_ciphers.new.ops.keys ≡ in_order (ciphers c.args.blocks.now) = c.in_ok-add_ciphers.ensures.keys ∙ ap (λ (l : List OpId). fold (insert_key op_cmp) l (ciphers c.args.blocks.now)) c.new-ops.ensures.empty in
    let same = is_known c.args.blocks.now c.in_ok-targeted.targeted c.add_ciphers.new.ops.keys c.add_visible.new.ops.keys first c.in_ok-targeted.ensures c.in_ok-add_visible.ensures.keys in
    if_known (IsStrictlySortedBy op_cmp) c.listed.result c.add_visible.new.ops.keys (known c.args.blocks.now) c.listed.ensures same (known_ordered c.args.blocks.now)
