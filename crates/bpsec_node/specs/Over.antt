-- What the values of `Over` stand for.
use Rattle.std.specs.Prelude.{◌≡◌, ℕ, ◌^◌, ◌≤◌, ◌&&◌, Bool, false, if◌then◌else◌, List, Option, Some, None, Ok, length}
use Rattle.std.specs.Option.{option_copied, ForSome}
use Rattle.bp_blocks.specs.declared.block.Block.{Block}
use Rattle.bpsec_asb.specs.Reading.{read_body}
use Rattle.bpsec_policy.specs.Rules as policies
use Rattle.bpsec_node.specs.declared.event.Verdict.{Verdict}
use Rattle.bpsec_node.specs.declared.over.Over.{Over}
use Rattle.bpsec_node.specs.Situation.{Meaning}
use Rattle.bpsec_node.specs.Site.{Site, kind_at, role_over, judge_over, open_over}
use Rattle.bpsec_node.specs.Plain.{is_acceptor, is_right}
use Rattle.bpsec_node.specs.Verdict.{table}

abbrev pub target_in : Over → Option Block
target_in over = option_copied over.target

abbrev pub site_in : Over → Site
site_in over = record { primary = over.primary.now; security = Some over.security.now; target = target_in over }

-- The security block is the one that was read, and the target's body is no longer than a bundle.
abbrev pub IsRead : Over → Type 0
IsRead over = read_body over.security.now.body ≡ Ok over.asb.now

abbrev pub IsSmall : Over → Type 0
IsSmall over = ForSome (target_in over) (λ block. length block.body ≤ 2 ^ 32)

-- the verdict of a step
abbrev pub verdict_over : Meaning → policies.Parts → Over → Bool → Option (List ℕ) → Verdict
verdict_over suite policy over blocked key =
    table (role_over policy (site_in over) over.op) (kind_at over.op.target (target_in over)) over.op.service false blocked
    (judge_over suite policy (site_in over) over.op key)

-- the opened body, where the operation opens its target
abbrev pub opened_over : Meaning → policies.Parts → Over → Option (List ℕ) → Option (List ℕ)
opened_over suite policy over key =
    if is_acceptor (role_over policy (site_in over) over.op) && is_right (judge_over suite policy (site_in over) over.op key)
    then Some (open_over suite (site_in over) over.op key) else None

abbrev pub type_of : Option Block → ℕ
type_of None = 0
type_of (Some block) = block.kind
