-- Bodies that confidentiality operations opened (RFC 9172, sections 3.8 and 5.1.1).
use Rattle.std.specs.Prelude.{ℕ, ◌==◌, ◌&&◌, Bool, true, false, not, if◌then◌else◌, List, map, find, filter, Option, Some, None}
use Rattle.bp_blocks.specs.declared.block.Block.{Block}
use Rattle.bp_bundle.specs.Shape.{Contents}
use Rattle.bpsec_asb.specs.declared.operation.OpId.{OpId}
use Rattle.bpsec_asb.specs.Known.{ciphers}
use Rattle.bpsec_context.specs.declared.judgement.Judgement.{Judgement}
use Rattle.bpsec_context.specs.declared.judgement.Judgement.TheVariants.{Right, Wrong, Misset}
use Rattle.bpsec_policy.specs.declared.rule.Role.{Role}
use Rattle.bpsec_policy.specs.declared.rule.Role.TheVariants as roles
use Rattle.bpsec_node.specs.Situation.{Situation}
use Rattle.bpsec_node.specs.Site.{block_at, site, role_over, judge_over, open_over}

-- ---- cover

-- a canonical block that isn't a block confidentiality block may be covered
abbrev pub may_be_covered : Option Block → Bool
may_be_covered None = false
may_be_covered (Some block) = not (block.kind == 12)

-- the bcb operations that cover a block
unfoldable pub covers : List Block → List OpId
covers blocks = filter (λ op. may_be_covered (block_at blocks op.target)) (ciphers blocks)

-- The operation that covers the block with a number. Where no block is covered twice, there is one at most.
unfoldable pub cover : List Block → ℕ → Option OpId
cover blocks number = find (λ op. op.target == number) (covers blocks)

-- ---- what is opened

abbrev pub is_acceptor : Role → Bool
is_acceptor roles.Acceptor = true
is_acceptor roles.Verifier = false
is_acceptor roles.None = false

abbrev pub is_right : Judgement → Bool
is_right Right = true
is_right Wrong = false
is_right (Misset reason) = false

-- The operation opens its target: the node accepts it, and it is judged Right on the received body.
unfoldable pub opens : Situation → OpId → Bool
opens s op =
    is_acceptor (role_over s.policy (site s.bundle op) op)
    && is_right (judge_over s.suite s.policy (site s.bundle op) op (s.key op))

abbrev pub is_opened_by : Situation → Option OpId → Bool
is_opened_by s None = false
is_opened_by s (Some op) = opens s op

-- the block with this number is covered, and was opened
unfoldable pub is_opened : Situation → ℕ → Bool
is_opened s number = is_opened_by s (cover s.bundle.blocks number)

-- ---- plain bodies

-- the opened body, where the operation that covers the block opens it, else the received body
abbrev pub plain_by : Situation → Block → Option OpId → List ℕ
plain_by s block None = block.body
plain_by s block (Some op) = if opens s op then open_over s.suite (site s.bundle op) op (s.key op) else block.body

unfoldable pub plain_body : Situation → Block → List ℕ
plain_body s block = plain_by s block (cover s.bundle.blocks block.number)

unfoldable pub plain_block : Situation → Block → Block
plain_block s block = record block { body = plain_body s block }

-- the received bundle with plain bodies
unfoldable pub plain : Situation → Contents
plain s = record s.bundle { blocks = map (plain_block s) s.bundle.blocks }
