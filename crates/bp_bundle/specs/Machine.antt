-- The streaming decoder's states, and what each still reads.
use Rattle.std.specs.Prelude.{◌≡◌, ◌≢◌, ℕ, ◌+◌, ◌-◌, ◌*◌, ◌<◌, List, ◌++◌, length, Result, Ok, Err}
use Rattle.cbor_profile.specs.declared.fault.Reason.TheVariants.{Truncated}
use Rattle.cbor_profile.specs.declared.fault.Fault.{Fault}
use Rattle.cbor_profile.specs.declared.fault.SpellError.{SpellError}
use Rattle.cbor_profile.specs.declared.fault.SpellError.TheVariants as errors
use Rattle.cbor_profile.specs.Step.{◌>>=◌}
use Rattle.bp_primary.specs.declared.primary.Primary.{Primary}
use Rattle.bp_blocks.specs.declared.block.Block.{Block}
use Rattle.bp_bundle.specs.Shape.{Contents}
use Rattle.bp_bundle.specs.Tokens.{Cursor}
use Rattle.bp_bundle.specs.FirstFault.{content_at, block_of, closed_at, blocks_at, bundle_at}
use Rattle.bp_bundle.specs.Step.{seen}
use Rattle.bp_bundle.specs.declared.stage.Begun.{Begun}
use Rattle.bp_bundle.specs.declared.stage.Stage.{Stage}
use Rattle.bp_bundle.specs.declared.stage.Stage.TheVariants.{Front, Header, Body, Tail, Done}
use Rattle.bp_bundle.specs.declared.stage.Step.{Step}
use Rattle.bp_bundle.specs.declared.stage.Step.TheVariants.{On, Last}
use Rattle.bp_bundle.specs.declared.stage.Outcome.{Outcome}
use Rattle.bp_bundle.specs.declared.stage.Outcome.TheVariants.{Wait, End, Stop}

-- so many bytes more
abbrev pub more_at : List ℕ → Cursor → Cursor
more_at more cursor = record { at = cursor.at; rest = cursor.rest ++ more }

-- the bundle of these blocks, and what follows it
abbrev pub with_primary : Primary → Result (List Block × Cursor) Fault → Result (Contents × Cursor) Fault
with_primary primary read = read >>= λ x. Ok (record { primary = primary; blocks = x.0 }, x.1)

-- the rest of a block after its body, and the blocks after it
unfoldable pub rest_at : Begun → Block → Cursor → Result (Contents × Cursor) Fault
rest_at begun block cursor = with_primary begun.primary (closed_at (blocks_at (64 - length begun.blocks)) begun.blocks block cursor)

-- what is read from here on, up to the end of the bundle
unfoldable pub resume : Stage → Cursor → Result (Contents × Cursor) Fault
resume Front cursor = bundle_at cursor
resume (Header begun) cursor = with_primary begun.primary (blocks_at (65 - length begun.blocks) begun.blocks cursor)
resume (Body opened) cursor = content_at (opened.header.len - length opened.body) cursor >>= λ x. rest_at opened.begun (block_of opened.header (opened.body ++ x.0)) x.1
resume (Tail closing) cursor = rest_at closing.begun closing.block cursor
resume (Done begun) cursor = Ok (record { primary = begun.primary; blocks = begun.blocks }, cursor)

-- how many steps there are at most to the end
abbrev pub steps_left : Stage → ℕ
steps_left Front = 200
steps_left (Header begun) = 3 * (65 - length begun.blocks)
steps_left (Body opened) = 3 * (65 - length opened.begun.blocks) - 1
steps_left (Tail closing) = 3 * (65 - length closing.begun.blocks) - 2
steps_left (Done begun) = 0

-- the same is read from there on, whatever bytes follow
pub record Follows (before : Stage) (at : Cursor) (after : Stage) (then : Cursor) : Type 0 where
  pub same : (more : List ℕ) → resume before (more_at more at) ≡ resume after (more_at more then)
  pub given : then.at + length then.rest ≡ at.at + length at.rest

-- the bundle is done, or its bytes end too early
abbrev pub Waits : Stage → Cursor → Type 0
Waits (Done begun) cursor = Unit {0}
Waits stage cursor = resume stage cursor ≡ Err (record { place = cursor.at + length cursor.rest; reason = Truncated })

-- it is the first fault, and stays so whatever bytes follow
abbrev pub StopsBy : SpellError → Stage → Cursor → Type 0
StopsBy errors.NoMemory stage cursor = Unit {0}
StopsBy (errors.Fault fault) stage cursor = (fault.reason ≢ Truncated) × ((more : List ℕ) → resume stage (more_at more cursor) ≡ Err fault)

-- what all steps over some bytes came to
abbrev pub Ran : Stage → Cursor → Outcome → Type 0
Ran stage cursor (Wait after then) =
    Follows stage cursor after (seen then)
    × (resume after (seen then) ≡ Err (record { place = then.place + length then.rest.now; reason = Truncated }))
Ran stage cursor (End begun then) = Follows stage cursor (Done begun) (seen then)
Ran stage cursor (Stop error) = StopsBy error stage cursor

-- what a step came to
abbrev pub Steps : Stage → Cursor → Step → Type 0
Steps stage cursor (On after then) = Follows stage cursor after (seen then) × (steps_left after < steps_left stage)
Steps stage cursor (Last outcome) = Ran stage cursor outcome
