-- Refusals that several jobs have.
use Rattle.std.specs.Prelude.{ℕ, Option}
use Rattle.cbor_profile.specs.declared.fault.Fault.{Fault}
use Rattle.bpsec_answer.specs.declared.answer.Answer.{Answer}
use Rattle.bpsec_answer.specs.declared.status.PiecesReason.{PiecesReason}
use Rattle.bpsec_answer.specs.declared.status.Status.TheVariants.{BundleRefused, PiecesRefused}
use Rattle.bpsec_answer.specs.declared.status.Refused.TheVariants as refusals
use Rattle.bpsec_answer.specs.Lines.{refused}

-- an input that is no bundle
abbrev pub bundle_refused : Fault → Answer
bundle_refused fault = refused (BundleRefused (refusals.Fault fault))

-- fragments that aren't made or joined
abbrev pub pieces_refused : PiecesReason → Option ℕ → Answer
pieces_refused reason at = refused (PiecesRefused reason at)
