-- What joining the fragments of an input answers.
use Rattle.std.specs.Prelude.{ℕ, zero, suc, ◌+◌, List, [], ◌∷◌, ◌++◌, length}
use Rattle.std.specs.Prelude.{Option, Some, None, Result, Ok, Err}
use Rattle.cbor_profile.specs.declared.fault.Fault.{Fault}
use Rattle.cbor_profile.specs.declared.fault.Reason.TheVariants.{Truncated}
use Rattle.bp_bundle.specs.Shape.{Contents}
use Rattle.bp_bundle.specs.Spelling.{spelling}
use Rattle.bp_bundle.specs.BackToBack.{next_of}
use Rattle.bp_fragments.specs.declared.fault.AddFault.{AddFault}
use Rattle.bp_fragments.specs.declared.fault.AddFault.TheVariants as adds
use Rattle.bp_fragments.specs.declared.fault.FinishFault.{FinishFault}
use Rattle.bp_fragments.specs.declared.fault.FinishFault.TheVariants as ends
use Rattle.bp_fragments.specs.Agreement.{refusal}
use Rattle.bp_fragments.specs.Joined.{joined}
use Rattle.bpsec_answer.specs.declared.answer.Answer.{Answer}
use Rattle.bpsec_answer.specs.declared.status.PiecesReason.TheVariants as pieces
use Rattle.bpsec_answer.specs.Lines.{memory_fault}
use Rattle.bpsec_jobs.specs.Refusals.{bundle_refused, pieces_refused}
use Rattle.bpsec_jobs.specs.Done.{built}

-- why a fragment isn't added
abbrev pub add_refused : AddFault → Answer
add_refused adds.NotFragment = pieces_refused pieces.NotFragment None
add_refused adds.OtherBundle = pieces_refused pieces.OtherBundle None
add_refused adds.PastTotal = pieces_refused pieces.PastTotal None
add_refused adds.OverLimit = pieces_refused pieces.OverLimit None
add_refused adds.OtherBlocks = pieces_refused pieces.OtherBlocks None
add_refused (adds.Disagree place kept given) = pieces_refused pieces.Disagree (Some place)
add_refused adds.TooMany = pieces_refused pieces.TooMany None
add_refused adds.NoMemory = memory_fault

-- Why fragments aren't joined. Where there is none, the input has no byte: it ends too early.
abbrev pub join_refused : FinishFault → Answer
join_refused ends.Empty = bundle_refused (record { place = 0; reason = Truncated })
join_refused (ends.Gap place) = pieces_refused pieces.Gap (Some place)
join_refused ends.TooLong = pieces_refused pieces.TooLong None
join_refused ends.NoMemory = memory_fault

abbrev pub joined_answer : Result Contents FinishFault → Answer
joined_answer (Ok bundle) = built bundle
joined_answer (Err fault) = join_refused fault

abbrev pub unless_add_fault : Option AddFault → Answer → Answer
unless_add_fault None answer = answer
unless_add_fault (Some fault) answer = add_refused fault

-- after these fragments: the first fault, or at the end of the input the fragments joined, or the next,
-- if it may be added
abbrev pub on_next : List Contents → (Contents → List ℕ → Answer)
    → Result (Option (Contents × List ℕ)) Fault → Answer
on_next before next (Err fault) = bundle_refused fault
on_next before next (Ok None) = joined_answer (joined before)
on_next before next (Ok (Some x)) = unless_add_fault (refusal before x.0) (next x.0 x.1)

-- The bytes from this place of the input on, after these fragments: each bundle is read and then added
-- before the next is read, and so many are read at most.
unfoldable pub gathering : ℕ → ℕ → List Contents → List ℕ → Answer
gathering zero place before bytes = pieces_refused pieces.TooMany None
gathering (suc more) place before bytes =
    on_next before
    (λ piece rest. gathering more (place + length (spelling piece)) (before ++ piece ∷ []) rest)
    (next_of place bytes)

-- A 257th fragment isn't added, so 257 are read at most.
abbrev pub reassembled : List ℕ → Answer
reassembled bytes = gathering 257 0 [] bytes
