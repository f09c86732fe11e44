-- The shapes of a command's work: what is fetched and read, and what is answered to that. How much is
-- taken of the input is part of a shape.
use Rattle.std.specs.Prelude.{ℕ, ◌*◌, slice_index_or, Bool, true, false, List, [], Result, Ok, Err}
use Rattle.cbor_profile.specs.declared.fault.Fault.{Fault}
use Rattle.bp_bundle.specs.Shape.{Contents}
use Rattle.bp_bundle.specs.FirstFault.{read_only}
use Rattle.bp_bundle.specs.WholeInput.{most_taken}
use Rattle.bp_bundle.specs.BackToBack.{most_for_one}
use Rattle.bp_text.specs.declared.fault.TextFault.{TextFault}
use Rattle.bpsec_policy.specs.RingText.{ring_of}
use Rattle.bpsec_policy.specs.declared.ring.NamedKey.{NamedKey}
use Rattle.bpsec_answer.specs.declared.answer.Answer.{Answer}
use Rattle.bpsec_answer.specs.declared.status.Status.{Status}
use Rattle.bpsec_answer.specs.declared.status.Status.TheVariants.{RingRefused}
use Rattle.bpsec_answer.specs.Lines.{refused}
use Rattle.bpsec_answer.specs.Job.{Job, Answered, Fetch, Read}
use Rattle.bpsec_jobs.specs.Refusals.{bundle_refused}

-- ---- what is taken of the input

-- nothing; a bundle and the end of the input; or fragments, back to back
pub data Intake : Type 0 where
  Nothing : Intake
  OneBundle : Intake
  Fragments : Intake

-- whether the input is read to its end
abbrev pub reads : Intake → Bool
reads Nothing = false
reads OneBundle = true
reads Fragments = true

-- how many bytes are taken of it at most
abbrev pub most_of : Intake → ℕ
most_of Nothing = 0
most_of OneBundle = most_taken
most_of Fragments = 257 * most_for_one

-- the work of a command: what it takes, and what is done in order, where these are the words
pub record Work : Type 0 where
  pub takes : Intake
  pub job : List (List ℕ) → Job

-- ---- the files that words name

-- the word at a place of a line
abbrev pub word_at : ℕ → List (List ℕ) → List ℕ
word_at place words = slice_index_or words place []

-- a text is named by the third word
abbrev pub text_name : List (List ℕ) → List ℕ
text_name words = word_at 2 words

-- and a key ring by the fifth
abbrev pub ring_name : List (List ℕ) → List ℕ
ring_name words = word_at 4 words

-- ---- what comes after a text, and after the input

-- what comes after the text that the bytes of a file are, else its refusal
abbrev pub text_then : {T : Type 0} → (TextFault → Status) → (T → Job) → Result T TextFault → Job
text_then ends next (Ok text) = next text
text_then ends next (Err fault) = Answered (refused (ends fault))

-- a file fetched, and then read as a text
abbrev pub with_text : {T : Type 0} → (List ℕ → Result T TextFault) → (TextFault → Status) → List ℕ
    → (T → Job) → Job
with_text read ends name next = Fetch name (λ content. text_then ends next (read content))

-- a key ring fetched, and then read
abbrev pub with_ring : List ℕ → (List NamedKey → Job) → Job
with_ring name next = with_text ring_of RingRefused name next

-- the answer to the bundle that the input is, else its first fault
abbrev pub on_bundle : (Contents → Answer) → Result Contents Fault → Answer
on_bundle answer (Ok bundle) = answer bundle
on_bundle answer (Err fault) = bundle_refused fault

-- the input read as a bundle
abbrev pub with_bundle : (Contents → Answer) → Job
with_bundle answer = Read (λ input. Answered (on_bundle answer (read_only input)))

-- ---- the shapes

-- on a bundle
abbrev pub of_bundle : (Contents → Answer) → Work
of_bundle answer = record { takes = OneBundle; job = λ _. with_bundle answer }

-- on a text alone
abbrev pub of_text : {T : Type 0} → (List ℕ → Result T TextFault) → (TextFault → Status)
    → (T → Answer) → Work
of_text read ends answer = record {
  takes = Nothing;
  job = λ words. with_text read ends (text_name words) (λ text. Answered (answer text));
}

-- on a text and a key ring
abbrev pub of_text_and_ring_alone : {T : Type 0} → (List ℕ → Result T TextFault)
    → (TextFault → Status) → (T → List NamedKey → Answer) → Work
of_text_and_ring_alone read ends answer = record {
  takes = Nothing;
  job = λ words. with_text read ends (text_name words)
      (λ text. with_ring (ring_name words) (λ ring. Answered (answer text ring)));
}

-- on a text, a key ring and a bundle
abbrev pub of_text_and_ring : {T : Type 0} → (List ℕ → Result T TextFault) → (TextFault → Status)
    → (T → List NamedKey → Contents → Answer) → Work
of_text_and_ring read ends answer = record {
  takes = OneBundle;
  job = λ words. with_text read ends (text_name words)
      (λ text. with_ring (ring_name words) (λ ring. with_bundle (answer text ring)));
}

-- on the fragments of the input
abbrev pub of_fragments : (List ℕ → Answer) → Work
of_fragments answer = record {
  takes = Fragments;
  job = λ _. Read (λ input. Answered (answer input));
}
