-- The work of a run as data: what is fetched and read, in which order, and what is answered to that.
use Rattle.std.specs.Prelude.{ℕ, List}
use Rattle.bpsec_answer.specs.declared.answer.Answer.{Answer}

-- An answer, or the fetch of a file and what comes after its content is known, or the same of the whole
-- input.
pub data Job : Type 0 where
  Answered : Answer → Job
  Fetch : List ℕ → (List ℕ → Job) → Job
  Read : (List ℕ → Job) → Job

-- all that can be told: the content of each name, and the input
pub record World : Type 0 where
  pub files : List ℕ → List ℕ
  pub input : List ℕ

-- what the work answers in this world
abbrev pub answered : World → Job → Answer
answered world (Answered answer) = answer
answered world (Fetch name next) = answered world (next (world.files name))
answered world (Read next) = answered world (next world.input)
