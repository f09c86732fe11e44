-- What the program answers: a plain function of its words, its files and its input.
use Rattle.std.specs.Prelude.{ℕ, List, Result, Ok, Err}
use Rattle.bpsec_answer.specs.declared.answer.Answer.{Answer}
use Rattle.bpsec_answer.specs.declared.status.Status.TheVariants.{Usage}
use Rattle.bpsec_answer.specs.Lines.{refused}
use Rattle.bpsec_answer.specs.Job.{Job, Answered, World, answered}
use Rattle.bpsec_command.specs.declared.command.Command.{Command}
use Rattle.bpsec_command.specs.Commands.{work_of}
use Rattle.bpsec_command.specs.Grammar.{command_of}

-- what a command does where these are the words; words that are no line are refused, with the faulty one
abbrev pub job_in : Result Command ℕ → List (List ℕ) → Job
job_in (Ok command) words = (work_of command).job words
job_in (Err word) words = Answered (refused (Usage word))

-- the work that the words ask for
abbrev pub job : List (List ℕ) → Job
job words = job_in (command_of words) words

-- the answer to the words in this world
abbrev pub answer : List (List ℕ) → World → Answer
answer words world = answered world (job words)
