-- What the program says of itself.
use Rattle.std.specs.Prelude.{ℕ, List, [], ◌∷◌, codes}
use Rattle.std.specs.List.{flat_map}
use Rattle.bpsec_answer.specs.declared.answer.Answer.{Answer}
use Rattle.bpsec_answer.specs.declared.status.Status.TheVariants.{Done}
use Rattle.bpsec_answer.specs.Job.{Answered}
use Rattle.bpsec_answer.specs.Lines.{line}
use Rattle.bpsec_jobs.specs.Work.{Work, Nothing}

-- lines for the output, and nothing for the report
abbrev pub said : List (List ℕ) → Answer
said lines = record { status = Done; out = flat_map line lines; report = [] }

-- on nothing: no file is fetched, and the input isn't read
abbrev pub of_nothing : List (List ℕ) → Work
of_nothing lines = record { takes = Nothing; job = λ _. Answered (said lines) }

-- `--help`: each line of the grammar, and what it is for
unfoldable pub help : List (List ℕ)
help =
    codes "bpsec: bundle protocol security (RFC 9172, RFC 9173) over BPv7 bundles (RFC 9171)"
    ∷ codes ""
    ∷ codes "bpsec check < BUNDLE"
    ∷ codes "    whether the input is a bundle"
    ∷ codes "bpsec explain < BUNDLE"
    ∷ codes "    the bundle in lines"
    ∷ codes "bpsec build --text FILE > BUNDLE"
    ∷ codes "    the bundle of a text"
    ∷ codes "bpsec upgrade --policy FILE > FILE"
    ∷ codes "    an old policy as a new one"
    ∷ codes "bpsec secure --plan FILE --keys FILE < BUNDLE > BUNDLE"
    ∷ codes "    sign and encrypt its blocks by a plan"
    ∷ codes "bpsec fragment --size N < BUNDLE > BUNDLES"
    ∷ codes "    cut it, N bytes of payload each"
    ∷ codes "bpsec reassemble < BUNDLES > BUNDLE"
    ∷ codes "    join fragments"
    ∷ codes "bpsec node --policy FILE --keys FILE --order N < BUNDLE > BUNDLE"
    ∷ codes "    what a node makes of it"
    ∷ codes "bpsec status --policy FILE --keys FILE --order N --time N --sequence N < BUNDLE > BUNDLE"
    ∷ codes "    the status report of that"
    ∷ codes "bpsec audit --policy FILE --keys FILE"
    ∷ codes "    what a policy does that its owner may not have meant"
    ∷ codes "bpsec audit --plan FILE --keys FILE"
    ∷ codes "    what a plan does so"
    ∷ codes "bpsec --help"
    ∷ codes "    this text"
    ∷ codes "bpsec --version"
    ∷ codes "    the version"
    ∷ codes ""
    ∷ codes "Standard input and output hold bundles, standard error the report; the exit status tells how it ended."
    ∷ []

-- `--version`: the name and the version
unfoldable pub version : List (List ℕ)
version = codes "bpsec 0.1.0" ∷ []
