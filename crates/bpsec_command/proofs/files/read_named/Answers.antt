use Rattle.std.proofs.Common.{◌≡◌, ℕ, List, [], ◌∷◌, ◌++◌, subst}
use Rattle.std.specs.Prelude.{IfOk}
use Rattle.bpsec_answer.specs.Due.{IsFile}
use Rattle.bpsec_command.proofs.files.read_named.Goals as goal

pub returns-clause-means : goal.returns-clause-means
returns-clause-means g c =
    subst
    (λ (name : List ℕ). IfOk c.read_text.result (λ read. (content : List ℕ)
    × IsFile (g.K.Shelf.files c.args.shelf.now) name content × (read ≡ g.T.NamedText.reads content)))
    c.word-name.ensures c.read_text.ensures.means

pub returns-clause-noted : goal.returns-clause-noted
returns-clause-noted g c = λ fault.
    subst
    (λ (name : List ℕ). g.K.Shelf.failed c.read_text.new.shelf
    ≡ g.K.Shelf.failed c.args.shelf.now ++ name ∷ [])
    c.word-name.ensures (c.read_text.ensures.noted fault)
