use Rattle.bp_text.proofs.IdTexts.{id_of_text-text_form, id_of_text_means}
use Rattle.bp_text.proofs.laws.ids_are_read_as_written.Goals as goal

pub returns-clause-again : goal.returns-clause-again
returns-clause-again c = id_of_text-text_form

pub returns-clause-means : goal.returns-clause-means
returns-clause-means c = id_of_text_means
