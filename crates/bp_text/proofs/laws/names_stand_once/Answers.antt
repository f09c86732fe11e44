use Rattle.bp_text.proofs.EntryNames.{all_are_read, names_once}
use Rattle.bp_text.proofs.laws.names_stand_once.Goals as goal

pub returns-clause-all : goal.returns-clause-all
returns-clause-all g c = λ version index taken ds xs e. all_are_read (g.E.Entry.reads version) index taken ds xs e

pub returns-clause-once : goal.returns-clause-once
returns-clause-once g c = λ version index taken ds xs e. (names_once (g.E.Entry.reads version) index taken ds xs e).0

pub returns-clause-new : goal.returns-clause-new
returns-clause-new g c = λ version index taken ds xs e. (names_once (g.E.Entry.reads version) index taken ds xs e).1
