use Rattle.bp_text.proofs.EntryNames.{all_pass, all_named}
use Rattle.bp_text.proofs.laws.entries_are_alike.Goals as goal

pub returns-clause-pass : goal.returns-clause-pass
returns-clause-pass g c = λ version index taken ds xs test h e. all_pass (g.E.Entry.reads version) index taken ds xs test h e

pub returns-clause-names : goal.returns-clause-names
returns-clause-names g c = λ version index taken ds xs name h e. all_named (g.E.Entry.reads version) index taken ds xs name h e
