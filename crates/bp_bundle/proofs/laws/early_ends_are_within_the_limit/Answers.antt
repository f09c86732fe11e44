use Rattle.bp_bundle.proofs.WithinTheLimit.{early_is_small}
use Rattle.bp_bundle.proofs.StatesGoOn.{early_place}
use Rattle.bp_bundle.proofs.laws.early_ends_are_within_the_limit.Goals as goal

pub returns-clause-place : goal.returns-clause-place
returns-clause-place c = early_place

pub returns-clause-within : goal.returns-clause-within
returns-clause-within c = early_is_small
