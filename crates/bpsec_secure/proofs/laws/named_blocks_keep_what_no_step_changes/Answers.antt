use Rattle.bpsec_secure.proofs.LawLemmas.{kept_header, target_unchecked, check_stays, unsealed_stays}
use Rattle.bpsec_secure.proofs.laws.named_blocks_keep_what_no_step_changes.Goals as goal

pub returns-clause-header : goal.returns-clause-header
returns-clause-header c = kept_header

pub returns-clause-target : goal.returns-clause-target
returns-clause-target c = target_unchecked

pub returns-clause-check : goal.returns-clause-check
returns-clause-check c = check_stays

pub returns-clause-body : goal.returns-clause-body
returns-clause-body c = unsealed_stays
