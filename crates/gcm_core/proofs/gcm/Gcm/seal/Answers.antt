use Rattle.gcm_core.proofs.StateLemmas.{ciphered_from}
use Rattle.gcm_core.proofs.gcm.Gcm.seal.Goals as goal

pub returns-clause-body : goal.returns-clause-body
returns-clause-body g c =
    ciphered_from g.row.NK _ c.args.self c.args.iv.now c.first_block-first.result c.args.body.now c.run_counter_mode.new.body
    c.self.view_is c.first_block-first.ensures c.run_counter_mode.ensures
