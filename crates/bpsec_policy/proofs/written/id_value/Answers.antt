use Rattle.std.proofs.Common.{sym, ◌∙◌, subst}
use Rattle.std.specs.Str.{IsAscii}
use Rattle.bpsec_policy.proofs.Lawful.{id_ascii}
use Rattle.bpsec_policy.proofs.written.id_value.Goals as goal

pub ascii_value-requires : goal.ascii_value-requires
ascii_value-requires c = subst IsAscii (sym (c.as_slice.ensures ∙ c.in_ok-put_text_form.ensures.ok)) (rw c.new-text.ensures (id_ascii c.args.eid.now c.size-size.ensures.fits))
