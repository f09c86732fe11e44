use Rattle.std.proofs.Common.{◌≡◌, ◌++◌, ℕ, Bool, not, List, ◌∙◌, ap}
use Rattle.bpsec_policy.specs.declared.ring.NamedKey.{NamedKey}
use Rattle.bpsec_audit.specs.declared.line.Finding.TheVariants.{UnusedKey}
use Rattle.bpsec_audit.specs.Keys.{equal_before, equal_to, key_lines}
use Rattle.bpsec_audit.specs.Lines.{line, line_if}
use Rattle.bpsec_audit.proofs.Each.{told_none, told_more}
use Rattle.bpsec_audit.proofs.keys.put_keys.Goals as goal

-- what is told where it is known whether the key is named
told_of_key : (names : List ℕ → Bool) (lines new : List (List ℕ)) (before : List NamedKey) (key : NamedKey) (is_used : Bool) (text : List ℕ) → is_used ≡ names text → text ≡ key.name
    → new ≡ lines ++ (line_if (not is_used) (line UnusedKey key.name) ++ equal_to key.name (equal_before before key)) → new ≡ lines ++ key_lines names before key
told_of_key names lines new before key is_used text used name told =
    told ∙ ap (λ b. lines ++ (line_if (not b) (line UnusedKey key.name) ++ equal_to key.name (equal_before before key))) (used ∙ ap names name)

pub loop-at-init : goal.loop-at-init
loop-at-init g c = told_none (key_lines (g.N.NamesKeys.names c.args.named_by.now)) c.args.lines.now

pub loop-at-preserved : goal.loop-at-preserved
loop-at-preserved g c =
    let names = g.N.NamesKeys.names c.args.named_by.now in
    told_more (key_lines names) c.args.lines.now c.loop-at.lines c.put_key.new.lines c.args.keys.now c.loop-at.at c.index-keys-at.result c.loop-at-test.true c.index-keys-at.is c.loop-at.invariant
    (told_of_key names c.loop-at.lines c.put_key.new.lines _ c.index-keys-at.result c.names-is_used.result c.as_slice.result.now c.names-is_used.ensures c.as_slice.ensures c.in_ok-put_key.ensures)
