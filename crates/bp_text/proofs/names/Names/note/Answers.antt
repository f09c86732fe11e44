use Rattle.std.proofs.Common.{◌≡◌, Bool, true, false, cond, ◌||◌, string_bytes}
use Rattle.std.specs.BTreeSet.{contains_text}
use Rattle.std.specs.Str.{bytes_eq}
use Rattle.std.proofs.lemmas.Map.Text.{btree_set_updates_text}
use Rattle.bp_text.proofs.names.Names.note.Goals as goal

told : (b x y : Bool) → x ≡ cond b true y → x ≡ (b || y)
told true x y e = e
told false x y e = e

pub returns-clause-known : goal.returns-clause-known
returns-clause-known c = λ other.
    let name = string_bytes c.in_ok-name.name in
    let old = contains_text c.args.self.now.seen other in
    rw (← c.in_ok-name.ensures.ok) (told (bytes_eq name other) _ old (btree_set_updates_text name c.args.self.now.seen c.insert.new.self true c.in_ok-insert.ensures.updates other))
