use Rattle.std.proofs.Common.{◌≡◌, ℕ, List, [], length, Result, Ok, ap, arith}
use Rattle.bp_eid.specs.declared.eid.Eid.{Eid}
use Rattle.bp_eid.specs.Reading.{id_at}
use Rattle.bp_eid.specs.Step.{eid_of}
use Rattle.bp_eid.proofs.Read.{whole_again, whole_means, same_read}
use Rattle.bp_eid.proofs.reading.whole.Goals as goal

pub returns-in-Ok-default-empty-clause-means : goal.returns-in-Ok-default-empty-clause-means
returns-in-Ok-default-empty-clause-means c =
    let found = c.in-Ok-default-empty in
    let means = c.ids_are_read_as_spelled.ensures.means c.args.bytes.now (eid_of found.found) found.field-0-1.now (λ i. omega (arith, c.type_inv.bytes i)) found.ensures in
    whole_means c.args.bytes.now (eid_of found.found) found.field-0-1.now means found.len_below

pub returns-in-Ok-default-empty-clause-found : goal.returns-in-Ok-default-empty-clause-found
returns-in-Ok-default-empty-clause-found c = λ eid fits parts.
    let found = c.in-Ok-default-empty in
    let again : id_at c.args.bytes.now ≡ Ok (eid, []) = whole_again c.ids_are_read_as_spelled.ensures.again c.args.bytes.now eid fits parts in
    (same_read (id_at c.args.bytes.now) (eid_of found.found) eid found.field-0-1.now [] found.ensures again).0

pub returns-in-Ok-clause-found : goal.returns-in-Ok-clause-found
returns-in-Ok-clause-found c = λ eid fits parts.
    let again : id_at c.args.bytes.now ≡ Ok (eid, []) = whole_again c.ids_are_read_as_spelled.ensures.again c.args.bytes.now eid fits parts in
    let same = same_read (id_at c.args.bytes.now) (eid_of c.in-Ok.field-0.0) eid c.in-Ok.field-0.1.now [] c.in-Ok.ensures again in
    omega (arith, ap length same.1)

pub returns-in-Err-clause-found : goal.returns-in-Err-clause-found
returns-in-Err-clause-found c = λ eid fits parts.
    let again : id_at c.args.bytes.now ≡ Ok (eid, []) = whole_again c.ids_are_read_as_spelled.ensures.again c.args.bytes.now eid fits parts in
    absurd cc (again, c.in-Err.ensures)
