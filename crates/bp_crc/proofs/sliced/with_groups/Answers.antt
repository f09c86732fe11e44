-- The next group is taken in by one call.
use Rattle.std.proofs.Common.{◌≡◌, ◌+◌, ◌++◌, ℕ, [], ◌∷◌, List, get_or, take, sym, ap, ◌∙◌, add-one, append_assoc, append-nil}
use Rattle.std.specs.List.{concat}
use Rattle.std.proofs.lemmas.List.Folds.{concat-append}
use Rattle.std.proofs.Math.Seq.{take-suc}
use Rattle.bp_crc.specs.Table.{register_of}
use Rattle.bp_crc.proofs.sliced.with_groups.Goals as goal

pub loop-group-preserved : goal.loop-group-preserved
loop-group-preserved g c =
    let w : ℕ = g.row.BITS in
    let groups : List (List ℕ) = c.args.groups.now in
    let i : ℕ = c.loop-group.group-index in
    let group : List ℕ = get_or groups i [] in
    let longer : take (i + 1) groups ≡ take i groups ++ group ∷ [] = rw add-one (take-suc groups i [] c.loop-group-test.true) in
    let bytes : concat (take (i + 1) groups) ≡ concat (take i groups) ++ group =
    ap concat longer ∙ concat-append (take i groups) (group ∷ []) ∙ ap (λ (x : List ℕ). concat (take i groups) ++ x) (append-nil group) in
    record {
      within = c.with_group-register.ensures.within;
      stands = λ fed before.
          c.with_group-register.ensures.stands (fed ++ concat (take i groups)) (c.loop-group.invariant.stands fed before)
          ∙ ap (register_of w) (append_assoc fed (concat (take i groups)) group ∙ ap (λ (x : List ℕ). fed ++ x) (sym bytes));
    }
