-- What a chooser picks is legal.
use Rattle.std.proofs.Common.{◌≡◌, ℕ, zero, suc, List, Option, Some, None, slice_get, length, refl}
use Rattle.std.specs.Prelude.{Contains}
use Rattle.std.proofs.lemmas.Option.{slice_get_within, get_or_from_slice_get}
use Rattle.bpsec_asb.specs.declared.operation.OpId.{OpId}
use Rattle.bpsec_node.specs.Situation.{Situation}
use Rattle.bpsec_node.specs.Order.{ready, Legal, picked, picks}
use Rattle.bpsec_node.proofs.Keeping.{legal_push}

got : {A : Type 0} (xs : List A) (index : ℕ) (x : A) → slice_get xs index ≡ Some x → Contains xs x
got xs index x is = (index, slice_get_within xs index x is, get_or_from_slice_get xs index x x is)

picked_legal : (s : Situation) (done : List OpId) (index : ℕ) (op : Option OpId) → slice_get (ready s done) index ≡ op → Legal s done → Legal s (picked done op)
picked_legal s done index None is legal = legal
picked_legal s done index (Some op) is legal = legal_push s done op legal (got (ready s done) index op is)

pub picks_legal : {C : Type 0} (answer : C → ℕ → ℕ) (after : C → ℕ → C) (s : Situation) (most : ℕ) (done : List OpId) (chooser : C)
    → Legal s done → Legal s (picks answer after s most done chooser)
picks_legal answer after s zero done chooser legal = legal
picks_legal answer after s (suc most) done chooser legal =
    let n = length (ready s done) in
    let index = answer chooser n in
    picks_legal answer after s most (picked done (slice_get (ready s done) index)) (after chooser n)
    (picked_legal s done index (slice_get (ready s done) index) refl legal)
