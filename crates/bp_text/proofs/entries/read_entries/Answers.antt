use Rattle.std.proofs.Common.{◌≡◌, ℕ, ◌+◌, List, map, take, drop, Err, Result, sym, ◌∙◌, ap, subst, arith}
use Rattle.serde_json.specs.Data.{Data}
use Rattle.serde_json.specs.View.{view}
use Rattle.bp_text.specs.declared.fault.TextFault.{TextFault}
use Rattle.bp_text.specs.declared.fault.TextError.{TextError}
use Rattle.bp_text.specs.declared.fault.TextError.TheVariants as errors
use Rattle.bp_text.specs.Fault.{IsTextError}
use Rattle.bp_text.specs.Names.{AreKnown}
use Rattle.bp_text.specs.Entries.{entries_at, taken_by}
use Rattle.bp_text.proofs.EntriesInTurn.{with_front, left_at, read_by, taken_by-append, goes_on, stops}
use Rattle.bp_text.proofs.entries.read_entries.Goals as goal

-- an error of one step is that of all
is_error_of : {A B : Type 0} (e : TextError) (r : Result A TextFault) (s : Result B TextFault) → ((fault : TextFault) → r ≡ Err fault → s ≡ Err fault) → IsTextError e r → IsTextError e s
is_error_of (errors.Fault fault) r s h is = h fault is
is_error_of errors.NoMemory r s h is = tt

pub returns-in-Err-clause-gives : goal.returns-in-Err-clause-gives
returns-in-Err-clause-gives g c = λ taken h.
    let read = g.E.Entry.reads c.args.version in
    let values = c.args.values.now in
    let ds = map view values in
    let i = c.loop-value.value-index in
    let now = taken_by taken (take i ds) in
    let value = c.value-item.result in
    let same = c.loop-value.invariant.same taken h in
    is_error_of c.in-Err.e _ _ (λ fault e. sym same ∙ (ap (λ (rest : List Data). with_front c.loop-value.entries (entries_at read c.loop-value.index now rest)) (left_at view values i value (omega arith) c.value-item.is)
    ∙ stops read c.loop-value.index now (view value) (drop (i + 1) ds) c.loop-value.entries fault e)) (c.in-Err.ensures.gives now (c.loop-value.invariant.known taken h))

pub loop-value-preserved : goal.loop-value-preserved
loop-value-preserved g c =
    let read = g.E.Entry.reads c.args.version in
    let values = c.args.values.now in
    let ds = map view values in
    let i = c.loop-value.value-index in
    let value = c.value-item.result in
    let d = view value in
    let now = λ (taken : List (List ℕ)). taken_by taken (take i ds) in
    let took = λ (taken : List (List ℕ)). ap (taken_by taken) (read_by view values i value (omega arith) c.value-item.is) ∙ taken_by-append taken (take i ds) d in
    record {
      at = omega arith;
      known = λ taken h. subst (AreKnown c.read_entry.new.names) (sym (took taken)) (c.in-Ok.ensures.known (now taken) (c.loop-value.invariant.known taken h));
      same = λ taken h.
          let gives = c.in-Ok.ensures.gives (now taken) (c.loop-value.invariant.known taken h) in
          let step = goes_on read c.loop-value.index (now taken) d (drop (i + 1) ds) c.loop-value.entries c.in-Ok.entry gives in
          rw (c.in-Ok-append.ensures.ok, took taken) (step ∙ (ap (λ (rest : List Data). with_front c.loop-value.entries (entries_at read c.loop-value.index (now taken) rest)) (sym (left_at view values i value (omega arith) c.value-item.is))
          ∙ c.loop-value.invariant.same taken h));
    }
