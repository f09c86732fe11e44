use Rattle.std.proofs.Common.{Ok, Err, Result, Bool, ap, rules}
use Rattle.bp_bundle.specs.declared.whole_input.InputFault.{InputFault}
use Rattle.bp_bundle.proofs.NextBundle.{filled, over_so, error_so, few_in_all, fed_here, has_whole, whole_so, goes_on_so, fits_so, fault_so}
use Rattle.bp_bundle.proofs.in_turn.read_next.Goals as goal

pub fill-requires : goal.fill-requires
fill-requires g c = few_in_all _ _ _ _ _ _ c.loop-reader.invariant.going c.requires

pub returns-in-Ok-false-clause-means : goal.returns-in-Ok-false-clause-means
returns-in-Ok-false-clause-means g c =
    let none = c.in-Ok-false.ensures.none (ap (λ (b : Bool). Ok b) c.in-Ok-false.field-0-test) in
    rw (c.over.ensures, c.place-place.ensures.place) (over_so _ _ _ _ _ _ (filled _ _ _ _ _ _ _ _ c.loop-reader.invariant.going c.fill.ensures.fills c.fill.ensures.few) none.0 none.1)

pub returns-in-Err-clause-means : goal.returns-in-Err-clause-means
returns-in-Err-clause-means g c =
    error_so _ _ _ _ _ _ _ (filled _ _ _ _ _ _ _ _ c.loop-reader.invariant.going c.fill.ensures.fills c.fill.ensures.few) (λ fault e. c.in-Err.ensures.no_fault fault (ap (λ (f : InputFault). Err f) e))

pub returns-then-fed-clause-means : goal.returns-then-fed-clause-means
returns-then-fed-clause-means g c =
    let going = filled _ _ _ _ _ _ _ _ c.loop-reader.invariant.going c.fill.ensures.fills c.fill.ensures.few in
    rw c.take.ensures (whole_so _ _ _ _ _ c.feed.new.self _ c.in-Ok.fed _ going (fed_here _ c.feed.new.self _ _ (Ok c.in-Ok.fed) c.held.ensures.held c.in-Ok.ensures.means) c.if-fed.true c.whole.ensures.shape c.whole.ensures.means)

pub whole-requires : goal.whole-requires
whole-requires g c =
    let going = filled _ _ _ _ _ _ _ _ c.loop-reader.invariant.going c.fill.ensures.fills c.fill.ensures.few in
    has_whole _ _ _ _ _ c.feed.new.self _ c.in-Ok.fed going (fed_here _ c.feed.new.self _ _ (Ok c.in-Ok.fed) c.held.ensures.held c.in-Ok.ensures.means) c.if-fed.true

pub loop-reader-preserved : goal.loop-reader-preserved
loop-reader-preserved g c =
    let going = filled _ _ _ _ _ _ _ _ c.loop-reader.invariant.going c.fill.ensures.fills c.fill.ensures.few in
    record {
      going = rw c.take.ensures (goes_on_so _ _ _ _ _ c.feed.new.self _ c.in-Ok.fed going (fed_here _ c.feed.new.self _ _ (Ok c.in-Ok.fed) c.held.ensures.held c.in-Ok.ensures.means) c.if-fed.false);
      quiet = search rules;
      steady = search rules;
    }

pub fault_there-requires : goal.fault_there-requires
fault_there-requires g c =
    let going = filled _ _ _ _ _ _ _ _ c.loop-reader.invariant.going c.fill.ensures.fills c.fill.ensures.few in
    rw c.place-place.ensures.place (fits_so _ _ _ _ _ c.feed.new.self _ c.in-Err-feed.error going c.requires (fed_here _ c.feed.new.self _ _ (Err c.in-Err-feed.error) c.held.ensures.held c.in-Err-feed.ensures.means))

pub returns-in-Err-feed-clause-means : goal.returns-in-Err-feed-clause-means
returns-in-Err-feed-clause-means g c =
    let going = filled _ _ _ _ _ _ _ _ c.loop-reader.invariant.going c.fill.ensures.fills c.fill.ensures.few in
    rw (c.fault_there.ensures, c.place-place.ensures.place) (fault_so c.reading_stays_the_same.ensures.fault _ _ _ _ _ c.feed.new.self _ c.in-Err-feed.error going (c.in-Ok-true.ensures.some (ap (λ (b : Bool). Ok b) c.in-Ok-true.field-0-test)) (fed_here _ c.feed.new.self _ _ (Err c.in-Err-feed.error) c.held.ensures.held c.in-Err-feed.ensures.means))
