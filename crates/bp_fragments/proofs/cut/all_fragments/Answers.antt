use Rattle.std.proofs.Common.{◌≡◌, length, arith}
use Rattle.bp_bundle.specs.Shape.{payload}
use Rattle.bp_fragments.specs.Cut.{piece_count}
use Rattle.bp_fragments.proofs.Cutting.{may_cut}
use Rattle.bp_fragments.proofs.AllFragments.{index_within, some_pieces, make_fault_so, no_fault_so, cut_so}
use Rattle.bp_fragments.proofs.cut.all_fragments.Goals as goal

pub piece_count-count-requires : goal.piece_count-count-requires
piece_count-count-requires c = (may_cut c.args.bundle.now c.args.size c.requires.free).some

pub fragment_at-requires : goal.fragment_at-requires
fragment_at-requires c =
    let may = may_cut c.args.bundle.now c.args.size c.requires.free in
    record {
      place = rw (← c.payload.ensures.payload) (index_within c.args.size _ c.loop-index.index may.some (rw (← c.piece_count-count.ensures) c.loop-index-test.true));
      whole = may.whole;
      some = may.some;
    }

pub returns-in-Err : goal.returns-in-Err
returns-in-Err c =
    let may = may_cut c.args.bundle.now c.args.size c.requires.free in
    record { means = make_fault_so c.args.bundle.now c.args.size c.loop-index.index c.in-Err.fault c.size-size.ensures.shape c.requires.free (rw (← c.payload.ensures.payload) (index_within c.args.size _ c.loop-index.index may.some (rw (← c.piece_count-count.ensures) c.loop-index-test.true))) c.loop-index.invariant.first c.in-Err.ensures.means }

pub returns : goal.returns
returns c =
    let count : c.piece_count-count.result ≡ piece_count c.args.size (length (payload c.args.bundle.now)) = rw (← c.payload.ensures.payload) c.piece_count-count.ensures in
    let some = some_pieces c.args.size (length (payload c.args.bundle.now)) in
    let all : c.loop-index.index ≡ piece_count c.args.size (length (payload c.args.bundle.now)) = omega arith in
    record {
      means = (no_fault_so c.args.bundle.now c.args.size c.requires.free (c.loop-index.invariant.first (omega arith)), cut_so c.args.bundle.now c.args.size c.loop-index.index c.loop-index.fragments all c.loop-index.invariant.made);
    }
