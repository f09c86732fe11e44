use Rattle.std.proofs.Common.{◌≡◌, ◌-◌, ◌+◌, ◌*◌, sym, ap, ◌∙◌, arith, length, take, ◌++◌}
use Rattle.std.proofs.lemmas.List.{take-take}
use Rattle.aes_core.specs.KeyExpansion.{extended_key, key_expansion}
use Rattle.aes_core.proofs.KeyLemmas.{size_bounds, first_constant, same_constant, next_constant, extended_key_more, length-next_word, take-extended_key}
use Rattle.aes_core.proofs.key_expansion.expand.Goals as goal
use Rattle.aes_core.proofs.key_expansion.expand.Goals.{then-i-nk-eq0, else-i-nk-eq0}

pub loop-i-init : goal.loop-i-init
unfolding extended_key
loop-i-init c =
    let none : c.args.nk - c.args.nk ≡ 0 = omega arith in
    let long : 0 + length c.args.key.now ≡ 4 * c.args.nk = omega arith in
    record {
      words = rw none (rw long at c.write_at.ensures);
      constant = first_constant c.args.nk c.requires.size;
    }

pub loop-i-preserved : goal.loop-i-preserved
loop-i-preserved c =
    let nk = c.args.nk in
    let i = c.loop-i.i in
    let long : 4 * i + length c.next_word-word.result ≡ 4 * (i + 1) =
    omega (arith, ap length c.next_word-word.ensures, length-next_word nk i (take (4 * i) c.loop-i.w)) in
    record {
      words =
          rw (extended_key_more nk c.args.key.now i c.loop-i.auto.i, ← c.loop-i.invariant.words)
          (rw long at c.write_at-in-loop-i.ensures ∙ ap (λ w. take (4 * i) c.loop-i.w ++ w) c.next_word-word.ensures);
      constant = elim c.if-i-nk-eq0.branch [
        | then-i-nk-eq0 w ↦
            rw (w.constant-is, w.times_x-constant.ensures)
            (next_constant nk i c.loop-i.constant c.requires.size c.loop-i.auto.i w.if-i-nk-eq0.true c.loop-i.invariant.constant)
        | else-i-nk-eq0 w ↦
            rw w.constant-is (same_constant nk i c.loop-i.constant c.requires.size (omega (arith, size_bounds nk c.requires.size)) w.if-i-nk-eq0.false c.loop-i.invariant.constant)
      ];
    }

pub returns-clause-key : goal.returns-clause-key
returns-clause-key c =
    let end : c.loop-i.i ≡ 4 * (c.args.nk + 7) = omega (arith, c.loop-i.auto.i-end (omega arith)) in
    sym (take-take (4 * c.args.nk) (4 * c.loop-i.i) c.loop-i.w (omega arith))
    ∙ ap (take (4 * c.args.nk)) c.loop-i.invariant.words
    ∙ rw c.requires.words at (take-extended_key c.args.nk c.args.key.now (c.loop-i.i - c.args.nk))

pub returns-clause-expanded : goal.returns-clause-expanded
unfolding key_expansion
returns-clause-expanded c =
    let end : c.loop-i.i ≡ 4 * (c.args.nk + 7) = omega (arith, c.loop-i.auto.i-end (omega arith)) in
    let place : 4 * c.loop-i.i ≡ 16 * (c.args.nk + 7) = omega arith in
    rw (place, end) at c.loop-i.invariant.words
