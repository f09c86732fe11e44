use Rattle.std.proofs.Common.{Fits, w8, get_or, arith}
use Rattle.std.proofs.lemmas.Simd.{Each1-get_or}
use Rattle.aes_core.proofs.TranspositionLemmas.{wide_low, wide_high, low_at, high_at, low_of-lt, high_of-lt}
use Rattle.aes_core.proofs.sliced.transposition.exchange.Goals as goal

pub returns-clause-wide : goal.returns-clause-wide
returns-clause-wide c =
    let a = c.args in (
      wide_low a.mask a.by a.low a.high c.requires.low c.requires.high,
      wide_high a.mask a.by a.low a.high c.requires.low c.requires.high,
    )

pub returns-clause-low : goal.returns-clause-low
returns-clause-low c = λ p h.
    let a = c.args in
    low_at a.mask a.by a.low a.high c.requires.low c.requires.high p h

pub returns-clause-high : goal.returns-clause-high
returns-clause-high c = λ p h.
    let a = c.args in
    high_at a.mask a.by a.low a.high c.requires.low c.requires.high p h

pub returns-clause-bytes : goal.returns-clause-bytes
returns-clause-bytes c = λ p h.
    let a = c.args in
    let low = Each1-get_or (Fits w8) a.low p 0 (omega arith) c.fits-low.1 in
    let high = Each1-get_or (Fits w8) a.high p 0 (omega arith) c.fits-high.1 in (
      rw (returns-clause-low c p h) (low_of-lt a.mask a.by (get_or a.low p 0) (get_or a.high p 0) low.fits),
      rw (returns-clause-high c p h) (high_of-lt a.mask a.by (get_or a.low p 0) (get_or a.high p 0) c.ranges.mask.fits high.fits),
    )
