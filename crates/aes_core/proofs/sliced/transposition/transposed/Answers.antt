use Rattle.std.proofs.Common.{◌<◌, get_or}
use Rattle.aes_core.proofs.ExchangeLemmas.{transposed_bytes}
use Rattle.aes_core.proofs.TranspositionLemmas.{all_of_eight}
use Rattle.aes_core.proofs.sliced.transposition.transposed.Goals as goal

pub returns-clause-turned : goal.returns-clause-turned
returns-clause-turned c = λ p h.
    let r = c.args.r in
    rw (
      c.exchange-9.ensures.low p h,
      c.exchange-9.ensures.high p h,
      c.exchange-10.ensures.low p h,
      c.exchange-10.ensures.high p h,
      c.exchange-11.ensures.low p h,
      c.exchange-11.ensures.high p h,
      c.exchange-12.ensures.low p h,
      c.exchange-12.ensures.high p h,
      c.exchange-5.ensures.low p h,
      c.exchange-5.ensures.high p h,
      c.exchange-6.ensures.low p h,
      c.exchange-6.ensures.high p h,
      c.exchange-7.ensures.low p h,
      c.exchange-7.ensures.high p h,
      c.exchange-8.ensures.low p h,
      c.exchange-8.ensures.high p h,
      c.exchange.ensures.low p h,
      c.exchange.ensures.high p h,
      c.exchange-2.ensures.low p h,
      c.exchange-2.ensures.high p h,
      c.exchange-3.ensures.low p h,
      c.exchange-3.ensures.high p h,
      c.exchange-4.ensures.low p h,
      c.exchange-4.ensures.high p h,
    )
    (transposed_bytes
    (get_or r.bit0 p 0) (get_or r.bit1 p 0) (get_or r.bit2 p 0) (get_or r.bit3 p 0)
    (get_or r.bit4 p 0) (get_or r.bit5 p 0) (get_or r.bit6 p 0) (get_or r.bit7 p 0))

pub returns-clause-bytes : goal.returns-clause-bytes
returns-clause-bytes c = λ p h.
    let a = c.exchange-9.ensures.bytes p h in
    let b = c.exchange-10.ensures.bytes p h in
    let d = c.exchange-11.ensures.bytes p h in
    let e = c.exchange-12.ensures.bytes p h in
    all_of_eight (λ x. x < 256) _ _ _ _ _ _ _ _ a.0 b.0 d.0 e.0 a.1 b.1 d.1 e.1
