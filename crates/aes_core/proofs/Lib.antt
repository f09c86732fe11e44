-- ---- bytes: products, inverses, and the boxes
pub mod EachByte
pub mod FieldLemmas
pub mod InverseLemmas
pub mod BoxTables
-- ---- states and rounds
pub mod StateLemmas
pub mod MixLemmas
pub mod RoundLemmas
-- ---- keys, and the cipher under them
pub mod KeyLemmas
pub mod InverseKeyLemmas
pub mod CipherLemmas
-- ---- the rounds by tables of words
pub mod WordLemmas
pub mod TableLemmas
-- ---- eight blocks at once: bits across registers
pub mod BitLemmas
pub mod ExchangeLemmas
pub mod TranspositionLemmas
pub mod Circuit
pub mod CircuitLemmas
pub mod LaneLemmas
pub mod BlockLemmas
pub mod SlicedLemmas
