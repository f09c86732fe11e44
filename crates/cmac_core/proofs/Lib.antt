-- ---- the product by x, as it's computed
pub mod BitLemmas
pub mod FieldLemmas
-- ---- blocks and what was taken
pub mod BlockLemmas
pub mod StateLemmas
-- ---- the laws
pub mod LawLemmas
