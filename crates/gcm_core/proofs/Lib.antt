-- ---- polynomials and their remainders
pub mod PolynomialLemmas
pub mod Remainders
pub mod BitsLemmas
-- ---- blocks, and products of blocks
pub mod BlockLemmas
pub mod ByteLemmas
pub mod ProductLemmas
pub mod SubkeyLemmas
pub mod TableLemmas
-- ---- GHASH, block by block and sixteen blocks at a time
pub mod HashLemmas
pub mod PowerLemmas
pub mod RegisterLemmas
pub mod StreamLemmas
pub mod FirstLemmas
pub mod GroupLemmas
-- ---- counter mode, tags, and the laws
pub mod CounterLemmas
pub mod TagLemmas
pub mod StateLemmas
pub mod SizeLemmas
pub mod LawLemmas
