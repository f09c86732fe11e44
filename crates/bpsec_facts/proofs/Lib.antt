pub mod Found
pub mod Chains
pub mod ShortLemmas
pub mod ShapeLemmas
pub mod AnswerLemmas
pub mod Numbers
