pub mod ContextLemmas
pub mod SuiteLemmas
