-- ---- registers and steps
pub mod StepNumbers
pub mod RegisterLemmas
pub mod StepLemmas
-- ---- calls
pub mod CallLemmas
