-- shapes and sizes
pub mod Sizes
pub mod BlockSizes
pub mod ShapeRules
pub mod NoFaultOfShape
-- what is spelled is read, and what is read is spelled
pub mod HeadsAsSpelled
pub mod ReadPrimaryIsSpelled
pub mod ReadBundleIsSpelled
pub mod SpelledIsRead
-- what is read stays where bytes are added, and stands within the bytes and within the limit
pub mod LeftIsLess
pub mod ReadingStays
mod FaultsWithin
mod FewBytes
mod MajorTypes
pub mod WithinTheLimit
-- the streaming decoder
mod HeaderText
mod StatesGoOn
mod StepsFollow
mod ReaderAnswers
mod OneBundleInputs
mod NextBundle
-- edits
mod ChangedInPlace
pub mod EditsLeaveBundles
mod CheckSizes
