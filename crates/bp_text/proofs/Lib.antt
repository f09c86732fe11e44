-- ---- trees and lists
pub mod Trees
pub mod Lists
-- ---- endpoint ids in texts
pub mod IdTexts
-- ---- entries and their names
pub mod EntriesInTurn
pub mod EntryNames
