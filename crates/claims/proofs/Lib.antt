-- Theorems that rest on definitions of specs/: they stand here, so that an edit of such a definition is refused by them.
pub mod Agree
pub mod AgreeCreate
pub mod AgreeDelete
pub mod AgreeLoad
pub mod AgreeTables
pub mod CleanFile
pub mod Draws
pub mod HistoryCalls
pub mod HistoryBetween
pub mod HistoryExact
pub mod HistoryKept
pub mod RoundTrip
pub mod SavedFile
pub mod Shams
pub mod WrongAnswers
