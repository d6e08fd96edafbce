-- The density report: the reader's pages are Meaning, Shares and Report.
pub mod Meaning
pub mod Shares
pub mod Report
pub mod ShareLaws
pub mod ShareOrder
pub mod Counts
pub mod Blocks
pub mod Cover
pub mod Windows
pub mod Summing
pub mod Reporting
pub mod Tallying
pub mod Row
pub mod Parts
pub mod Spreading
pub mod Examples
