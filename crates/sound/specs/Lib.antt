-- Why the passes of the soundness check tell exactly whether a table is sound.
pub mod Records
pub mod Links
pub mod Tally
pub mod Columns
pub mod Passed
pub mod Sides
pub mod Looks
pub mod Touching
pub mod Verdict
