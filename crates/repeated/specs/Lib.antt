-- What inner work does when it is repeated after one check.
pub mod Answers
pub mod Often
pub mod Entry
pub mod Says
pub mod Edit
pub mod Runs
