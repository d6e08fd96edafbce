-- Theorems that rest on what a report gives.
pub mod Written
pub mod Examples
