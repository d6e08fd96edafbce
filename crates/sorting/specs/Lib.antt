-- Numbers in rising order, and keys to sort by: nothing here knows of tables.
pub mod Sorting
pub mod Steps
pub mod Keys
