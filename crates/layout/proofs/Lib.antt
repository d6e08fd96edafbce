-- Theorems on what comes before what in a saved layout: of specs/Keys, specs/Saving (in Saves) and specs/OneOrder.
pub mod Keys
pub mod Saves
pub mod OneOrder
