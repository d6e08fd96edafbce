-- Theorems on `room`, that there is a free record: of specs/Carve in Carve, of specs/Delete in Shrink.
pub mod Carve
pub mod Shrink
