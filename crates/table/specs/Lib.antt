-- What the lent words mean, and laws of reading and writing them: the reader's pages are Sound, Fresh and View.
pub mod Words
pub mod Sound
pub mod Fresh
pub mod View
pub mod Reading
pub mod Forms
pub mod FreshSound
pub mod Decide
pub mod Examples
