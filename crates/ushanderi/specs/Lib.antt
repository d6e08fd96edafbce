-- What each call answers, and why: the reader's pages are Answers and Promises.
pub mod Answers
pub mod Edits
pub mod Promises
pub mod Entry
pub mod Reading
pub mod ReadingSides
pub mod ReadingAreas
pub mod Reports
pub mod Editing
pub mod Layouts
