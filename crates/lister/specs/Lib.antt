-- The lister's sizes and what it prints: the reader's pages are Sizes and Text, and `Lists` in Listing.
pub mod Sizes
pub mod Text
pub mod TextLaws
pub mod Examples
pub mod Listing
