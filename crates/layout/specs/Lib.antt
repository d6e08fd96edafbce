-- Saved layouts: the reader's pages are Bytes and Order.
pub mod Patch
pub mod Bytes
pub mod BytesLaws
pub mod Order
pub mod Keys
pub mod Saving
pub mod OneOrder
pub mod RoundTrip
pub mod Examples
