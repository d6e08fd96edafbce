-- Lemmas that the answers share.
mod Reading
