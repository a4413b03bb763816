-- Journals, and parts of them.
pub mod OneEntryMore
pub mod Parts
