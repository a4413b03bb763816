-- Files of histories: read, written, and read back.
pub mod Extents
pub mod GivenPasses
pub mod LegalInRange
pub mod Lines
pub mod PlainRows
pub mod ReadBack
pub mod ReadInRange
pub mod RecordRows
pub mod RowsTaken
