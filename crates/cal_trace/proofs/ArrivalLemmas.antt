-- Files of arrivals: written, and read back.
pub mod FewRequests
pub mod Lines
pub mod PlainRows
pub mod ReadBack
pub mod RowsTaken
pub mod Spelled
