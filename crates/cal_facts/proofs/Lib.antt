mod Common
pub mod Counted
pub mod LineLemmas
pub mod MoveLemmas
pub mod ServedLemmas
pub mod TurnLemmas
pub mod PointLemmas
pub mod RangeLemmas
pub mod WrittenLemmas
pub mod ReplayLemmas
