mod Common
pub mod ListLemmas
pub mod ScheduleLemmas
pub mod WorldLemmas
