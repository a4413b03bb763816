mod Common
pub mod Members
pub mod CollectorLemmas
pub mod WorkersLemmas
pub mod PartsLemmas
pub mod RoundsLemmas
pub mod OutcomeLemmas
pub mod ClosingLemmas
