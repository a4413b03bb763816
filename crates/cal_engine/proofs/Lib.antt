mod Common
pub mod FrontReadBack
pub mod Decided
pub mod InTurn
pub mod WrittenRuns
pub mod Telling
pub mod CommandWords
pub mod Reporting
pub mod Audited
pub mod BegunJobs
