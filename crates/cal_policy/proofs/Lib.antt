mod Common
pub mod ListLemmas
pub mod BoardLemmas
pub mod HistoryLemmas
pub mod PassLemmas
pub mod JudgementLemmas
pub mod ExplainLemmas
pub mod PolicyLemmas
pub mod AssuredLemmas
