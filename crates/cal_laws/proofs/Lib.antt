mod Common
pub mod PointLemmas
pub mod ListLemmas
pub mod CapLemmas
pub mod CauseLemmas
pub mod ChoiceLemmas
pub mod ExclusionLemmas
pub mod KeptLemmas
pub mod OneEachLemmas
pub mod BanLemmas
pub mod OldDelayLemmas
pub mod PolicyLemmas
