pub mod FoundLooks
pub mod OnePassMore
