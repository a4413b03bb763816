mod Common
pub mod HandleLemmas
mod Policies
mod Passed
mod Guarding
mod OneMore
mod NoneSuch
mod OneByOne
mod Walked
mod LastGrant
