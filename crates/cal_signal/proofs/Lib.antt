mod Common
pub mod PageLists
pub mod Parting
pub mod Keeping
pub mod Looking
pub mod Publishing
pub mod Cutting
pub mod PageSteps
pub mod Following
pub mod Testing
