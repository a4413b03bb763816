-- What the actions and looks so far say, with one more.
pub mod Acknowledged
pub mod FreshCores
pub mod OneMore
