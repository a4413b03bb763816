-- What holds of the members of a list.
pub mod EachLater
pub mod EachOne
pub mod Numbered
