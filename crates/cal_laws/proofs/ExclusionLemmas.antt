-- Who has which core, action by action.
pub mod Excluded
pub mod Left
pub mod SameHolders
pub mod Standing
