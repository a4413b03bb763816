mod Common
pub mod Along
pub mod LegalAlong
pub mod Lists
pub mod Places
pub mod OneMore
pub mod Cuts
pub mod Standing
pub mod Listing
pub mod Looking
pub mod Fitting
pub mod Passing
pub mod Watching
pub mod Order
pub mod Bridge
pub mod Shown
