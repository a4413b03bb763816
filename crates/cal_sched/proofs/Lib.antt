mod Common
pub mod PolicyLemmas
pub mod Lists
pub mod Below
pub mod Watched
pub mod Found
pub mod Fitting
pub mod Sent
pub mod Numbers
pub mod Passed
pub mod Past
