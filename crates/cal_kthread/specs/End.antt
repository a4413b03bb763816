-- What kernel threads have left when their turns are over, and its account.
pub mod Account
pub mod Ended
pub mod HandingOut
pub mod OnePlace
pub mod Rest
