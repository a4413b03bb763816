-- What is handed out at the end, and its account.
pub mod Account
pub mod HandingOut
pub mod OnePlace
