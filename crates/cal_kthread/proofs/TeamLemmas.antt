-- Teams: opened, over their turns, and settled.
pub mod Gathering
pub mod Lending
pub mod Opened
pub mod Rounds
pub mod Shares
pub mod Turns
