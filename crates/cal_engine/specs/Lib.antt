pub mod Front
pub mod Deciding
pub mod Outcome
pub mod Auditing
pub mod Running
pub mod CommandWords
pub mod Program
pub mod Laws
