-- Lists, tests, and numbers below n.
pub mod Below
pub mod Counted
