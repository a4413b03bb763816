-- Lists with one member more, and counts.
pub mod Counted
pub mod OneMore
