-- Lists, and counts among the numbers below n.
pub mod Counted
pub mod Each
pub mod EachAfter
pub mod OneLookMore
pub mod OneMore
pub mod OneNumberMore
