mod Common
pub mod Serving
pub mod Steps
pub mod Counting
pub mod Whole
pub mod NothingTo
pub mod OneMore
pub mod SpanLemmas
pub mod EachTaskLemmas
pub mod AllOfOk
pub mod GivenFit
pub mod Paired
pub mod AtMostOne
pub mod ThreadTurns
pub mod TotalsOfEach
pub mod WorksOfEach
