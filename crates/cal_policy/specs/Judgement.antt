-- How looks are judged, which inputs a pass may be given, and which histories are orderly.
pub mod Gone
pub mod Judging
pub mod OneByOne
pub mod OpenInput
pub mod OpenPass
pub mod Orderly
pub mod Settled
pub mod Taken
