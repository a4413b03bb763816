pub mod Leaving
pub mod Pair
pub mod CaladanPass
pub mod AssuredPass
pub mod Going
pub mod LeftOut
pub mod AtSight
pub mod Earlier
