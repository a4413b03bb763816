pub mod Idle
pub mod LeftOut
pub mod AtSight
pub mod Earlier
