pub mod Enough
pub mod Example
pub mod Honest
pub mod OnePass
pub mod OpenCores
pub mod WholeGuarantee
