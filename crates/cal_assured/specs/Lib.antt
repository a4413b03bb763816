pub mod Guarantee
pub mod Histories
pub mod Laws
pub mod Rings
