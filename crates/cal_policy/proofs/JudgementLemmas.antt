-- What is judged of looks, and the input that comes of them.
pub mod Gone
pub mod Judged
pub mod OneByOne
pub mod OpenInput
pub mod OpenPass
pub mod Settled
pub mod Words
