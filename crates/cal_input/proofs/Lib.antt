pub mod LinesOf
pub mod WholeInput
pub mod Refusals
