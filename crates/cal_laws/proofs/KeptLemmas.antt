-- What kept records say.
pub mod OnCore
pub mod Truth
