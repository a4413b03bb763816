-- What holds at every point of a history.
pub mod EachAction
pub mod EndPoints
pub mod PassKeeps
