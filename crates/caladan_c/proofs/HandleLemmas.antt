-- What lies behind a handle, and the words in which the walks of its pointer are written.
pub mod AsBox
pub mod Walking
