-- What goes to a collector of a run, thread by thread.
pub mod HeldOfEach
pub mod Few
pub mod Journals
pub mod Opened
pub mod Order
