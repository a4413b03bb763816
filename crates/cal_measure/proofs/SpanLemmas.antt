-- What a walk over a history keeps of its spans and bans, and what the spans tell.
pub mod StaysKept
pub mod BansKept
pub mod Showing
pub mod HoldersKept
