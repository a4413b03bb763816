-- Why a core is taken, in words of their own.
pub mod Causes
pub mod Losing
pub mod Preempting
pub mod Revoked
