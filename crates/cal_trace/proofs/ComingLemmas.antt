-- Files of comings: written, and read back.
pub mod Lines
