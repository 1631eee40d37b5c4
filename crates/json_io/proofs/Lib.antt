pub mod Pieces
pub mod Known
pub mod Progress
pub mod Putting
pub mod Reading
pub mod Utf8Faults
