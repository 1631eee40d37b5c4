pub mod Inputs
pub mod Documents
pub mod KnownBytes
pub mod Printing
pub mod Numerals
