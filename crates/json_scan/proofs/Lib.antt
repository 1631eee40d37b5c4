pub mod Digits
pub mod Plain
pub mod Masks
pub mod RunEnds
