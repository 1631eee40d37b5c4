pub mod Forms
pub mod Literals
pub mod Integers
pub mod LiteralDigits
pub mod ShortDigits
pub mod Widths
pub mod Floats
pub mod Doubles
