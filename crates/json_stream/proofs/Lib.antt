pub mod Values
pub mod CleanEnd
pub mod Lines
pub mod Pieces
pub mod Origins
