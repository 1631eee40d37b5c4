pub mod Writing
pub mod Elements
pub mod Nesting
pub mod Testing
pub mod Sending
pub mod Building
pub mod TreeDatum
pub mod FieldRows
