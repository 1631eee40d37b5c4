pub mod Readings
pub mod Emitting
pub mod KeyOrder
pub mod ShownNodes
pub mod ShowingSorted
