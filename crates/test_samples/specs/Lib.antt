pub mod Person
pub mod Nested
pub mod Damage
