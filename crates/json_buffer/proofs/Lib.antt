pub mod Placed
pub mod TextLaws
