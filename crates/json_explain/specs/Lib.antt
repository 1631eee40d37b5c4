pub mod Refused
pub mod Explaining
pub mod Paths
pub mod Laws
