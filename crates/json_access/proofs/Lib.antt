pub mod Members
pub mod MaybeLent
