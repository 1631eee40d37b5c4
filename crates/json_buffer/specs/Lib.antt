pub mod Leads
pub mod TextState
pub mod TextMoves
