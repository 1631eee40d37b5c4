pub mod HelpAsked
pub mod Operands
pub mod CommandLines
pub mod Lines
pub mod Indents
pub mod Spelled
pub mod LeadingOptions
pub mod MovedFirst
