pub mod Input
pub mod Reading
pub mod Printing
pub mod Statuses
pub mod Reporting
pub mod Options
pub mod Arguments
pub mod Laws
