pub mod Parts
pub mod Texts
pub mod Agreeing
pub mod Taken
pub mod TupleRefusals
pub mod Walking
