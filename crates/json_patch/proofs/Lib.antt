mod Results
pub mod ReplacedAt
pub mod PointerTexts
pub mod Indexes
pub mod PatchLaws
pub mod PatchOrder
pub mod MergeLaws
mod MergedTwice
mod ValueAtPath
mod PointerParsing
mod PointerWriting
mod Lookups
mod PointerTargets
mod Errors
mod Changes
mod Members
mod OperationLists
mod KeyStarts
pub mod MergedMembers
mod Touched
mod Commands
