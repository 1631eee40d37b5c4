pub mod MergeDiff
pub mod MergeDiffViews
pub mod MergeDiffExamples
pub mod Diff
pub mod DiffDocument
pub mod DiffParts
pub mod DiffWriting
pub mod DiffExamples
