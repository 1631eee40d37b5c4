mod Appending
mod ItemValues
mod LocatedNodes
mod Relocated
mod NodesViewed
mod PathQueries
mod SliceIndexes
mod ViewedParts
pub mod TextClasses
pub mod TextReading
pub mod TextStrings
pub mod TextSegments
pub mod TextRests
pub mod TextSound
pub mod TextAccepted
pub mod TextCompletes
pub mod TextStops
pub mod TextChars
pub mod TextEscapes
pub mod TextParts
pub mod TextParsed
